-- The run, in steps that leave less to read.
use Rattle.std.proofs.Common.{◌≡◌, ◌<◌, length, ℕ, suc, Bool, true, false, if◌then◌else◌, List, Some, Result, Ok, Err, IfOk, refl, ap, sym, subst, ◌∙◌, arith}
use Rattle.ruby_lexer.specs.declared.machine.Machine.{Machine}
use Rattle.ruby_lexer.specs.declared.refusal.RubyAt.{RubyAt}
use Rattle.ruby_lexer.specs.declared.token.RubyToken.{RubyToken}
use Rattle.ruby_lexer.specs.Kinds.{is_so, is_end}
use Rattle.ruby_lexer.specs.Machine.{Step, step, run, at_start, tokens_of}
use Rattle.ruby_lexer.specs.Answers.{Steps}
use Rattle.ruby_lexer.specs.Laws.{answer_within}
use Rattle.ruby_lexer.proofs.Suffices.{left, Good, Less, good_start, one_step, runs}

-- what follows a step
abbrev then_run : ℕ → List ℕ → Step → Result (List RubyToken) RubyAt
then_run n text given = elim given [
  | Ok next ↦ if is_so is_end next.state.last then Ok next.tokens else run n text next
  | Err e ↦ Err e
]

-- the answer from here on is that of the text
abbrev pub Awaits : List ℕ → Machine → Type 0
Awaits text m = ((if is_so is_end m.state.last then Ok m.tokens else run (suc (left text m)) text m) ≡ tokens_of text) × (is_so is_end m.state.last ≡ false → Good text m)

-- how many steps there are at most
abbrev pub steps_left : List ℕ → Machine → ℕ
steps_left text m = if is_so is_end m.state.last then 0 else suc (left text m)

-- more steps change nothing
same_run : (n i : ℕ) (text : List ℕ) (m : Machine) → Good text m → left text m < n → left text m < i → run n text m ≡ run i text m
same_run n i text m good first second = let one : answer_within n text m ≡ Some (run n text m) = runs n n text m good first first in
    let other : answer_within n text m ≡ Some (run i text m) = runs n i text m good first second in
    let both : Some (run n text m) ≡ Some (run i text m) = sym one ∙ other in cc

-- the tokens of a text are what the run gives
all_tokens : (text : List ℕ) → tokens_of text ≡ run (suc (length text)) text at_start
unfolding tokens_of
all_tokens text = refl

-- where the run begins
pub begins : (text : List ℕ) (m : Machine) → m ≡ at_start → Awaits text m
begins text m is = subst (Awaits text) (sym is)
    (same_run (suc (left text at_start)) (suc (length text)) text at_start (good_start text) (omega arith) (omega arith) ∙ sym (all_tokens text), λ goes. good_start text)

-- what is answered behind a step
stepped : (text : List ℕ) (m : Machine) → Awaits text m → is_so is_end m.state.last ≡ false → then_run (left text m) text (step text m) ≡ tokens_of text
stepped text m awaits goes = sym (ap (λ b. if b then Ok m.tokens else run (suc (left text m)) text m) goes) ∙ awaits.0

-- a step
pub goes_on : (text : List ℕ) (m next : Machine) → Awaits text m → is_so is_end m.state.last ≡ false → step text m ≡ Ok next
    → Awaits text next × (steps_left text next < steps_left text m)
goes_on text m next awaits goes is = by_last (is_so is_end next.state.last) refl
  where
    tokens : (if is_so is_end next.state.last then Ok next.tokens else run (left text m) text next) ≡ tokens_of text
    tokens = sym (ap (then_run (left text m) text) is) ∙ stepped text m awaits goes

    falls : Less text (left text m) next
    falls = subst (λ s. IfOk s (Less text (left text m))) is (one_step text m (awaits.1 goes))

    size : steps_left text m ≡ suc (left text m)
    size = ap (λ b. if b then 0 else suc (left text m)) goes

    by_last : (b : Bool) → is_so is_end next.state.last ≡ b → Awaits text next × (steps_left text next < steps_left text m)
    by_last true last = let none : steps_left text next ≡ 0 = ap (λ b. if b then 0 else suc (left text next)) last in (
      (
        ap (λ b. if b then Ok next.tokens else run (suc (left text next)) text next) last ∙ sym (ap (λ b. if b then Ok next.tokens else run (left text m) text next) last) ∙ tokens,
        λ more. absurd (let no : true ≡ false = sym last ∙ more in cc),
      ),
      omega (arith, none, size),
    )
    by_last false last = let some : steps_left text next ≡ suc (left text next) = ap (λ b. if b then 0 else suc (left text next)) last in
        let less : left text next < left text m = (falls last).0 in
        let same : run (suc (left text next)) text next ≡ run (left text m) text next = same_run (suc (left text next)) (left text m) text next (falls last).1 (omega arith) less in (
          (
            ap (λ b. if b then Ok next.tokens else run (suc (left text next)) text next) last ∙ same ∙ sym (ap (λ b. if b then Ok next.tokens else run (left text m) text next) last) ∙ tokens,
            λ more. (falls last).1,
          ),
          omega (arith, some, less, size),
        )

-- what a step gives
pub given : {U : Type 0} (this : Step) (r : Result U RubyAt) (new : Machine) (x : U) → Steps this r new → r ≡ Ok x → this ≡ Ok new
given this r new x steps is = subst (λ r. Steps this r new) is steps
