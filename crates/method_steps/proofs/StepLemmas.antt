-- The methods of a step by its declarations that live.
use Rattle.std.proofs.Common.{◌≡◌, ◌∙◌, ℕ, zero, suc, ◌≤◌, Bool, true, false, not, true≢false, List, [], ◌∷◌, length, filter, Option, Some, refl, sym, ap, subst, arith, if◌then◌else◌, IfOk, Result, take, drop, ◌-◌}
use Rattle.std.proofs.Math.Seq.{take-length}
use Rattle.std.proofs.lemmas.List.{length-map}
use Rattle.sig_rules.specs.declared.given.GivenMethod.{GivenMethod}
use Rattle.sig_rules.specs.declared.given.What.{What}
use Rattle.sig_rules.specs.declared.given.What.TheVariants.{Whole, Further, AliasOf}
use Rattle.sig_rules.specs.declared.line.Step.{Step}
use Rattle.sig_rules.specs.declared.method.Method.{Method}
use Rattle.sig_rules.specs.Methods.{Made, Placed, is_dead, is_some, living, living_after, of_name, placed_from}
use Rattle.sig_rules.specs.Worlds.{by_name}
use Rattle.method_steps.specs.Gathering.{ComesOut, Entry, aim, group_of, wanted}
use Rattle.method_steps.specs.Steps.{alive, declared_from, elsewhere}
use Rattle.method_steps.proofs.LivingLemmas.{comes_out, living_comes_out}

-- ---- those that live are no more than there are

filter_fewer : {A : Type 0} (test : A → Bool) (xs : List A) → length (filter test xs) ≤ length xs
filter_fewer test [] = omega arith
filter_fewer test (x ∷ xs) = by (test x) (filter_fewer test xs)
  where
    by : (b : Bool) → length (filter test xs) ≤ length xs → length (if b then x ∷ filter test xs else filter test xs) ≤ suc (length xs)
    by true fewer = omega arith
    by false fewer = omega arith

after_fewer : (turns : ℕ) (is_elsewhere : List ℕ → Bool) (ps : List Placed) → length (living_after turns is_elsewhere ps) ≤ length ps
after_fewer zero is_elsewhere ps = omega arith
after_fewer (suc turns) is_elsewhere ps =
    let once = filter_fewer (λ p. not (is_dead is_elsewhere ps p)) ps in
    let more = after_fewer turns is_elsewhere (filter (λ p. not (is_dead is_elsewhere ps p)) ps) in
    omega arith

placed_all : (n : ℕ) (gs : List GivenMethod) → length (placed_from n gs) ≡ length gs
placed_all n [] = refl
placed_all n (g ∷ gs) = ap suc (placed_all (suc n) gs)

pub living_fewer : (is_elsewhere : List ℕ → Bool) (gs : List GivenMethod) → length (living is_elsewhere gs) ≤ length gs
living_fewer is_elsewhere gs =
    let places = placed_all 0 gs in
    let fewer = after_fewer (length gs) is_elsewhere (placed_from 0 gs) in
    let mapped = length-map (living_after (length gs) is_elsewhere (placed_from 0 gs)) (λ (p : Placed). p.given) in
    omega arith

-- ---- each alias that is followed comes to an end

is_alias : (g : GivenMethod) (gs : List GivenMethod) (what : What) (old : List ℕ) → wanted (record g { what = what } ∷ gs) ≡ Some old → what ≡ AliasOf old
is_alias g gs (Whole overloads) old wants = absurd (cc)
is_alias g gs (Further overloads) old wants = absurd (cc)
is_alias g gs (AliasOf name) old wants = let same : name ≡ old = cc in ap AliasOf same

module _ (is_elsewhere : List ℕ → Bool) (gs : List GivenMethod) where
  follow : (turns : ℕ) (name old : List ℕ) (os : List GivenMethod) → of_name name gs ≡ os → wanted os ≡ Some old → comes_out (suc turns) is_elsewhere gs name ≡ comes_out turns is_elsewhere gs old
  follow turns name old [] declared wants = absurd (cc)
  follow turns name old (g ∷ more) declared wants = let alias : g.what ≡ AliasOf old = is_alias g more g.what old wants in rw (declared, alias) refl

  declares : (name old : List ℕ) (os : List GivenMethod) → of_name name gs ≡ os → wanted os ≡ Some old → (g : GivenMethod) × ((more : List GivenMethod) × (of_name name gs ≡ g ∷ more))
  declares name old [] declared wants = absurd (cc)
  declares name old (g ∷ more) declared wants = (g, (more, declared))

  at_elsewhere : (turns : ℕ) (old : List ℕ) → of_name old gs ≡ [] → comes_out turns is_elsewhere gs old ≡ true → is_elsewhere old ≡ true
  at_elsewhere zero old none comes = absurd (true≢false (sym comes))
  at_elsewhere (suc turns) old none comes = let there : comes_out (suc turns) is_elsewhere gs old ≡ is_elsewhere old = rw none refl in sym there ∙ comes

  never : (circle : List ℕ → Bool) → ((name : List ℕ) → circle name ≡ true → (old : List ℕ) × ((wanted (of_name name gs) ≡ Some old) × (circle old ≡ true)))
      → (turns : ℕ) (name : List ℕ) → circle name ≡ true → comes_out turns is_elsewhere gs name ≡ false
  never circle closed zero name on = refl
  never circle closed (suc turns) name on =
      let next = closed name on in
      follow turns name next.0 (of_name name gs) refl next.1.0 ∙ never circle closed turns next.0 next.1.1

pub ComesOut-alive : (made : Made) (step : Step) (rest : List Step) (behind : List ℕ → Option Method) (given : List GivenMethod)
    → ComesOut (record { made = made; step = step; rest = rest; steps = step ∷ rest; behind = behind; alive = alive made step rest behind given; turns = length given })
ComesOut-alive made step rest behind given = record {
  out = λ name old wants none.
      let declared = declares is_elsewhere lives name old (of_name name lives) refl wants in
      let comes = living_comes_out is_elsewhere given name declared.0 declared.1.0 declared.1.1 in
      at_elsewhere is_elsewhere lives (length given) old none (sym (follow is_elsewhere lives (length given) name old (of_name name lives) refl wants) ∙ comes);
  no_circle = λ circle closed name. by circle closed name (circle name) refl;
}
  where
    is_elsewhere : List ℕ → Bool
    is_elsewhere name = is_some (elsewhere made (step ∷ rest) behind name)

    lives : List GivenMethod
    lives = alive made step rest behind given

    by : (circle : List ℕ → Bool) → ((name : List ℕ) → circle name ≡ true → (old : List ℕ) × ((wanted (of_name name lives) ≡ Some old) × (circle old ≡ true)))
        → (name : List ℕ) (b : Bool) → circle name ≡ b → b ≡ false
    by circle closed name false on = refl
    by circle closed name true on =
        let next = closed name on in
        let declared = declares is_elsewhere lives name next.0 (of_name name lives) refl next.1.0 in
        let comes = living_comes_out is_elsewhere given name declared.0 declared.1.0 declared.1.1 in
        absurd (true≢false (sym comes ∙ never is_elsewhere lives circle closed (suc (length given)) name on))

-- ---- the whole

-- the steps behind the first
pub behind_first : (steps rest : List Step) (step : Step) → steps ≡ step ∷ rest → take (length steps - 1) (drop 1 steps) ≡ rest
behind_first steps rest step is =
    let count : suc (length rest) - 1 ≡ length rest = omega arith in
    ap (λ (ss : List Step). take (length ss - 1) (drop 1 ss)) is ∙ ap (λ n. take n rest) count ∙ take-length rest

-- what is said of the methods that are gathered
abbrev Gathered : {E : Type 0} → Made → Step → List Step → List Step → (List ℕ → Option Method) → List Entry → Result (List (List ℕ × Method)) E → Type 0
Gathered made step rest steps behind groups result = (alive : List GivenMethod) (turns : ℕ) → length groups ≤ turns → ((name : List ℕ) → by_name groups name ≡ group_of (of_name name alive))
    → ComesOut (record { made = made; step = step; rest = rest; steps = steps; behind = behind; alive = alive; turns = turns })
    → IfOk result (λ methods. (name : List ℕ) → by_name methods name ≡ aim (record { made = made; step = step; rest = rest; steps = steps; behind = behind; alive = alive; turns = turns }) (suc turns) name)

pub all_gathered : {E : Type 0} (made : Made) (own : Step) (others steps : List Step) (behind : List ℕ → Option Method) (given lives : List GivenMethod) (groups : List Entry) (result : Result (List (List ℕ × Method)) E)
    → lives ≡ living (λ name. is_some (elsewhere made steps behind name)) given → length groups ≤ length lives → ((name : List ℕ) → by_name groups name ≡ group_of (of_name name lives))
    → Gathered made own others steps behind groups result
    → (step : Step) (rest : List Step) → own ≡ step → others ≡ rest → steps ≡ step ∷ rest
    → IfOk result (λ methods. (name : List ℕ) → by_name methods name ≡ declared_from made step rest behind given name)
all_gathered made own others steps behind given lives groups result is_living few grouped gathered step rest is_step is_rest is_steps =
    let here : Gathered made step rest (step ∷ rest) behind groups result =
    subst (λ ss. Gathered made step rest ss behind groups result) is_steps (subst (λ ss. Gathered made step ss steps behind groups result) is_rest (subst (λ s. Gathered made s others steps behind groups result) is_step gathered)) in
    let is_alive : lives ≡ alive made step rest behind given = is_living ∙ ap (λ (ss : List Step). living (λ name. is_some (elsewhere made ss behind name)) given) is_steps in
    let fewer : length lives ≤ length given = subst (λ (gs : List GivenMethod). length gs ≤ length given) (sym is_alive) (living_fewer (λ name. is_some (elsewhere made (step ∷ rest) behind name)) given) in
    here (alive made step rest behind given) (length given) (omega arith) (λ name. grouped name ∙ ap (λ (gs : List GivenMethod). group_of (of_name name gs)) is_alive) (ComesOut-alive made step rest behind given)
