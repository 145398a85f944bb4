-- What holds of the tokens of every text.
use Rattle.std.specs.Prelude.{◌≡◌, ℕ, zero, suc, true, false, if◌then◌else◌, List, [], ◌∷◌, ◌++◌, Option, Some, None, Result, Ok, Err}
use Rattle.std.specs.List.{All}
use Rattle.ruby_lexer.specs.declared.machine.Machine.{Machine}
use Rattle.ruby_lexer.specs.declared.refusal.RubyAt.{RubyAt}
use Rattle.ruby_lexer.specs.declared.token.RubyToken.{RubyToken}
use Rattle.ruby_lexer.specs.Kinds.{is_so, is_end}
use Rattle.ruby_lexer.specs.Machine.{step}

-- The last token is the end of the text, and no other is.
abbrev pub EndsOnce : List RubyToken → Type 0
EndsOnce tokens = (front : List RubyToken) × (last : RubyToken) × (tokens ≡ front ++ last ∷ []) × (is_end last.kind ≡ true) × All (λ t. is_end t.kind ≡ false) front

-- What the lexer answers within so many steps from here: all tokens up to the end, or what is refused. There is no answer where the steps
-- run out before.
abbrev pub answer_within : ℕ → List ℕ → Machine → Option (Result (List RubyToken) RubyAt)
answer_within zero text m = None
answer_within (suc n) text m = elim (step text m) [
  | Ok next ↦ if is_so is_end next.state.last then Some (Ok next.tokens) else answer_within n text next
  | Err e ↦ Some (Err e)
]
