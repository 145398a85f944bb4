-- Function values that read a rule, where so many marked rules and so many functions may still be opened.
use Rattle.std.specs.Prelude.{ℕ, Result, List}
use Rattle.std.specs.declared.alloc.Global.{Global}
use denote.Ref.{MutBor}
use Rattle.rbs_lexer.specs.Tokens.{Token}
use Rattle.rbs_parser.specs.declared.refusal.Refusal.{Refusal}
use Rattle.rbs_grammar.specs.Rules.{Rule, Value}
use Rattle.rbs_grammar.specs.Levels.{rooms, read_in}
use Rattle.rbs_parser.specs.Reading.{Reads}

-- It may be called, and what it answers is the rule's tree.
pub record Nests (rule : Rule) (marked functions : ℕ) (pre : Global → MutBor (List Token) → ℕ → ℕ → Type 0)
    (post : Global → MutBor (List Token) → ℕ → ℕ → Result (Value rule) Refusal → MutBor (List Token) → Type 0) : Type 0 where
  pub callable : (alloc : Global) (old : MutBor (List Token)) → pre alloc old marked functions
  pub reads : (alloc : Global) (old new : MutBor (List Token)) (r : Result (Value rule) Refusal) → post alloc old marked functions r new
      → Reads (λ x. x) (read_in (rooms marked functions) rule old.now) r new.now
