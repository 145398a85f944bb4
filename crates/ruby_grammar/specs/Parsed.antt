-- What a whole list of tokens is read as.
use Rattle.std.specs.Prelude.{◌≡◌, ℕ, List, Option, Some, None, Result, Ok, Err}
use Rattle.ruby_grammar.specs.declared.token.Token.{Token}
use Rattle.ruby_grammar.specs.declared.part.Grammar.{Grammar}
use Rattle.ruby_grammar.specs.declared.part.Rule.{Rule}
use Rattle.ruby_grammar.specs.declared.step.Step.{Step}
use Rattle.ruby_grammar.specs.declared.tree.Tree.{Tree}
use Rattle.ruby_grammar.specs.declared.tree.Fault.{Fault}
use Rattle.ruby_grammar.specs.declared.tree.Fault.TheVariants as fault
use Rattle.ruby_grammar.specs.Meaning.{Meaning, within}

-- so many rules may be open in each budget
unfoldable pub budgets : ℕ
budgets = 128

abbrev pub trees_or_far : List Tree → ℕ → Option ℕ → Result (List Tree) Fault
trees_or_far trees far None = Err (fault.Syntax far)
trees_or_far trees far (Some next) = Ok trees

abbrev pub told : List Tree → Result Step ℕ → Result (List Tree) Fault
told trees (Ok s) = trees_or_far trees s.far s.next
told trees (Err at) = Err (fault.TooDeep at)

abbrev pub told_of : Meaning → Result (List Tree) Fault
told_of m = told (m.trees 0) (m.step 0)

-- what the rule derives from the first token on, the farthest failure where it derives nothing, or where it is too deep
abbrev pub parsed_in : ℕ → List Rule → List Token → ℕ → Result (List Tree) Fault
parsed_in room rules tokens start = told_of (within rules tokens room room start)

-- What the first rule derives of a whole list of tokens.
abbrev pub parsed : Grammar → List Token → Result (List Tree) Fault
parsed grammar tokens = parsed_in budgets grammar.rules tokens grammar.start

-- This is answered, but where memory is wanting.
abbrev pub Answers : {A : Type 0} → Result A Fault → Result A Fault → Type 0
Answers expected (Ok answer) = expected ≡ Ok answer
Answers expected (Err (fault.Syntax at)) = expected ≡ Err (fault.Syntax at)
Answers expected (Err (fault.TooDeep at)) = expected ≡ Err (fault.TooDeep at)
Answers expected (Err fault.NoMemory) = Unit {0}
