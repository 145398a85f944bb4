-- The variables of a method type, in which no rule opens.
use Rattle.std.proofs.Common.{◌≡◌, true, List, refl}
use Rattle.rbs_lexer.specs.Tokens.{Token}
use Rattle.rbs_lexer.specs.declared.kind.Kind.TheVariants as k
use Rattle.rbs_grammar.specs.Grammar.{fine, read}
use Rattle.rbs_grammar.specs.Levels.{Room, full, read_in}
use Rattle.rbs_grammar.specs.Parts.{behind, any_of}
use Rattle.rbs_grammar.specs.Functions.{variables}
use Rattle.rbs_parser.specs.Parameters.{variable_name}

pub variables_anywhere : (n : Room) (ts : List Token) → read (read_in n) (any_of variables) ts ≡ read (read_in full) (any_of variables) ts
unfolding variables
variables_anywhere n ts = refl

pub fine_variables : fine (behind k.Comma variable_name) ≡ true
fine_variables = refl
