-- What `parse` answers.
use Rattle.std.specs.Prelude.{◌≡◌, ℕ, List, Result, Ok, Err}
use Rattle.rbs_lexer.specs.Tokens.{Token}
use Rattle.rbs_grammar.specs.Grammar.{Fault, syntax, deep}
use Rattle.rbs_grammar.specs.Parse.{Tree}
use Rattle.rbs_grammar.specs.Texts.{HasTree, IsRefused, IsTooDeep, Answer}
use Rattle.rbs_parser.specs.declared.refusal.Refusal.{Refusal}
use Rattle.rbs_parser.specs.declared.refusal.Refusal.TheVariants as refusal
use Rattle.rbs_parser.specs.declared.whole.ParseFault.{ParseFault}
use Rattle.rbs_parser.specs.declared.whole.ParseFault.TheVariants as fault

-- What is answered is so.
abbrev pub IsFound : List ℕ → Result Tree ParseFault → Type 0
IsFound text (Ok x) = HasTree text x
IsFound text (Err (fault.Syntax span)) = IsRefused text span
IsFound text (Err (fault.TooDeep span)) = IsTooDeep text span
IsFound text (Err fault.NoMemory) = Unit {0}

-- This is answered, unless there is no memory.
abbrev pub IsOnly : Result Tree ParseFault → Answer → Type 0
IsOnly (Ok x) this = this ≡ Ok x
IsOnly (Err (fault.Syntax span)) this = this ≡ Err (syntax, span)
IsOnly (Err (fault.TooDeep span)) this = this ≡ Err (deep, span)
IsOnly (Err fault.NoMemory) this = Unit {0}

-- It is what parsing all the tokens gives, unless there is no memory, and stands at the fault.
abbrev pub Parses : Result Tree (Fault × List Token) → Result Tree Refusal → List Token → Type 0
Parses outcome (Ok x) new = outcome ≡ Ok x
Parses outcome (Err refusal.NoMemory) new = Unit {0}
Parses outcome (Err refusal.Syntax) new = outcome ≡ Err (syntax, new)
Parses outcome (Err refusal.TooDeep) new = outcome ≡ Err (deep, new)
