-- Names open no rule, so what may be opened changes nothing.
use Rattle.std.proofs.Common.{◌≡◌, List, refl}
use Rattle.rbs_lexer.specs.Tokens.{Token}
use Rattle.rbs_grammar.specs.Grammar.{read}
use Rattle.rbs_grammar.specs.Levels.{Room, full, read_in}
use Rattle.rbs_grammar.specs.Names.{class_name, constants, interface_name, alias_name, module_name, module_words}

pub class_anywhere : (r : Room) (ts : List Token) → read (read_in r) class_name ts ≡ read (read_in full) class_name ts
unfolding class_name constants
class_anywhere r ts = refl

pub interface_anywhere : (r : Room) (ts : List Token) → read (read_in r) interface_name ts ≡ read (read_in full) interface_name ts
unfolding interface_name
interface_anywhere r ts = refl

pub alias_anywhere : (r : Room) (ts : List Token) → read (read_in r) alias_name ts ≡ read (read_in full) alias_name ts
unfolding alias_name
alias_anywhere r ts = refl

pub module_anywhere : (r : Room) (ts : List Token) → read (read_in r) module_name ts ≡ read (read_in full) module_name ts
unfolding module_name module_words
module_anywhere r ts = refl
