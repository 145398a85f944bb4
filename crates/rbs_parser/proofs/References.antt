-- A reference is read as its parts are.
use Rattle.std.proofs.Common.{◌≡◌, List, refl}
use Rattle.rbs_lexer.specs.Tokens.{Token}
use Rattle.rbs_grammar.specs.Grammar.{read}
use Rattle.rbs_grammar.specs.Levels.{Room, read_in}
use Rattle.rbs_grammar.specs.Members.{ref}
use Rattle.rbs_parser.specs.MemberParts.{some_type_args, reference}

pub same_reference : (r : Room) (ts : List Token) → read (read_in r) ref ts ≡ read (read_in r) reference ts
unfolding ref reference some_type_args
same_reference r ts = refl
