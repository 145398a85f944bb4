-- Names open no rule, so they are read alike wherever they stand.
use Rattle.std.proofs.Common.{◌≡◌, List, refl}
use Rattle.rbs_lexer.specs.Tokens.{Token}
use Rattle.rbs_grammar.specs.Grammar.{read}
use Rattle.rbs_grammar.specs.Levels.{Room, full, read_in}
use Rattle.rbs_grammar.specs.Names.{constants, class_name}
use Rattle.rbs_grammar.specs.Types.{absolute_words, relative_words, singleton}

pub absolute_words_anywhere : (n : Room) (ts : List Token) → read (read_in n) absolute_words ts ≡ read (read_in full) absolute_words ts
unfolding absolute_words
absolute_words_anywhere n ts = refl

pub relative_words_anywhere : (n : Room) (ts : List Token) → read (read_in n) relative_words ts ≡ read (read_in full) relative_words ts
unfolding relative_words
relative_words_anywhere n ts = refl

pub singleton_anywhere : (n : Room) (ts : List Token) → read (read_in n) singleton ts ≡ read (read_in full) singleton ts
unfolding singleton class_name constants
singleton_anywhere n ts = refl
