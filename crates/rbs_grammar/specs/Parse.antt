-- What parsing a whole list of tokens answers.
use Rattle.std.specs.Prelude.{◌≡◌, List, [], ◌∷◌, ◌++◌, Result, Ok, Err}
use Rattle.rbs_lexer.specs.Tokens.{Token}
use Rattle.rbs_tree.specs.declared.decls.Decl.{Decl}
use Rattle.rbs_grammar.specs.Grammar.{spells, opens, Fault, syntax, deep, Outcome, read}
use Rattle.rbs_grammar.specs.Declarations.{file}
use Rattle.rbs_grammar.specs.Levels.{Room, spell_in, open_in, read_in}

-- the tree of a whole text
abbrev pub Tree : Type 0
Tree = List Decl

-- The tokens, all of them, spell the tree, and the rules that are open in it have this room.
unfoldable pub Spells : Room → List Token → Tree → Type 0
Spells n ts x = spells (spell_in n) file ts [] x

-- One rule more than there is room for opens, and the tokens from its first on are these.
unfoldable pub Opens : Room → List Token → List Token → Type 0
Opens n ts at = opens (spell_in n) (open_in n) file ts at

-- Some list that begins with these tokens spells a tree, however many rules are open in it.
pub record CanGoOn (ts : List Token) : Type 0 where
  pub room : Room
  pub to_come : List Token
  pub tree : Tree
  pub spelled : Spells room (ts ++ to_come) tree

-- No list that begins with these tokens and the next spells a tree. At the end: the tokens themselves spell none.
abbrev pub NoFurther : List Token → List Token → Type 0
NoFurther front [] = (n : Room) (x : Tree) → Spells n front x → ⊥
NoFurther front (t ∷ ts) = CanGoOn (front ++ t ∷ []) → ⊥

pub record SyntaxAt (ts at : List Token) : Type 0 where
  pub front : List Token
  pub whole : ts ≡ front ++ at
  pub viable : CanGoOn front
  pub refused : NoFurther front at

pub record DeepAt (n : Room) (ts at : List Token) : Type 0 where
  pub front : List Token
  pub whole : ts ≡ front ++ at
  pub viable : CanGoOn front
  pub opens : Opens n ts at

abbrev pub Refused : Room → List Token → Fault → List Token → Type 0
Refused n ts syntax at = SyntaxAt ts at
Refused n ts deep at = DeepAt n ts at

abbrev pub all_read : Outcome Tree → Result Tree (Fault × List Token)
all_read (Ok r) = all_of r.0 r.1
  where
    all_of : Tree → List Token → Result Tree (Fault × List Token)
    all_of x [] = Ok x
    all_of x (t ∷ ts) = Err (syntax, t ∷ ts)
all_read (Err e) = Err e

unfoldable pub parse : Room → List Token → Result Tree (Fault × List Token)
parse n ts = all_read (read (read_in n) file ts)

-- what is said of every list of tokens, where this room is left
pub data SpelledOrRefused (n : Room) (ts : List Token) : Type 0 where
  -- It spells a tree.
  spells_tree : (x : Tree) → Spells n ts x → SpelledOrRefused n ts
  -- No list of tokens goes on so.
  has_syntax_fault : (at : List Token) → SyntaxAt ts at → SpelledOrRefused n ts
  -- One rule too many opens.
  is_too_deep : (at : List Token) → DeepAt n ts at → SpelledOrRefused n ts
