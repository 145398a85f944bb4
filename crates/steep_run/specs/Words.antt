-- Bytes and words, as signatures (RBS `docs/syntax.md`) and Ruby texts have them.
use Rattle.std.specs.Prelude.{ℕ, Bool, false, ◌&&◌, ◌||◌, ◌==◌, nat_eq, nat_le, List, [], ◌∷◌, codes}
use Rattle.std.specs.List.{list_any}
use Rattle.std.specs.Cmp.Lexicographic.{pointwise}

abbrev pub is_upper : ℕ → Bool
is_upper c = nat_le 65 c && nat_le c 90

abbrev pub is_digit : ℕ → Bool
is_digit c = nat_le 48 c && nat_le c 57

-- whether the first byte passes a test
abbrev pub begins : (ℕ → Bool) → List ℕ → Bool
begins test [] = false
begins test (c ∷ cs) = test c

-- whether two words are the same
abbrev pub same_word : List ℕ → List ℕ → Bool
same_word = pointwise nat_eq

-- whether a word begins as an interface's name: `_` and then `A` to `Z`
abbrev pub is_interface_name : List ℕ → Bool
is_interface_name [] = false
is_interface_name (c ∷ cs) = c == 95 && begins is_upper cs

-- whether a method's name may begin with a byte: `a` to `z` or `_`
abbrev pub is_lower_byte : ℕ → Bool
is_lower_byte c = c == 95 || (nat_le 97 c && nat_le c 122)

-- Ruby's keywords, those among them that the checker's profile refuses, and the numbered parameters, which it refuses too
abbrev pub keywords : List (List ℕ)
keywords =
    codes "alias" ∷ codes "and" ∷ codes "begin" ∷ codes "break" ∷ codes "case" ∷ codes "class" ∷ codes "def" ∷ codes "defined?" ∷ codes "do" ∷ codes "else"
    ∷ codes "elsif" ∷ codes "end" ∷ codes "ensure" ∷ codes "false" ∷ codes "if" ∷ codes "in" ∷ codes "module" ∷ codes "next" ∷ codes "nil" ∷ codes "not"
    ∷ codes "or" ∷ codes "rescue" ∷ codes "return" ∷ codes "self" ∷ codes "super" ∷ codes "then" ∷ codes "true" ∷ codes "unless" ∷ codes "until"
    ∷ codes "when" ∷ codes "while" ∷ codes "yield" ∷ codes "__FILE__" ∷ codes "__LINE__" ∷ codes "__ENCODING__" ∷ codes "__END__" ∷ codes "for"
    ∷ codes "redo" ∷ codes "retry" ∷ codes "undef" ∷ codes "_1" ∷ codes "_2" ∷ codes "_3" ∷ codes "_4" ∷ codes "_5" ∷ codes "_6" ∷ codes "_7"
    ∷ codes "_8" ∷ codes "_9" ∷ []

abbrev pub is_keyword : List ℕ → Bool
is_keyword w = list_any (same_word w) keywords
