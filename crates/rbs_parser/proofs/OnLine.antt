-- A token that has to stand on the line of the one before it.
use Rattle.std.proofs.Common.{◌≡◌, Bool, true, false, if◌then◌else◌, List, [], ◌∷◌, Err, refl}
use Rattle.rbs_lexer.specs.Tokens.{Token}
use Rattle.rbs_lexer.specs.declared.kind.Kind.{Kind}
use Rattle.rbs_grammar.specs.Rules.{Kinds, on_the_line}
use Rattle.rbs_grammar.specs.Grammar.{syntax, begins, read_token}

by_line : {O : Type 0} (p : Kinds) (kind : Kind) (line : Bool) (x y : O) → true ≡ on_the_line p kind line
    → (if on_the_line p kind line then x else y) ≡ (if p kind line then x else y)
by_line p kind true x y h = cc
by_line p kind false x y h = refl

-- Where one comes next, it is read as any such token is.
pub on_line_read : {A : Type 0} (p : Kinds) (f : Token → A) (ts : List Token) → true ≡ begins (on_the_line p) ts → read_token (on_the_line p) f ts ≡ read_token p f ts
on_line_read p f [] h = cc
on_line_read p f (t ∷ ts) h = by_line p t.kind t.begins_line _ _ h

by_test : {O : Type 0} (b : Bool) (x y : O) → false ≡ b → (if b then x else y) ≡ y
by_test true x y h = cc
by_test false x y h = refl

-- Where none comes next, none is read.
pub not_read : {A : Type 0} (p : Kinds) (f : Token → A) (ts : List Token) → false ≡ begins p ts → read_token p f ts ≡ Err (syntax, ts)
not_read p f [] h = refl
not_read p f (t ∷ ts) h = by_test _ _ _ h
