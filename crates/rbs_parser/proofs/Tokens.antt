-- Reading of single tokens.
use Rattle.std.proofs.Common.{◌≡◌, Bool, true, false, if◌then◌else◌, List, [], ◌∷◌, Ok, Err, refl}
use Rattle.rbs_lexer.specs.Tokens.{Token}
use Rattle.rbs_grammar.specs.Rules.{Kinds}
use Rattle.rbs_grammar.specs.Grammar.{Outcome, syntax, then_read, pure, read_token}
use Rattle.rbs_grammar.specs.Parts.{same}

-- A function of the token is one of what is read.
pub token_by : {A : Type 0} (p : Kinds) (f : Token → A) (ts : List Token) → read_token p f ts ≡ then_read (read_token p same ts) (pure f)
token_by p f [] = refl
token_by {A = A} p f (t ∷ ts) = go (p t.kind t.begins_line)
  where
    go : (b : Bool) → ◌≡◌ {A = Outcome A} (if b then Ok (f t, ts) else Err (syntax, t ∷ ts)) (then_read (if b then Ok (t, ts) else Err (syntax, t ∷ ts)) (pure f))
    go true = refl
    go false = refl
