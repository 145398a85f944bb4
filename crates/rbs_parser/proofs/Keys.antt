-- A keyword is told by the word and the `:` behind it.
use Rattle.std.proofs.Common.{◌≡◌, Bool, ℕ, true, false, ◌&&◌, if◌then◌else◌, List, [], ◌∷◌, Result, Ok, Err, refl, sym, ◌∙◌, ap}
use Rattle.rbs_lexer.specs.Tokens.{Token}
use Rattle.rbs_lexer.specs.declared.kind.Kind.TheVariants as k
use Rattle.rbs_grammar.specs.declared.stage.Stage.{Stage}
use Rattle.rbs_grammar.specs.Rules.{Rule, Value, Kinds, is, no_kind, is_word}
use Rattle.rbs_grammar.specs.Grammar.{Grammar, begins, begins_two, syntax, Reader, Outcome, then_read, pure, read_token, read_both, read_behind_two, read}
use Rattle.rbs_grammar.specs.Parts.{same, second_of}
use Rattle.rbs_grammar.specs.Levels.{rooms, read_in}
use Rattle.rbs_grammar.specs.Functions as spec
use Rattle.rbs_grammar.specs.Functions.{param, keyword_of, key_param, key_or}
use Rattle.rbs_parser.specs.declared.refusal.Refusal.{Refusal}
use Rattle.rbs_parser.specs.declared.functions.Parameter.{Parameter}
use Rattle.rbs_parser.specs.Parameters.{given_as, ReadsParameter}
use Rattle.rbs_parser.proofs.Opened.{same_outcome}

pub begins_none : (ts : List Token) → false ≡ begins no_kind ts
begins_none [] = refl
begins_none (t ∷ ts) = refl

both_true : (b c : Bool) → b && c ≡ true → (b ≡ true) × (c ≡ true)
both_true true c h = (refl, h)
both_true false c h = cc

taken : {A : Type 0} (p : Kinds) (f : Token → A) (t : Token) (ts : List Token) → p t.kind t.begins_line ≡ true → read_token p f (t ∷ ts) ≡ Ok (f t, ts)
taken p f t ts h = ap (λ b. if b then Ok (f t, ts) else Err (syntax, t ∷ ts)) h

-- Two tokens that are there are read as one and then the other.
two_read : {A B : Type 0} (f : Token → A → B) (p q : Kinds) (r : Reader A) (ts : List Token) → begins_two p q ts ≡ true
    → read_behind_two f r ts ≡ read_both f (read_token p same) (read_both second_of (read_token q same) r) ts
two_read f p q r [] h = cc
two_read f p q r (t ∷ []) h = let no : false ≡ true = (both_true (p t.kind t.begins_line) false h).1 in cc
two_read {A = A} {B = B} f p q r (t ∷ (u ∷ ts)) h =
    let both = both_true (p t.kind t.begins_line) (q u.kind u.begins_line) h in
    go (r ts)
    ∙ sym (ap (λ (o : Outcome Token). then_read o (λ x mid. then_read (read_both second_of (read_token q same) r mid) (pure (f x)))) (taken p same t (u ∷ ts) both.0)
    ∙ ap (λ (o : Outcome Token). then_read (then_read o (λ x mid. then_read (r mid) (pure (second_of x)))) (pure (f t))) (taken q same u ts both.1))
  where
    go : (o : Outcome A) → then_read o (pure (f t)) ≡ then_read (then_read o (pure (second_of u))) (pure (f t))
    go (Ok x) = refl
    go (Err e) = refl

module _ (d : (r : Rule) → Reader (Value r)) (needed : Bool) (g : Grammar (spec.Parameter × Stage)) (ts : List Token) where
  pub key_read : true ≡ begins_two is_word (is k.Colon) ts → read d (key_or needed g) ts ≡ read d (key_param needed) ts
  key_read h =
      ap (λ b. if b then read_behind_two (keyword_of needed) (read d param) ts else read d g ts) (sym h)
      ∙ two_read (keyword_of needed) is_word (is k.Colon) (read d param) ts (sym h)

  pub positional_read : false ≡ begins_two is_word (is k.Colon) ts → read d (key_or needed g) ts ≡ read d g ts
  positional_read h = ap (λ b. if b then read_behind_two (keyword_of needed) (read d param) ts else read d g ts) (sym h)

-- What reads the keyword reads either, where a word stands before a `:`.
pub key_first : (marked functions : ℕ) (needed : Bool) (g : Grammar (spec.Parameter × Stage)) (ts : List Token) (r : Result (Parameter × Stage) Refusal) (new : List Token)
    → true ≡ begins_two is_word (is k.Colon) ts → ReadsParameter marked functions (key_param needed) ts r new → ReadsParameter marked functions (key_or needed g) ts r new
key_first marked functions needed g ts r new h read_so =
    same_outcome (λ (x : Parameter × Stage). (given_as x.0, x.1)) _ _ (key_read (read_in (rooms marked functions)) needed g ts h) r new read_so
