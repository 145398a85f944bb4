-- How small grammars spell what they are put together from.
use Rattle.std.proofs.Common.{◌≡◌, ℕ, suc, Bool, true, false, not, ◌||◌, List, ◌∷◌, Some, None, refl}
use mathlib.Core.Logic.{inl, inr}
use Rattle.rbs_tree.specs.declared.types.Ty.{Ty}
use Rattle.rbs_tree.specs.declared.types.MethodType.{MethodType}
use Rattle.rbs_lexer.specs.declared.kind.Kind.{Kind}
use Rattle.rbs_lexer.specs.declared.kind.Kind.TheVariants as k
use Rattle.rbs_lexer.specs.Tokens.{Token}
use Rattle.rbs_grammar.specs.Rules.{Rule, Value, is, is_small, is_word, every_kind}
use Rattle.rbs_grammar.specs.Grammar.{Grammar, Way, spells}
use Rattle.rbs_grammar.specs.Parts.{both, behind, before, map_value, optional}
use Rattle.rbs_grammar.specs.Levels.{spell, spell_in}
use Rattle.rbs_grammar.specs.Types.{a_type, a_function, union}
use Rattle.rbs_grammar.specs.Functions.{function}
use Rattle.rbs_grammar.proofs.Heads.{every_at}
use Rattle.rbs_printer.proofs.Claims.{deep}

-- what every rule does
abbrev pub Ways : Type 1
Ways = (r : Rule) → Way (Value r)

-- ---- put together

pub behind_spelled : {A : Type 0} (d : Ways) (kind : Kind) (g : Grammar A) (t : Token) (ts rest : List Token) (x : A) → is kind t.kind t.begins_line ≡ true
    → spells d g ts rest x → spells d (behind kind g) (t ∷ ts) rest x
behind_spelled d kind g t ts rest x e s = (t, x, ts, (t, refl, e, refl), s, refl)

pub before_spelled : {A : Type 0} (d : Ways) (kind : Kind) (g : Grammar A) (t : Token) (ts rest : List Token) (x : A) → is kind t.kind t.begins_line ≡ true
    → spells d g ts (t ∷ rest) x → spells d (before g kind) ts rest x
before_spelled d kind g t ts rest x e s = (x, t, t ∷ rest, s, (t, refl, e, refl), refl)

pub both_spelled : {A B : Type 0} (d : Ways) (g : Grammar A) (h : Grammar B) (ts mid rest : List Token) (x : A) (y : B)
    → spells d g ts mid x → spells d h mid rest y → spells d (both g h) ts rest (x, y)
both_spelled d g h ts mid rest x y s t = (x, y, mid, s, t, refl)

pub map_spelled : {A B : Type 0} (d : Ways) (f : A → B) (g : Grammar A) (ts rest : List Token) (x : A)
    → spells d g ts rest x → spells d (map_value f g) ts rest (f x)
map_spelled d f g ts rest x s = (x, tt, rest, s, (refl, refl), refl)

pub some_spelled : {A : Type 0} (d : Ways) (g : Grammar A) (ts rest : List Token) (x : A) → spells d g ts rest x → spells d (optional g) ts rest (Some x)
some_spelled d g ts rest x s = inl (map_spelled d Some g ts rest x s)

pub none_spelled : {A : Type 0} (d : Ways) (g : Grammar A) (ts : List Token) → spells d (optional g) ts ts None
none_spelled d g ts = inr (refl, refl)

-- ---- rules that open

-- where one more rule may be opened, a type inside another is spelled as one
pub type_opens : (n : ℕ) (ts rest : List Token) (ty : Ty) → spells (spell_in (deep (suc n))) union ts rest ty → spells (spell_in (deep (suc (suc n)))) a_type ts rest ty
unfolding a_type spell
type_opens n ts rest ty s = (ty, s, refl)

pub function_opens : (n : ℕ) (ts rest : List Token) (m : MethodType) → spells (spell_in (deep (suc n))) function ts rest m → spells (spell_in (deep (suc (suc n)))) a_function ts rest m
unfolding a_function spell
function_opens n ts rest m s = (m, s, refl)

-- ---- sets of kinds

implied : (p q : Kind → Bool → Bool) → every_kind (λ kind line. not (p kind false) || q kind line) ≡ true → (kind : Kind) (line : Bool) → p kind false ≡ true → q kind line ≡ true
implied p q h kind line e = go (p kind false) (q kind line) e (every_at (λ kind line. not (p kind false) || q kind line) h kind line)
  where
    go : (a b : Bool) → a ≡ true → (not a || b) ≡ true → b ≡ true
    go true b e h = h
    go false b e h = cc

not_true : (a : Bool) → not a ≡ true → a ≡ false
not_true true h = cc
not_true false h = refl

-- on whatever line the word stands
pub small_anywhere : (kind : Kind) (line : Bool) → is_small kind false ≡ true → is_small kind line ≡ true
small_anywhere = implied is_small is_small refl

pub word_anywhere : (kind : Kind) (line : Bool) → is_word kind false ≡ true → is_word kind line ≡ true
word_anywhere = implied is_word is_word refl

-- a small word isn't `::` or `:`
pub small_clear : (kind : Kind) (line : Bool) → is_small kind false ≡ true → is k.ColonColon kind line ≡ false
small_clear kind line e = not_true _ (implied is_small (λ kind line. not (is k.ColonColon kind line)) refl kind line e)

pub small_no_colon : (kind : Kind) (line : Bool) → is_small kind false ≡ true → is k.Colon kind line ≡ false
small_no_colon kind line e = not_true _ (implied is_small (λ kind line. not (is k.Colon kind line)) refl kind line e)

pub constant_anywhere : (kind : Kind) (line : Bool) → is k.Constant kind false ≡ true → is k.Constant kind line ≡ true
constant_anywhere kind line e = e
