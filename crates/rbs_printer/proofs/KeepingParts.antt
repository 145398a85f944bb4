-- What is kept by the small grammars that others are put together from.
use Rattle.std.proofs.Common.{false, List, [], ◌∷◌}
use Rattle.std.specs.Prelude.{Option, Some, None}
use Rattle.rbs_lexer.specs.declared.kind.Kind.{Kind}
use Rattle.rbs_grammar.specs.Rules.{Rule, Value, is}
use Rattle.rbs_grammar.specs.Grammar.{Way, Grammar, spells, eps}
use Rattle.rbs_grammar.specs.Parts.{same, first_of, second_of, pair, prepend, by_first, yes, token, both, behind, before, map_value, optional, given, any_of, each, separated}
use Rattle.rbs_printer.proofs.Claims.{AllOf, IfThere}
use Rattle.rbs_printer.proofs.Keeping.{Keeps, Any, eps_keeps, tok_keeps, seq_keeps, alt_keeps, star_keeps}

-- what each rule does
abbrev pub Ways : Type 1
Ways = (r : Rule) → Way (Value r)

pub token_keeps : (d : Ways) (kind : Kind) → Keeps Any (spells d (token kind))
token_keeps d kind = tok_keeps Any (is kind) same (λ t real passes. tt)

pub both_keeps : (d : Ways) {A B : Type 0} (P : A → Type 0) (Q : B → Type 0) (a : Grammar A) (b : Grammar B) → Keeps P (spells d a) → Keeps Q (spells d b) → Keeps (λ p. P p.0 × Q p.1) (spells d (both a b))
both_keeps d P Q a b left right = seq_keeps P Q (λ p. P p.0 × Q p.1) pair (spells d a) (spells d b) left right (λ x y p q. (p, q))

pub behind_keeps : (d : Ways) {A : Type 0} (Q : A → Type 0) (kind : Kind) (a : Grammar A) → Keeps Q (spells d a) → Keeps Q (spells d (behind kind a))
behind_keeps d Q kind a h = seq_keeps Any Q Q second_of (spells d (token kind)) (spells d a) (token_keeps d kind) h (λ x y p q. q)

pub before_keeps : (d : Ways) {A : Type 0} (Q : A → Type 0) (a : Grammar A) (kind : Kind) → Keeps Q (spells d a) → Keeps Q (spells d (before a kind))
before_keeps d Q a kind h = seq_keeps Q Any Q first_of (spells d a) (spells d (token kind)) h (token_keeps d kind) (λ x y p q. p)

pub value_keeps : (d : Ways) {A B : Type 0} (P : A → Type 0) (Q : B → Type 0) (f : A → B) (a : Grammar A) → Keeps P (spells d a) → ((x : A) → P x → Q (f x)) → Keeps Q (spells d (map_value f a))
value_keeps d P Q f a h made = seq_keeps P Any Q (by_first f) (spells d a) (spells d (eps (tt {0}))) h (eps_keeps Any (tt {0}) tt) (λ x y p q. made x p)

pub optional_keeps : (d : Ways) {A : Type 0} (Q : A → Type 0) (a : Grammar A) → Keeps Q (spells d a) → Keeps (IfThere Q) (spells d (optional a))
optional_keeps d {A = A} Q a h = alt_keeps (IfThere Q) (spells d (map_value Some a)) (spells d (eps None)) (value_keeps d Q (IfThere Q) Some a h (λ x q. q)) (eps_keeps {A = Option A} (IfThere Q) None tt)

pub given_keeps : (d : Ways) {A : Type 0} (a : Grammar A) → Keeps Any (spells d a) → Keeps Any (spells d (given a))
given_keeps d a h = alt_keeps Any (spells d (map_value yes a)) (spells d (eps false)) (value_keeps d Any Any yes a h (λ x q. tt)) (eps_keeps Any false tt)

pub any_of_keeps : (d : Ways) {A : Type 0} (Q : A → Type 0) (a : Grammar (List A)) → Keeps (AllOf Q) (spells d a) → Keeps (AllOf Q) (spells d (any_of a))
any_of_keeps d {A = A} Q a h = alt_keeps (AllOf Q) (spells d a) (spells d (eps [])) h (eps_keeps {A = List A} (AllOf Q) [] tt)

-- and there is one
abbrev pub AllOfSome : {A : Type 0} → (A → Type 0) → List A → Type 0
AllOfSome Q [] = ⊥
AllOfSome Q (x ∷ xs) = Q x × AllOf Q xs

pub separated_some : (d : Ways) {A : Type 0} (Q : A → Type 0) (kind : Kind) (a : Grammar A) → Keeps Q (spells d a) → Keeps (AllOfSome Q) (spells d (separated kind a))
separated_some d Q kind a h =
    seq_keeps Q (AllOf Q) (AllOfSome Q) prepend (spells d a) (spells d (each (behind kind a))) h
    (star_keeps Q (AllOf Q) same (spells d (behind kind a)) (behind_keeps d Q kind a h) (λ xs all. all)) (λ x y p q. (p, q))

pub separated_keeps : (d : Ways) {A : Type 0} (Q : A → Type 0) (kind : Kind) (a : Grammar A) → Keeps Q (spells d a) → Keeps (AllOf Q) (spells d (separated kind a))
separated_keeps d Q kind a h =
    seq_keeps Q (AllOf Q) (AllOf Q) prepend (spells d a) (spells d (each (behind kind a))) h
    (star_keeps Q (AllOf Q) same (spells d (behind kind a)) (behind_keeps d Q kind a h) (λ xs all. all)) (λ x y p q. (p, q))
