-- What every tree has that real tokens spell, by the grammar's parts: where all tokens are real, what is spelled is so, and the
-- tokens behind it are real.
use Rattle.std.proofs.Common.{◌≡◌, true, List, [], ◌∷◌, subst, inl, inr}
use Rattle.std.specs.Prelude.{◌⊎◌}
use Rattle.rbs_lexer.specs.Tokens.{Token}
use Rattle.rbs_grammar.specs.declared.stage.Stage.{Stage}
use Rattle.rbs_grammar.specs.Rules.{Kinds}
use Rattle.rbs_grammar.specs.Grammar.{Way, Row, Chain, tok_way, seq_way, star_way, ahead_way, chain_way, map_way}
use Rattle.rbs_printer.specs.Again.{IsReal, AllReal}
use Rattle.rbs_printer.proofs.Claims.{AllOf}

abbrev pub Keeps : {A : Type 0} → (A → Type 0) → Way A → Type 0
Keeps {A = A} Q S = (ts rest : List Token) (x : A) → AllReal ts → S ts rest x → Q x × AllReal rest

abbrev pub Any : {A : Type 0} → A → Type 0
Any x = Unit {0}

-- nothing
pub eps_keeps : {A : Type 0} (Q : A → Type 0) (a : A) → Q a → Keeps Q (λ ts rest x. (ts ≡ rest) × (a ≡ x))
eps_keeps Q a q ts rest x real h = (subst Q h.1 q, subst AllReal h.0 real)

pub tok_keeps : {A : Type 0} (Q : A → Type 0) (p : Kinds) (f : Token → A) → ((t : Token) → IsReal t → p t.kind t.begins_line ≡ true → Q (f t)) → Keeps Q (tok_way p f)
tok_keeps Q p f q ts rest x real (t, is, passes, gives) =
    let all : IsReal t × AllReal rest = subst AllReal is real in
    (subst Q gives (q t all.0 passes), all.1)

pub seq_keeps : {A B C : Type 0} (P : A → Type 0) (Q : B → Type 0) (R : C → Type 0) (f : A → B → C) (S : Way A) (T : Way B)
    → Keeps P S → Keeps Q T → ((x : A) (y : B) → P x → Q y → R (f x y)) → Keeps R (seq_way f S T)
seq_keeps P Q R f S T s t made ts rest z real (x, y, mid, first, second, gives) =
    let left = s ts mid x real first in
    let right = t mid rest y left.1 second in
    (subst R gives (made x y left.0 right.0), right.1)

pub alt_keeps : {A : Type 0} (Q : A → Type 0) (S T : Way A) → Keeps Q S → Keeps Q T → Keeps Q (λ ts rest x. S ts rest x ⊎ T ts rest x)
alt_keeps Q S T s t ts rest x real (inl h) = s ts rest x real h
alt_keeps Q S T s t ts rest x real (inr h) = t ts rest x real h

row_keeps : {A : Type 0} (Q : A → Type 0) (S : Way A) → Keeps Q S → Keeps (AllOf Q) (Row S)
row_keeps Q S s ts rest [] real h = (tt, subst AllReal h real)
row_keeps Q S s ts rest (x ∷ xs) real h =
    let first = s ts h.0 x real h.1 in
    let others = row_keeps Q S s h.0 rest xs first.1 h.2 in
    ((first.0, others.0), others.1)

pub star_keeps : {A B : Type 0} (Q : A → Type 0) (R : B → Type 0) (f : List A → B) (S : Way A) → Keeps Q S → ((xs : List A) → AllOf Q xs → R (f xs)) → Keeps R (star_way f S)
star_keeps Q R f S s made ts rest z real (xs, row, gives) =
    let all = row_keeps Q S s ts rest xs real row in
    (subst R gives (made xs all.0), all.1)

pub map_keeps : {A B : Type 0} (Q : A → Type 0) (R : B → Type 0) (f : A → B) (S : Way A) → Keeps Q S → ((x : A) → Q x → R (f x)) → Keeps R (map_way f S)
map_keeps Q R f S s made ts rest z real (x, h, gives) =
    let first = s ts rest x real h in
    (subst R gives (made x first.0), first.1)

pub ahead_keeps : {A B : Type 0} (Q : A → Type 0) (R : B → Type 0) (f : Token → A → B) (p q : Kinds) (S : Way A) (T : Way B)
    → Keeps Q S → Keeps R T → ((t : Token) (x : A) → IsReal t → p t.kind t.begins_line ≡ true → Q x → R (f t x)) → Keeps R (ahead_way f p q S T)
ahead_keeps Q R f p q S T s t made ts rest z real (inl (a, b, mid, x, is, one, two, spelled, gives)) =
    let all : IsReal a × IsReal b × AllReal mid = (split (subst AllReal is real)) in
    let inside = s mid rest x all.2 spelled in
    (subst R gives (made a x all.0 one inside.0), inside.1)
  where
    split : {A B C : Type 0} → A × (B × C) → A × B × C
    split h = (h.0, h.1.0, h.1.1)
ahead_keeps Q R f p q S T s t made ts rest z real (inr h) = t ts rest z real h.0

-- items from a stage on: what each is by its stage and the next, and what such a list is
pub record Chained {A : Type 0} (k : Stage → Kinds) (Next : Stage → A → Stage → Type 0) (I : Stage → List A → Type 0) : Type 0 where
  pub ends : (s : Stage) → I s []
  pub goes_on : (s next : Stage) (x : A) (xs : List A) (t : Token) → k s t.kind t.begins_line ≡ true → Next s x next → I next xs → I s (x ∷ xs)

items_keep : {A : Type 0} (k : Stage → Kinds) (Next : Stage → A → Stage → Type 0) (I : Stage → List A → Type 0) (S : Stage → Way (A × Stage)) → Chained k Next I
    → ((s : Stage) → Keeps (λ p. Next s p.0 p.1) (S s)) → (s : Stage) → Keeps (I s) (Chain k S s)
items_keep k Next I S c each s ts rest [] real h = (c.ends s, subst AllReal h.0 real)
items_keep k Next I S c each s [] rest (x ∷ xs) real h = cc (h.0)
items_keep k Next I S c each s (t ∷ ts) rest (x ∷ xs) real h =
    let first = each s (t ∷ ts) h.1.1 (x, h.1.0) real h.1.2 in
    let others = items_keep k Next I S c each h.1.0 h.1.1 rest xs first.1 h.1.3 in
    (c.goes_on s h.1.0 x xs t h.0 first.0 others.0, others.1)

pub chain_keeps : {A B : Type 0} (k : Stage → Kinds) (First : A → Stage → Type 0) (Next : Stage → A → Stage → Type 0) (I : Stage → List A → Type 0) (R : B → Type 0) (f : List A → B) (T : Way (A × Stage)) (S : Stage → Way (A × Stage))
    → Chained k Next I → Keeps (λ p. First p.0 p.1) T → ((s : Stage) → Keeps (λ p. Next s p.0 p.1) (S s))
    → ((x : A) (s : Stage) (xs : List A) → First x s → I s xs → R (f (x ∷ xs))) → Keeps R (chain_way f T k S)
chain_keeps k First Next I R f T S c head each made ts rest z real (x, s, mid, xs, first, items, gives) =
    let start = head ts mid (x, s) real first in
    let others = items_keep k Next I S c each s mid rest xs start.1 items in
    (subst R gives (made x s xs start.0 others.0), others.1)
