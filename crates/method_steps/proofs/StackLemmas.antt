-- Names with their declarations, on a stack and in a table.
use Rattle.std.proofs.Common.{◌≡◌, ◌∙◌, ◌⊎◌, inl, inr, ℕ, Bool, true, false, List, [], ◌∷◌, ◌++◌, Option, Some, None, cond, if◌then◌else◌, ◌+◌, length, refl, sym, ap, arith}
use Rattle.std.specs.Cmp.Lexicographic.{same_text}
use Rattle.std.specs.Option.{is_some}
use Rattle.std.proofs.lemmas.Cmp.{nat_list_eq_equiv}
use Rattle.sig_rules.specs.declared.given.GivenMethod.{GivenMethod}
use Rattle.sig_rules.specs.Methods.{same_word}
use Rattle.sig_rules.specs.Worlds.{by_name}
use Rattle.method_steps.specs.Gathering.{Apart, Chained, Entry, TakesOut, in_either, or_group, wanted}

pub same_itself : (name : List ℕ) → same_word name name ≡ true
same_itself name = nat_list_eq_equiv.refl name

pub same_back : (a b : List ℕ) → same_word a b ≡ same_word b a
same_back a b = nat_list_eq_equiv.symm a b

pub same_names : (a b : List ℕ) → same_word a b ≡ true → a ≡ b
same_names a b e = same_text a b (sym e)

-- ---- the one or the other

pub or_group-assoc : (a b c : Option (List GivenMethod)) → or_group (or_group a b) c ≡ or_group a (or_group b c)
or_group-assoc None b c = refl
or_group-assoc (Some gs) b c = refl

pub or_group-none : (a b : Option (List GivenMethod)) → or_group a b ≡ None → (a ≡ None) × (b ≡ None)
or_group-none None b none = (refl, none)
or_group-none (Some gs) b none = cc

pub cond-none : {A : Type 0} (b : Bool) (x : A) (other : Option A) → cond b (Some x) other ≡ None → (b ≡ false) × (other ≡ None)
cond-none true x other none = cc
cond-none false x other none = (refl, none)

pub by_name-append : (front back : List Entry) (name : List ℕ) → by_name (front ++ back) name ≡ in_either front back name
by_name-append [] back name = refl
by_name-append (e ∷ es) back name = by (same_word name e.0) (by_name-append es back name)
  where
    by : (b : Bool) → by_name (es ++ back) name ≡ in_either es back name → cond b (Some e.1) (by_name (es ++ back) name) ≡ or_group (cond b (Some e.1) (by_name es name)) (by_name back name)
    by true rest = refl
    by false rest = rest

-- ---- each name once

pub Apart-less : (left less stack : List Entry) → ((name : List ℕ) → by_name left name ≡ None → by_name less name ≡ None) → Apart left stack → Apart less stack
Apart-less left less [] fewer apart = tt
Apart-less left less (e ∷ es) fewer apart = (fewer e.0 apart.0, (apart.1.0, Apart-less left less es fewer apart.1.1))

pub Apart-push : (left stack : List Entry) (entry : Entry) → Apart left stack → by_name left entry.0 ≡ None → by_name stack entry.0 ≡ None → Apart left (stack ++ entry ∷ [])
Apart-push left [] entry apart out new = (out, (refl, tt))
Apart-push left (e ∷ es) entry apart out new =
    let other = cond-none (same_word entry.0 e.0) e.1 (by_name es entry.0) new in
    let behind : by_name (entry ∷ []) e.0 ≡ None = ap (λ b. cond b (Some entry.1) None) (same_back e.0 entry.0 ∙ other.0) in
    let absent : by_name (es ++ entry ∷ []) e.0 ≡ None = by_name-append es (entry ∷ []) e.0 ∙ ap (λ o. or_group o (by_name (entry ∷ []) e.0)) apart.1.0 ∙ behind in
    (apart.0, (absent, Apart-push left es entry apart.1.1 out other.1))

-- the last is neither left nor before on the stack
pub Apart-pop : (left stack : List Entry) (entry : Entry) → Apart left (stack ++ entry ∷ []) → Apart left stack × ((by_name left entry.0 ≡ None) × (by_name stack entry.0 ≡ None))
Apart-pop left [] entry apart = (tt, (apart.0, refl))
Apart-pop left (e ∷ es) entry apart =
    let rest = Apart-pop left es entry apart.1.1 in
    let both = or_group-none (by_name es e.0) (by_name (entry ∷ []) e.0) (sym (by_name-append es (entry ∷ []) e.0) ∙ apart.1.0) in
    let other = cond-none (same_word e.0 entry.0) entry.1 None both.1 in
    let absent : by_name (e ∷ es) entry.0 ≡ None = ap (λ b. cond b (Some e.1) (by_name es entry.0)) (same_back entry.0 e.0 ∙ other.0) ∙ rest.1.1 in
    ((apart.0, (both.0, rest.0)), (rest.1.0, absent))

-- what is left isn't on the stack
pub Apart-absent : (left stack : List Entry) (name : List ℕ) (gs : List GivenMethod) → Apart left stack → by_name left name ≡ Some gs → by_name stack name ≡ None
Apart-absent left [] name gs apart found = refl
Apart-absent left (e ∷ es) name gs apart found = by (same_word name e.0) refl (Apart-absent left es name gs apart.1.1 found)
  where
    by : (b : Bool) → same_word name e.0 ≡ b → by_name es name ≡ None → cond b (Some e.1) (by_name es name) ≡ None
    by true same rest = let none : by_name left name ≡ None = ap (λ n. by_name left n) (same_names name e.0 same) ∙ apart.0 in absurd (cc)
    by false same rest = rest

-- ---- each takes over the method of the next

pub Chained-push : (stack : List Entry) (last next : Entry) → Chained (stack ++ last ∷ []) → wanted last.1 ≡ Some next.0 → Chained ((stack ++ last ∷ []) ++ next ∷ [])
Chained-push [] last next chained wants = (wants, (tt, tt))
Chained-push (e ∷ []) last next chained wants = (chained.0, Chained-push [] last next chained.1 wants)
Chained-push (e ∷ f ∷ fs) last next chained wants = (chained.0, Chained-push (f ∷ fs) last next chained.1 wants)

pub Chained-pop : (stack : List Entry) (last : Entry) → Chained (stack ++ last ∷ []) → Chained stack
Chained-pop [] last chained = tt
Chained-pop (e ∷ []) last chained = (tt, tt)
Chained-pop (e ∷ f ∷ fs) last chained = (chained.0, Chained-pop (f ∷ fs) last chained.1)

found_first : (e : Entry) (es : List Entry) → is_some (by_name (e ∷ es) e.0) ≡ true
found_first e es = ap (λ b. is_some (cond b (Some e.1) (by_name es e.0))) (same_itself e.0)

found_later : (e : Entry) (es : List Entry) (name : List ℕ) → is_some (by_name es name) ≡ true → is_some (by_name (e ∷ es) name) ≡ true
found_later e es name there = by (same_word name e.0)
  where
    by : (b : Bool) → is_some (cond b (Some e.1) (by_name es name)) ≡ true
    by true = refl
    by false = there

-- how the way goes on from a name on the stack: to the name that the last wants, or to one on the stack
abbrev GoesOn : List Entry → List ℕ → List GivenMethod → Type 0
GoesOn stack old gs = (next : List ℕ) × ((wanted gs ≡ Some next) × ((next ≡ old) ⊎ (is_some (by_name stack next) ≡ true)))

goes_on_later : (e : Entry) (es : List Entry) (old : List ℕ) (gs : List GivenMethod) → GoesOn es old gs → GoesOn (e ∷ es) old gs
goes_on_later e es old gs (next, (wants, inl same)) = (next, (wants, inl same))
goes_on_later e es old gs (next, (wants, inr there)) = (next, (wants, inr (found_later e es next there)))

goes_on_first : (e f : Entry) (fs : List Entry) (old : List ℕ) (gs : List GivenMethod) → wanted e.1 ≡ Some f.0 → Some e.1 ≡ Some gs → GoesOn (e ∷ f ∷ fs) old gs
goes_on_first e f fs old gs wants here = let same : e.1 ≡ gs = cc in (f.0, (ap wanted (sym same) ∙ wants, inr (found_later e (f ∷ fs) f.0 (found_first f fs))))

pub follows : (stack : List Entry) (last : Entry) (old name : List ℕ) (gs : List GivenMethod) → Chained (stack ++ last ∷ []) → wanted last.1 ≡ Some old → by_name (stack ++ last ∷ []) name ≡ Some gs → GoesOn (stack ++ last ∷ []) old gs
follows [] last old name gs chained wants found = by (same_word name last.0) found
  where
    by : (b : Bool) → cond b (Some last.1) None ≡ Some gs → GoesOn (last ∷ []) old gs
    by true here = let same : last.1 ≡ gs = cc in (old, (ap wanted (sym same) ∙ wants, inl refl))
    by false here = absurd (cc)
follows (e ∷ []) last old name gs chained wants found = by (same_word name e.0) found (λ here. follows [] last old name gs chained.1 wants here)
  where
    by : (b : Bool) → cond b (Some e.1) (by_name (last ∷ []) name) ≡ Some gs → (by_name (last ∷ []) name ≡ Some gs → GoesOn (last ∷ []) old gs) → GoesOn (e ∷ last ∷ []) old gs
    by true here rest = goes_on_first e last [] old gs chained.0 here
    by false here rest = goes_on_later e (last ∷ []) old gs (rest here)
follows (e ∷ f ∷ fs) last old name gs chained wants found = by (same_word name e.0) found (λ here. follows (f ∷ fs) last old name gs chained.1 wants here)
  where
    by : (b : Bool) → cond b (Some e.1) (by_name (f ∷ (fs ++ last ∷ [])) name) ≡ Some gs → (by_name (f ∷ (fs ++ last ∷ [])) name ≡ Some gs → GoesOn (f ∷ (fs ++ last ∷ [])) old gs) → GoesOn (e ∷ f ∷ (fs ++ last ∷ [])) old gs
    by true here rest = goes_on_first e f (fs ++ last ∷ []) old gs chained.0 here
    by false here rest = goes_on_later e (f ∷ (fs ++ last ∷ [])) old gs (rest here)

-- ---- what is taken out

pub TakesOut-by : (old new : List Entry) (entry : Entry) → by_name old entry.0 ≡ Some entry.1 → ((other : List ℕ) → by_name new other ≡ (if same_word entry.0 other then None else by_name old other)) → length new + 1 ≡ length old → TakesOut old new entry
TakesOut-by old new entry found values count = record {
  found = found;
  gone = values entry.0 ∙ ap (λ b. if b then None else by_name old entry.0) (same_itself entry.0);
  others = λ other. by other (same_word entry.0 other) refl;
  count = omega arith;
}
  where
    by : (other : List ℕ) (b : Bool) → same_word entry.0 other ≡ b → by_name old other ≡ in_either (entry ∷ []) new other
    by other true same =
        ap (by_name old) (sym (same_names entry.0 other same)) ∙ found ∙ sym (ap (λ b. or_group (cond b (Some entry.1) None) (by_name new other)) (same_back other entry.0 ∙ same))
    by other false apart =
        sym (ap (λ b. or_group (cond b (Some entry.1) None) (by_name new other)) (same_back other entry.0 ∙ apart) ∙ values other ∙ ap (λ b. if b then None else by_name old other) apart)
