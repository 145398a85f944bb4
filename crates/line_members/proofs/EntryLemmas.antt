-- Lists of entries, each name once.
use Rattle.std.proofs.Common.{◌≡◌, ◌≤◌, ◌<◌, ◌+◌, ℕ, length, take, get_or, Bool, true, false, not, ◌&&◌, ◌||◌, cond, if◌then◌else◌, List, [], ◌∷◌, ◌++◌, filter, refl, sym, ap, subst, ◌∙◌, Option, None, Some, append_assoc}
use Rattle.std.specs.Bool.{Decides}
use Rattle.std.specs.List.{IsDistinct, AllByRecursion, list_any}
use Rattle.std.specs.Map.{keys_of}
use Rattle.std.specs.Option.{is_some}
use Rattle.std.proofs.lemmas.Bool.{and_parts}
use Rattle.std.proofs.lemmas.Cmp.{nat_list_eq_equiv}
use Rattle.std.proofs.lemmas.List.{map-append, append-nil, take_all, take_more}
use Rattle.std.proofs.lemmas.List.Folds.{list_any-append}
use Rattle.std.proofs.lemmas.Map.Entries.{lookup-filter-keys}
use Rattle.std.proofs.lemmas.Map.Keys.{IsDistinct-push, IsDistinct-head, IsDistinct-tail}
use Rattle.std.proofs.lemmas.Map.Made.{is_some-lookup, IsDistinct-keys_filter}
use Rattle.sig_rules.specs.declared.method.Method.{Method}
use Rattle.sig_rules.specs.Methods.{same_word}
use Rattle.sig_rules.specs.Worlds.{by_name}
use Rattle.line_members.specs.Along.{IsListed, IsTaken, or_behind}
use Rattle.line_members.proofs.WordLemmas.{same_both_ways, same_of_itself, true_not_false, word_decides}

-- what is found in two lists
pub by_name-append : {V : Type 0} (xs ys : List (List ℕ × V)) (name : List ℕ) → by_name (xs ++ ys) name ≡ or_behind (by_name xs name) (by_name ys name)
by_name-append [] ys name = refl
by_name-append (x ∷ xs) ys name = one (same_word name x.0) (by_name-append xs ys name)
  where
    one : (b : Bool) → by_name (xs ++ ys) name ≡ or_behind (by_name xs name) (by_name ys name) →
        cond b (Some x.1) (by_name (xs ++ ys) name) ≡ or_behind (cond b (Some x.1) (by_name xs name)) (by_name ys name)
    one true behind = refl
    one false behind = behind

-- what is found among those whose names pass
pub by_name-filter : {V : Type 0} (p : List ℕ → Bool) (es : List (List ℕ × V)) (name : List ℕ) →
    by_name (filter (λ (e : List ℕ × V). p e.0) es) name ≡ (if p name then by_name es name else None)
by_name-filter p es name = lookup-filter-keys (same_word name) p (p name) (λ k is. ap p (sym ((word_decides name k).0 is))) es

-- ---- two lists of names, each once, and none in both

none_equal : (y : List ℕ) (ys : List (List ℕ)) → AllByRecursion (λ z. same_word y z ≡ false) ys → list_any (same_word y) ys ≡ false
none_equal y [] h = refl
none_equal y (z ∷ ys) h = ap (λ b. b || list_any (same_word y) ys) h.0 ∙ none_equal y ys h.1

or_right : (a b : Bool) → b ≡ true → (a || b) ≡ true
or_right true b there = refl
or_right false b there = there

distinct_both : (xs ys : List (List ℕ)) → IsDistinct same_word xs → IsDistinct same_word ys →
    ((k : List ℕ) → list_any (same_word k) ys ≡ true → list_any (same_word k) xs ≡ false) → IsDistinct same_word (xs ++ ys)
distinct_both xs [] first second apart = subst (IsDistinct same_word) (sym (append-nil xs)) first
distinct_both xs (y ∷ ys) first second apart =
    subst (IsDistinct same_word) (append_assoc xs (y ∷ []) ys)
    (distinct_both (xs ++ y ∷ []) ys
    (IsDistinct-push nat_list_eq_equiv xs y first (apart y (ap (λ b. b || list_any (same_word y) ys) (same_of_itself y))))
    (IsDistinct-tail same_word y ys second)
    (λ k there. list_any-append (same_word k) xs (y ∷ [])
    ∙ ap (λ b. b || (same_word k y || false)) (apart k (or_right (same_word k y) (list_any (same_word k) ys) there))
    ∙ not_first k there (same_word k y) (word_decides k y)))
  where
    not_first : (k : List ℕ) → list_any (same_word k) ys ≡ true → (b : Bool) → Decides b (k ≡ y) → (b || false) ≡ false
    not_first k there true same = absurd (true_not_false (sym (sym (none_equal y ys (IsDistinct-head same_word y ys second)) ∙ ap (λ n. list_any (same_word n) ys) (sym (same.0 refl)) ∙ there)))
    not_first k there false other = refl

-- ---- own entries before those of other names

none_there : {V : Type 0} (o : Option V) → is_some o ≡ false → o ≡ None
none_there None none = refl
none_there (Some v) none = absurd (true_not_false none)

-- entries of some names and those of all others behind them
pub own_in_front : {V : Type 0} (has : List ℕ → Bool) (found : List ℕ → Option V) (own behind both : List (List ℕ × V)) →
    IsListed (λ name. if has name then found name else None) own → IsDistinct same_word (keys_of behind) →
    both ≡ own ++ filter (λ (e : List ℕ × V). not (has e.0)) behind →
    IsListed (λ name. if has name then found name else by_name behind name) both
own_in_front {V} has found own behind both listed once is = subst (λ (es : List (List ℕ × V)). IsListed (λ name. if has name then found name else by_name behind name) es) (sym is) (record {
  same = λ name.
      by_name-append own others name
      ∙ ap (or_behind (by_name own name)) (by_name-filter (λ n. not (has n)) behind name)
      ∙ ap (λ (o : Option V). or_behind o (if not (has name) then by_name behind name else None)) (listed.same name)
      ∙ by_test (has name) (found name) (by_name behind name);
  once = subst (IsDistinct same_word) (sym (map-append (λ (e : List ℕ × V). e.0) own others))
      (distinct_both (keys_of own) (keys_of others) listed.once (IsDistinct-keys_filter same_word (λ (e : List ℕ × V). not (has e.0)) behind once) apart);
})
  where
    others : List (List ℕ × V)
    others = filter (λ (e : List ℕ × V). not (has e.0)) behind

    or_none : (o : Option V) → or_behind o None ≡ o
    or_none None = refl
    or_none (Some v) = refl

    by_test : (b : Bool) (o behind : Option V) → or_behind (if b then o else None) (if not b then behind else None) ≡ (if b then o else behind)
    by_test true o behind = or_none o
    by_test false o behind = refl

    not_both : (b : Bool) (o behind : Option V) → is_some (if not b then behind else None) ≡ true → is_some (if b then o else None) ≡ false
    not_both true o behind there = absurd (true_not_false (sym there))
    not_both false o behind there = refl

    apart : (k : List ℕ) → list_any (same_word k) (keys_of others) ≡ true → list_any (same_word k) (keys_of own) ≡ false
    apart k there =
        sym (is_some-lookup (same_word k) own)
        ∙ ap is_some (listed.same k)
        ∙ not_both (has k) (found k) (by_name behind k)
        (ap is_some (sym (by_name-filter (λ n. not (has n)) behind k)) ∙ is_some-lookup (same_word k) others ∙ there)

-- ---- what is found of some names is taken out of a table

-- at the start nothing is taken
pub nothing_taken : (found : List (List ℕ × Method)) → IsTaken (by_name found) (λ name. false) [] found
unfolding IsDistinct
nothing_taken found = record { is_own = λ name. refl; is_left = λ name. refl; once = tt }

-- a name of which nothing is left
pub none_taken : (found : List ℕ → Option Method) (seen : List ℕ → Bool) (own left after : List (List ℕ × Method)) (name : List ℕ) →
    by_name left name ≡ None → after ≡ left → IsTaken found seen own left → IsTaken found (λ other. same_word other name || seen other) own after
none_taken found seen own left after name none same taken = record {
  is_own = λ other. taken.is_own other ∙ here other (same_word other name) (word_decides other name) (seen other) refl;
  is_left = λ other. ap (λ (es : List (List ℕ × Method)). by_name es other) same ∙ taken.is_left other ∙ gone other (same_word other name) (word_decides other name) (seen other) refl;
  once = taken.once;
}
  where
    -- what is found of the name, if it wasn't seen
    nothing : (other : List ℕ) → other ≡ name → seen other ≡ false → found other ≡ None
    nothing other at is = sym (ap (λ b. if b then None else found other) is) ∙ sym (taken.is_left other) ∙ ap (by_name left) at ∙ none

    here : (other : List ℕ) (b : Bool) → Decides b (other ≡ name) → (c : Bool) → seen other ≡ c → (if c then found other else None) ≡ (if b || c then found other else None)
    here other true same true is = refl
    here other true same false is = sym (nothing other (same.0 refl) is)
    here other false apart c is = refl

    gone : (other : List ℕ) (b : Bool) → Decides b (other ≡ name) → (c : Bool) → seen other ≡ c → (if c then None else found other) ≡ (if b || c then None else found other)
    gone other true same true is = refl
    gone other true same false is = nothing other (same.0 refl) is
    gone other false apart c is = refl

-- a name of which something is left
pub one_taken : (found : List ℕ → Option Method) (seen : List ℕ → Bool) (own all left after : List (List ℕ × Method)) (name : List ℕ) (entry : List ℕ × Method) →
    entry.0 ≡ name → by_name left name ≡ Some entry.1 →
    ((other : List ℕ) → by_name after other ≡ (if same_word name other then None else by_name left other)) →
    all ≡ own ++ entry ∷ [] → IsTaken found seen own left → IsTaken found (λ other. same_word other name || seen other) all after
one_taken found seen own all left after name entry named there took pushed taken = subst (λ (es : List (List ℕ × Method)). IsTaken found (λ other. same_word other name || seen other) es after) (sym pushed) (record {
  is_own = λ other.
      by_name-append own (entry ∷ []) other
      ∙ ap (λ n. or_behind (by_name own other) (cond (same_word other n) (Some entry.1) None)) named
      ∙ ap (λ (o : Option Method). or_behind o (cond (same_word other name) (Some entry.1) None)) (taken.is_own other)
      ∙ here other (same_word other name) (word_decides other name) (seen other) refl;
  is_left = λ other.
      took other
      ∙ ap (λ b. if b then None else by_name left other) (same_both_ways name other)
      ∙ ap (λ (o : Option Method). if same_word other name then None else o) (taken.is_left other)
      ∙ gone (same_word other name) (seen other) (found other);
  once = subst (IsDistinct same_word) (sym (map-append (λ (e : List ℕ × Method). e.0) own (entry ∷ [])))
      (IsDistinct-push nat_list_eq_equiv (keys_of own) entry.0 taken.once
      (sym (is_some-lookup (same_word entry.0) own) ∙ ap (λ n. is_some (by_name own n)) named ∙ ap is_some (taken.is_own name ∙ unseen (seen name) refl)));
})
  where
    -- the name wasn't seen
    unseen : (c : Bool) → seen name ≡ c → (if c then found name else None) ≡ None
    unseen true is = absurd (no (sym there ∙ taken.is_left name ∙ ap (λ b. if b then None else found name) is))
      where
        no : Some entry.1 ≡ None → ⊥
        no is = cc
    unseen false is = refl

    is_found : (c : Bool) → seen name ≡ c → Some entry.1 ≡ found name
    is_found true is = absurd (no (sym there ∙ taken.is_left name ∙ ap (λ b. if b then None else found name) is))
      where
        no : Some entry.1 ≡ None → ⊥
        no is = cc
    is_found false is = sym there ∙ taken.is_left name ∙ ap (λ b. if b then None else found name) is

    or_there : (o p : Option Method) → p ≡ o → or_behind o p ≡ o
    or_there None p is = is
    or_there (Some m) p is = refl

    or_none : (o : Option Method) → or_behind o None ≡ o
    or_none None = refl
    or_none (Some m) = refl

    here : (other : List ℕ) (b : Bool) → Decides b (other ≡ name) → (c : Bool) → seen other ≡ c →
        or_behind (if c then found other else None) (cond b (Some entry.1) None) ≡ (if b || c then found other else None)
    here other true same true is = or_there (found other) (Some entry.1) (is_found (seen name) refl ∙ ap found (sym (same.0 refl)))
    here other true same false is = is_found (seen name) refl ∙ ap found (sym (same.0 refl))
    here other false apart true is = or_none (found other)
    here other false apart false is = refl

    gone : (b c : Bool) (o : Option Method) → (if b then None else (if c then None else o)) ≡ (if b || c then None else o)
    gone true c o = refl
    gone false c o = refl

-- one name more among those that were seen
pub seen_more : {W : Type 0} (names : List (List ℕ × W)) (e : List ℕ × W) (other : List ℕ) →
    is_some (by_name (names ++ e ∷ []) other) ≡ (same_word other e.0 || is_some (by_name names other))
seen_more {W} names e other = ap is_some (by_name-append names (e ∷ []) other) ∙ one (same_word other e.0) (by_name names other)
  where
    one : (b : Bool) (o : Option W) → is_some (or_behind o (cond b (Some e.1) None)) ≡ (b || is_some o)
    one true None = refl
    one true (Some w) = refl
    one false None = refl
    one false (Some w) = refl

-- one name more, by its place
pub taken_more : {W : Type 0} (found : List ℕ → Option Method) (names : List (List ℕ × W)) (i : ℕ) (e : List ℕ × W) (own left : List (List ℕ × Method)) → i < length names → e ≡ get_or names i e →
    IsTaken found (λ other. same_word other e.0 || is_some (by_name (take i names) other)) own left → IsTaken found (λ other. is_some (by_name (take (i + 1) names) other)) own left
taken_more {W} found names i e own left within is taken =
    subst (λ (seen : List ℕ → Bool). IsTaken found seen own left)
    (λ j other. (sym (seen_more (take i names) e other) ∙ ap (λ (es : List (List ℕ × W)). is_some (by_name es other)) (sym (take_more names i e within ∙ ap (λ (x : List ℕ × W). take i names ++ x ∷ []) (sym is)))) j) taken

-- all names are seen
pub all_taken : {W : Type 0} (found : List ℕ → Option Method) (names : List (List ℕ × W)) (n : ℕ) (own left : List (List ℕ × Method)) → length names ≤ n →
    IsTaken found (λ other. is_some (by_name (take n names) other)) own left → IsListed (λ name. if is_some (by_name names name) then found name else None) own
all_taken {W} found names n own left past taken =
    subst (λ (es : List (List ℕ × W)). IsListed (λ name. if is_some (by_name es name) then found name else None) own) (take_all n names past) (record { same = taken.is_own; once = taken.once })

-- ---- copies of some entries

-- an entry of which there is a copy, or none is wanted
pub copy_kept : (has : List ℕ → Bool) (copies : List (List ℕ × Method)) (e : List ℕ × Method) → (has e.0 && not (is_some (by_name copies e.0))) ≡ false →
    (name : List ℕ) (rest : List (List ℕ × Method)) → has name ≡ true → or_behind (by_name copies name) (by_name rest name) ≡ or_behind (by_name copies name) (by_name (e ∷ rest) name)
copy_kept has copies e there name rest wanted = by_test (same_word name e.0) (word_decides name e.0)
  where
    first : (o x y : Option Method) → (true && not (is_some o)) ≡ false → or_behind o x ≡ or_behind o y
    first None x y none = absurd (true_not_false none)
    first (Some m) x y none = refl

    by_test : (b : Bool) → Decides b (name ≡ e.0) → or_behind (by_name copies name) (by_name rest name) ≡ or_behind (by_name copies name) (cond b (Some e.1) (by_name rest name))
    by_test true same = first (by_name copies name) (by_name rest name) (Some e.1)
        (ap (λ b. b && not (is_some (by_name copies name))) (sym wanted) ∙ ap (λ n. has n && not (is_some (by_name copies n))) (same.0 refl) ∙ there)
    by_test false other = refl

-- an entry of which there is a copy now
pub copy_put : (has : List ℕ → Bool) (copies after : List (List ℕ × Method)) (e : List ℕ × Method) (word : List ℕ) (copy : Method) → (has e.0 && not (is_some (by_name copies e.0))) ≡ true →
    word ≡ e.0 → copy ≡ e.1 → ((other : List ℕ) → by_name after other ≡ (if same_word word other then Some copy else by_name copies other)) →
    (name : List ℕ) (rest : List (List ℕ × Method)) → has name ≡ true → or_behind (by_name after name) (by_name rest name) ≡ or_behind (by_name copies name) (by_name (e ∷ rest) name)
copy_put has copies after e word copy missing is_word is_copy put name rest wanted =
    ap (λ (o : Option Method). or_behind o (by_name rest name))
    (put name ∙ ap (λ b. if b then Some copy else by_name copies name) (same_both_ways word name ∙ ap (same_word name) is_word) ∙ ap (λ (m : Method). if same_word name e.0 then Some m else by_name copies name) is_copy)
    ∙ by_test (same_word name e.0) (word_decides name e.0)
  where
    none : (o : Option Method) → not (is_some o) ≡ true → o ≡ None
    none None is = refl
    none (Some m) is = absurd (true_not_false (sym is))

    by_test : (b : Bool) → Decides b (name ≡ e.0) → or_behind (if b then Some e.1 else by_name copies name) (by_name rest name) ≡ or_behind (by_name copies name) (cond b (Some e.1) (by_name rest name))
    by_test true same = sym (ap (λ (o : Option Method). or_behind o (Some e.1))
        (ap (by_name copies) (same.0 refl) ∙ none (by_name copies e.0) (and_parts (has e.0) (not (is_some (by_name copies e.0))) missing).1))
    by_test false other = refl
