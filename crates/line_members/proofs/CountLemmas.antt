-- How many methods a table has that tells of each name what is found along a line.
use Rattle.std.proofs.Common.{◌≡◌, ℕ, zero, suc, Bool, true, false, not, ◌&&◌, ◌||◌, if◌then◌else◌, List, [], ◌∷◌, ◌++◌, length, map, filter, codes, refl, sym, ap, subst, ◌∙◌, Option, None, Some}
use Rattle.std.specs.Bool.{Decides}
use Rattle.std.specs.List.{IsDistinct, list_any, flat_map}
use Rattle.std.specs.Map.{keys_of}
use Rattle.std.specs.Option.{is_some}
use Rattle.std.specs.Set.{is_member, unique_keys}
use Rattle.std.proofs.lemmas.List.{length-map}
use Rattle.std.proofs.lemmas.List.Folds.{list_any-append}
use Rattle.std.proofs.lemmas.Map.Made.{is_some-lookup, length-from_keys}
use Rattle.std.proofs.lemmas.Map.Views.{any-filter_same}
use Rattle.std.proofs.lemmas.Cmp.{nat_list_eq_equiv}
use Rattle.sig_rules.specs.declared.files.Declared.{Declared}
use Rattle.sig_rules.specs.declared.given.GivenMethod.{GivenMethod}
use Rattle.sig_rules.specs.declared.line.Kind.{Kind}
use Rattle.sig_rules.specs.declared.line.Kind.TheVariants.{Instance, Singleton}
use Rattle.sig_rules.specs.declared.line.Step.{Step}
use Rattle.sig_rules.specs.declared.method.Method.{Method}
use Rattle.sig_rules.specs.Counts.{methods_count, names_along, names_on, words_once}
use Rattle.sig_rules.specs.Declarations.{Path}
use Rattle.sig_rules.specs.Given.{given_methods}
use Rattle.sig_rules.specs.Lines.{line}
use Rattle.sig_rules.specs.Methods.{Made, Placed, along, applied_of, declared_along, first_made, is_dead, living, living_after, made_on, method, new_made, nothing_made, of_name, or_else, placed_from, same_word}
use Rattle.sig_rules.specs.Methods as methods
use Rattle.sig_rules.specs.Worlds.{by_name}
use Rattle.line_members.proofs.WordLemmas.{true_not_false, word_decides}

-- ---- lists in which something is found

found_kept : {T : Type 0} (test p : T → Bool) (x : T) (xs : List T) (kept : Bool) →
    (list_any test (filter p xs) ≡ true → list_any test xs ≡ true) →
    list_any test (if kept then x ∷ filter p xs else filter p xs) ≡ true → (test x || list_any test xs) ≡ true
found_kept test p x xs true behind there = by_first (test x) there
  where
    by_first : (b : Bool) → (b || list_any test (filter p xs)) ≡ true → (b || list_any test xs) ≡ true
    by_first true there = refl
    by_first false there = behind there
found_kept test p x xs false behind there = by_first (test x)
  where
    by_first : (b : Bool) → (b || list_any test xs) ≡ true
    by_first true = refl
    by_first false = behind there

-- what is found among those that are kept is found among all
any_kept : {T : Type 0} (test p : T → Bool) (xs : List T) → list_any test (filter p xs) ≡ true → list_any test xs ≡ true
any_kept test p [] there = there
any_kept test p (x ∷ xs) there = found_kept test p x xs (p x) (any_kept test p xs) there

pub or_left : (a b : Bool) → a ≡ true → (a || b) ≡ true
or_left a b there = ap (λ c. c || b) there

pub or_right : (a b : Bool) → b ≡ true → (a || b) ≡ true
or_right true b there = refl
or_right false b there = there

any_left : {T : Type 0} (test : T → Bool) (xs ys : List T) → list_any test xs ≡ true → list_any test (xs ++ ys) ≡ true
any_left test xs ys there = list_any-append test xs ys ∙ or_left (list_any test xs) (list_any test ys) there

any_right : {T : Type 0} (test : T → Bool) (xs ys : List T) → list_any test ys ≡ true → list_any test (xs ++ ys) ≡ true
any_right test xs ys there = list_any-append test xs ys ∙ or_right (list_any test xs) (list_any test ys) there

pub any_map : {S T : Type 0} (f : S → T) (test : T → Bool) (xs : List S) → list_any test (map f xs) ≡ list_any (λ x. test (f x)) xs
any_map f test [] = refl
any_map f test (x ∷ xs) = ap (λ b. test (f x) || b) (any_map f test xs)

-- ---- a name that lives is given

is_named : List ℕ → GivenMethod → Bool
is_named name g = same_word name g.name

any_living : (e : List ℕ → Bool) (name : List ℕ) (n : ℕ) (ps : List Placed) →
    list_any (λ (p : Placed). same_word name p.given.name) (living_after n e ps) ≡ true → list_any (λ (p : Placed). same_word name p.given.name) ps ≡ true
any_living e name zero ps there = there
any_living e name (suc n) ps there =
    any_kept (λ (p : Placed). same_word name p.given.name) (λ p. not (is_dead e ps p)) ps (any_living e name n (filter (λ p. not (is_dead e ps p)) ps) there)

pub any_placed_by : (test : GivenMethod → Bool) (n : ℕ) (gs : List GivenMethod) → list_any (λ (p : Placed). test p.given) (placed_from n gs) ≡ list_any test gs
any_placed_by test n [] = refl
any_placed_by test n (g ∷ gs) = ap (λ b. test g || b) (any_placed_by test (suc n) gs)

any_placed : (name : List ℕ) (n : ℕ) (gs : List GivenMethod) →
    list_any (λ (p : Placed). same_word name p.given.name) (placed_from n gs) ≡ list_any (λ (g : GivenMethod). same_word name g.name) gs
any_placed name n gs = any_placed_by (λ (g : GivenMethod). same_word name g.name) n gs

-- what is declared by a method that lives is given
pub living_is_given : (e : List ℕ → Bool) (name : List ℕ) (gs : List GivenMethod) →
    list_any (λ (g : GivenMethod). same_word name g.name) (living e gs) ≡ true → list_any (λ (g : GivenMethod). same_word name g.name) gs ≡ true
living_is_given e name gs there =
    sym (any_placed name 0 gs)
    ∙ any_living e name (length gs) (placed_from 0 gs) (sym (any_map (λ (p : Placed). p.given) (λ (g : GivenMethod). same_word name g.name) (living_after (length gs) e (placed_from 0 gs))) ∙ there)

pub of_name_found : (name : List ℕ) (gs : List GivenMethod) (g : GivenMethod) (more : List GivenMethod) →
    of_name name gs ≡ g ∷ more → list_any (λ (h : GivenMethod). same_word name h.name) gs ≡ true
of_name_found name [] g more is = absurd (let no : [] ≡ g ∷ more = is in cc)
of_name_found name (h ∷ gs) g more is = by_test (same_word name h.name) (of_name_found name gs g more) is
  where
    by_test : (b : Bool) → (of_name name gs ≡ g ∷ more → list_any (λ (x : GivenMethod). same_word name x.name) gs ≡ true) →
        (if b then h ∷ of_name name gs else of_name name gs) ≡ g ∷ more → (b || list_any (λ (x : GivenMethod). same_word name x.name) gs) ≡ true
    by_test true behind is = refl
    by_test false behind is = behind is

-- ---- a name that is declared along a line is among the names that are given there

abbrev found_at : List Declared → Made → Step → List Step → List ℕ → Bool
found_at all made step steps other = methods.is_some (or_else (declared_along all made steps other) (first_made made (step ∷ steps) other))

abbrev given_at : List Declared → Step → List GivenMethod
given_at all step = given_methods all (applied_of all step) step.kind

-- where no declaration of a name lives at a step, what is behind it is found
none_here : (all : List Declared) (made : Made) (step : Step) (steps : List Step) (name : List ℕ) →
    of_name name (living (found_at all made step steps) (given_at all step)) ≡ [] → declared_along all made (step ∷ steps) name ≡ declared_along all made steps name
none_here all made step steps name none = rw none refl

declared_is_given : (all : List Declared) (made : Made) (steps : List Step) (name : List ℕ) →
    methods.is_some (declared_along all made steps name) ≡ true → list_any (same_word name) (flat_map (names_on all) steps) ≡ true
declared_is_given all made [] name there = absurd (let no : false ≡ true = there in cc)
declared_is_given all made (step ∷ steps) name there = by_declared (of_name name (living (found_at all made step steps) (given_at all step))) refl (declared_is_given all made steps name)
  where
    by_declared : (xs : List GivenMethod) → of_name name (living (found_at all made step steps) (given_at all step)) ≡ xs →
        (methods.is_some (declared_along all made steps name) ≡ true → list_any (same_word name) (flat_map (names_on all) steps) ≡ true) →
        list_any (same_word name) (names_on all step ++ flat_map (names_on all) steps) ≡ true
    by_declared [] is behind = any_right (same_word name) (names_on all step) (flat_map (names_on all) steps)
        (behind (subst (λ (m : Option Method). methods.is_some m ≡ true) (none_here all made step steps name is) there))
    by_declared (g ∷ more) is behind = any_left (same_word name) (names_on all step) (flat_map (names_on all) steps)
        (any_map (λ (h : GivenMethod). h.name) (same_word name) (given_at all step)
        ∙ living_is_given (found_at all made step steps) name (given_at all step)
        (of_name_found name (living (found_at all made step steps) (given_at all step)) g more is))

-- ---- nothing but `new` is made

pub first_of_other : (made : Made) → ((step : Step) (name : List ℕ) → same_word name (codes "new") ≡ false → made step name ≡ None) →
    (steps : List Step) (name : List ℕ) → same_word name (codes "new") ≡ false → first_made made steps name ≡ None
first_of_other made only [] name other = refl
first_of_other made only (step ∷ steps) name other = ap (λ m. or_else m (first_made made steps name)) (only step name other) ∙ first_of_other made only steps name other

or_none : (m : Option Method) → or_else m None ≡ m
or_none None = refl
or_none (Some m) = refl

pub same_is_some : (m : Option Method) → methods.is_some m ≡ is_some m
same_is_some None = refl
same_is_some (Some m) = refl

-- ---- the count

made_only_new : (all : List Declared) (kind : Kind) (step : Step) (name : List ℕ) → same_word name (codes "new") ≡ false → made_on all kind step name ≡ None
made_only_new all Instance step name other = refl
made_only_new all Singleton step name other = rw other refl

-- a name with a method is `new`, or given along the line
with_method_is_given : (all : List Declared) (path : Path) (kind : Kind) (name : List ℕ) →
    methods.is_some (method all path kind name) ≡ true → list_any (same_word name) (names_along all path kind) ≡ true
with_method_is_given all path kind name there = by_test (same_word name (codes "new")) refl
  where
    steps : List Step
    steps = (line all path kind).steps

    by_test : (b : Bool) → same_word name (codes "new") ≡ b → (b || list_any (same_word name) (flat_map (names_on all) steps)) ≡ true
    by_test true is = refl
    by_test false is = declared_is_given all (made_on all kind) steps name
        (subst (λ (m : Option Method). methods.is_some m ≡ true)
        (ap (or_else (declared_along all (made_on all kind) steps name)) (first_of_other (made_on all kind) (made_only_new all kind) steps name is) ∙ or_none (declared_along all (made_on all kind) steps name)) there)

and_of : (a b : Bool) → (a ≡ true → b ≡ true) → a ≡ (a && b)
and_of true b there = sym (there refl)
and_of false b there = refl

once_unique : (words : List (List ℕ)) → words_once words ≡ unique_keys same_word words
once_unique [] = refl
once_unique (word ∷ words) = ap (λ (ws : List (List ℕ)). if list_any (same_word word) words then ws else word ∷ ws) (once_unique words)

-- a table with each name once that tells of each name what is found has as many entries as there are methods
pub table_count : (all : List Declared) (path : Path) (kind : Kind) (entries : List (List ℕ × Method)) →
    IsDistinct same_word (keys_of entries) → ((name : List ℕ) → by_name entries name ≡ method all path kind name) →
    length entries ≡ methods_count all path kind
table_count all path kind entries distinct tells =
    sym (length-map entries (λ (e : List ℕ × Method). e.0))
    ∙ length-from_keys nat_list_eq_equiv (keys_of entries) (filter has names) distinct same
    ∙ ap (λ (ws : List (List ℕ)). length ws) (sym (once_unique (filter has names)))
  where
    has : List ℕ → Bool
    has name = methods.is_some (method all path kind name)

    names : List (List ℕ)
    names = names_along all path kind

    same : (q : List ℕ) → is_member same_word (keys_of entries) q ≡ is_member same_word (filter has names) q
    same q =
        sym (is_some-lookup (same_word q) entries)
        ∙ ap is_some (tells q) ∙ sym (same_is_some (method all path kind q))
        ∙ and_of (has q) (list_any (same_word q) names) (with_method_is_given all path kind q)
        ∙ sym (any-filter_same (same_word q) has (has q) (λ k is. ap has (sym ((word_decides q k).0 is))) names)
