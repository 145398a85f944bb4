-- More turns than enough change no line of ancestors.
use Rattle.std.proofs.Common.{◌≡◌, ◌∙◌, ℕ, zero, suc, ◌+◌, ◌≤◌, Bool, true, false, ◌&&◌, ◌||◌, if◌then◌else◌, List, [], ◌∷◌, length, map, filter, Option, Some, None, refl, sym, ap, subst, arith}
use Rattle.std.specs.List.{list_any, AllByRecursion, IsDistinct}
use Rattle.std.proofs.lemmas.Bool.{or_parts, true≢false}
use Rattle.std.proofs.lemmas.Map.Keys.{IsDistinct-cons}
use Rattle.std.proofs.lemmas.Map.Made.{length-le_from_is_member}
use Rattle.rbs_tree.specs.declared.decls.Member.{Member}
use Rattle.rbs_tree.specs.declared.decls.Ref.{Ref}
use Rattle.sig_rules.specs.declared.files.Declared.{Declared}
use Rattle.sig_rules.specs.declared.line.Applied.{Applied}
use Rattle.sig_rules.specs.declared.line.Kind.{Kind}
use Rattle.sig_rules.specs.declared.line.Kind.TheVariants.{Instance, Singleton}
use Rattle.sig_rules.specs.declared.line.Line.{Line}
use Rattle.sig_rules.specs.Declarations.{Path, same_path, declared_path, declares, entries, somes, without_clashes}
use Rattle.sig_rules.specs.Lines.{Trail, behind_instances, behind_singletons, brought, extend_of, followed_by, in_a_row, include_of, instances, is_on, left_out, mixed_in, one_step, prepend_of, same_kind, singletons, turns}
use Rattle.sig_rules.proofs.EntryLemmas.{declares_none, declares_own}
use Rattle.sig_rules.proofs.OrderLemmas.{path_decides, path_equivalence}

-- ---- declared names

abbrev pub is_declared : List Declared → Path → Bool
is_declared all path = list_any (same_path path) (somes (map declared_path all))

skips : (path : Path) (d : Declared) (all : List Declared) → declares path d ≡ false → filter (declares path) all ≡ [] → filter (declares path) (d ∷ all) ≡ []
skips path d all other none = ap (λ b. if b then d ∷ filter (declares path) all else filter (declares path) all) other ∙ none

none_declares : (all : List Declared) (path : Path) → is_declared all path ≡ false → filter (declares path) all ≡ []
none_declares [] path absent = refl
none_declares (d ∷ all) path absent = by (declared_path d) refl absent (none_declares all path)
  where
    by : (r : Option Path) → declared_path d ≡ r → list_any (same_path path) (somes (r ∷ map declared_path all)) ≡ false → (is_declared all path ≡ false → filter (declares path) all ≡ []) → filter (declares path) (d ∷ all) ≡ []
    by None is gone rest = skips path d all (declares_none path d is) (rest gone)
    by (Some own) is gone rest =
        let parts = or_parts (same_path path own) (is_declared all path) gone in
        skips path d all (declares_own path own d is ∙ parts.0) (rest parts.1)

-- a name that isn't declared has no declarations
no_entries : (all : List Declared) (path : Path) → is_declared all path ≡ false → entries all path ≡ []
no_entries all path absent = ap without_clashes (none_declares all path absent)

somes-length : (all : List Declared) → length (somes (map declared_path all)) ≤ length all
somes-length [] = omega arith
somes-length (d ∷ all) = by (declared_path d) (somes-length all)
  where
    by : (r : Option Path) → length (somes (map declared_path all)) ≤ length all → length (somes (r ∷ map declared_path all)) ≤ suc (length all)
    by None rest = omega arith
    by (Some own) rest = omega arith

-- ---- nothing stands behind a name without declarations

none_mixed_in : (all : List Declared) (refs : Member → List Ref) (a : Applied) → entries all a.name.path ≡ [] → mixed_in all refs a ≡ []
none_mixed_in all refs a none = rw none refl

no_instances_behind : (all : List Declared) (a : Applied) → entries all a.name.path ≡ [] → behind_instances all a ≡ []
no_instances_behind all a none = rw none refl

no_singletons_behind : (all : List Declared) (a : Applied) → entries all a.name.path ≡ [] → behind_singletons all a ≡ []
no_singletons_behind all a none = rw none refl

-- ---- trails

-- the names on a trail in one kind, the last first
abbrev pub names_in : Kind → Trail → List Path
names_in kind [] = []
names_in kind (p ∷ trail) = if same_kind p.1 kind then p.0 ∷ names_in kind trail else names_in kind trail

-- different names, each declared
pub record EachOnce (all : List Declared) (names : List Path) : Type 0 where
  pub distinct : IsDistinct same_path names
  pub declared : (q : Path) → list_any (same_path q) names ≡ true → is_declared all q ≡ true

-- a trail has each declared name once in each kind at most
abbrev pub GoodTrail : List Declared → Trail → Type 0
GoodTrail all trail = (kind : Kind) → EachOnce all (names_in kind trail)

no_names : (all : List Declared) → EachOnce all []
unfolding IsDistinct
no_names all = record { distinct = tt; declared = λ q there. absurd (true≢false (sym there)) }

pub no_trail : (all : List Declared) → GoodTrail all []
no_trail all kind = no_names all

all_apart : (path : Path) (names : List Path) → list_any (same_path path) names ≡ false → AllByRecursion (λ y. same_path path y ≡ false) names
all_apart path [] absent = tt
all_apart path (name ∷ names) absent =
    let parts = or_parts (same_path path name) (list_any (same_path path) names) absent in
    (parts.0, all_apart path names parts.1)

one_name_more : (all : List Declared) (path : Path) (names : List Path) → EachOnce all names → list_any (same_path path) names ≡ false → is_declared all path ≡ true → EachOnce all (path ∷ names)
one_name_more all path names each absent own = record {
  distinct = IsDistinct-cons same_path path names (all_apart path names absent) each.distinct;
  declared = λ q there. by q (same_path q path) refl there;
}
  where
    by : (q : Path) (b : Bool) → same_path q path ≡ b → (b || list_any (same_path q) names) ≡ true → is_declared all q ≡ true
    by q true is there = subst (λ p. is_declared all p ≡ true) (sym ((path_decides q path).0 is)) own
    by q false is there = each.declared q there

and_true : (b : Bool) → (b && true) ≡ b
and_true true = refl
and_true false = refl

and_false : (b : Bool) → (b && false) ≡ false
and_false true = refl
and_false false = refl

on_one_more : (name path : Path) (b on : Bool) (names : List Path) → on ≡ list_any (same_path path) names → ((same_path name path && b) || on) ≡ list_any (same_path path) (if b then name ∷ names else names)
on_one_more name path true on names rest = let here = and_true (same_path name path) ∙ path_equivalence.symm name path in λ i. here i || rest i
on_one_more name path false on names rest = let here = and_false (same_path name path) in λ i. here i || rest i

-- a name is on a trail in a kind if it is among those names
on_among : (trail : Trail) (path : Path) (kind : Kind) → is_on trail path kind ≡ list_any (same_path path) (names_in kind trail)
on_among [] path kind = refl
on_among (p ∷ trail) path kind = on_one_more p.0 path (same_kind p.1 kind) (is_on trail path kind) (names_in kind trail) (on_among trail path kind)

-- a trail stays good where a declared name that isn't on it comes onto it
goes_on : (all : List Declared) (trail : Trail) (path : Path) (kind : Kind) → GoodTrail all trail → is_on trail path kind ≡ false → is_declared all path ≡ true → GoodTrail all ((path, kind) ∷ trail)
goes_on all trail path Instance good off own Instance = one_name_more all path (names_in Instance trail) (good Instance) (sym (on_among trail path Instance) ∙ off) own
goes_on all trail path Instance good off own Singleton = good Singleton
goes_on all trail path Singleton good off own Instance = good Instance
goes_on all trail path Singleton good off own Singleton = one_name_more all path (names_in Singleton trail) (good Singleton) (sym (on_among trail path Singleton) ∙ off) own

-- a trail is as long as its names in one kind and those in the other
both_kinds : (trail : Trail) → length trail ≡ length (names_in Instance trail) + length (names_in Singleton trail)
both_kinds [] = omega arith
both_kinds (p ∷ trail) = by p.0 p.1 (names_in Instance trail) (names_in Singleton trail) (both_kinds trail)
  where
    by : (name : Path) (kind : Kind) (xs ys : List Path) → length trail ≡ length xs + length ys → suc (length trail) ≡ length (if same_kind kind Instance then name ∷ xs else xs) + length (if same_kind kind Singleton then name ∷ ys else ys)
    by name Instance xs ys rest = omega arith
    by name Singleton xs ys rest = omega arith

so_many : (all : List Declared) (names : List Path) → EachOnce all names → length names ≤ length all
so_many all names each =
    let among = length-le_from_is_member path_equivalence names (somes (map declared_path all)) each.distinct each.declared in
    let within = somes-length all in
    omega arith

-- a good trail is shorter than there are turns
too_long : (all : List Declared) (trail : Trail) → GoodTrail all trail → turns all ≤ 0 + length trail → ⊥
too_long all trail good over =
    let first = so_many all (names_in Instance trail) (good Instance) in
    let second = so_many all (names_in Singleton trail) (good Singleton) in
    let whole = both_kinds trail in
    omega arith

-- ---- one turn more

-- the lines of what stands behind a name, if they are the same wherever that name is declared
same_lines : (all : List Declared) (path : Path) (f g : Applied → Line) (children : List Applied) → (is_declared all path ≡ true → (x : Applied) → f x ≡ g x) → (entries all path ≡ [] → children ≡ []) → in_a_row (map f children) ≡ in_a_row (map g children)
same_lines all path f g children same none = by (is_declared all path) refl
  where
    by : (b : Bool) → is_declared all path ≡ b → in_a_row (map f children) ≡ in_a_row (map g children)
    by true own = let each = same own in λ i. in_a_row (map (λ x. each x i) children)
    by false absent =
        let empty = none (no_entries all path absent) in
        ap (λ xs. in_a_row (map f xs)) empty ∙ sym (ap (λ xs. in_a_row (map g xs)) empty)

unless_on : (b : Bool) (x y z : Line) → (b ≡ false → y ≡ z) → (if b then x else y) ≡ (if b then x else z)
unless_on true x y z same = refl
unless_on false x y z same = same refl

brought_settles : (all : List Declared) (n : ℕ) (trail : Trail) (a : Applied) → GoodTrail all trail → turns all ≤ n + length trail → brought (suc n) all trail a ≡ brought n all trail a
brought_settles all zero trail a good enough = absurd (too_long all trail good enough)
brought_settles all (suc n) trail a good enough = unless_on (is_on trail a.name.path Instance) left_out _ _ (λ off.
    let path = a.name.path in
    let further : Trail = (path, Instance) ∷ trail in
    let left : turns all ≤ n + length further = omega arith in
    let next : is_declared all path ≡ true → (x : Applied) → brought (suc n) all further x ≡ brought n all further x = λ own x. brought_settles all n further x (goes_on all trail path Instance good off own) left in
    let prepended = same_lines all path (brought (suc n) all further) (brought n all further) (mixed_in all prepend_of a) next (none_mixed_in all prepend_of a) in
    let included = same_lines all path (brought (suc n) all further) (brought n all further) (mixed_in all include_of a) next (none_mixed_in all include_of a) in
    λ i. followed_by (prepended i) (followed_by (one_step path Instance a.args) (included i)))

pub instances_settle : (all : List Declared) (n : ℕ) (trail : Trail) (a : Applied) → GoodTrail all trail → turns all ≤ n + length trail → instances (suc n) all trail a ≡ instances n all trail a
instances_settle all zero trail a good enough = absurd (too_long all trail good enough)
instances_settle all (suc n) trail a good enough = unless_on (is_on trail a.name.path Instance) left_out _ _ (λ off.
    let path = a.name.path in
    let further : Trail = (path, Instance) ∷ trail in
    let left : turns all ≤ n + length further = omega arith in
    let next : is_declared all path ≡ true → (x : Applied) → instances (suc n) all further x ≡ instances n all further x = λ own x. instances_settle all n further x (goes_on all trail path Instance good off own) left in
    let own = brought_settles all (suc n) trail a good enough in
    let behind = same_lines all path (instances (suc n) all further) (instances n all further) (behind_instances all a) next (no_instances_behind all a) in
    λ i. followed_by (own i) (behind i))

pub singletons_settle : (all : List Declared) (n : ℕ) (trail : Trail) (a : Applied) → GoodTrail all trail → turns all ≤ n + length trail → singletons (suc n) all trail a ≡ singletons n all trail a
singletons_settle all zero trail a good enough = absurd (too_long all trail good enough)
singletons_settle all (suc n) trail a good enough = unless_on (is_on trail a.name.path Singleton) left_out _ _ (λ off.
    let path = a.name.path in
    let further : Trail = (path, Singleton) ∷ trail in
    let left : turns all ≤ n + length further = omega arith in
    let next : is_declared all path ≡ true → (x : Applied) → brought (suc n) all further x ≡ brought n all further x = λ own x. brought_settles all n further x (goes_on all trail path Singleton good off own) left in
    let next_behind : is_declared all path ≡ true → (x : Applied) → singletons (suc n) all further x ≡ singletons n all further x = λ own x. singletons_settle all n further x (goes_on all trail path Singleton good off own) left in
    let extended = same_lines all path (brought (suc n) all further) (brought n all further) (mixed_in all extend_of a) next (none_mixed_in all extend_of a) in
    let behind = same_lines all path (singletons (suc n) all further) (singletons n all further) (behind_singletons all a) next_behind (no_singletons_behind all a) in
    λ i. followed_by (one_step path Singleton []) (followed_by (extended i) (behind i)))

-- ---- any number of turns more

pub same_instances : (all : List Declared) (more : ℕ) (a : Applied) → instances (turns all + more) all [] a ≡ instances (turns all) all [] a
same_instances all zero a =
    let same : turns all + zero ≡ turns all = omega arith in
    ap (λ n. instances n all [] a) same
same_instances all (suc more) a =
    let one : turns all + suc more ≡ suc (turns all + more) = omega arith in
    let enough : turns all ≤ (turns all + more) + 0 = omega arith in
    ap (λ n. instances n all [] a) one ∙ instances_settle all (turns all + more) [] a (no_trail all) enough ∙ same_instances all more a

pub same_singletons : (all : List Declared) (more : ℕ) (a : Applied) → singletons (turns all + more) all [] a ≡ singletons (turns all) all [] a
same_singletons all zero a =
    let same : turns all + zero ≡ turns all = omega arith in
    ap (λ n. singletons n all [] a) same
same_singletons all (suc more) a =
    let one : turns all + suc more ≡ suc (turns all + more) = omega arith in
    let enough : turns all ≤ (turns all + more) + 0 = omega arith in
    ap (λ n. singletons n all [] a) one ∙ singletons_settle all (turns all + more) [] a (no_trail all) enough ∙ same_singletons all more a
