-- What tables have of names.
use Rattle.std.proofs.Common.{◌≡◌, ◌∙◌, ℕ, ◌+◌, ◌<◌, ◌≤◌, ◌||◌, inl, inr, Bool, true, false, true≢false, List, [], ◌∷◌, ◌++◌, if◌then◌else◌, length, get_or, map, take, filter, codes, Option, Some, None, Result, Ok, IfOk, refl, sym, ap, subst, arith}
use Rattle.std.specs.List.{list_any, flat_map}
use Rattle.std.specs.List.Sorted.{IsPermutation}
use Rattle.std.specs.Map.{lookup}
use Rattle.std.specs.Option.{option_map}
use Rattle.std.proofs.lemmas.List.{map-append, map_more}
use Rattle.std.proofs.lemmas.Result.{IfOk-at_ok}
use Rattle.src_text.specs.declared.memory.NoMemory.{NoMemory}
use Rattle.std.proofs.lemmas.List.Folds.{list_any-append}
use Rattle.std.proofs.lemmas.List.Sorted.{IsPermutation-map, list_any-IsPermutation}
use Rattle.rbs_tree.specs.declared.names.TypeName.{TypeName}
use Rattle.sig_rules.specs.declared.files.Declared.{Declared}
use Rattle.sig_rules.specs.declared.limits.BuildFault.{BuildFault}
use Rattle.sig_rules.specs.declared.limits.BuildFault.TheVariants as fault
use Rattle.sig_rules.specs.declared.line.Kind.{Kind}
use Rattle.sig_rules.specs.declared.line.Kind.TheVariants.{Instance, Singleton}
use Rattle.sig_rules.specs.declared.line.Line.{Line}
use Rattle.sig_rules.specs.declared.method.Definition.{Definition}
use Rattle.sig_rules.specs.declared.sort.Sort.{Sort}
use Rattle.sig_rules.specs.declared.sort.Sort.TheVariants as sorts
use Rattle.sig_rules.specs.Counts.{IsBuildFault, methods_count, most_methods, names_on, words_once}
use Rattle.sig_rules.specs.Declarations.{Path, declared_names, entries, same_path}
use Rattle.sig_rules.specs.Lines.{instance_line, is_self_type, line, no_line, singleton_line}
use Rattle.sig_rules.specs.Methods.{along, is_some, new_made}
use Rattle.sig_rules.specs.Sorted.{paths_of}
use Rattle.sig_rules.specs.Types.{sort}
use Rattle.sig_rules.specs.Worlds.{Defines, IsDefinition, IsShape, line_of}
use Rattle.sig_rules.proofs.OrderLemmas.{path_decides, path_equivalence}
use Rattle.line_members.specs.declared.sides.Side.{Side}
use Rattle.line_members.specs.Sides.{Describes}
use Rattle.definitions.specs.declared.sides.Sides.{Sides}
use Rattle.definitions.specs.Tables.{AreDefinitions, AreLines, Holds, HoldsOf, IsAlias, IsFewShape, IsHad, IsSound, IsTooMany, Puts, PutsFound, definition_on, has_lines, has_sides, is_interface, line_on, side_on}
use Rattle.definitions.proofs.NameLemmas.{undeclared}

-- a key that is the same
pub puts_at : {V : Type 0} (old new : List (Path × V)) (key path : Path) (value : V) → key ≡ path → Puts same_path old new key value → Puts same_path old new path value
puts_at old new key path value is puts = subst (λ k. Puts same_path old new k value) is puts

-- ---- one name more

module _ {V : Type 0} (is : Path → Option V → Type 0) where
  moved : (path p : Path) (o : Option V) → same_path path p ≡ true → is p o → is path o
  moved path p o same own = subst (λ q. is q o) (sym ((path_decides path p).0 same)) own

  had_none : (a b : Bool) (path p : Path) (o : Option V) → same_path path p ≡ b → IsHad is a path o → is p None → IsHad is (a || (b || false)) path o
  had_none true b path p o same had own = had
  had_none false true path p o same had own = subst (is path) (sym had) (moved path p None same own)
  had_none false false path p o same had own = had

  had_some : (a b : Bool) (path p : Path) (o : Option V) (v : V) → same_path path p ≡ b → IsHad is a path o → is p (Some v) → IsHad is (a || (b || false)) path (if b then Some v else o)
  had_some true true path p o v same had own = moved path p (Some v) same own
  had_some true false path p o v same had own = had
  had_some false true path p o v same had own = moved path p (Some v) same own
  had_some false false path p o v same had own = had

  among_more : (paths : List Path) (path p : Path) (o : Option V) → IsHad is (list_any (same_path path) paths || (same_path path p || false)) path o → IsHad is (list_any (same_path path) (paths ++ p ∷ [])) path o
  among_more paths path p o had = subst (λ b. IsHad is b path o) (sym (list_any-append (same_path path) paths (p ∷ []))) had

  -- a table of one name more
  pub holds_more : (paths : List Path) (old new : List (Path × V)) (p : Path) (found : Option V) → HoldsOf is paths old → is p found → PutsFound old new p found → HoldsOf is (paths ++ p ∷ []) new
  holds_more paths old new p None holds own same path =
      among_more paths path p (lookup (same_path path) new)
      (subst (λ es. IsHad is (list_any (same_path path) paths || (same_path path p || false)) path (lookup (same_path path) es)) (sym same)
      (had_none (list_any (same_path path) paths) (same_path path p) path p (lookup (same_path path) old) refl (holds path) own))
  holds_more paths old new p (Some v) holds own puts path =
      let there : lookup (same_path path) new ≡ (if same_path path p then Some v else lookup (same_path path) old) =
      puts path ∙ ap (λ b. if b then Some v else lookup (same_path path) old) (path_equivalence.symm p path)
      in
      among_more paths path p (lookup (same_path path) new)
      (subst (λ o. IsHad is (list_any (same_path path) paths || (same_path path p || false)) path o) (sym there)
      (had_some (list_any (same_path path) paths) (same_path path p) path p (lookup (same_path path) old) v refl (holds path) own))

  -- what a loop over names has, one name later
  pub holds_next : (list : List TypeName) (i : ℕ) (name : TypeName) (old new : List (Path × V)) (found : Option V) → i < length list → name ≡ get_or list i name → HoldsOf is (paths_of (take i list)) old → is name.path found → PutsFound old new name.path found → HoldsOf is (paths_of (take (i + 1) list)) new
  holds_next list i name old new found within same holds own puts =
      let more : paths_of (take (i + 1) list) ≡ paths_of (take i list) ++ name.path ∷ [] =
      map_more (λ (n : TypeName). n.path) list i name within ∙ ap (λ (n : TypeName). paths_of (take i list) ++ n.path ∷ []) (sym same)
      in
      subst (λ ps. HoldsOf is ps new) (sym more) (holds_more (paths_of (take i list)) old new name.path found holds own puts)

  -- the same of a loop over items, each with a name
  pub holds_next_of : {A : Type 0} (name_of : A → TypeName) (items : List A) (i : ℕ) (item : A) (old new : List (Path × V)) (found : Option V) → i < length items → item ≡ get_or items i item → HoldsOf is (paths_of (map name_of (take i items))) old → is (name_of item).path found → PutsFound old new (name_of item).path found → HoldsOf is (paths_of (map name_of (take (i + 1) items))) new
  holds_next_of name_of items i item old new found within same holds own puts =
      let more : paths_of (map name_of (take (i + 1) items)) ≡ paths_of (map name_of (take i items)) ++ (name_of item).path ∷ [] =
      ap paths_of (map_more name_of items i item within)
      ∙ map-append (λ (n : TypeName). n.path) (map name_of (take i items)) (name_of (get_or items i item) ∷ [])
      ∙ ap (λ a. paths_of (map name_of (take i items)) ++ (name_of a).path ∷ []) (sym same)
      in
      subst (λ ps. HoldsOf is ps new) (sym more) (holds_more (paths_of (map name_of (take i items))) old new (name_of item).path found holds own puts)

  pub holds_nothing : HoldsOf is [] []
  holds_nothing path = refl

  -- the names in another order
  pub holds_permuted : (list others : List TypeName) (entries : List (Path × V)) → IsPermutation list others → HoldsOf is (paths_of others) entries → HoldsOf is (paths_of list) entries
  holds_permuted list others entries same holds path =
      subst (λ b. IsHad is b path (lookup (same_path path) entries))
      (sym (list_any-IsPermutation (same_path path) (paths_of list) (paths_of others) (IsPermutation-map (λ (n : TypeName). n.path) list others same)))
      (holds path)

  had_is : (b : Bool) (path : Path) (o : Option V) (v : V) → o ≡ Some v → IsHad is b path o → is path (Some v)
  had_is true path o v there had = subst (is path) there had
  had_is false path o v there had = absurd (let no : None ≡ Some v = sym had ∙ there in cc)

  -- what such a table has is so
  pub sound : (paths : List Path) (entries : List (Path × V)) → HoldsOf is paths entries → IsSound is entries
  sound paths entries holds path v there = had_is (list_any (same_path path) paths) path (lookup (same_path path) entries) v there (holds path)

  had_all : (b : Bool) (path : Path) (o : Option V) → IsHad is b path o → (b ≡ false → is path None) → is path o
  had_all true path o had none = had
  had_all false path o had none = subst (is path) (sym had) (none refl)

  -- a table of all declared names
  pub holds_all : (all : List Declared) (paths : List Path) (table : List (Path × V)) → paths ≡ declared_names all → ((path : Path) → entries all path ≡ [] → is path None) → HoldsOf is paths table → Holds is table
  holds_all all paths table same none holds path = had_all (list_any (same_path path) paths) path (lookup (same_path path) table) (holds path) (λ other. none path (undeclared all path (ap (λ ps. list_any (same_path path) ps) (sym same) ∙ other)))

-- items in another order have the same names in another order
pub permuted_names : {A : Type 0} (name_of : A → TypeName) (list : List TypeName) (old new : List A) → map name_of old ≡ list → IsPermutation old new → IsPermutation list (map name_of new)
permuted_names name_of list old new same moved = subst (λ (names : List TypeName). IsPermutation names (map name_of new)) same (IsPermutation-map name_of old new moved)

-- ---- what a name has

sort_none : (all : List Declared) (path : Path) → entries all path ≡ [] → sort all path ≡ sorts.Other
sort_none all path none = rw none refl

line_none : (all : List Declared) (path : Path) (kind : Kind) → sort all path ≡ sorts.Other → line_of all path kind ≡ None
line_none all path kind is = rw is refl

pub lines_none : (all : List Declared) (path : Path) → entries all path ≡ [] → AreLines all path None
lines_none all path none kind = sym (line_none all path kind (sort_none all path none))

pub line_some : (all : List Declared) (path : Path) (kind : Kind) (s : Sort) → sort all path ≡ s → has_lines s ≡ true → line_of all path kind ≡ Some (line all path kind)
line_some all path kind sorts.Class is has = rw is refl
line_some all path kind sorts.Module is has = rw is refl
line_some all path kind sorts.Interface is has = rw is refl
line_some all path kind sorts.Alias is has = absurd (true≢false (sym has))
line_some all path kind sorts.Other is has = absurd (true≢false (sym has))

pub both_sides : (all : List Declared) (path : Path) (lines : Line × Line) (first second : Result Line NoMemory) → first ≡ Ok lines.0 → second ≡ Ok lines.1 → IfOk first (λ l. l ≡ instance_line all path) → IfOk second (λ l. l ≡ singleton_line all path) → (kind : Kind) → option_map (line_on kind) (Some lines) ≡ Some (line all path kind)
both_sides all path lines first second one other instance singleton Instance = ap Some (IfOk-at_ok (λ l. l ≡ instance_line all path) one instance)
both_sides all path lines first second one other instance singleton Singleton = ap Some (IfOk-at_ok (λ l. l ≡ singleton_line all path) other singleton)

pub lines_some : (all : List Declared) (path : Path) (lines : Option (Line × Line)) (s : Sort) → sort all path ≡ s → has_lines s ≡ true → ((kind : Kind) → option_map (line_on kind) lines ≡ Some (line all path kind)) → AreLines all path lines
lines_some all path lines s is has are kind = are kind ∙ sym (line_some all path kind s is has)

pub lines_other : (all : List Declared) (path : Path) (s : Sort) → sort all path ≡ s → has_lines s ≡ false → AreLines all path None
lines_other all path sorts.Class is other kind = absurd (true≢false other)
lines_other all path sorts.Module is other kind = absurd (true≢false other)
lines_other all path sorts.Interface is other kind = absurd (true≢false other)
lines_other all path sorts.Alias is other kind = rw is refl
lines_other all path sorts.Other is other kind = rw is refl

-- the line that a name has
pub line_there : (all : List Declared) (path : Path) (kind : Kind) (l : Line) (s : Sort) → sort all path ≡ s → line_of all path kind ≡ Some l → l ≡ line all path kind
line_there all path kind l sorts.Class is there = let same : Some l ≡ Some (line all path kind) = sym there ∙ line_some all path kind sorts.Class is refl in cc
line_there all path kind l sorts.Module is there = let same : Some l ≡ Some (line all path kind) = sym there ∙ line_some all path kind sorts.Module is refl in cc
line_there all path kind l sorts.Interface is there = let same : Some l ≡ Some (line all path kind) = sym there ∙ line_some all path kind sorts.Interface is refl in cc
line_there all path kind l sorts.Alias is there = absurd (let no : None ≡ Some l = lines_other all path sorts.Alias is refl kind ∙ there in cc)
line_there all path kind l sorts.Other is there = absurd (let no : None ≡ Some l = lines_other all path sorts.Other is refl kind ∙ there in cc)

pub definitions_none : (all : List Declared) (path : Path) (s : Sort) → sort all path ≡ s → has_sides s ≡ false → AreDefinitions all path None
definitions_none all path s is other = record {
  sides = λ kind. undefined s is other kind;
  described = λ kind. tt;
  few = λ has. absurd (true≢false (sym has ∙ ap has_sides is ∙ other));
}
  where
    undefined : (s : Sort) → sort all path ≡ s → has_sides s ≡ false → (kind : Kind) → IsDefinition all path kind None
    undefined sorts.Class is other kind = absurd (true≢false other)
    undefined sorts.Module is other kind = absurd (true≢false other)
    undefined sorts.Interface is other kind = rw is refl
    undefined sorts.Alias is other kind = rw is refl
    undefined sorts.Other is other kind = rw is refl

-- what describes a side defines it
defined_by : (all : List Declared) (path : Path) (kind : Kind) (side : Side) → Describes all kind (line all path kind).steps side → Defines all path kind side.definition
defined_by all path kind side known = record { methods = known.methods; variables = known.variables }

pub definitions_some : (all : List Declared) (path : Path) (s : Sort) (sides : Sides) → sort all path ≡ s → has_sides s ≡ true → Describes all Instance (line all path Instance).steps sides.instance → Describes all Singleton (line all path Singleton).steps sides.singleton → methods_count all path Instance ≤ most_methods → methods_count all path Singleton ≤ most_methods → AreDefinitions all path (Some sides)
definitions_some all path s sides is has instance singleton few_instance few_singleton = record {
  sides = λ kind. defined s is has kind (definition_on kind sides) (defined_by all path kind (side_on kind sides) (on_side kind));
  described = λ kind. on_side kind;
  few = λ has kind. few_on kind;
}
  where
    on_side : (kind : Kind) → Describes all kind (line all path kind).steps (side_on kind sides)
    on_side Instance = instance
    on_side Singleton = singleton

    few_on : (kind : Kind) → methods_count all path kind ≤ most_methods
    few_on Instance = few_instance
    few_on Singleton = few_singleton

    defined : (s : Sort) → sort all path ≡ s → has_sides s ≡ true → (kind : Kind) (d : Definition) → Defines all path kind d → IsDefinition all path kind (Some d)
    defined sorts.Class is has kind d own = rw is own
    defined sorts.Module is has kind d own = rw is own
    defined sorts.Interface is has kind d own = absurd (true≢false (sym has))
    defined sorts.Alias is has kind d own = absurd (true≢false (sym has))
    defined sorts.Other is has kind d own = absurd (true≢false (sym has))

-- a side that is in a table
pub described_in : (all : List Declared) (entries : List (Path × Sides)) (path : Path) (kind : Kind) (sides : Sides) → IsSound (AreDefinitions all) entries → lookup (same_path path) entries ≡ Some sides → Describes all kind (line all path kind).steps (side_on kind sides)
described_in all entries path kind sides sound there = (sound path sides there).described kind

pub shape_none : (all : List Declared) (path : Path) (s : Sort) → sort all path ≡ s → is_interface s ≡ false → IsFewShape all path None
shape_none all path s is other = record {
  shape = shapeless s is other;
  few = λ has. absurd (true≢false (sym has ∙ ap is_interface is ∙ other));
}
  where
    shapeless : (s : Sort) → sort all path ≡ s → is_interface s ≡ false → IsShape all path None
    shapeless sorts.Class is other = rw is refl
    shapeless sorts.Module is other = rw is refl
    shapeless sorts.Interface is other = absurd (true≢false other)
    shapeless sorts.Alias is other = rw is refl
    shapeless sorts.Other is other = rw is refl

pub shape_some : (all : List Declared) (path : Path) (s : Sort) (d : Definition) → sort all path ≡ s → is_interface s ≡ true → Defines all path Instance d → methods_count all path Instance ≤ most_methods → IsFewShape all path (Some d)
shape_some all path s d is has own few = record { shape = shaped s is has; few = λ has. few }
  where
    shaped : (s : Sort) → sort all path ≡ s → is_interface s ≡ true → IsShape all path (Some d)
    shaped sorts.Class is has = absurd (true≢false (sym has))
    shaped sorts.Module is has = absurd (true≢false (sym has))
    shaped sorts.Interface is has = rw is own
    shaped sorts.Alias is has = absurd (true≢false (sym has))
    shaped sorts.Other is has = absurd (true≢false (sym has))

pub sides_fit : (s : Sort) → has_sides s ≡ true → is_self_type s ≡ true
sides_fit sorts.Class has = refl
sides_fit sorts.Module has = refl
sides_fit sorts.Interface has = absurd (true≢false (sym has))
sides_fit sorts.Alias has = absurd (true≢false (sym has))
sides_fit sorts.Other has = absurd (true≢false (sym has))

pub interface_fits : (s : Sort) → is_interface s ≡ true → is_self_type s ≡ true
interface_fits sorts.Class has = absurd (true≢false (sym has))
interface_fits sorts.Module has = absurd (true≢false (sym has))
interface_fits sorts.Interface has = refl
interface_fits sorts.Alias has = absurd (true≢false (sym has))
interface_fits sorts.Other has = absurd (true≢false (sym has))

pub definitions_absent : (all : List Declared) (path : Path) → entries all path ≡ [] → AreDefinitions all path None
definitions_absent all path none = definitions_none all path sorts.Other (sort_none all path none) refl

pub shape_absent : (all : List Declared) (path : Path) → entries all path ≡ [] → IsFewShape all path None
shape_absent all path none = shape_none all path sorts.Other (sort_none all path none) refl

pub alias_absent : (all : List Declared) (path : Path) → entries all path ≡ [] → IsAlias all path None
alias_absent all path none = rw none refl

-- ---- numbers of methods

no_singleton_line : (all : List Declared) (path : Path) → sort all path ≡ sorts.Interface → singleton_line all path ≡ no_line
no_singleton_line all path is = rw is refl

-- an interface itself has no methods
interface_itself : (all : List Declared) (path : Path) → sort all path ≡ sorts.Interface → methods_count all path Singleton ≡ 0
interface_itself all path is = ap (λ (l : Line). length (words_once (filter (λ name. is_some (along all (new_made all) l.steps name)) (codes "new" ∷ flat_map (names_on all) l.steps)))) (no_singleton_line all path is)

pub all_few : (all : List Declared) (definitions : List (Path × Sides)) (shapes : List (Path × Definition)) → Holds (AreDefinitions all) definitions → Holds (IsFewShape all) shapes → (path : Path) (kind : Kind) → is_self_type (sort all path) ≡ true → methods_count all path kind ≤ most_methods
all_few all definitions shapes defined shaped path kind fits = by_sort (sort all path) refl fits kind
  where
    by_sort : (s : Sort) → sort all path ≡ s → is_self_type s ≡ true → (kind : Kind) → methods_count all path kind ≤ most_methods
    by_sort sorts.Class is fits kind = (defined path).few (ap has_sides is) kind
    by_sort sorts.Module is fits kind = (defined path).few (ap has_sides is) kind
    by_sort sorts.Interface is fits Instance = (shaped path).few (ap is_interface is)
    by_sort sorts.Interface is fits Singleton = subst (λ n. n ≤ most_methods) (sym (interface_itself all path is)) (omega arith)
    by_sort sorts.Alias is fits kind = absurd (true≢false (sym fits))
    by_sort sorts.Other is fits kind = absurd (true≢false (sym fits))

-- ---- faults

pub too_many : (all : List Declared) (path : Path) (kinds : List Kind) (f : BuildFault) → IsBuildFault all path kinds f → IsTooMany all f
too_many all path [] (fault.Methods n) bad = absurd bad
too_many all path (kind ∷ kinds) (fault.Methods n) (inl here) = (here.1, record { path = path; kind = kind; count = here.0 })
too_many all path (kind ∷ kinds) (fault.Methods n) (inr later) = too_many all path kinds (fault.Methods n) later.1
too_many all path kinds fault.NoMemory is = tt
