-- Declarations sorted by their names: for each name those that count, in order, and beside them those that don't.
use Rattle.std.specs.Prelude.{◌≡◌, ℕ, Bool, true, false, zero, suc, List, [], ◌∷◌, ◌++◌, map, Option, Some, length, slice_get, slice_index_or}
use Rattle.std.specs.List.{list_any}
use Rattle.std.specs.List.Sorted.{IsStrictlySortedBy}
use Rattle.std.specs.Option.{option_and_then}
use Rattle.std.specs.Cmp.Lexicographic.{slice_cmp}
use Rattle.std.specs.Ordering.{nat_cmp}
use Rattle.std.specs.declared.cmp.Ordering.{Ordering}
use Rattle.rbs_tree.specs.declared.names.TypeName.{TypeName}
use Rattle.rbs_tree.specs.declared.decls.Decl.{Decl}
use Rattle.rbs_tree.specs.declared.decls.Member.{Member}
use Rattle.rbs_tree.specs.declared.decls.TypeParam.{TypeParam}
use Rattle.rbs_tree.specs.declared.decls.Decl.TheOpen.{Decl-F}
use Rattle.rbs_tree.specs.declared.decls.Decl.TheViews.{out-Decl}
use Rattle.sig_rules.specs.declared.files.Declared.{Declared}
use Rattle.sig_rules.specs.declared.sorted.Place.{Place}
use Rattle.sig_rules.specs.declared.sorted.Place.TheVariants as place
use Rattle.sig_rules.specs.declared.sorted.Sorted.{Sorted}
use Rattle.sig_rules.specs.Declarations.{Path, same_path, same_marks, goes_with, full_name, declared_path, declared_names, entries, somes}

-- the order of names, by their words
abbrev pub path_cmp : Path → Path → Ordering
path_cmp = slice_cmp (slice_cmp nat_cmp)

-- the words of names
abbrev pub paths_of : List TypeName → List Path
paths_of = map (λ (name : TypeName). name.path)

-- whether a name is among others
abbrev pub is_among : List TypeName → Path → Bool
is_among names path = list_any (same_path path) (paths_of names)

-- whether a declaration is of a class with these type parameters
abbrev pub goes_with_class : List TypeParam → Decl → Bool
goes_with_class params other = layer params (out-Decl other)
  where
    layer : List TypeParam → Decl-F Decl Member → Bool
    layer params (Decl-F.Class name params2 superclass2 members2) = same_marks params params2
    layer params _ = false

-- whether a declaration is of a module with these type parameters
abbrev pub goes_with_module : List TypeParam → Decl → Bool
goes_with_module params other = layer params (out-Decl other)
  where
    layer : List TypeParam → Decl-F Decl Member → Bool
    layer params (Decl-F.Module name params2 self_types2 members2) = same_marks params params2
    layer params _ = false

-- whether a declaration counts behind those of its name that do
abbrev pub counts_beside : List Declared → Declared → Bool
counts_beside [] other = true
counts_beside (first ∷ others) other = goes_with first.decl other.decl

-- what stands at a place
abbrev pub at_place : List (List Declared) → List Declared → Place → Option Declared
at_place groups others (place.Counting group at) = option_and_then (λ (g : List Declared). slice_get g at) (slice_get groups group)
at_place groups others (place.Other at) = slice_get others at

-- what stands at all places
abbrev pub whole : Sorted → List (Option Declared)
whole s = map (at_place s.groups.items s.others) s.places

-- Declarations are sorted so.
pub record Sorts (s : Sorted) (all : List Declared) : Type 0 where
  -- the names rise, so that each stands there once
  pub rising : IsStrictlySortedBy path_cmp (paths_of s.names)
  -- they are full names
  pub full : s.names ≡ map full_name (paths_of s.names)
  -- beside each name stand its declarations that count
  pub grouped : s.groups.items ≡ map (λ (name : TypeName). entries all name.path) s.names
  -- there are no others
  pub named : (path : Path) → is_among s.names path ≡ false → entries all path ≡ []
  -- each declaration has its place
  pub placed : whole s ≡ map (λ (d : Declared). Some d) all

-- the names of declarations, rising, each once
pub record AreNames (all : List Declared) (names : List TypeName) : Type 0 where
  pub rising : IsStrictlySortedBy path_cmp (paths_of names)
  pub full : names ≡ map full_name (paths_of names)
  pub same : (path : Path) → is_among names path ≡ list_any (same_path path) (somes (map declared_path all))
  pub count : length names ≡ length (declared_names all)

-- with one more declaration in the group at a place
abbrev pub put_in : ℕ → Declared → List (List Declared) → List (List Declared)
put_in at d [] = []
put_in zero d (group ∷ groups) = (group ++ d ∷ []) ∷ groups
put_in (suc at) d (group ∷ groups) = group ∷ put_in at d groups

-- one more declaration, which counts
pub record PutsIn (old new : Sorted) (group : ℕ) (d : Declared) : Type 0 where
  pub names : new.names ≡ old.names
  pub groups : new.groups.items ≡ put_in group d old.groups.items
  pub others : new.others ≡ old.others
  pub places : new.places ≡ old.places ++ place.Counting group (length (slice_index_or old.groups.items group [])) ∷ []

-- one more declaration, which doesn't count
pub record PutsAside (old new : Sorted) (d : Declared) : Type 0 where
  pub names : new.names ≡ old.names
  pub groups : new.groups.items ≡ old.groups.items
  pub others : new.others ≡ old.others ++ d ∷ []
  pub places : new.places ≡ old.places ++ place.Other (length old.others) ∷ []

-- the name of a declaration is among the names
abbrev pub HasName : Sorted → Declared → Type 0
HasName s d = (path : Path) → declared_path d ≡ Some path → is_among s.names path ≡ true

-- one more declaration whose name is among the names
abbrev pub SortsOneMore : Sorted → Sorted → Declared → Type 0
SortsOneMore old new d = (all : List Declared) → Sorts old all → HasName old d → Sorts new (all ++ d ∷ [])
