-- What tables of lines have while they are made.
use Rattle.std.proofs.Common.{◌≡◌, ◌∙◌, ℕ, ◌+◌, ◌<◌, ◌≤◌, ◌||◌, Bool, true, false, true≢false, if◌then◌else◌, List, [], ◌∷◌, ◌++◌, length, get_or, take, Option, Some, None, IfSome, refl, sym, ap, subst}
use Rattle.std.specs.List.{list_any}
use Rattle.std.specs.Map.{lookup}
use Rattle.std.specs.Option.{is_some, option_map}
use Rattle.std.proofs.lemmas.List.{map_more, take_all}
use Rattle.std.proofs.lemmas.List.Folds.{list_any-append}
use Rattle.rbs_tree.specs.declared.names.TypeName.{TypeName}
use Rattle.sig_rules.specs.declared.files.Declared.{Declared}
use Rattle.sig_rules.specs.declared.line.Kind.{Kind}
use Rattle.sig_rules.specs.declared.line.Line.{Line}
use Rattle.sig_rules.specs.declared.sort.Sort.{Sort}
use Rattle.sig_rules.specs.declared.sort.Sort.TheVariants as sorts
use Rattle.sig_rules.specs.Declarations.{Path, declared_names, same_path}
use Rattle.sig_rules.specs.Lines.{line}
use Rattle.sig_rules.specs.Sorted.{paths_of}
use Rattle.sig_rules.specs.Types.{sort}
use Rattle.sig_rules.specs.Worlds.{line_of}
use Rattle.sig_rules.proofs.OrderLemmas.{path_decides, path_equivalence}
use Rattle.ancestors.specs.Known.{Knows}
use Rattle.definitions.specs.Tables.{AreLines, Holds, PutsFound, line_on}
use Rattle.definitions.specs.MadeLines.{IsSound, Keeps, MadeOf, line_at}
use Rattle.definitions.proofs.NameLemmas.{undeclared}
use Rattle.definitions.proofs.TableLemmas.{line_some, lines_none}

-- ---- one name more

moved : (all : List Declared) (path other : Path) (lines : Line × Line) → same_path path other ≡ true → AreLines all path (Some lines) → AreLines all other (Some lines)
moved all path other lines same are = subst (λ p. AreLines all p (Some lines)) ((path_decides path other).0 same) are

pub sound_nothing : (all : List Declared) → IsSound all []
sound_nothing all path = tt

pub put_sound : (all : List Declared) (old new : List (Path × (Line × Line))) (path : Path) (found : Option (Line × Line)) → IsSound all old → AreLines all path found → PutsFound old new path found → IsSound all new
put_sound all old new path None sound are same other = subst (λ table. IfSome (lookup (same_path other) table) (λ ls. AreLines all other (Some ls))) (sym same) (sound other)
put_sound all old new path (Some lines) sound are puts other = subst (λ (o : Option (Line × Line)). IfSome o (λ ls. AreLines all other (Some ls))) (sym (puts other)) (by (same_path path other) refl)
  where
    by : (b : Bool) → same_path path other ≡ b → IfSome (if b then Some lines else lookup (same_path other) old) (λ ls. AreLines all other (Some ls))
    by true same = moved all path other lines same are
    by false apart = sound other

pub put_keeps : (all : List Declared) (old new : List (Path × (Line × Line))) (path : Path) (found : Option (Line × Line)) → AreLines all path found → PutsFound old new path found → Keeps all old new
put_keeps all old new path None are same other had = subst (λ table. AreLines all other (lookup (same_path other) table)) (sym same) had
put_keeps all old new path (Some lines) are puts other had = subst (AreLines all other) (sym (puts other)) (by (same_path path other) refl)
  where
    by : (b : Bool) → same_path path other ≡ b → AreLines all other (if b then Some lines else lookup (same_path other) old)
    by true same = moved all path other lines same are
    by false apart = had

none_of : {V : Type 0} (o : Option V) → is_some o ≡ false → o ≡ None
none_of None is = refl
none_of (Some v) is = absurd (true≢false is)

pub put_made : (all : List Declared) (old new : List (Path × (Line × Line))) (path : Path) (found : Option (Line × Line)) → is_some (lookup (same_path path) old) ≡ false → AreLines all path found → PutsFound old new path found → AreLines all path (lookup (same_path path) new)
put_made all old new path None absent are same = subst (AreLines all path) (sym (ap (λ table. lookup (same_path path) table) same ∙ none_of (lookup (same_path path) old) absent)) are
put_made all old new path (Some lines) absent are puts =
    subst (AreLines all path) (sym (puts path ∙ ap (λ b. if b then Some lines else lookup (same_path path) old) (path_equivalence.refl path))) are

of_sound : (all : List Declared) (path : Path) (o : Option (Line × Line)) → IfSome o (λ ls. AreLines all path (Some ls)) → AreLines all path None → AreLines all path o
of_sound all path None sound none = none
of_sound all path (Some lines) sound none = sound

-- what is had of a name is so
pub had_made : (all : List Declared) (table : List (Path × (Line × Line))) (path : Path) → IsSound all table → is_some (lookup (same_path path) table) ≡ true → AreLines all path (lookup (same_path path) table)
had_made all table path sound there = by (lookup (same_path path) table) there (sound path)
  where
    by : (o : Option (Line × Line)) → is_some o ≡ true → IfSome o (λ ls. AreLines all path (Some ls)) → AreLines all path o
    by None there are = absurd (true≢false (sym there))
    by (Some lines) there are = are

-- ---- what is known

line_is : (all : List Declared) (path : Path) (kind : Kind) (l : Line) (s : Sort) → sort all path ≡ s → Some l ≡ line_of all path kind → l ≡ line all path kind
line_is all path kind l sorts.Class is there = let whole = there ∙ line_some all path kind sorts.Class is refl in cc
line_is all path kind l sorts.Module is there = let whole = there ∙ line_some all path kind sorts.Module is refl in cc
line_is all path kind l sorts.Interface is there = let whole = there ∙ line_some all path kind sorts.Interface is refl in cc
line_is all path kind l sorts.Alias is there = let none : line_of all path kind ≡ None = rw is refl in cc
line_is all path kind l sorts.Other is there = let none : line_of all path kind ≡ None = rw is refl in cc

-- the lines of a table that is so are known
pub sound_knows : (all : List Declared) (table : List (Path × (Line × Line))) → IsSound all table → Knows all (line_at table)
sound_knows all table sound path kind = by (lookup (same_path path) table) (sound path)
  where
    by : (o : Option (Line × Line)) → IfSome o (λ ls. AreLines all path (Some ls)) → IfSome (option_map (line_on kind) o) (λ l. l ≡ line all path kind)
    by None none = tt
    by (Some lines) are = line_is all path kind (line_on kind lines) (sort all path) refl (are kind)

-- ---- all names

pub made_nothing : (all : List Declared) (table : List (Path × (Line × Line))) → MadeOf all [] table
made_nothing all table path among = absurd (true≢false (sym among))

-- what a loop over names has made, one name later
pub made_next : (all : List Declared) (list : List TypeName) (i : ℕ) (name : TypeName) (old new : List (Path × (Line × Line))) → i < length list → name ≡ get_or list i name → MadeOf all (paths_of (take i list)) old → Keeps all old new → AreLines all name.path (lookup (same_path name.path) new) → MadeOf all (paths_of (take (i + 1) list)) new
made_next all list i name old new within same made keeps own path among =
    by (list_any (same_path path) (paths_of (take i list))) refl (sym (list_any-append (same_path path) (paths_of (take i list)) (name.path ∷ [])) ∙ sym (ap (λ ps. list_any (same_path path) ps) more) ∙ among)
  where
    more : paths_of (take (i + 1) list) ≡ paths_of (take i list) ++ name.path ∷ []
    more = map_more (λ (n : TypeName). n.path) list i name within ∙ ap (λ (n : TypeName). paths_of (take i list) ++ n.path ∷ []) (sym same)

    here : (b : Bool) → same_path path name.path ≡ b → (b || false) ≡ true → AreLines all path (lookup (same_path path) new)
    here true is one = subst (λ p. AreLines all p (lookup (same_path p) new)) (sym ((path_decides path name.path).0 is)) own
    here false is one = absurd (true≢false (sym one))

    by : (b : Bool) → list_any (same_path path) (paths_of (take i list)) ≡ b → (b || (same_path path name.path || false)) ≡ true → AreLines all path (lookup (same_path path) new)
    by true before any = keeps path (made path before)
    by false before any = here (same_path path name.path) refl any

-- all names of a list
pub made_list : (all : List Declared) (list : List TypeName) (i : ℕ) (table : List (Path × (Line × Line))) → length list ≤ i → MadeOf all (paths_of (take i list)) table → MadeOf all (paths_of list) table
made_list all list i table past made = subst (λ (names : List TypeName). MadeOf all (paths_of names) table) (take_all i list past) made

-- a table of all declared names
pub made_all : (all : List Declared) (paths : List Path) (table : List (Path × (Line × Line))) → paths ≡ declared_names all → IsSound all table → MadeOf all paths table → Holds (AreLines all) table
made_all all paths table same sound made path = by (list_any (same_path path) paths) refl
  where
    by : (b : Bool) → list_any (same_path path) paths ≡ b → AreLines all path (lookup (same_path path) table)
    by true among = made path among
    by false other = of_sound all path (lookup (same_path path) table) (sound path) (lines_none all path (undeclared all path (ap (λ ps. list_any (same_path path) ps) (sym same) ∙ other)))
