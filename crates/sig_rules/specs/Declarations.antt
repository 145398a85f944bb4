-- The declarations of signature files, each by itself, and those that count.
--
-- All declarations stand in one list: files in the order of their paths, and in a file in the text's order. What is nested in a
-- declaration stands behind it in the list, with the enclosing names, and no longer in it: a declaration has its own members alone.
use Rattle.std.specs.Prelude.{ℕ, Bool, true, false, not, ◌&&◌, ◌==◌, if◌then◌else◌, nat_eq, List, [], ◌∷◌, ◌++◌, map, filter, Option, Some, None}
use Rattle.std.specs.List.{list_any, flat_map}
use Rattle.std.specs.Option.{option_map}
use Rattle.std.specs.Cmp.Lexicographic.{pointwise}
use Rattle.rbs_tree.specs.declared.names.TypeName.{TypeName}
use Rattle.rbs_tree.specs.declared.decls.Decl.{Decl}
use Rattle.rbs_tree.specs.declared.decls.Member.{Member}
use Rattle.rbs_tree.specs.declared.decls.TypeParam.{TypeParam}
use Rattle.rbs_tree.specs.declared.decls.Sign.{Sign}
use Rattle.rbs_tree.specs.declared.decls.Sign.TheVariants as sign
use Rattle.rbs_tree.specs.declared.decls.Decl.TheOpen.{Decl-F, Member-F}
use Rattle.rbs_tree.specs.declared.decls.Decl.TheViews.{out-Decl, roll-Decl, roll-Member}
use Rattle.rbs_tree.specs.declared.decls.Decl.TheFolds.{fold-Decl, fold-Member}
use Rattle.sig_rules.specs.declared.files.FileTree.{FileTree}
use Rattle.sig_rules.specs.declared.files.Declared.{Declared}

-- ---- full names

-- the words of a full name: those of a class in a module are the module's and then its own
abbrev pub Path : Type 0
Path = List (List ℕ)

abbrev pub same_path : Path → Path → Bool
same_path = pointwise (pointwise nat_eq)

-- a full name: absolute, and with no place of its own
abbrev pub full_name : Path → TypeName
full_name path = record { absolute = true; path = path; at = record { start = 0; end = 0 } }

-- the words of the innermost enclosing name; at the top there are none
abbrev pub innermost : List TypeName → Path
innermost [] = []
innermost (name ∷ []) = name.path
innermost (name ∷ names) = innermost names

-- the words of a declared name, by the enclosing names, of which the last is the innermost
abbrev pub full_path : List TypeName → TypeName → Path
full_path context name = if name.absolute then name.path else innermost context ++ name.path

-- ---- the list of all declarations

-- the name of a declaration as it is written, where it has one
abbrev pub written_name : {A B : Type 0} → Decl-F A B → Option TypeName
written_name (Decl-F.Class name params superclass members) = Some name
written_name (Decl-F.Module name params self_types members) = Some name
written_name (Decl-F.Interface name params members) = Some name
written_name (Decl-F.Alias name params ty) = Some name
written_name (Decl-F.Constant name ty) = Some name
written_name (Decl-F.Global name at ty) = Some (record { absolute = true; path = name ∷ []; at = at })
written_name (Decl-F.Use clauses) = None
written_name (Decl-F.ClassAlias name target) = Some name
written_name (Decl-F.ModuleAlias name target) = Some name

-- What is found in a declaration: itself, with its own members alone, and all that is declared there, itself first, by the file's path
-- and the enclosing names.
pub record Found : Type 0 where
  pub own : Decl
  pub all : List ℕ → List TypeName → List Declared

-- What is found in a member: itself, if it is no declaration, and all that is declared there.
pub record FoundMember : Type 0 where
  pub own : Option Member
  pub all : List ℕ → List TypeName → List Declared

-- the members that are no declarations
abbrev pub own_members : List FoundMember → List Member
own_members [] = []
own_members (m ∷ ms) = and_own m.own (own_members ms)
  where
    and_own : Option Member → List Member → List Member
    and_own None rest = rest
    and_own (Some own) rest = own ∷ rest

-- a declaration that encloses no other
abbrev pub alone : Decl → Found
alone own = record { own = own; all = λ path context. record { path = path; context = context; decl = own } ∷ [] }

-- a declaration that encloses what is declared in its members
abbrev pub enclosing : TypeName → List FoundMember → Decl → Found
enclosing name members own = record {
  own = own;
  all = λ path context. record { path = path; context = context; decl = own }
      ∷ flat_map (λ (m : FoundMember). m.all path (context ++ full_name (full_path context name) ∷ [])) members;
}

abbrev pub found_step : Decl-F Found FoundMember → Found
found_step (Decl-F.Class name params superclass members) = enclosing name members (roll-Decl (Decl-F.Class name params superclass (own_members members)))
found_step (Decl-F.Module name params self_types members) = enclosing name members (roll-Decl (Decl-F.Module name params self_types (own_members members)))
found_step (Decl-F.Interface name params members) = enclosing name members (roll-Decl (Decl-F.Interface name params (own_members members)))
found_step (Decl-F.Alias name params ty) = alone (roll-Decl (Decl-F.Alias name params ty))
found_step (Decl-F.Constant name ty) = alone (roll-Decl (Decl-F.Constant name ty))
found_step (Decl-F.Global name at ty) = alone (roll-Decl (Decl-F.Global name at ty))
found_step (Decl-F.Use clauses) = alone (roll-Decl (Decl-F.Use clauses))
found_step (Decl-F.ClassAlias name target) = alone (roll-Decl (Decl-F.ClassAlias name target))
found_step (Decl-F.ModuleAlias name target) = alone (roll-Decl (Decl-F.ModuleAlias name target))

-- a member that is no declaration
abbrev pub plain_member : Member → FoundMember
plain_member own = record { own = Some own; all = λ path context. [] }

abbrev pub member_step : Member-F Found FoundMember → FoundMember
member_step (Member-F.Nested d) = record { own = None; all = d.all }
member_step (Member-F.Def name at side public overloads more) = plain_member (roll-Member (Member-F.Def name at side public overloads more))
member_step (Member-F.Attr name at side public reads writes variable ty) = plain_member (roll-Member (Member-F.Attr name at side public reads writes variable ty))
member_step (Member-F.Include r) = plain_member (roll-Member (Member-F.Include r))
member_step (Member-F.Extend r) = plain_member (roll-Member (Member-F.Extend r))
member_step (Member-F.Prepend r) = plain_member (roll-Member (Member-F.Prepend r))
member_step (Member-F.AliasOf new_name at old_name side) = plain_member (roll-Member (Member-F.AliasOf new_name at old_name side))
member_step Member-F.Public = plain_member (roll-Member Member-F.Public)
member_step Member-F.Private = plain_member (roll-Member Member-F.Private)
member_step (Member-F.Variable name at scope ty) = plain_member (roll-Member (Member-F.Variable name at scope ty))

abbrev pub found : Decl → Found
found = fold-Decl Found FoundMember found_step member_step

abbrev pub found_member : Member → FoundMember
found_member = fold-Member Found FoundMember found_step member_step

-- all that is declared in a file
abbrev pub declared_in : FileTree → List Declared
declared_in file = flat_map (λ (d : Decl). (found d).all file.path []) file.decls

-- all that is declared in files
abbrev pub declared_in_all : List FileTree → List Declared
declared_in_all = flat_map declared_in

-- ---- names

-- the words of the full name that is declared; of a `use` there is none
abbrev pub declared_path : Declared → Option Path
declared_path d = option_map (full_path d.context) (written_name (out-Decl d.decl))

abbrev pub declares : Path → Declared → Bool
declares path d = is_path (declared_path d)
  where
    is_path : Option Path → Bool
    is_path None = false
    is_path (Some other) = same_path path other

-- the names that are declared, each once
abbrev pub each_once : List Path → List Path
each_once [] = []
each_once (path ∷ paths) = if list_any (same_path path) paths then each_once paths else path ∷ each_once paths

abbrev pub somes : {A : Type 0} → List (Option A) → List A
somes [] = []
somes (None ∷ xs) = somes xs
somes (Some x ∷ xs) = x ∷ somes xs

abbrev pub declared_names : List Declared → List Path
declared_names all = each_once (somes (map declared_path all))

-- ---- those that count

abbrev pub same_bool : Bool → Bool → Bool
same_bool true b = b
same_bool false b = not b

abbrev pub sign_number : Sign → ℕ
sign_number sign.Unmarked = 0
sign_number sign.Covariant = 1
sign_number sign.Contravariant = 2

-- whether type parameters have the same marks in the same order, whatever their names are
abbrev pub same_marks : List TypeParam → List TypeParam → Bool
same_marks [] [] = true
same_marks (p ∷ ps) (q ∷ qs) = (same_bool p.unchecked q.unchecked && sign_number p.sign == sign_number q.sign) && same_marks ps qs
same_marks _ _ = false

-- Whether a declaration of the same name counts beside the first: classes beside a class and modules beside a module, of the same
-- parameters but for their names.
abbrev pub goes_with : Decl → Decl → Bool
goes_with first other = layers (out-Decl first) (out-Decl other)
  where
    layers : Decl-F Decl Member → Decl-F Decl Member → Bool
    layers (Decl-F.Class name params superclass members) (Decl-F.Class name2 params2 superclass2 members2) = same_marks params params2
    layers (Decl-F.Module name params self_types members) (Decl-F.Module name2 params2 self_types2 members2) = same_marks params params2
    layers _ _ = false

-- the first declaration of a name, and those that go with it; any other is a clash, and doesn't count
abbrev pub without_clashes : List Declared → List Declared
without_clashes [] = []
without_clashes (first ∷ others) = first ∷ filter (λ (d : Declared). goes_with first.decl d.decl) others

-- the declarations of a name that count
abbrev pub entries : List Declared → Path → List Declared
entries all path = without_clashes (filter (declares path) all)
