-- What is found along a line, by what is declared there and what is made.
use Rattle.std.proofs.Common.{◌≡◌, ℕ, ◌≤◌, Bool, true, false, not, ◌&&◌, cond, if◌then◌else◌, List, [], ◌∷◌, ◌++◌, drop, length, filter, codes, refl, sym, ap, subst, ◌∙◌, Option, None, Some, inl, arith}
use Rattle.std.specs.Bool.{Decides}
use Rattle.std.specs.List.{IsDistinct}
use Rattle.std.specs.Map.{keys_of}
use Rattle.std.specs.Option.{is_some}
use Rattle.std.proofs.lemmas.Bool.{and_parts}
use Rattle.std.proofs.lemmas.Cmp.{nat_list_eq_equiv}
use Rattle.std.proofs.lemmas.List.{append-nil, drop_all, map-append}
use Rattle.std.proofs.lemmas.Map.Keys.{IsDistinct-push}
use Rattle.std.proofs.lemmas.Map.Made.{is_some-lookup, IsDistinct-keys_filter}
use Rattle.rbs_tree.specs.declared.types.Ty.{Ty}
use Rattle.sig_rules.specs.declared.files.Declared.{Declared}
use Rattle.sig_rules.specs.declared.limits.BuildFault.{BuildFault}
use Rattle.sig_rules.specs.declared.limits.BuildFault.TheVariants as fault
use Rattle.sig_rules.specs.declared.line.Kind.{Kind}
use Rattle.sig_rules.specs.declared.line.Kind.TheVariants.{Instance, Singleton}
use Rattle.sig_rules.specs.declared.line.Step.{Step}
use Rattle.sig_rules.specs.declared.method.Method.{Method}
use Rattle.sig_rules.specs.Counts.{IsBuildFault, methods_count}
use Rattle.sig_rules.specs.Declarations.{Path}
use Rattle.sig_rules.specs.Lines.{line}
use Rattle.sig_rules.specs.Methods.{Made, along, declared_along, first_made, made_on, or_else, same_word, variable_along}
use Rattle.sig_rules.specs.Methods as methods
use Rattle.sig_rules.specs.Worlds.{Defines, by_name}
use Rattle.line_members.specs.declared.sides.Side.{Side}
use Rattle.line_members.specs.Along.{AddsMade, IsListed, made_knowing, named_new, or_behind}
use Rattle.line_members.specs.Sides.{Describes, IsTooManyAt, declared_entries}
use Rattle.line_members.proofs.CountLemmas.{first_of_other, same_is_some, table_count}
use Rattle.line_members.proofs.EntryLemmas.{by_name-append, by_name-filter}
use Rattle.line_members.proofs.MakingLemmas.{knowing_is_made}
use Rattle.line_members.proofs.WordLemmas.{true_not_false, word_decides}

-- ---- a `new` that is made

-- nothing but `new` is made
abbrev OnlyNew : Made → Type 0
OnlyNew made = (step : Step) (name : List ℕ) → same_word name (codes "new") ≡ false → made step name ≡ None

-- no `new` is made, or one is declared
pub adds_nothing : (made : Made) → OnlyNew made → (steps : List Step) (declared : List (List ℕ × Method)) →
    (methods.is_some (first_made made steps (codes "new")) && not (is_some (by_name declared (codes "new")))) ≡ false → AddsMade made steps declared declared false
adds_nothing made only steps declared needs = record {
  methods = λ name. or_same (by_name declared name) (first_made made steps name) (by_test name (same_word name (codes "new")) refl (word_decides name (codes "new")));
  is_declared = λ name. refl;
  once = λ once. once;
}
  where
    or_same : (m f : Option Method) → (methods.is_some f && not (is_some m)) ≡ false → m ≡ or_else m f
    or_same None None needs = refl
    or_same None (Some f) needs = absurd (true_not_false needs)
    or_same (Some m) f needs = refl

    by_test : (name : List ℕ) (b : Bool) → same_word name (codes "new") ≡ b → Decides b (name ≡ codes "new") →
        (methods.is_some (first_made made steps name) && not (is_some (by_name declared name))) ≡ false
    by_test name true is same = ap (λ n. methods.is_some (first_made made steps n) && not (is_some (by_name declared n))) (same.0 refl) ∙ needs
    by_test name false is other = ap (λ (m : Option Method). methods.is_some m && not (is_some (by_name declared name))) (first_of_other made only steps name is)

-- a `new` is made, and none is declared
pub adds_new : (made : Made) → OnlyNew made → (steps : List Step) (declared all : List (List ℕ × Method)) (new : Option Method) (makes : Bool) →
    (methods.is_some (first_made made steps (codes "new")) && not (is_some (by_name declared (codes "new")))) ≡ true →
    new ≡ first_made made steps (codes "new") → all ≡ declared ++ named_new new → makes ≡ is_some new → AddsMade made steps declared all makes
adds_new made only steps declared all new makes needs is_new is_all is_made = record {
  methods = λ name. in_both name ∙ or_same (by_name declared name) (by_name (named_new new) name) ∙ ap (or_else (by_name declared name)) (alone name (same_word name (codes "new")) refl (word_decides name (codes "new")));
  is_declared = λ name.
      ap (λ b. if b && same_word name (codes "new") then None else by_name all name) makes_it
      ∙ apart name (same_word name (codes "new")) refl (word_decides name (codes "new"));
  once = λ once. subst (λ (es : List (List ℕ × Method)). IsDistinct same_word (keys_of es)) (sym is_all) (with_one new once);
}
  where
    parts : (methods.is_some (first_made made steps (codes "new")) ≡ true) × (not (is_some (by_name declared (codes "new"))) ≡ true)
    parts = and_parts (methods.is_some (first_made made steps (codes "new"))) (not (is_some (by_name declared (codes "new")))) needs

    makes_it : makes ≡ true
    makes_it = is_made ∙ sym (same_is_some new) ∙ ap (λ (m : Option Method). methods.is_some m) is_new ∙ parts.0

    is_none : (m : Option Method) → not (is_some m) ≡ true → m ≡ None
    is_none None none = refl
    is_none (Some m) none = absurd (true_not_false (sym none))

    none : by_name declared (codes "new") ≡ None
    none = is_none (by_name declared (codes "new")) parts.1

    in_both : (name : List ℕ) → by_name all name ≡ or_behind (by_name declared name) (by_name (named_new new) name)
    in_both name = ap (λ (es : List (List ℕ × Method)). by_name es name) is_all ∙ by_name-append declared (named_new new) name

    or_same : (m other : Option Method) → or_behind m other ≡ or_else m other
    or_same None other = refl
    or_same (Some m) other = refl

    or_none : (m : Option Method) → or_behind m None ≡ m
    or_none None = refl
    or_none (Some m) = refl

    by_its_name : (m : Option Method) (name : List ℕ) → same_word name (codes "new") ≡ true → by_name (named_new m) name ≡ m
    by_its_name None name is = refl
    by_its_name (Some m) name is = ap (λ b. cond b (Some m) None) is

    by_another : (m : Option Method) (name : List ℕ) → same_word name (codes "new") ≡ false → by_name (named_new m) name ≡ None
    by_another None name is = refl
    by_another (Some m) name is = ap (λ b. cond b (Some m) None) is

    alone : (name : List ℕ) (b : Bool) → same_word name (codes "new") ≡ b → Decides b (name ≡ codes "new") → by_name (named_new new) name ≡ first_made made steps name
    alone name true is same = by_its_name new name is ∙ is_new ∙ ap (first_made made steps) (sym (same.0 refl))
    alone name false is other = by_another new name is ∙ sym (first_of_other made only steps name is)

    apart : (name : List ℕ) (b : Bool) → same_word name (codes "new") ≡ b → Decides b (name ≡ codes "new") → (if b then None else by_name all name) ≡ by_name declared name
    apart name true is same = sym (ap (by_name declared) (same.0 refl) ∙ none)
    apart name false is other = in_both name ∙ ap (or_behind (by_name declared name)) (by_another new name is) ∙ or_none (by_name declared name)

    with_one : (m : Option Method) → IsDistinct same_word (keys_of declared) → IsDistinct same_word (keys_of (declared ++ named_new m))
    with_one None once = subst (λ (es : List (List ℕ × Method)). IsDistinct same_word (keys_of es)) (sym (append-nil declared)) once
    with_one (Some m) once = subst (IsDistinct same_word) (sym (map-append (λ (e : List ℕ × Method). e.0) declared ((codes "new", m) ∷ [])))
        (IsDistinct-push nat_list_eq_equiv (keys_of declared) (codes "new") once (sym (is_some-lookup (same_word (codes "new")) declared) ∙ ap is_some none))

-- ---- a side

-- no steps have nothing
none_found : (all : List Declared) (kind : Kind) → Describes all kind [] (record { definition = record { methods = []; variables = [] }; makes_new = false })
unfolding IsDistinct
none_found all kind = record { methods = λ name. refl; declared = λ name. refl; variables = λ name. refl; methods_once = tt; variables_once = tt }

pub nothing_found : (all : List Declared) (kind : Kind) (steps : List Step) (n : ℕ) (side : Side) →
    side ≡ record { definition = record { methods = []; variables = [] }; makes_new = false } → n ≡ length steps → Describes all kind (drop n steps) side
nothing_found all kind steps n side is at =
    subst (λ (s : Side). Describes all kind (drop n steps) s) (sym is)
    (subst (λ (ss : List Step). Describes all kind ss (record { definition = record { methods = []; variables = [] }; makes_new = false })) (sym (ap (λ k. drop k steps) at ∙ drop_all (length steps) steps (omega arith)))
    (none_found all kind))

-- a side by what is declared along the steps
pub describes : (all : List Declared) (kind : Kind) (made : Made) (steps : List Step) (declared entries : List (List ℕ × Method)) (makes : Bool) (variables : List (List ℕ × Ty)) →
    made ≡ made_on all kind → IsListed (declared_along all made steps) declared → AddsMade made steps declared entries makes → IsListed (variable_along all steps) variables →
    Describes all kind steps (record { definition = record { methods = entries; variables = variables }; makes_new = makes })
describes all kind made steps declared entries makes variables is listed adds are_variables = record {
  methods = λ name.
      adds.methods name
      ∙ ap (λ (m : Option Method). or_else m (first_made made steps name)) (listed.same name)
      ∙ ap (λ (m : Made). along all m steps name) is;
  declared = λ name. adds.is_declared name ∙ listed.same name ∙ ap (λ (m : Made). declared_along all m steps name) is;
  variables = are_variables.same;
  methods_once = adds.once listed.once;
  variables_once = are_variables.once;
}

-- what is declared along the steps of a side
pub declared_there : (all : List Declared) (kind : Kind) (made : Made) (steps : List Step) (side : Side) (declared : List (List ℕ × Method)) →
    made ≡ made_on all kind → Describes all kind steps side → declared ≡ declared_entries side → IsListed (declared_along all made steps) declared
declared_there all kind made steps side declared is found same =
    subst (λ (es : List (List ℕ × Method)). IsListed (declared_along all made steps) es) (sym same) (by_makes side.makes_new found.declared)
  where
    but_new : List (List ℕ × Method)
    but_new = filter (λ (e : List ℕ × Method). not (same_word e.0 (codes "new"))) side.definition.methods

    turned : (b : Bool) (m : Option Method) → (if not b then m else None) ≡ (if b then None else m)
    turned true m = refl
    turned false m = refl

    as_made : (name : List ℕ) → declared_along all (made_on all kind) steps name ≡ declared_along all made steps name
    as_made name = ap (λ (m : Made). declared_along all m steps name) (sym is)

    by_makes : (b : Bool) → ((name : List ℕ) → (if b && same_word name (codes "new") then None else by_name side.definition.methods name) ≡ declared_along all (made_on all kind) steps name) →
        IsListed (declared_along all made steps) (if b then but_new else side.definition.methods)
    by_makes true is_declared = record {
      same = λ name.
          by_name-filter (λ n. not (same_word n (codes "new"))) side.definition.methods name
          ∙ turned (same_word name (codes "new")) (by_name side.definition.methods name)
          ∙ is_declared name ∙ as_made name;
      once = IsDistinct-keys_filter same_word (λ (e : List ℕ × Method). not (same_word e.0 (codes "new"))) side.definition.methods found.methods_once;
    }
    by_makes false is_declared = record { same = λ name. is_declared name ∙ as_made name; once = found.methods_once }

-- the variables of a side
pub variables_there : (all : List Declared) (kind : Kind) (steps : List Step) (side : Side) (variables : List (List ℕ × Ty)) →
    Describes all kind steps side → variables ≡ side.definition.variables → IsListed (variable_along all steps) variables
variables_there all kind steps side variables found same =
    subst (λ (vs : List (List ℕ × Ty)). IsListed (variable_along all steps) vs) (sym same) (record { same = found.variables; once = found.variables_once })

-- the rest of a line that is known, from another place that is as far
pub from_start : (all : List Declared) (kind : Kind) (steps : List Step) (start n : ℕ) (side : Side) → drop start steps ≡ drop n steps → Describes all kind (drop n steps) side → Describes all kind (drop start steps) side
from_start all kind steps start n side same found = subst (λ (ss : List Step). Describes all kind ss side) (sym same) found

-- what is made on a class itself, by the `initialize` among the methods of its instances
pub known_by_side : (all : List Declared) (path : Path) (side : Side) (initialize : Option Method) →
    Describes all Instance (line all path Instance).steps side → initialize ≡ by_name side.definition.methods (codes "initialize") → made_knowing all path initialize ≡ made_on all Singleton
known_by_side all path side initialize found is = knowing_is_made all path initialize (is ∙ found.methods (codes "initialize"))

-- ---- definitions

pub defines : (all : List Declared) (path : Path) (kind : Kind) (side : Side) → Describes all kind (line all path kind).steps side → Defines all path kind side.definition
defines all path kind side found = record { methods = found.methods; variables = found.variables }

-- a side has as many methods as its name
pub counts : (all : List Declared) (path : Path) (kind : Kind) (side : Side) → Describes all kind (line all path kind).steps side → length side.definition.methods ≡ methods_count all path kind
counts all path kind side found = table_count all path kind side.definition.methods found.methods_once found.methods

pub too_many : (all : List Declared) (path : Path) (kind : Kind) (count : ℕ) (e : BuildFault) → count ≡ methods_count all path kind → IsTooManyAt count e → IsBuildFault all path (kind ∷ []) e
too_many all path kind count (fault.Methods n) is many = inl (many.0 ∙ is, many.1)
too_many all path kind count fault.NoMemory is many = tt
