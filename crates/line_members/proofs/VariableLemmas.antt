-- The variables along a line, one step more.
use Rattle.std.proofs.Common.{◌≡◌, ℕ, List, [], ◌∷◌, ◌++◌, filter, refl, sym, ap, ◌∙◌, Option, None, Some, Bool, true, false, not, if◌then◌else◌}
use Rattle.std.specs.Bool.{Decides}
use Rattle.std.specs.List.{IsDistinct}
use Rattle.std.specs.Map.{keys_of}
use Rattle.std.specs.Option.{is_some}
use Rattle.rbs_tree.specs.declared.types.Ty.{Ty}
use Rattle.sig_rules.specs.declared.files.Declared.{Declared}
use Rattle.sig_rules.specs.declared.given.GivenVariable.{GivenVariable}
use Rattle.sig_rules.specs.declared.line.Step.{Step}
use Rattle.sig_rules.specs.Given.{given_variables}
use Rattle.sig_rules.specs.Methods.{applied_of, first_variable, same_word, variable_along}
use Rattle.sig_rules.specs.Worlds.{by_name}
use Rattle.line_members.specs.Along.{IsListed, or_behind}
use Rattle.line_members.proofs.EntryLemmas.{own_in_front}
use Rattle.line_members.proofs.WordLemmas.{word_decides, true_not_false}

pub or_behind-none : {V : Type 0} (v : Option V) → or_behind v None ≡ v
or_behind-none None = refl
or_behind-none (Some v) = refl

or_behind-assoc : {V : Type 0} (a b c : Option V) → or_behind (or_behind a b) c ≡ or_behind a (or_behind b c)
or_behind-assoc None b c = refl
or_behind-assoc (Some v) b c = refl

-- ---- a list of variables

-- the first of two lists is that of the first list, or else that of the second
first_of_both : (name : List ℕ) (xs ys : List GivenVariable) → first_variable name (xs ++ ys) ≡ or_behind (first_variable name xs) (first_variable name ys)
first_of_both name [] ys = refl
first_of_both name (x ∷ xs) ys = one (same_word name x.name) (first_of_both name xs ys)
  where
    one : (b : Bool) → first_variable name (xs ++ ys) ≡ or_behind (first_variable name xs) (first_variable name ys) →
        (if b then Some x.ty else first_variable name (xs ++ ys)) ≡ or_behind (if b then Some x.ty else first_variable name xs) (first_variable name ys)
    one true rest = refl
    one false rest = rest

-- one more of the variables that are put behind those that there are
pub one_more_variable : (before so_far after : List ℕ → Option Ty) (front : List GivenVariable) (v : GivenVariable) →
    ((name : List ℕ) → so_far name ≡ or_behind (before name) (first_variable name front)) →
    ((name : List ℕ) → after name ≡ or_behind (so_far name) (first_variable name (v ∷ []))) →
    (name : List ℕ) → after name ≡ or_behind (before name) (first_variable name (front ++ v ∷ []))
one_more_variable before so_far after front v is_so_far is_after name =
    is_after name
    ∙ ap (λ (o : Option Ty). or_behind o (first_variable name (v ∷ []))) (is_so_far name)
    ∙ or_behind-assoc (before name) (first_variable name front) (first_variable name (v ∷ []))
    ∙ ap (or_behind (before name)) (sym (first_of_both name front (v ∷ [])))

-- ---- one variable

-- a name that has a variable keeps it
pub has_already : (found : List ℕ → Option Ty) (v : GivenVariable) → is_some (found v.name) ≡ true →
    (name : List ℕ) → found name ≡ or_behind (found name) (first_variable name (v ∷ []))
has_already found v there name = by_test (same_word name v.name) (word_decides name v.name)
  where
    kept : (o : Option Ty) → is_some o ≡ true → o ≡ or_behind o (Some v.ty)
    kept None there = absurd (let no : false ≡ true = there in cc)
    kept (Some ty) there = refl

    by_test : (b : Bool) → Decides b (name ≡ v.name) → found name ≡ or_behind (found name) (if b then Some v.ty else None)
    by_test true same = kept (found name) (ap (λ n. is_some (found n)) (same.0 refl) ∙ there)
    by_test false other = sym (or_behind-none (found name))

-- a name that has none gets one
pub has_now : (found after : List ℕ → Option Ty) (v : GivenVariable) → is_some (found v.name) ≡ false →
    ((name : List ℕ) → after name ≡ (if same_word v.name name then Some v.ty else found name)) →
    (name : List ℕ) → after name ≡ or_behind (found name) (first_variable name (v ∷ []))
has_now found after v none put name = put name ∙ by_test (same_word v.name name) (word_decides v.name name) (same_word name v.name) (word_decides name v.name)
  where
    new : (o : Option Ty) → is_some o ≡ false → Some v.ty ≡ or_behind o (Some v.ty)
    new None none = refl
    new (Some ty) none = absurd (let no : true ≡ false = none in cc)

    by_test : (b : Bool) → Decides b (v.name ≡ name) → (c : Bool) → Decides c (name ≡ v.name) →
        (if b then Some v.ty else found name) ≡ or_behind (found name) (if c then Some v.ty else None)
    by_test true same true same_too = new (found name) (ap (λ n. is_some (found n)) (sym (same.0 refl)) ∙ none)
    by_test true same false other = absurd (true_not_false (sym (other.1 (sym (same.0 refl)))))
    by_test false other true same = absurd (true_not_false (sym (other.1 (sym (same.0 refl)))))
    by_test false other false other_too = sym (or_behind-none (found name))

-- ---- along a line

-- the variables of a step are before those behind it
step_first : (all : List Declared) (step : Step) (rest : List Step) (name : List ℕ) →
    variable_along all (step ∷ rest) name ≡ or_behind (first_variable name (given_variables all (applied_of all step) step.kind)) (variable_along all rest name)
step_first all step rest name = one (first_variable name (given_variables all (applied_of all step) step.kind)) refl
  where
    one : (o : Option Ty) → first_variable name (given_variables all (applied_of all step) step.kind) ≡ o →
        variable_along all (step ∷ rest) name ≡ or_behind (first_variable name (given_variables all (applied_of all step) step.kind)) (variable_along all rest name)
    one None is = rw is refl
    one (Some ty) is = rw is refl

-- a list of the variables behind a step becomes one of those from it on
pub one_more : (all : List Declared) (step : Step) (rest : List Step) (behind variables : List (List ℕ × Ty)) (given : List GivenVariable) →
    given ≡ given_variables all (applied_of all step) step.kind →
    IsListed (variable_along all rest) behind →
    IsListed (λ name. or_behind (first_variable name given) (by_name behind name)) variables →
    IsListed (variable_along all (step ∷ rest)) variables
one_more all step rest behind variables given is is_behind is_from = record {
  same = λ name.
      is_from.same name
      ∙ ap (λ (gs : List GivenVariable). or_behind (first_variable name gs) (by_name behind name)) is
      ∙ ap (or_behind (first_variable name (given_variables all (applied_of all step) step.kind))) (is_behind.same name)
      ∙ sym (step_first all step rest name);
  once = is_from.once;
}

-- where no variable is given, what is behind is found
pub no_variables : (given : List GivenVariable) (behind : List (List ℕ × Ty)) → given ≡ [] → IsDistinct same_word (keys_of behind) →
    IsListed (λ name. or_behind (first_variable name given) (by_name behind name)) behind
no_variables given behind is once = record { same = λ name. sym (ap (λ (gs : List GivenVariable). or_behind (first_variable name gs) (by_name behind name)) is); once = once }

-- a list of own variables, and behind it those of other names
pub variables_in_front : (given : List GivenVariable) (table own behind both : List (List ℕ × Ty)) →
    ((name : List ℕ) → by_name table name ≡ first_variable name given) → own ≡ table → IsDistinct same_word (keys_of own) → IsDistinct same_word (keys_of behind) →
    both ≡ own ++ filter (λ (e : List ℕ × Ty). not (is_some (by_name table e.0))) behind →
    IsListed (λ name. or_behind (first_variable name given) (by_name behind name)) both
variables_in_front given table own behind both is_table same once once_behind is =
    let listed : IsListed (λ name. if is_some (by_name table name) then by_name table name else by_name behind name) both =
    own_in_front (λ name. is_some (by_name table name)) (by_name table) own behind both
    (record { same = λ name. ap (λ (es : List (List ℕ × Ty)). by_name es name) same ∙ by_some (by_name table name); once = once }) once_behind is in
    record {
      same = λ name. listed.same name ∙ in_front (by_name table name) (by_name behind name) ∙ ap (λ (o : Option Ty). or_behind o (by_name behind name)) (is_table name);
      once = listed.once;
    }
  where
    by_some : (o : Option Ty) → o ≡ (if is_some o then o else None)
    by_some None = refl
    by_some (Some ty) = refl

    in_front : (o b : Option Ty) → (if is_some o then o else b) ≡ or_behind o b
    in_front None b = refl
    in_front (Some ty) b = refl
