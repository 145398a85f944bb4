-- Tables of what is found along a line, one step more.
use Rattle.std.proofs.Common.{◌≡◌, ℕ, zero, suc, ◌-◌, ◌<◌, ◌≤◌, arith, List, [], ◌∷◌, length, map, drop, take, refl, ap, ◌∙◌, get_or, sym, subst, Option, Result, Ok, Err, IfOk, OnOk, IfErr}
use Rattle.std.proofs.lemmas.List.{take_all, length-drop, drop_all}
use Rattle.std.specs.List.{IsDistinct}
use Rattle.rbs_tree.specs.declared.decls.TypeParam.{TypeParam}
use Rattle.rbs_tree.specs.declared.types.Ty.TheVariants as t
use Rattle.sig_rules.specs.declared.files.Declared.{Declared}
use Rattle.sig_rules.specs.declared.given.GivenMethod.{GivenMethod}
use Rattle.sig_rules.specs.declared.line.Step.{Step}
use Rattle.sig_rules.specs.declared.method.Method.{Method}
use Rattle.sig_rules.specs.Given.{given_methods}
use Rattle.sig_rules.specs.Methods.{Made, applied_of, declared_along, of_name}
use Rattle.sig_rules.specs.Worlds.{by_name}
use Rattle.line_members.specs.Along.{IsListed}
use Rattle.method_steps.specs.Steps.{alive, declared_from}

pub if_ok : {T E : Type 0} {P Q : T → Type 0} (r : Result T E) → ((x : T) → P x → Q x) → IfOk r P → IfOk r Q
if_ok (Ok x) all p = all x p
if_ok (Err e) all p = p

pub if_ok2 : {T E : Type 0} {P Q R : T → Type 0} (r : Result T E) → ((x : T) → P x → Q x → R x) → IfOk r P → IfOk r Q → IfOk r R
if_ok2 (Ok x) all p q = all x p q
if_ok2 (Err e) all p q = p

pub on_ok : {T E : Type 0} {P Q : Type 0} (r : Result T E) → (P → Q) → OnOk r P → OnOk r Q
on_ok (Ok x) all p = all p
on_ok (Err e) all p = p

pub if_err : {T E : Type 0} {P Q : E → Type 0} (r : Result T E) → ((e : E) → P e → Q e) → IfErr r P → IfErr r Q
if_err (Ok x) all p = p
if_err (Err e) all p = all e p

-- the first of a list
pub is_first : {T : Type 0} (xs : List T) (x first : T) (rest : List T) → xs ≡ first ∷ rest → x ≡ get_or xs 0 x → x ≡ first
is_first xs x first rest is at = at ∙ ap (λ ys. get_or ys 0 x) is

-- the names of type parameters as types, and type parameters as types by their names
pub as_types : (params : List TypeParam) → map t.Var (map (λ (p : TypeParam). p.name) params) ≡ map (λ (p : TypeParam). t.Var p.name) params
as_types [] = refl
as_types (p ∷ params) = ap (λ tys. t.Var p.name ∷ tys) (as_types params)

-- what a step gives, by what is declared behind it
from_is_along : (all : List Declared) (made : Made) (step : Step) (rest : List Step) (name : List ℕ) (xs : List GivenMethod) →
    of_name name (alive made step rest (declared_along all made rest) (given_methods all (applied_of all step) step.kind)) ≡ xs →
    declared_from made step rest (declared_along all made rest) (given_methods all (applied_of all step) step.kind) name ≡ declared_along all made (step ∷ rest) name
from_is_along all made step rest name [] is = rw is refl
from_is_along all made step rest name (x ∷ xs) is = rw is refl

-- a list of what is declared behind a step becomes one of what is declared from it on
pub one_more : (all : List Declared) (made : Made) (step : Step) (rest : List Step) (behind methods : List (List ℕ × Method)) (given : List GivenMethod) →
    given ≡ given_methods all (applied_of all step) step.kind →
    IsListed (declared_along all made rest) behind →
    IsListed (declared_from made step rest (by_name behind) given) methods →
    IsListed (declared_along all made (step ∷ rest)) methods
one_more all made step rest behind methods given is is_behind is_from = record {
  same = λ name.
      is_from.same name
      ∙ ap (λ gs. declared_from made step rest (by_name behind) gs name) is
      ∙ ap (λ (b : List ℕ → Option Method). declared_from made step rest b (given_methods all (applied_of all step) step.kind) name) (λ i word. is_behind.same word i)
      ∙ from_is_along all made step rest name (of_name name (alive made step rest (declared_along all made rest) (given_methods all (applied_of all step) step.kind))) refl;
  once = is_from.once;
}

-- a list from a place on has as many elements as are left
length_left : {T : Type 0} (m : ℕ) (xs : List T) → length (drop m xs) ≤ length xs - m
length_left m xs = rw (length-drop m xs) (omega arith)

from_place : {T : Type 0} (P : List T → Type 0) (xs : List T) (m : ℕ) → suc m ≤ length xs →
    ((x : T) (rest : List T) → drop m xs ≡ x ∷ rest → rest ≡ drop (suc m) xs → P (x ∷ rest)) → P (drop m xs)
from_place P [] m within f = absurd (omega arith)
from_place P (x ∷ xs) zero within f = f x xs refl refl
from_place P (x ∷ xs) (suc m) within f = from_place P xs m (omega arith) f

-- what holds of a list from a place on, one place earlier
pub from_before : {T : Type 0} (P : List T → Type 0) (xs : List T) (n : ℕ) → 0 < n → n ≤ length xs →
    ((x : T) (rest : List T) → take (length xs - (n - 1)) (drop (n - 1) xs) ≡ x ∷ rest → rest ≡ drop n xs → P (x ∷ rest)) → P (drop (n - 1) xs)
from_before P xs n some within f =
    let next : suc (n - 1) ≡ n = omega arith in
    from_place P xs (n - 1) (omega arith)
    (λ x rest is behind. f x rest (take_all (length xs - (n - 1)) (drop (n - 1) xs) (length_left (n - 1) xs) ∙ is) (behind ∙ ap (λ k. drop k xs) next))

-- behind the end there is nothing
pub past_end : (n : ℕ) (steps : List Step) → length steps ≤ n → drop (length steps) steps ≡ drop n steps
past_end n steps past = drop_all (length steps) steps (omega arith) ∙ sym (drop_all n steps past)

-- behind the end nothing is declared
pub nothing_declared : (all : List Declared) (made : Made) (steps : List Step) (n : ℕ) (entries : List (List ℕ × Method)) → n ≡ length steps → entries ≡ [] → IsListed (declared_along all made (drop n steps)) entries
unfolding IsDistinct
nothing_declared all made steps n entries at none =
    subst (λ (es : List (List ℕ × Method)). IsListed (declared_along all made (drop n steps)) es) (sym none)
    (subst (λ (ss : List Step). IsListed (declared_along all made ss) []) (sym (ap (λ k. drop k steps) at ∙ drop_all (length steps) steps (omega arith))) (record { same = λ name. refl; once = tt }))
