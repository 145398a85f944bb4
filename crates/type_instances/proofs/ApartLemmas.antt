-- A method type whose variables are set apart from the names around it.
use Rattle.std.proofs.Common.{◌≡◌, ℕ, ◌+◌, ◌<◌, ◌≤◌, map, nat_eq, Bool, true, false, ◌||◌, if◌then◌else◌, List, [], ◌∷◌, ◌++◌, length, take, get_or, refl, sym, ap, ◌∙◌}
use Rattle.std.proofs.lemmas.List.{take_all, take_more}
use Rattle.std.specs.List.{list_any}
use Rattle.rbs_tree.specs.declared.types.MethodType.{MethodType}
use Rattle.rbs_tree.specs.declared.types.Ty.TheVariants as t
use Rattle.rbs_tree.specs.declared.types.Ty.TheViews.{out-MethodType}
use Rattle.rbs_tree.specs.Substitution.{subst_method}
use Rattle.std.specs.Cmp.Lexicographic.{pointwise}
use Rattle.sig_rules.specs.Instances.{Words, with_vars, is_in, free_name, renamed, apart_from, all_apart_from}
use Rattle.type_instances.specs.Variables.{taken}

chosen_first : (b : Bool) (x y : MethodType) → b ≡ true → x ≡ (if b then x else y)
chosen_first true x y is = refl
chosen_first false x y is = cc

chosen_second : (b : Bool) (x y : MethodType) → b ≡ false → y ≡ (if b then x else y)
chosen_second true x y is = cc
chosen_second false x y is = refl

-- one variable that is none of the names
pub apart-same : (outer : Words) (var : List ℕ) (m : MethodType) → is_in outer var ≡ false → m ≡ apart_from outer var m
apart-same outer var m free = chosen_second (is_in outer var) _ m free

-- one that is
pub apart-renamed : (outer : Words) (var : List ℕ) (m : MethodType) → is_in outer var ≡ true → renamed var (free_name (taken outer m) var) m ≡ apart_from outer var m
apart-renamed outer var m among = chosen_first (is_in outer var) (renamed var (free_name (taken outer m) var) m) m among

all-passed : (b : Bool) (outer vars : Words) (var : List ℕ) (m : MethodType) → (list_any (is_in outer) vars ≡ false → m ≡ all_apart_from outer vars m)
    → b ≡ is_in outer var → (b || list_any (is_in outer) vars) ≡ false → m ≡ all_apart_from outer vars (apart_from outer var m)
all-passed true outer vars var m later is free = cc
all-passed false outer vars var m later is free = later free ∙ ap (all_apart_from outer vars) (apart-same outer var m (sym is))

-- variables that are none of the names
pub all-same : (outer vars : Words) (m : MethodType) → list_any (is_in outer) vars ≡ false → m ≡ all_apart_from outer vars m
all-same outer [] m none = refl
all-same outer (var ∷ vars) m none = all-passed (is_in outer var) outer vars var m (all-same outer vars m) refl none

all-append : (outer vars more : Words) (m : MethodType) → all_apart_from outer (vars ++ more) m ≡ all_apart_from outer more (all_apart_from outer vars m)
all-append outer [] more m = refl
all-append outer (var ∷ vars) more m = all-append outer vars more (apart_from outer var m)

-- one variable more
pub all-more : (outer vars : Words) (i : ℕ) (var : List ℕ) (m before after : MethodType) → i < length vars → var ≡ get_or vars i var
    → before ≡ all_apart_from outer (take i vars) m → after ≡ apart_from outer var before → after ≡ all_apart_from outer (take (i + 1) vars) m
all-more outer vars i var m before after within is so_far step =
    step
    ∙ ap (apart_from outer var) so_far
    ∙ ap (λ v. apart_from outer v (all_apart_from outer (take i vars) m)) is
    ∙ sym (all-append outer (take i vars) (get_or vars i var ∷ []) m)
    ∙ ap (λ vs. all_apart_from outer vs m) (sym (take_more vars i var within))

-- all of them
pub all-done : (outer vars : Words) (i : ℕ) (m after : MethodType) → length vars ≤ i → after ≡ all_apart_from outer (take i vars) m → after ≡ all_apart_from outer vars m
all-done outer vars i m after ended so_far = so_far ∙ ap (λ vs. all_apart_from outer vs m) (take_all i vars ended)

-- another name for a variable
pub renamed-is : (var name : List ℕ) (m parts made : MethodType) (own vars : Words) → own ≡ (out-MethodType m).vars
    → vars ≡ map (λ other. if pointwise nat_eq var other then name else other) own → parts ≡ subst_method (var ∷ []) (t.Var name ∷ []) m
    → made ≡ with_vars vars parts → made ≡ renamed var name m
renamed-is var name m parts made own vars own_is vars_is parts_is made_is =
    made_is
    ∙ ap (λ vs. with_vars vs parts) (vars_is ∙ ap (map (λ other. if pointwise nat_eq var other then name else other)) own_is)
    ∙ ap (with_vars (map (λ other. if pointwise nat_eq var other then name else other) (out-MethodType m).vars)) parts_is
