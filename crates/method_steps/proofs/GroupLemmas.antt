-- Declarations by name.
use Rattle.std.proofs.Common.{◌≡◌, ◌∙◌, ℕ, Bool, true, false, List, [], ◌∷◌, ◌++◌, Some, if◌then◌else◌, refl, sym, ap}
use Rattle.std.proofs.lemmas.List.{append-nil}
use Rattle.sig_rules.specs.declared.given.GivenMethod.{GivenMethod}
use Rattle.sig_rules.specs.Methods.{of_name, same_word}
use Rattle.sig_rules.specs.Worlds.{by_name}
use Rattle.method_steps.specs.Gathering.{Entry, group_of, listed}
use Rattle.method_steps.proofs.StackLemmas.{same_back, same_names}

of_name-append : (name : List ℕ) (front back : List GivenMethod) → of_name name (front ++ back) ≡ of_name name front ++ of_name name back
of_name-append name [] back = refl
of_name-append name (g ∷ gs) back = by (same_word name g.name) (of_name-append name gs back)
  where
    by : (b : Bool) → of_name name (gs ++ back) ≡ of_name name gs ++ of_name name back → (if b then g ∷ of_name name (gs ++ back) else of_name name (gs ++ back)) ≡ (if b then g ∷ of_name name gs else of_name name gs) ++ of_name name back
    by true rest = ap (λ xs. g ∷ xs) rest
    by false rest = rest

listed_group : (gs : List GivenMethod) → listed (group_of gs) ≡ gs
listed_group [] = refl
listed_group (g ∷ gs) = refl

group_of-last : (gs : List GivenMethod) (g : GivenMethod) → group_of (gs ++ g ∷ []) ≡ Some (gs ++ g ∷ [])
group_of-last [] g = refl
group_of-last (x ∷ xs) g = refl

-- by one declaration more
pub grouped_more : (before after : List Entry) (done : List GivenMethod) (method : GivenMethod) → ((name : List ℕ) → by_name before name ≡ group_of (of_name name done))
    → ((other : List ℕ) → by_name after other ≡ (if same_word method.name other then Some (listed (by_name before method.name) ++ method ∷ []) else by_name before other))
    → (name : List ℕ) → by_name after name ≡ group_of (of_name name (done ++ method ∷ []))
grouped_more before after done method grouped added name = by (same_word method.name name) refl
  where
    whole : of_name name (done ++ method ∷ []) ≡ of_name name done ++ (if same_word name method.name then method ∷ [] else [])
    whole = of_name-append name done (method ∷ [])

    by : (b : Bool) → same_word method.name name ≡ b → by_name after name ≡ group_of (of_name name (done ++ method ∷ []))
    by true same =
        let is = same_names method.name name same in
        let now : by_name after name ≡ Some (listed (by_name before method.name) ++ method ∷ []) = added name ∙ ap (λ b. if b then Some (listed (by_name before method.name) ++ method ∷ []) else by_name before name) same in
        let had : listed (by_name before method.name) ≡ of_name name done = ap listed (grouped method.name) ∙ listed_group (of_name method.name done) ∙ ap (λ n. of_name n done) is in
        let added_here : of_name name (done ++ method ∷ []) ≡ of_name name done ++ method ∷ [] = whole ∙ ap (λ b. of_name name done ++ (if b then method ∷ [] else [])) (same_back name method.name ∙ same) in
        now ∙ ap (λ xs. Some (xs ++ method ∷ [])) had ∙ sym (ap group_of added_here ∙ group_of-last (of_name name done) method)
    by false other =
        let now : by_name after name ≡ by_name before name = added name ∙ ap (λ b. if b then Some (listed (by_name before method.name) ++ method ∷ []) else by_name before name) other in
        let kept : of_name name (done ++ method ∷ []) ≡ of_name name done = whole ∙ ap (λ b. of_name name done ++ (if b then method ∷ [] else [])) (same_back name method.name ∙ other) ∙ append-nil (of_name name done) in
        now ∙ grouped name ∙ sym (ap group_of kept)
