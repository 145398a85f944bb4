-- What is made of a method type, one step after the other, is what it means in its scope.
use Rattle.std.proofs.Common.{◌≡◌, ◌∙◌, subst, ℕ, List, IfOk, Result}
use Rattle.rbs_tree.specs.declared.names.TypeName.{TypeName}
use Rattle.rbs_tree.specs.declared.types.Ty.{Ty}
use Rattle.rbs_tree.specs.declared.types.MethodType.{MethodType}
use Rattle.sig_rules.specs.Types.{meant, meant_method}
use Rattle.sig_rules.specs.Instances.{instance}
use Rattle.given_members.specs.Meanings.{Scope, instance_in, meant_in, method_in}

-- both substitutions, one after the other
pub instance_of_steps : {E : Type 0} (s : Scope) (m : MethodType) (r : Result MethodType E) {by_first : MethodType}
    → by_first ≡ instance s.own s.itself m → IfOk r (λ i. i ≡ instance s.first s.args by_first) → IfOk r (λ i. i ≡ instance_in s m)
unfolding instance_in
instance_of_steps s m r is_by_first last = subst (λ z. IfOk r (λ i. i ≡ instance s.first s.args z)) is_by_first last

-- the meaning, and then both substitutions
pub method_of_steps : {E : Type 0} (s : Scope) (m : MethodType) (r : Result MethodType E) {context : List TypeName} {own : List (List ℕ)} {meant : MethodType}
    → context ≡ s.context → own ≡ s.own → meant ≡ meant_method s.all context own m → IfOk r (λ i. i ≡ instance_in s meant) → IfOk r (λ i. i ≡ method_in s m)
unfolding method_in instance_in
method_of_steps s m r same_context same_own is_meant last =
    subst (λ z. IfOk r (λ i. i ≡ instance_in s z)) (is_meant ∙ (λ i. meant_method s.all (same_context i) (same_own i) m)) last

-- the meaning of a type
pub meant_of_steps : {E : Type 0} (s : Scope) (t : Ty) (r : Result Ty E) {context : List TypeName} {own : List (List ℕ)}
    → context ≡ s.context → own ≡ s.own → IfOk r (λ i. i ≡ meant s.all context own t) → IfOk r (λ i. i ≡ meant_in s t)
unfolding meant_in
meant_of_steps s t r same_context same_own last = subst (λ z. IfOk r (λ i. i ≡ z)) (λ i. meant s.all (same_context i) (same_own i) t) last
