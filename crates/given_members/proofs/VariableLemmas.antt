-- What is made of a type, one step after the other, is what it means in its scope.
use Rattle.std.proofs.Common.{◌≡◌, ◌∙◌, ap, sym, map, [], ◌∷◌, length, get_or, List}
use Rattle.rbs_tree.specs.declared.types.Ty.{Ty}
use Rattle.rbs_tree.specs.Substitution.{subst}
use Rattle.given_members.specs.Meanings.{Scope, meant_in, ty_in}

-- both substitutions in a list of one type
pub ty_of_steps : (s : Scope) (t : Ty) (meant : Ty) (tys by_first by_args : List Ty) (done : Ty)
    → meant ≡ meant_in s t → tys ≡ meant ∷ [] → by_first ≡ map (subst s.own s.itself) tys → by_args ≡ map (subst s.first s.args) by_first → by_args ≡ done ∷ [] → done ≡ ty_in s t
unfolding ty_in meant_in
ty_of_steps s t meant tys by_first by_args done is_meant one its_first its_args last =
    let made = its_args ∙ ap (map (subst s.first s.args)) (its_first ∙ ap (map (subst s.own s.itself)) (one ∙ ap (λ z. z ∷ []) is_meant)) in
    ap (λ (zs : List Ty). get_or zs 0 done) (sym last ∙ made)

-- a list of one type has one in place of it
pub one_by_steps : (f g : Ty → Ty) (meant : Ty) (tys by_first by_args : List Ty)
    → tys ≡ meant ∷ [] → by_first ≡ map f tys → by_args ≡ map g by_first → length by_args ≡ 1
one_by_steps f g meant tys by_first by_args one its_first its_args = ap length (its_args ∙ ap (map g) (its_first ∙ ap (map f) one))
