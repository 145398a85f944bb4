-- Trails, and what leads to them.
use Rattle.std.proofs.Common.{◌≡◌, ◌∙◌, Bool, true, false, ◌||◌, List, [], ◌∷◌, ◌++◌, reverse, Option, Some, None, IfNone, option_to_list, refl, sym, ap}
use Rattle.std.specs.List.{list_any}
use Rattle.std.proofs.lemmas.List.{reverse-append}
use Rattle.std.proofs.lemmas.List.Folds.{list_any-append}
use Rattle.sig_rules.specs.declared.line.Kind.{Kind}
use Rattle.sig_rules.specs.Declarations.{Path}
use Rattle.sig_rules.specs.Lines.{Trail, is_on}
use Rattle.ancestors.specs.declared.trail.Visited.{Visited}
use Rattle.ancestors.specs.Walks.{is_visit, trail_of, without_last}

or_turned : (a b : Bool) → (a || (b || false)) ≡ (b || a)
or_turned true true = refl
or_turned true false = refl
or_turned false true = refl
or_turned false false = refl

-- a name is on a trail from the bottom up where it is from the top down
pub is_on_reversed : (vs : List Visited) (path : Path) (kind : Kind) → list_any (is_visit path kind) (reverse vs) ≡ is_on (trail_of vs) path kind
is_on_reversed [] path kind = refl
is_on_reversed (v ∷ vs) path kind =
    ap (list_any (is_visit path kind)) (reverse-append (v ∷ []) vs) ∙ list_any-append (is_visit path kind) (reverse vs) (v ∷ []) ∙ or_turned (list_any (is_visit path kind) (reverse vs)) (is_visit path kind v)
    ∙ ap (λ b. is_visit path kind v || b) (is_on_reversed vs path kind)

-- taking off the top leaves the trail without its last name
pub without_last_is : (old new : List Visited) (r : Option Visited) → old ≡ option_to_list r ++ new → IfNone r (old ≡ []) → new ≡ without_last old
without_last_is old new None items empty = sym items ∙ empty ∙ ap without_last (sym empty)
without_last_is old new (Some v) items empty = ap without_last (sym items)

-- a trail without its last name
abbrev pub back : Trail → Trail
back [] = []
back (p ∷ trail) = trail

pub trail_back : (vs : List Visited) → trail_of (without_last vs) ≡ back (trail_of vs)
trail_back [] = refl
trail_back (v ∷ vs) = refl
