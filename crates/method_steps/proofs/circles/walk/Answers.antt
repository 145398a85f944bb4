use Rattle.std.proofs.Common.{◌≡◌, List, true, sym, ap, ◌∙◌, subst, slice_set, arith}
use Rattle.method_steps.specs.declared.circles.Mark.{Mark}
use Rattle.method_steps.specs.declared.circles.Mark.TheVariants.{Walked}
use Rattle.method_steps.specs.declared.leads.Lead.{Lead}
use Rattle.method_steps.specs.Slots.{lead_at}
use Rattle.method_steps.specs.Circles.{unseen_at, walked_at}
use Rattle.method_steps.proofs.CircleLemmas.{IsWalking, to_next, one_less, walk_begins, walk_on, walk_ends, walk_meets, walk_joins}
use Rattle.method_steps.proofs.circles.walk.Goals as goal

pub walk-init : goal.walk-init
walk-init c = walk_begins c.args.leads.now c.args.start c.args.marks.now.items c.requires

pub walk-smaller : goal.walk-smaller
walk-smaller c =
    let unseen : unseen_at c.walk.marks.items c.walk.at ≡ true = ap (λ (ms : List Mark). unseen_at ms c.walk.at) (sym c.as_slice.ensures.value) ∙ sym c.is_unseen.ensures.value ∙ c.walk-test.true in
    let less = one_less c.walk.marks.items c.walk.at c.args.start unseen in
    omega (arith, less)

pub walk-preserved : goal.walk-preserved
walk-preserved c =
    let unseen : unseen_at c.walk.marks.items c.walk.at ≡ true = ap (λ (ms : List Mark). unseen_at ms c.walk.at) (sym c.as_slice.ensures.value) ∙ sym c.is_unseen.ensures.value ∙ c.walk-test.true in
    subst (λ (l : Lead). IsWalking c.args.leads.now c.args.start c.args.marks.now.items (slice_set c.walk.marks.items c.walk.at (Walked c.args.start)) l)
    (to_next (lead_at c.args.leads.now c.walk.at) c.in-Some.next (sym c.next_place.ensures ∙ c.in-Some.is))
    (walk_on c.args.leads.now c.args.start c.args.marks.now.items c.walk.marks.items c.walk.at c.walk.invariant unseen)

pub returns-in-None : goal.returns-in-None
returns-in-None c =
    let unseen : unseen_at c.walk.marks.items c.walk.at ≡ true = ap (λ (ms : List Mark). unseen_at ms c.walk.at) (sym c.as_slice.ensures.value) ∙ sym c.is_unseen.ensures.value ∙ c.walk-test.true in
    walk_ends c.args.leads.now c.args.start c.args.marks.now.items (slice_set c.walk.marks.items c.walk.at (Walked c.args.start)) (lead_at c.args.leads.now c.walk.at)
    (walk_on c.args.leads.now c.args.start c.args.marks.now.items c.walk.marks.items c.walk.at c.walk.invariant unseen)
    (sym c.next_place.ensures ∙ c.in-None.is)

pub returns-then-is_walked : goal.returns-then-is_walked
returns-then-is_walked c =
    walk_meets c.args.leads.now c.args.start c.args.marks.now.items c.walk.marks.items c.walk.at c.walk.invariant
    (ap (λ (ms : List Mark). unseen_at ms c.walk.at) (sym c.as_slice.ensures.value) ∙ sym c.is_unseen.ensures.value ∙ c.walk-test.false)
    (ap (λ (ms : List Mark). walked_at c.args.start ms c.walk.at) (sym c.as_slice-2.ensures.value) ∙ sym c.is_walked.ensures ∙ c.if-is_walked.true)

pub returns-else-is_walked : goal.returns-else-is_walked
returns-else-is_walked c =
    walk_joins c.args.leads.now c.args.start c.args.marks.now.items c.walk.marks.items c.walk.at c.walk.invariant
    (ap (λ (ms : List Mark). unseen_at ms c.walk.at) (sym c.as_slice.ensures.value) ∙ sym c.is_unseen.ensures.value ∙ c.walk-test.false)
    (ap (λ (ms : List Mark). walked_at c.args.start ms c.walk.at) (sym c.as_slice-2.ensures.value) ∙ sym c.is_walked.ensures ∙ c.if-is_walked.false)
