use Rattle.std.proofs.Common.{◌≡◌, ◌<◌, List, Bool, true, false, length, sym, ap, ◌∙◌, subst, arith}
use Rattle.method_steps.specs.Circles.{circle_at}
use Rattle.method_steps.proofs.CircleLemmas.{noting_begins, noting_on, noting_ends, one_new_less, circle_next}
use Rattle.method_steps.proofs.circles.note_circle.Goals as goal

pub around-init : goal.around-init
around-init c = noting_begins c.args.leads.now c.args.on c.args.circles.now.items c.requires.long c.requires.circle c.requires.circles

pub around-smaller : goal.around-smaller
around-smaller c =
    let within : c.around.at < length c.around.circles.items = subst (λ (bs : List Bool). c.around.at < length bs) c.as_slice.ensures.value (c.is_new.ensures.within c.around-test.true) in
    let new : circle_at c.around.circles.items c.around.at ≡ false = ap (λ (bs : List Bool). circle_at bs c.around.at) (sym c.as_slice.ensures.value) ∙ c.is_new.ensures.new c.around-test.true in
    let less = one_new_less c.around.circles.items c.around.at within new in
    omega (arith, less)

pub around-preserved : goal.around-preserved
around-preserved c =
    noting_on c.args.leads.now c.args.on c.args.circles.now.items c.around.circles.items c.around.at c.around.invariant c.in-Some.next (sym c.next_place.ensures ∙ c.in-Some.is)

pub returns-in-None : goal.returns-in-None
returns-in-None c = absurd (circle_next c.args.leads.now c.around.at c.around.invariant.circle (sym c.next_place.ensures ∙ c.in-None.is))

pub returns : goal.returns
returns c = record {
  long = c.around.invariant.long;
  more = noting_ends c.args.leads.now c.args.on c.args.circles.now.items c.around.circles.items c.around.at c.around.invariant
      (subst (λ (bs : List Bool). c.around.at < length bs → circle_at bs c.around.at ≡ true) c.as_slice.ensures.value (c.is_new.ensures.noted c.around-test.false));
}
