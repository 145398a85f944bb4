use Rattle.std.proofs.Common.{◌≡◌, ◌+◌, ◌-◌, ◌++◌, List, Bool, false, length, replicate, take, vec_len, Vec, Global, sym, ap, ◌∙◌, subst, arith}
use Rattle.method_steps.specs.declared.circles.Mark.{Mark}
use Rattle.method_steps.proofs.CircleLemmas.{AreFound, take_none, found_first, found_none, found_one, found_all}
use Rattle.method_steps.proofs.circles.circles_of.Goals.{in-Some, in_default}
use Rattle.method_steps.proofs.circles.circles_of.Goals as goal

pub loop-start-init : goal.loop-start-init
loop-start-init c =
    let n = length c.args.leads.now in
    let size : n - vec_len c.new-circles.result ≡ n = omega (arith, c.new-circles.ensures.len) in
    let circles : c.resize.new.self.items ≡ replicate n false =
    c.in_ok-resize.ensures.items ∙ (λ i. take n (c.new-circles.ensures.items i) ++ replicate (size i) false) ∙ ap (λ (bs : List Bool). bs ++ replicate n false) (take_none n) in
    subst (λ (bs : List Bool). AreFound c.args.leads.now 0 c.in_ok-marks.marks.items bs) (sym circles)
    (subst (λ (ms : List Mark). AreFound c.args.leads.now 0 ms (replicate n false)) (sym c.in_ok-marks.ensures) (found_first c.args.leads.now))

pub loop-start-preserved : goal.loop-start-preserved
loop-start-preserved c =
    let leads = c.args.leads.now in
    let start = c.loop-start.start in
    let old = c.loop-start.marks.items in
    let new = c.walk.new.marks.items in
    elim c.match-walk.branch [
      | in-Some w ↦ subst (λ (bs : List Bool). AreFound leads (start + 1) new bs) (ap (λ (v : Vec Bool Global). v.items) (sym w.circles-is))
          (found_one leads start old new c.loop-start.circles.items c.loop-start.invariant w.in-Some.at w.note_circle.new.circles.items w.in-Some.ensures w.note_circle.ensures.long w.note_circle.ensures.more)
      | in_default w ↦ subst (λ (bs : List Bool). AreFound leads (start + 1) new bs) (ap (λ (v : Vec Bool Global). v.items) (sym w.circles-is))
          (found_none leads start old new c.loop-start.circles.items c.loop-start.invariant w.in_default.ensures)
    ]

pub returns : goal.returns
returns c = found_all c.args.leads.now c.loop-start.start c.loop-start.marks.items c.loop-start.circles.items c.loop-start.invariant c.loop-start-test.false
