use Rattle.std.proofs.Common.{◌∙◌, Some, ap, length, refl, sym}
use Rattle.ruby_grammar.specs.declared.tree.Tree.TheVariants as tree
use Rattle.ruby_grammar.specs.declared.row.Cell.TheVariants as cell
use Rattle.ruby_grammar.proofs.Cells.{put_none, put_one, front_within}
use Rattle.ruby_grammar.proofs.forest.+put.Goals as goal
use Rattle.ruby_grammar.proofs.forest.+put.Goals.{put-in-Leaf+in_ok-push-in-Leaf, put-in-Node+in_ok-inner-in-Node+in_ok-push-in-Node}

pub put-returns-in-None : goal.put-returns-in-None
put-returns-in-None t c = put_none c.left.known.now c.left.number c.left.left c.left.out.items (sym c.in-None.ensures.cell) ∙ c.left.invariant.out

pub put-left-preserved : goal.put-left-preserved
put-left-preserved t c = record {
  out = (elim c.match-cell.branch [
    | put-in-Leaf+in_ok-push-in-Leaf w ↦ put_one c.left.known.now c.left.number c.left.left c.match-cell.number (cell.Leaf w.in-Leaf.before w.in-Leaf.place) (tree.Leaf w.in-Leaf.place) c.left.out.items c.match-cell.out.items c.left-test.true (sym c.in-Some.ensures.cell ∙ ap Some w.in-Leaf.is) w.number-is refl (ap (λ v. v.items) w.out-is ∙ w.in_ok-push-in-Leaf.ensures.items)
    | put-in-Node+in_ok-inner-in-Node+in_ok-push-in-Node w ↦ put_one c.left.known.now c.left.number c.left.left c.match-cell.number (cell.Node w.in-Node.before w.in-Node.name w.in-Node.first w.in-Node.behind w.in-Node.last w.in-Node.count) (tree.Node w.in-Node.name w.in-Node.first w.in-Node.behind w.in_ok-inner-in-Node.inner) c.left.out.items c.match-cell.out.items c.left-test.true (sym c.in-Some.ensures.cell ∙ ap Some w.in-Node.is) w.number-is (ap (tree.Node w.in-Node.name w.in-Node.first w.in-Node.behind) w.in_ok-inner-in-Node.ensures) (ap (λ v. v.items) w.out-is ∙ w.in_ok-push-in-Node.ensures.items)
  ]) ∙ c.left.invariant.out;
  within = front_within c.left.known.now c.left.number (length c.args.cells.now) c.in-Some.ensures.within.1 c.left.invariant.within;
}
