use Rattle.std.proofs.Common.{◌≡◌, ◌-◌, arith, sym, ◌∙◌}
use Rattle.std.specs.Prelude.{slice_index}
use Rattle.std.proofs.lemmas.Str.{IsCharBoundary-before_ascii}
use Rattle.steep_run.proofs.PathLemmas.{slash_off, stays, none_left, front}
use Rattle.steep_run.proofs.project.without_slashes.Goals as goal
use Rattle.steep_run.proofs.project.without_slashes.Goals.{then-loop-end-test+else-bytes-end-eq47, else-loop-end-test}

pub loop-end-preserved : goal.loop-end-preserved
loop-end-preserved c =
    let slash : slice_index c.args.folder.now (c.loop-end.end - 1) ≡ 47 = rw (sym c.as_bytes-bytes.ensures.value) c.if-bytes-end-eq47.true in record {
      within = omega arith;
      boundary = IsCharBoundary-before_ascii c.args.folder.now (c.loop-end.end - 1) (omega arith) (omega (arith, slash));
      same = slash_off c.args.folder.now c.loop-end.end (omega arith) c.loop-end.invariant.within slash ∙ c.loop-end.invariant.same;
    }

pub returns : goal.returns
returns c = elim c.loop-end-test.branch [
  | then-loop-end-test+else-bytes-end-eq47 w ↦
      c.range.ensures.value ∙ front _ _ ∙ sym (stays c.args.folder.now c.loop-end.end (omega arith) c.loop-end.invariant.within
      (λ slash. w.if-bytes-end-eq47.false (rw c.as_bytes-bytes.ensures.value slash))) ∙ c.loop-end.invariant.same
  | else-loop-end-test w ↦ none_left c.args.folder.now c.range.result.now c.loop-end.end (omega arith) (c.range.ensures.value ∙ front _ _) c.loop-end.invariant.same
]
