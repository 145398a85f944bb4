use Rattle.steep_run.specs.Small.{class_word}
use Rattle.steep_run.proofs.DistinctLemmas.{cons_of, first_names, names_more}
use Rattle.steep_run.proofs.distinct.has_distinct_classes.Goals as goal

pub loop-rest-init : goal.loop-rest-init
loop-rest-init c = first_names c.new-names.result _ c.new-names.ensures

pub loop-rest-preserved : goal.loop-rest-preserved
loop-rest-preserved c =
    names_more class_word c.loop-rest.names c.note_if_any.new.names c.loop-rest.rest.now _ c.decl-item.result _ _ _
    (cons_of c.loop-rest.rest.now c.decl-item.result c.in-len1-up.len_at_least c.decl-item.is) c.class_word.ensures c.in_ok-note_if_any.ensures c.if-not-branch.false c.loop-rest.invariant
