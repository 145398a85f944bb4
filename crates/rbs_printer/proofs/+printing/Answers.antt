use Rattle.std.proofs.Common.{[], ◌++◌, false, ap, map, option_map, codes, arith}
use Rattle.rbs_tree.specs.declared.types.Ty.TheViews.{out-MethodType}
use Rattle.rbs_printer.specs.Printed as spec
use Rattle.rbs_printer.proofs.Lists.{list_more, next_text, next_text_of, in_turn}
use Rattle.rbs_printer.proofs.+printing.Goals as goal

pub functions::keywords-loop-keyword-preserved : goal.functions::keywords-loop-keyword-preserved
functions::keywords-loop-keyword-preserved t c =
    let more = next_text spec.printed_keyword c.args.keywords.now c.loop-keyword.keyword-index c.keyword-item.result (omega arith) c.keyword-item.is in
    let h = list_more c.args.begun _ _ _ _ c.args.out.now _ _ _ more c.loop-keyword.invariant.text c.loop-keyword.invariant.begun c.in_ok-comma.ensures c.in_ok-one_keyword.ensures in
    record { text = h.0; begun = h.1 }

pub functions::params-returns : goal.functions::params-returns
functions::params-returns t c = let m = out-MethodType c.args.m.now in
    in_turn c.args.out.now _ _ _ _ _ _ _ _ _ _ _ (map spec.printed_param m.required) (spec.signed (codes "?") (map spec.printed_param m.optional))
    (spec.signed_one (codes "*") (option_map spec.printed_param m.rest)) (map spec.printed_param m.trailing) (map spec.printed_keyword m.keywords)
    (spec.signed_one (codes "**") (option_map spec.printed_param m.rest_keywords)) _ _ _ _
    (ap (λ params. spec.signed [] (map spec.printed_param params)) c.as_slice.ensures) (ap (λ params. spec.signed (codes "?") (map spec.printed_param params)) c.as_slice-2.ensures)
    (ap (λ params. spec.signed [] (map spec.printed_param params)) c.as_slice-3.ensures) (ap (map spec.printed_keyword) c.as_slice-4.ensures)
    c.in_ok-begun.ensures.text c.in_ok-begun.ensures.begun c.in_ok-begun-2.ensures.text c.in_ok-begun-2.ensures.begun c.in_ok-begun-3.ensures.text c.in_ok-begun-3.ensures.begun
    c.in_ok-begun-4.ensures.text c.in_ok-begun-4.ensures.begun c.in_ok-begun-5.ensures.text c.in_ok-begun-5.ensures.begun c.in_ok-rest.ensures.text

pub functions::positional-loop-param-preserved : goal.functions::positional-loop-param-preserved
functions::positional-loop-param-preserved t c =
    let more = next_text_of (λ (text : _). c.args.sign.now ++ text) spec.printed_param c.args.params.now c.loop-param.param-index c.param-item.result (omega arith) c.param-item.is in
    let h = list_more c.args.begun _ _ _ _ c.args.out.now _ _ _ more c.loop-param.invariant.text c.loop-param.invariant.begun c.in_ok-comma.ensures c.in_ok-signed.ensures in
    record { text = h.0; begun = h.1 }

pub types::listed-loop-ty-preserved : goal.types::listed-loop-ty-preserved
types::listed-loop-ty-preserved t c =
    let more = next_text_of spec.any_text spec.printed c.args.tys.now c.loop-ty.ty-index c.ty-item.result (omega arith) c.ty-item.is in
    let h = list_more false _ _ _ _ c.args.out.now _ _ _ more c.loop-ty.invariant.text c.loop-ty.invariant.begun c.in_ok-comma.ensures c.in_ok-any.ensures in
    record { text = h.0; begun = h.1 }

pub types::listed_fields-loop-field-preserved : goal.types::listed_fields-loop-field-preserved
types::listed_fields-loop-field-preserved t c =
    let more = next_text spec.printed_field c.args.fields.now c.loop-field.field-index c.field-item.result (omega arith) c.field-item.is in
    let h = list_more false _ _ _ _ c.args.out.now _ _ _ more c.loop-field.invariant.text c.loop-field.invariant.begun c.in_ok-comma.ensures c.in_ok-one_field.ensures in
    record { text = h.0; begun = h.1 }
