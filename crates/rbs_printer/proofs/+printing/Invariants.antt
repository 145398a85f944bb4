use Rattle.std.proofs.Common.{◌≡◌, ◌++◌, false, map, take}
use Rattle.rbs_printer.specs.Lists.{continued, has_begun}
use Rattle.rbs_printer.specs.Printed as spec
use Rattle.rbs_printer.proofs.+printing.Given as goal

abbrev pub invariant-functions::keywords-loop-keyword :
    goal.invariant-functions::keywords-loop-keyword
invariant-functions::keywords-loop-keyword l = let texts = map spec.printed_keyword (take l.keyword-index l.keywords) in record {
  text : l.out ≡ l.fn.out ++ continued l.fn.begun texts;
  begun : l.begun ≡ has_begun l.fn.begun texts;
}

abbrev pub invariant-functions::positional-loop-param :
    goal.invariant-functions::positional-loop-param
invariant-functions::positional-loop-param l = let texts = spec.signed l.sign (map spec.printed_param (take l.param-index l.params)) in record {
  text : l.out ≡ l.fn.out ++ continued l.fn.begun texts;
  begun : l.begun ≡ has_begun l.fn.begun texts;
}

abbrev pub invariant-types::listed_fields-loop-field : goal.invariant-types::listed_fields-loop-field
invariant-types::listed_fields-loop-field l = let texts = map spec.printed_field (take l.field-index l.fields) in record {
  text : l.out ≡ l.fn.out ++ continued false texts;
  begun : l.begun ≡ has_begun false texts;
}

abbrev pub invariant-types::listed-loop-ty : goal.invariant-types::listed-loop-ty
invariant-types::listed-loop-ty l = let texts = map spec.any_text (map spec.printed (take l.ty-index l.tys)) in record {
  text : l.out ≡ l.fn.out ++ continued false texts;
  begun : l.begun ≡ has_begun false texts;
}

abbrev pub invariant-types::other_parts-loop-ty : goal.invariant-types::other_parts-loop-ty
invariant-types::other_parts-loop-ty l = let piece = spec.and_parts l.sign l.wanted l.fn.out l.behind (map spec.printed (take l.ty-index l.more)) in record {
  text : l.out ≡ piece.text;
  leads : l.leads ≡ piece.leads;
}
