use Rattle.std.proofs.Common.{sym, ◌∙◌, ap, subst}
use Rattle.std.specs.Prelude.{◌≡◌, IfOk, slice_index}
use Rattle.rbs_grammar.specs.Values.{string_value, unescaped}
use Rattle.rbs_parser.proofs.Escaped.{no_escape}
use Rattle.rbs_parser.proofs.values.quoted.Goals as goal

pub returns-then-contains : goal.returns-then-contains
unfolding string_value
returns-then-contains c =
    let first = subst (λ quote. IfOk c.unescaped.result (λ value. value ≡ unescaped quote c.inner-bytes.result.now)) c.first_byte.ensures c.unescaped.ensures in
    subst (λ bytes. IfOk c.unescaped.result (λ value. value ≡ unescaped (slice_index c.args.text.now 0) bytes)) c.inner-bytes.ensures first

pub returns-else-contains : goal.returns-else-contains
unfolding string_value
returns-else-contains c =
    let quote = slice_index c.args.text.now 0 in
    let same = sym (no_escape quote c.inner-bytes.result.now c.if-contains.ensures.value) ∙ ap (unescaped quote) c.inner-bytes.ensures in
    subst (λ bytes. IfOk c.copied.result (λ value. value ≡ bytes)) same c.copied.ensures
