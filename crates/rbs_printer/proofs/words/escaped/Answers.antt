use Rattle.std.proofs.Common.{◌++◌, ◌∙◌, sym, ap, string_bytes}
use Rattle.std.specs.Str.Iter.{chars_rest}
use Rattle.rbs_printer.specs.Words.{escaped}
use Rattle.rbs_printer.proofs.Escapes.{escaped_more}
use Rattle.rbs_printer.proofs.words.escaped.Goals as goal

pub loop-c-preserved : goal.loop-c-preserved
loop-c-preserved c =
    ap (λ text. text ++ escaped (chars_rest c.next.new.self)) c.in_ok-escape.ensures
    ∙ sym (escaped_more c.in-Some.c (string_bytes c.loop-c.out) (chars_rest c.next.new.self) (chars_rest c.loop-c.c-iterator) c.in-Some.ensures.steps.0)
    ∙ c.loop-c.invariant
