use Rattle.std.proofs.Common.{◌≡◌, map, take}
use Rattle.ruby_exprs.specs.Labels.{label_number}
use Rattle.ruby_exprs.proofs.draft.label_numbers.Given as goal

abbrev pub invariant-loop-label : goal.invariant-loop-label
invariant-loop-label l = l.numbers ≡ map label_number (take l.label-index l.labels)
