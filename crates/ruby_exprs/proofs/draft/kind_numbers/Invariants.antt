use Rattle.std.proofs.Common.{◌≡◌, map, take}
use Rattle.ruby_exprs.specs.Kinds.{kind_number}
use Rattle.ruby_exprs.proofs.draft.kind_numbers.Given as goal

abbrev pub invariant-loop-kind : goal.invariant-loop-kind
invariant-loop-kind l = l.numbers ≡ map kind_number (take l.kind-index l.kinds)
