use Rattle.std.proofs.Common.{◌≡◌, map, take}
use Rattle.ruby_exprs.specs.Kinds.{sign_number}
use Rattle.ruby_exprs.proofs.draft.sign_numbers.Given as goal

abbrev pub invariant-loop-sign : goal.invariant-loop-sign
invariant-loop-sign l = l.numbers ≡ map sign_number (take l.sign-index l.signs)
