use Rattle.std.proofs.Common.{◌≡◌, map, take}
use Rattle.ruby_exprs.specs.Kinds.{keyword_number}
use Rattle.ruby_exprs.proofs.draft.keyword_numbers.Given as goal

abbrev pub invariant-loop-keyword : goal.invariant-loop-keyword
invariant-loop-keyword l = l.numbers ≡ map keyword_number (take l.keyword-index l.keywords)
