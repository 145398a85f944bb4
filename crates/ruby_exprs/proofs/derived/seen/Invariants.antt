use Rattle.std.proofs.Common.{◌≡◌, map, take}
use Rattle.ruby_exprs.specs.Derived.{seen}
use Rattle.ruby_exprs.proofs.derived.seen.Given as goal

abbrev pub invariant-loop-token : goal.invariant-loop-token
invariant-loop-token l = l.seen ≡ map seen (take l.token-index l.tokens)
