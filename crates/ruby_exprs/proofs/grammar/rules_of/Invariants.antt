use Rattle.std.proofs.Common.{◌≡◌, map, take}
use Rattle.ruby_exprs.specs.Grammar.{rule_of}
use Rattle.ruby_exprs.proofs.grammar.rules_of.Given as goal

abbrev pub invariant-loop-name : goal.invariant-loop-name
invariant-loop-name l = l.rules ≡ map rule_of (take l.name-index l.names)
