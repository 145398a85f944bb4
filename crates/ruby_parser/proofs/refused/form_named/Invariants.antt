use Rattle.std.proofs.Common.{◌≡◌, map, drop}
use Rattle.ruby_parser.specs.Refused as spec
use Rattle.ruby_parser.proofs.refused.form_named.Given as goal

abbrev pub invariant-loop-key : goal.invariant-loop-key
invariant-loop-key l = spec.form_named l.name (map (λ e. (e.0.now, e.1)) (drop l.key-index l.table)) ≡ spec.form_named l.name (map (λ e. (e.0.now, e.1)) l.table)
