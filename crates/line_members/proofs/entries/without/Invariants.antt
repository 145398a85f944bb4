use Rattle.std.proofs.Common.{◌≡◌, ◌++◌, not, filter}
use Rattle.std.specs.Option.{is_some}
use Rattle.sig_rules.specs.Worlds.{by_name}
use Rattle.line_members.proofs.entries.without.Given as goal

abbrev pub invariant-loop-entry : goal.invariant-loop-entry
invariant-loop-entry g l = l.others ++ filter (λ e. not (is_some (by_name l.names e.0))) l.entry-iterator.rest.items ≡ filter (λ e. not (is_some (by_name l.names e.0))) l.fn.entries
