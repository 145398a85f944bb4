use Rattle.std.proofs.Common.{◌≡◌, ◌++◌, not, filter}
use Rattle.std.specs.Option.{is_some}
use Rattle.sig_rules.specs.Worlds.{by_name}
use Rattle.line_members.proofs.entries.in_front_of_others.Given as goal

abbrev pub invariant-loop-entry : goal.invariant-loop-entry
invariant-loop-entry g l = l.both.items ++ filter (λ e. not (is_some (by_name l.names e.0))) l.entry-iterator.rest.items ≡ l.fn.first ++ filter (λ e. not (is_some (by_name l.names e.0))) l.fn.second
