use Rattle.std.proofs.Common.{◌≡◌, ◌≤◌, ◌-◌}
use Rattle.ruby_grammar.specs.Sets.{table_by, table_end, is_one_of}
use Rattle.ruby_grammar.proofs.make.table_of.Given as goal

abbrev pub invariant-numbers : goal.invariant-numbers
invariant-numbers l = record {
  made : l.table ≡ table_by (is_one_of l.numbers) l.number;
  within : l.number ≤ table_end;
}

abbrev pub decreases-numbers : goal.decreases-numbers
decreases-numbers l = table_end - l.number
