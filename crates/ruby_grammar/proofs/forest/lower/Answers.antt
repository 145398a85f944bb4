use Rattle.ruby_grammar.proofs.Cells.{kept_at, left_out}
use Rattle.ruby_grammar.proofs.forest.lower.Goals as goal

pub returns-then-row-number : goal.returns-then-row-number
returns-then-row-number c = λ front lists all none more. kept_at front lists c.args.row c.args.number c.if-row-number.true all more

pub returns-else-row-number : goal.returns-else-row-number
returns-else-row-number c = λ front lists all none more. left_out front lists c.args.row c.args.number c.if-row-number.false all none more
