use Rattle.definitions.proofs.lined_table.make.Goals as goal

pub returns-clause-kept : goal.returns-clause-kept
returns-clause-kept g c = λ path had. c.in_ok-make_one.ensures.kept path (c.in_ok-make_above.ensures.kept path had)
