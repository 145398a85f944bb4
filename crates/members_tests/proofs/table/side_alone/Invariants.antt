use Rattle.members_tests.proofs.table.side_alone.Given as goal

abbrev pub ghosts-made_alone : goal.ghosts-made_alone
ghosts-made_alone a = record { name = a.blank.name; parts = a.blank.parts }
