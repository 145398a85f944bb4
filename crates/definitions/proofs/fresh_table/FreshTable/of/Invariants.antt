use Rattle.definitions.proofs.fresh_table.FreshTable.of.Given as goal

abbrev pub ghosts-defined : goal.ghosts-defined
ghosts-defined a = record { name = a.blank.name; parts = a.blank.parts }
