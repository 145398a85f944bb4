use Rattle.ruby_grammar.proofs.forest.Forest.+copied.Given as goal

abbrev pub decreases-copied : goal.decreases-copied
decreases-copied l = l.count
