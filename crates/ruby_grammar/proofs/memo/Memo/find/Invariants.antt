use Rattle.ruby_grammar.proofs.memo.Memo.find.Given as goal

abbrev pub decreases-entries : goal.decreases-entries
decreases-entries l = l.left
