use Rattle.std.proofs.Common.{◌≡◌, ◌++◌, take}
use Rattle.sig_rules.proofs.names.joined_words.Given as goal

abbrev pub invariant-loop-word : goal.invariant-loop-word
invariant-loop-word l = l.words ≡ l.front ++ take l.word-index l.back
