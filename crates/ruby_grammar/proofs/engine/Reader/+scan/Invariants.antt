use Rattle.std.proofs.Common.{◌+◌, length}
use Rattle.ruby_grammar.specs.Steps.{no_more, full_chain}
use Rattle.ruby_grammar.specs.Meaning.{links, part_in}
use Rattle.ruby_grammar.specs.Rows.{Extends}
use Rattle.ruby_grammar.specs.Memos.{Sound}
use Rattle.ruby_grammar.proofs.Turning.{GoesOn}
use Rattle.ruby_grammar.proofs.engine.Reader.+scan.Given as goal

abbrev pub invariant-many-turns : goal.invariant-many-turns
invariant-many-turns g l = record {
  goes : GoesOn no_more (part_in l.self.rules.now l.self.tokens.now l.self.room l.self.number l.part).step (part_in l.self.rules.now l.self.tokens.now l.self.room l.self.number l.part).trees (length l.self.tokens.now + 1) l.place l.initial.store.forest l.initial.store.trail l.fuel l.at l.store.forest l.store.trail;
  sound : Sound l.self.rules.now l.self.tokens.now l.store.forest l.store.memo l.store.trail.row;
  extends : Extends l.initial.store.forest l.store.forest;
}

abbrev pub decreases-many-turns : goal.decreases-many-turns
decreases-many-turns g l = l.fuel

abbrev pub invariant-chain-turns : goal.invariant-chain-turns
invariant-chain-turns g l = record {
  goes : GoesOn (full_chain l.self.tokens.now l.head) (part_in l.self.rules.now l.self.tokens.now l.self.room l.self.number l.part).step (part_in l.self.rules.now l.self.tokens.now l.self.room l.self.number l.part).trees links l.place l.initial.store.forest l.initial.store.trail l.fuel l.at l.store.forest l.store.trail;
  sound : Sound l.self.rules.now l.self.tokens.now l.store.forest l.store.memo l.store.trail.row;
  extends : Extends l.initial.store.forest l.store.forest;
}

abbrev pub decreases-chain-turns : goal.decreases-chain-turns
decreases-chain-turns g l = l.fuel
