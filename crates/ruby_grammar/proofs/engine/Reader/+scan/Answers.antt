use Rattle.std.proofs.Common.{◌∙◌, [], ap, sym, subst, refl, arith}
use Rattle.ruby_grammar.specs.declared.trail.Trail.{Trail}
use Rattle.ruby_grammar.specs.Meaning.{called, opens, part_in, row_trees}
use Rattle.ruby_grammar.specs.Memos.{Goes, Sound}
use Rattle.ruby_grammar.specs.Steps.{no_more, full_chain, go_on, or_try, passed, turns}
use Rattle.ruby_grammar.proofs.Extends.{extends_same, extends_then}
use Rattle.ruby_grammar.proofs.Soundness.{back_sound, sound_row}
use Rattle.ruby_grammar.proofs.Reading.{both_fails, both_goes, deep_then, ended_fails, ended_passes, ended_stops, first_goes, goes_as, goes_failed, goes_to, guard_fails, guard_passes, marked_fails, no_memory, not_fails, not_passes, other_goes}
use Rattle.ruby_grammar.proofs.Turning.{chain_ends, chain_full, full_chain_prepends, no_more_prepends, row_ends, turn_fails, turn_goes, turn_idles, turn_stops}
use Rattle.ruby_grammar.proofs.engine.Reader.+scan.Goals as goal

pub many-turns-init : goal.many-turns-init
many-turns-init g t c = record {
  goes = λ out more new goes. goes;
  sound = c.requires.sound;
  extends = extends_same _;
}

pub many-turns-preserved : goal.many-turns-preserved
many-turns-preserved g t c = record {
  goes = λ out more new goes. c.turns.invariant.goes out more new (turn_goes no_more (part_in c.args.self.now.rules.now c.args.self.now.tokens.now c.args.self.now.room c.args.self.now.number c.args.part.now).step (part_in c.args.self.now.rules.now c.args.self.now.tokens.now c.args.self.now.room c.args.self.now.number c.args.part.now).trees no_more_prepends c.turns.fuel c.turns.at c.in-Passed.next _ _ _ _ (omega arith) c.if-at-next.true c.in-Passed.ensures.goes out more new goes);
  sound = c.in-Passed.ensures.sound;
  extends = extends_then _ _ _ c.turns.invariant.extends c.in-Passed.ensures.extends;
}

pub many-returns-in-TooDeep-clause-extends : goal.many-returns-in-TooDeep-clause-extends
many-returns-in-TooDeep-clause-extends g t c = extends_then _ _ _ c.turns.invariant.extends c.in-TooDeep.ensures.extends

pub many-returns-in-TooDeep-clause-goes : goal.many-returns-in-TooDeep-clause-goes
many-returns-in-TooDeep-clause-goes g t c = c.turns.invariant.goes _ _ _ (turn_stops no_more (part_in c.args.self.now.rules.now c.args.self.now.tokens.now c.args.self.now.room c.args.self.now.number c.args.part.now).step (part_in c.args.self.now.rules.now c.args.self.now.tokens.now c.args.self.now.room c.args.self.now.number c.args.part.now).trees c.turns.fuel c.turns.at c.in-TooDeep.at _ _ _ _ _ _ (omega arith) c.in-TooDeep.ensures.goes)

pub many-returns-in-NoMemory-clause-extends : goal.many-returns-in-NoMemory-clause-extends
many-returns-in-NoMemory-clause-extends g t c = extends_then _ _ _ c.turns.invariant.extends c.in-NoMemory.ensures.extends

pub many-returns-in-NoMemory-clause-goes : goal.many-returns-in-NoMemory-clause-goes
many-returns-in-NoMemory-clause-goes g t c = no_memory _ _ _ _ _ _

pub many-returns-else-at-next-clause-sound : goal.many-returns-else-at-next-clause-sound
many-returns-else-at-next-clause-sound g t c = subst (Sound c.args.self.now.rules.now c.args.self.now.tokens.now _ _) (sym (ap (λ (t : Trail). t.row) c.back_to.ensures)) (back_sound c.args.self.now.rules.now c.args.self.now.tokens.now c.turns.store.forest _ c.turns.store.memo _ c.turns.store.trail.row _ c.in-Passed.ensures.extends c.turns.invariant.sound c.in-Passed.ensures.sound)

pub many-returns-else-at-next-clause-extends : goal.many-returns-else-at-next-clause-extends
many-returns-else-at-next-clause-extends g t c = extends_then _ _ _ c.turns.invariant.extends c.in-Passed.ensures.extends

pub many-returns-else-at-next-clause-goes : goal.many-returns-else-at-next-clause-goes
many-returns-else-at-next-clause-goes g t c = c.turns.invariant.goes _ _ _ (goes_to _ _ _ _ _ _ _ _ c.back_to.ensures (turn_idles no_more (part_in c.args.self.now.rules.now c.args.self.now.tokens.now c.args.self.now.room c.args.self.now.number c.args.part.now).step (part_in c.args.self.now.rules.now c.args.self.now.tokens.now c.args.self.now.room c.args.self.now.number c.args.part.now).trees c.turns.fuel c.turns.at c.in-Passed.next _ _ _ _ (omega arith) (omega arith) c.in-Passed.ensures.extends c.in-Passed.ensures.goes))

pub many-returns-in-Failed-clause-sound : goal.many-returns-in-Failed-clause-sound
many-returns-in-Failed-clause-sound g t c = subst (Sound c.args.self.now.rules.now c.args.self.now.tokens.now _ _) (sym (ap (λ (t : Trail). t.row) c.back_to-in-Failed.ensures)) (back_sound c.args.self.now.rules.now c.args.self.now.tokens.now c.turns.store.forest _ c.turns.store.memo _ c.turns.store.trail.row _ c.in-Failed.ensures.extends c.turns.invariant.sound c.in-Failed.ensures.sound)

pub many-returns-in-Failed-clause-extends : goal.many-returns-in-Failed-clause-extends
many-returns-in-Failed-clause-extends g t c = extends_then _ _ _ c.turns.invariant.extends c.in-Failed.ensures.extends

pub many-returns-in-Failed-clause-goes : goal.many-returns-in-Failed-clause-goes
many-returns-in-Failed-clause-goes g t c = c.turns.invariant.goes _ _ _ (goes_to _ _ _ _ _ _ _ _ c.back_to-in-Failed.ensures (turn_fails no_more (part_in c.args.self.now.rules.now c.args.self.now.tokens.now c.args.self.now.room c.args.self.now.number c.args.part.now).step (part_in c.args.self.now.rules.now c.args.self.now.tokens.now c.args.self.now.room c.args.self.now.number c.args.part.now).trees c.turns.fuel c.turns.at _ _ _ _ (omega arith) c.in-Failed.ensures.extends c.in-Failed.ensures.goes))

pub chain-turns-init : goal.chain-turns-init
chain-turns-init g t c = record {
  goes = λ out more new goes. subst (λ k. Goes (turns (full_chain c.args.self.now.tokens.now c.args.head.now) (part_in c.args.self.now.rules.now c.args.self.now.tokens.now c.args.self.now.room c.args.self.now.number c.args.part.now).step k (passed c.args.place) c.args.place) (row_trees (part_in c.args.self.now.rules.now c.args.self.now.tokens.now c.args.self.now.room c.args.self.now.number c.args.part.now).step (part_in c.args.self.now.rules.now c.args.self.now.tokens.now c.args.self.now.room c.args.self.now.number c.args.part.now).trees k c.args.place) c.args.store.now.forest c.args.store.now.trail out more new) c.links_limit-fuel.ensures goes;
  sound = c.requires.sound;
  extends = extends_same _;
}

pub chain-turns-preserved : goal.chain-turns-preserved
chain-turns-preserved g t c = record {
  goes = λ out more new goes. c.turns.invariant.goes out more new (turn_goes (full_chain c.args.self.now.tokens.now c.args.head.now) (part_in c.args.self.now.rules.now c.args.self.now.tokens.now c.args.self.now.room c.args.self.now.number c.args.part.now).step (part_in c.args.self.now.rules.now c.args.self.now.tokens.now c.args.self.now.room c.args.self.now.number c.args.part.now).trees (full_chain_prepends c.args.self.now.tokens.now c.args.head.now) c.turns.fuel c.turns.at c.in-Passed.next _ _ _ _ (omega arith) c.if-at-next.true c.in-Passed.ensures.goes out more new goes);
  sound = c.in-Passed.ensures.sound;
  extends = extends_then _ _ _ c.turns.invariant.extends c.in-Passed.ensures.extends;
}

pub chain-returns-in-TooDeep-clause-extends : goal.chain-returns-in-TooDeep-clause-extends
chain-returns-in-TooDeep-clause-extends g t c = extends_then _ _ _ c.turns.invariant.extends c.in-TooDeep.ensures.extends

pub chain-returns-in-TooDeep-clause-goes : goal.chain-returns-in-TooDeep-clause-goes
chain-returns-in-TooDeep-clause-goes g t c = c.turns.invariant.goes _ _ _ (turn_stops (full_chain c.args.self.now.tokens.now c.args.head.now) (part_in c.args.self.now.rules.now c.args.self.now.tokens.now c.args.self.now.room c.args.self.now.number c.args.part.now).step (part_in c.args.self.now.rules.now c.args.self.now.tokens.now c.args.self.now.room c.args.self.now.number c.args.part.now).trees c.turns.fuel c.turns.at c.in-TooDeep.at _ _ _ _ _ _ (omega arith) c.in-TooDeep.ensures.goes)

pub chain-returns-in-NoMemory-clause-extends : goal.chain-returns-in-NoMemory-clause-extends
chain-returns-in-NoMemory-clause-extends g t c = extends_then _ _ _ c.turns.invariant.extends c.in-NoMemory.ensures.extends

pub chain-returns-in-NoMemory-clause-goes : goal.chain-returns-in-NoMemory-clause-goes
chain-returns-in-NoMemory-clause-goes g t c = no_memory _ _ _ _ _ _

pub chain-returns-else-at-next-clause-sound : goal.chain-returns-else-at-next-clause-sound
chain-returns-else-at-next-clause-sound g t c = subst (Sound c.args.self.now.rules.now c.args.self.now.tokens.now _ _) (sym (ap (λ (t : Trail). t.row) c.back_to.ensures)) (back_sound c.args.self.now.rules.now c.args.self.now.tokens.now c.turns.store.forest _ c.turns.store.memo _ c.turns.store.trail.row _ c.in-Passed.ensures.extends c.turns.invariant.sound c.in-Passed.ensures.sound)

pub chain-returns-else-at-next-clause-extends : goal.chain-returns-else-at-next-clause-extends
chain-returns-else-at-next-clause-extends g t c = extends_then _ _ _ c.turns.invariant.extends c.in-Passed.ensures.extends

pub chain-returns-else-at-next-clause-goes : goal.chain-returns-else-at-next-clause-goes
chain-returns-else-at-next-clause-goes g t c = c.turns.invariant.goes _ _ _ (goes_to _ _ _ _ _ _ _ _ c.back_to.ensures (turn_idles (full_chain c.args.self.now.tokens.now c.args.head.now) (part_in c.args.self.now.rules.now c.args.self.now.tokens.now c.args.self.now.room c.args.self.now.number c.args.part.now).step (part_in c.args.self.now.rules.now c.args.self.now.tokens.now c.args.self.now.room c.args.self.now.number c.args.part.now).trees c.turns.fuel c.turns.at c.in-Passed.next _ _ _ _ (omega arith) (omega arith) c.in-Passed.ensures.extends c.in-Passed.ensures.goes))

pub chain-returns-in-Failed-clause-sound : goal.chain-returns-in-Failed-clause-sound
chain-returns-in-Failed-clause-sound g t c = subst (Sound c.args.self.now.rules.now c.args.self.now.tokens.now _ _) (sym (ap (λ (t : Trail). t.row) c.back_to-in-Failed.ensures)) (back_sound c.args.self.now.rules.now c.args.self.now.tokens.now c.turns.store.forest _ c.turns.store.memo _ c.turns.store.trail.row _ c.in-Failed.ensures.extends c.turns.invariant.sound c.in-Failed.ensures.sound)

pub chain-returns-in-Failed-clause-extends : goal.chain-returns-in-Failed-clause-extends
chain-returns-in-Failed-clause-extends g t c = extends_then _ _ _ c.turns.invariant.extends c.in-Failed.ensures.extends

pub chain-returns-in-Failed-clause-goes : goal.chain-returns-in-Failed-clause-goes
chain-returns-in-Failed-clause-goes g t c = c.turns.invariant.goes _ _ _ (goes_to _ _ _ _ _ _ _ _ c.back_to-in-Failed.ensures (turn_fails (full_chain c.args.self.now.tokens.now c.args.head.now) (part_in c.args.self.now.rules.now c.args.self.now.tokens.now c.args.self.now.room c.args.self.now.number c.args.part.now).step (part_in c.args.self.now.rules.now c.args.self.now.tokens.now c.args.self.now.room c.args.self.now.number c.args.part.now).trees c.turns.fuel c.turns.at _ _ _ _ (omega arith) c.in-Failed.ensures.extends c.in-Failed.ensures.goes))

pub many-returns-clause-goes : goal.many-returns-clause-goes
many-returns-clause-goes g t c = c.turns.invariant.goes _ _ _ (row_ends (part_in c.args.self.now.rules.now c.args.self.now.tokens.now c.args.self.now.room c.args.self.now.number c.args.part.now).step (part_in c.args.self.now.rules.now c.args.self.now.tokens.now c.args.self.now.room c.args.self.now.number c.args.part.now).trees c.turns.fuel c.turns.at _ _ (omega arith))

pub chain-returns-then-stands_in-clause-goes : goal.chain-returns-then-stands_in-clause-goes
chain-returns-then-stands_in-clause-goes g t c = c.turns.invariant.goes _ _ _ (chain_full c.args.self.now.tokens.now c.args.head.now (part_in c.args.self.now.rules.now c.args.self.now.tokens.now c.args.self.now.room c.args.self.now.number c.args.part.now).step (part_in c.args.self.now.rules.now c.args.self.now.tokens.now c.args.self.now.room c.args.self.now.number c.args.part.now).trees c.turns.fuel c.turns.at _ _ _ _ (omega arith) c.if-stands_in.ensures)

pub chain-returns-else-stands_in-clause-goes : goal.chain-returns-else-stands_in-clause-goes
chain-returns-else-stands_in-clause-goes g t c = c.turns.invariant.goes _ _ _ (goes_to _ _ _ _ _ _ _ _ c.fails-else-stands_in.ensures (chain_ends c.args.self.now.tokens.now c.args.head.now (part_in c.args.self.now.rules.now c.args.self.now.tokens.now c.args.self.now.room c.args.self.now.number c.args.part.now).step (part_in c.args.self.now.rules.now c.args.self.now.tokens.now c.args.self.now.room c.args.self.now.number c.args.part.now).trees c.turns.fuel c.turns.at _ _ (omega arith) c.if-stands_in.ensures))

pub chained-returns-in-Passed-clause-sound : goal.chained-returns-in-Passed-clause-sound
chained-returns-in-Passed-clause-sound g t c = c.chained.ensures.sound c.args.self.now.rules.now c.args.self.now.tokens.now c.args.store.now.forest ((part_in c.args.self.now.rules.now c.args.self.now.tokens.now c.args.self.now.room c.args.self.now.number c.args.part.now).step c.args.place) ((part_in c.args.self.now.rules.now c.args.self.now.tokens.now c.args.self.now.room c.args.self.now.number c.args.part.now).trees c.args.place) c.args.store.now.trail (sound_row _ _ _ _ _ c.requires.sound) c.in-Passed.ensures.extends refl c.in-Passed.ensures.goes c.in-Passed.ensures.sound

pub chained-returns-in-Passed-clause-extends : goal.chained-returns-in-Passed-clause-extends
chained-returns-in-Passed-clause-extends g t c = extends_then _ _ _ c.in-Passed.ensures.extends c.chained.ensures.extends

pub chained-returns-in-Failed-clause-goes : goal.chained-returns-in-Failed-clause-goes
chained-returns-in-Failed-clause-goes g t c = marked_fails ((part_in c.args.self.now.rules.now c.args.self.now.tokens.now c.args.self.now.room c.args.self.now.number c.args.part.now).step c.args.place) c.args.name ((part_in c.args.self.now.rules.now c.args.self.now.tokens.now c.args.self.now.room c.args.self.now.number c.args.part.now).trees c.args.place) _ _ _ _ _ c.in-Failed.ensures.goes

pub chained-returns-in-TooDeep-clause-goes : goal.chained-returns-in-TooDeep-clause-goes
chained-returns-in-TooDeep-clause-goes g t c = deep_then ((part_in c.args.self.now.rules.now c.args.self.now.tokens.now c.args.self.now.room c.args.self.now.number c.args.part.now).step c.args.place) _ ((part_in c.args.self.now.rules.now c.args.self.now.tokens.now c.args.self.now.room c.args.self.now.number c.args.part.now).trees c.args.place) _ _ _ _ _ _ _ _ _ c.in-TooDeep.at c.in-TooDeep.ensures.goes

pub chained-returns-in-NoMemory-clause-goes : goal.chained-returns-in-NoMemory-clause-goes
chained-returns-in-NoMemory-clause-goes g t c = no_memory _ _ _ _ _ _

pub labelled-returns-in-Passed-clause-sound : goal.labelled-returns-in-Passed-clause-sound
labelled-returns-in-Passed-clause-sound g t c = c.label.ensures.sound c.args.self.now.rules.now c.args.self.now.tokens.now c.args.store.now.forest ((part_in c.args.self.now.rules.now c.args.self.now.tokens.now c.args.self.now.room c.args.self.now.number c.args.part.now).step c.args.place) ((part_in c.args.self.now.rules.now c.args.self.now.tokens.now c.args.self.now.room c.args.self.now.number c.args.part.now).trees c.args.place) c.args.store.now.trail (sound_row _ _ _ _ _ c.requires.sound) c.in-Passed.ensures.extends refl c.in-Passed.ensures.goes c.in-Passed.ensures.sound

pub labelled-returns-in-Passed-clause-extends : goal.labelled-returns-in-Passed-clause-extends
labelled-returns-in-Passed-clause-extends g t c = extends_then _ _ _ c.in-Passed.ensures.extends c.label.ensures.extends

pub labelled-returns-in-Failed-clause-goes : goal.labelled-returns-in-Failed-clause-goes
labelled-returns-in-Failed-clause-goes g t c = marked_fails ((part_in c.args.self.now.rules.now c.args.self.now.tokens.now c.args.self.now.room c.args.self.now.number c.args.part.now).step c.args.place) c.args.name ((part_in c.args.self.now.rules.now c.args.self.now.tokens.now c.args.self.now.room c.args.self.now.number c.args.part.now).trees c.args.place) _ _ _ _ _ c.in-Failed.ensures.goes

pub labelled-returns-in-TooDeep-clause-goes : goal.labelled-returns-in-TooDeep-clause-goes
labelled-returns-in-TooDeep-clause-goes g t c = deep_then ((part_in c.args.self.now.rules.now c.args.self.now.tokens.now c.args.self.now.room c.args.self.now.number c.args.part.now).step c.args.place) _ ((part_in c.args.self.now.rules.now c.args.self.now.tokens.now c.args.self.now.room c.args.self.now.number c.args.part.now).trees c.args.place) _ _ _ _ _ _ _ _ _ c.in-TooDeep.at c.in-TooDeep.ensures.goes

pub labelled-returns-in-NoMemory-clause-goes : goal.labelled-returns-in-NoMemory-clause-goes
labelled-returns-in-NoMemory-clause-goes g t c = no_memory _ _ _ _ _ _

pub ended-returns-then-mark_in-clause-goes : goal.ended-returns-then-mark_in-clause-goes
ended-returns-then-mark_in-clause-goes g t c = ended_passes ((part_in c.args.self.now.rules.now c.args.self.now.tokens.now c.args.self.now.room c.args.self.now.number c.args.part.now).step c.args.place) c.args.labels.now ((part_in c.args.self.now.rules.now c.args.self.now.tokens.now c.args.self.now.room c.args.self.now.number c.args.part.now).trees c.args.place) c.args.place c.in-Passed.next _ _ c.args.store.now.trail _ c.in-Passed.ensures.goes (sym c.mark_in.ensures ∙ c.if-mark_in.true)

pub ended-returns-else-mark_in-clause-goes : goal.ended-returns-else-mark_in-clause-goes
ended-returns-else-mark_in-clause-goes g t c = goes_to _ _ _ _ _ _ _ _ c.fails.ensures (ended_stops ((part_in c.args.self.now.rules.now c.args.self.now.tokens.now c.args.self.now.room c.args.self.now.number c.args.part.now).step c.args.place) c.args.labels.now ((part_in c.args.self.now.rules.now c.args.self.now.tokens.now c.args.self.now.room c.args.self.now.number c.args.part.now).trees c.args.place) c.args.place c.in-Passed.next _ _ c.args.store.now.trail _ c.in-Passed.ensures.goes (sym c.mark_in.ensures ∙ c.if-mark_in.false))

pub ended-returns-in-Failed-clause-goes : goal.ended-returns-in-Failed-clause-goes
ended-returns-in-Failed-clause-goes g t c = ended_fails ((part_in c.args.self.now.rules.now c.args.self.now.tokens.now c.args.self.now.room c.args.self.now.number c.args.part.now).step c.args.place) c.args.labels.now ((part_in c.args.self.now.rules.now c.args.self.now.tokens.now c.args.self.now.room c.args.self.now.number c.args.part.now).trees c.args.place) c.args.place _ _ c.args.store.now.trail _ c.in-Failed.ensures.goes

pub ended-returns-in-TooDeep-clause-goes : goal.ended-returns-in-TooDeep-clause-goes
ended-returns-in-TooDeep-clause-goes g t c = deep_then ((part_in c.args.self.now.rules.now c.args.self.now.tokens.now c.args.self.now.room c.args.self.now.number c.args.part.now).step c.args.place) _ ((part_in c.args.self.now.rules.now c.args.self.now.tokens.now c.args.self.now.room c.args.self.now.number c.args.part.now).trees c.args.place) _ _ _ _ _ _ _ _ _ c.in-TooDeep.at c.in-TooDeep.ensures.goes

pub ended-returns-in-NoMemory-clause-goes : goal.ended-returns-in-NoMemory-clause-goes
ended-returns-in-NoMemory-clause-goes g t c = no_memory _ _ _ _ _ _

pub negated-returns-in-TooDeep-clause-goes : goal.negated-returns-in-TooDeep-clause-goes
negated-returns-in-TooDeep-clause-goes g t c = deep_then ((part_in c.args.self.now.rules.now c.args.self.now.tokens.now c.args.self.now.room c.args.self.now.number c.args.part.now).step c.args.place) _ ((part_in c.args.self.now.rules.now c.args.self.now.tokens.now c.args.self.now.room c.args.self.now.number c.args.part.now).trees c.args.place) _ _ _ _ _ _ _ _ _ c.in-TooDeep.at c.in-TooDeep.ensures.goes

pub negated-returns-in-NoMemory-clause-goes : goal.negated-returns-in-NoMemory-clause-goes
negated-returns-in-NoMemory-clause-goes g t c = no_memory _ _ _ _ _ _

pub negated-returns-in-Passed-clause-goes : goal.negated-returns-in-Passed-clause-goes
negated-returns-in-Passed-clause-goes g t c = goes_to _ _ _ _ _ _ _ _ c.fails.ensures (not_fails ((part_in c.args.self.now.rules.now c.args.self.now.tokens.now c.args.self.now.room c.args.self.now.number c.args.part.now).step c.args.place) ((part_in c.args.self.now.rules.now c.args.self.now.tokens.now c.args.self.now.room c.args.self.now.number c.args.part.now).trees c.args.place) [] c.args.place _ _ _ c.args.store.now.trail _ c.in-Passed.ensures.goes)

pub negated-returns-in-Failed-clause-sound : goal.negated-returns-in-Failed-clause-sound
negated-returns-in-Failed-clause-sound g t c = subst (Sound c.args.self.now.rules.now c.args.self.now.tokens.now _ _) (sym (ap (λ (t : Trail). t.row) c.back_to.ensures)) (back_sound c.args.self.now.rules.now c.args.self.now.tokens.now c.args.store.now.forest _ c.args.store.now.memo _ c.args.store.now.trail.row _ c.in-Failed.ensures.extends c.requires.sound c.in-Failed.ensures.sound)

pub negated-returns-in-Failed-clause-goes : goal.negated-returns-in-Failed-clause-goes
negated-returns-in-Failed-clause-goes g t c = goes_to _ _ _ _ _ _ _ _ c.back_to.ensures (not_passes ((part_in c.args.self.now.rules.now c.args.self.now.tokens.now c.args.self.now.room c.args.self.now.number c.args.part.now).step c.args.place) ((part_in c.args.self.now.rules.now c.args.self.now.tokens.now c.args.self.now.room c.args.self.now.number c.args.part.now).trees c.args.place) c.args.place _ _ c.args.store.now.trail _ c.in-Failed.ensures.extends c.in-Failed.ensures.goes)

pub behind-returns-in-Passed-clause-goes : goal.behind-returns-in-Passed-clause-goes
behind-returns-in-Passed-clause-goes g t c = λ r ts lists begun first. both_goes r (part_in c.args.self.now.rules.now c.args.self.now.tokens.now c.args.self.now.room c.args.self.now.number c.args.part.now).step ts (part_in c.args.self.now.rules.now c.args.self.now.tokens.now c.args.self.now.room c.args.self.now.number c.args.part.now).trees lists _ _ begun _ _ c.in-Passed.mid c.scan.result (goes_as r ts lists _ begun _ _ _ c.in-Passed.is first) c.scan.ensures.goes

pub behind-returns-in-Failed-clause-goes : goal.behind-returns-in-Failed-clause-goes
behind-returns-in-Failed-clause-goes g t c = λ r ts lists begun first. both_fails r (part_in c.args.self.now.rules.now c.args.self.now.tokens.now c.args.self.now.room c.args.self.now.number c.args.part.now).step ts (part_in c.args.self.now.rules.now c.args.self.now.tokens.now c.args.self.now.room c.args.self.now.number c.args.part.now).trees lists _ begun _ (goes_as r ts lists _ begun _ _ _ c.in-Failed.is first)

pub behind-returns-in-TooDeep-clause-goes : goal.behind-returns-in-TooDeep-clause-goes
behind-returns-in-TooDeep-clause-goes g t c = λ r ts lists begun first. deep_then r (λ s. go_on (part_in c.args.self.now.rules.now c.args.self.now.tokens.now c.args.self.now.room c.args.self.now.number c.args.part.now).step s s.next) ts _ _ _ _ _ _ _ _ _ c.in-TooDeep.at (goes_as r ts lists _ begun _ _ _ c.in-TooDeep.is first)

pub behind-returns-in-NoMemory-clause-goes : goal.behind-returns-in-NoMemory-clause-goes
behind-returns-in-NoMemory-clause-goes g t c = λ r ts lists begun first. no_memory _ _ _ _ _ _

pub instead-returns-in-Passed-clause-goes : goal.instead-returns-in-Passed-clause-goes
instead-returns-in-Passed-clause-goes g t c = λ r ts lists more first. first_goes r (part_in c.args.self.now.rules.now c.args.self.now.tokens.now c.args.self.now.room c.args.self.now.number c.args.part.now).step ts ((part_in c.args.self.now.rules.now c.args.self.now.tokens.now c.args.self.now.room c.args.self.now.number c.args.part.now).trees c.args.place) c.args.place c.in-Passed.next lists _ c.args.begun _ (goes_as r ts lists _ c.args.begun _ _ _ c.in-Passed.is first)

pub instead-returns-in-Failed-clause-goes : goal.instead-returns-in-Failed-clause-goes
instead-returns-in-Failed-clause-goes g t c = λ r ts lists more first. other_goes r (part_in c.args.self.now.rules.now c.args.self.now.tokens.now c.args.self.now.room c.args.self.now.number c.args.part.now).step ts ((part_in c.args.self.now.rules.now c.args.self.now.tokens.now c.args.self.now.room c.args.self.now.number c.args.part.now).trees c.args.place) c.args.place lists _ _ c.args.begun _ _ c.scan.result more (goes_as r ts lists _ c.args.begun _ _ _ c.in-Failed.is first) c.scan.ensures.goes

pub instead-returns-in-TooDeep-clause-goes : goal.instead-returns-in-TooDeep-clause-goes
instead-returns-in-TooDeep-clause-goes g t c = λ r ts lists more first. deep_then r (λ s. or_try (part_in c.args.self.now.rules.now c.args.self.now.tokens.now c.args.self.now.room c.args.self.now.number c.args.part.now).step c.args.place s s.next) ts _ _ _ _ _ _ _ _ _ c.in-TooDeep.at (goes_as r ts lists _ c.args.begun _ _ _ c.in-TooDeep.is first)

pub instead-returns-in-NoMemory-clause-goes : goal.instead-returns-in-NoMemory-clause-goes
instead-returns-in-NoMemory-clause-goes g t c = λ r ts lists more first. no_memory _ _ _ _ _ _

pub behind-returns-in-Failed-clause-extends : goal.behind-returns-in-Failed-clause-extends
behind-returns-in-Failed-clause-extends g t c = extends_same _

pub behind-returns-in-TooDeep-clause-extends : goal.behind-returns-in-TooDeep-clause-extends
behind-returns-in-TooDeep-clause-extends g t c = extends_same _

pub behind-returns-in-NoMemory-clause-extends : goal.behind-returns-in-NoMemory-clause-extends
behind-returns-in-NoMemory-clause-extends g t c = extends_same _

pub instead-returns-in-TooDeep-clause-extends : goal.instead-returns-in-TooDeep-clause-extends
instead-returns-in-TooDeep-clause-extends g t c = extends_same _

pub instead-returns-in-NoMemory-clause-extends : goal.instead-returns-in-NoMemory-clause-extends
instead-returns-in-NoMemory-clause-extends g t c = extends_same _

pub instead-returns-in-Passed-clause-extends : goal.instead-returns-in-Passed-clause-extends
instead-returns-in-Passed-clause-extends g t c = extends_same _

pub guarded-returns-then-stands-clause-goes : goal.guarded-returns-then-stands-clause-goes
guarded-returns-then-stands-clause-goes g t c = guard_passes c.args.self.now.tokens.now c.args.table.now (part_in c.args.self.now.rules.now c.args.self.now.tokens.now c.args.self.now.room c.args.self.now.number c.args.part.now).step _ _ _ _ _ _ c.scan.result (sym c.stands.ensures ∙ c.if-stands.true) c.scan.ensures.goes

pub guarded-returns-else-stands-clause-goes : goal.guarded-returns-else-stands-clause-goes
guarded-returns-else-stands-clause-goes g t c = goes_failed _ _ _ _ _ c.args.place (guard_fails c.args.self.now.tokens.now c.args.table.now (part_in c.args.self.now.rules.now c.args.self.now.tokens.now c.args.self.now.room c.args.self.now.number c.args.part.now).step c.args.place (sym c.stands.ensures ∙ c.if-stands.false)) c.fails.ensures

pub guarded-returns-else-stands-clause-extends : goal.guarded-returns-else-stands-clause-extends
guarded-returns-else-stands-clause-extends g t c = extends_same _

pub scan-returns-in-Empty-clause-extends : goal.scan-returns-in-Empty-clause-extends
scan-returns-in-Empty-clause-extends g t c = extends_same _

pub scan-returns-in-Both-clause-extends : goal.scan-returns-in-Both-clause-extends
scan-returns-in-Both-clause-extends g t c = extends_then _ _ _ c.scan-outcome.ensures.extends c.behind.ensures.extends

pub scan-returns-in-Either-clause-extends : goal.scan-returns-in-Either-clause-extends
scan-returns-in-Either-clause-extends g t c = extends_then _ _ _ c.tried-outcome.ensures.extends c.instead.ensures.extends

pub tried-returns-then-is_barred-clause-extends : goal.tried-returns-then-is_barred-clause-extends
tried-returns-then-is_barred-clause-extends g t c = extends_same _

pub tried-returns-then-is_barred-clause-goes : goal.tried-returns-then-is_barred-clause-goes
tried-returns-then-is_barred-clause-goes g t c = goes_failed _ _ _ _ _ c.args.place (c.is_barred.ensures c.if-is_barred.true (opens c.args.self.now.rules.now c.args.self.now.tokens.now c.args.self.now.room.rules c.args.self.now.room.words) (called c.args.self.now.rules.now c.args.self.now.tokens.now (opens c.args.self.now.rules.now c.args.self.now.tokens.now c.args.self.now.room.rules c.args.self.now.room.words) c.args.self.now.number)) c.fails.ensures

pub many-returns-then-is_barred-clause-extends : goal.many-returns-then-is_barred-clause-extends
many-returns-then-is_barred-clause-extends g t c = c.turns.invariant.extends

pub many-returns-then-is_barred-clause-goes : goal.many-returns-then-is_barred-clause-goes
many-returns-then-is_barred-clause-goes g t c = c.turns.invariant.goes _ _ _ (goes_to _ _ _ _ _ _ _ _ c.fails.ensures (turn_fails no_more (part_in c.args.self.now.rules.now c.args.self.now.tokens.now c.args.self.now.room c.args.self.now.number c.args.part.now).step (part_in c.args.self.now.rules.now c.args.self.now.tokens.now c.args.self.now.room c.args.self.now.number c.args.part.now).trees c.turns.fuel c.turns.at _ _ c.turns.store.trail _ (omega arith) (extends_same _) (goes_failed _ _ _ _ _ c.turns.at (c.is_barred.ensures c.if-is_barred.true (opens c.args.self.now.rules.now c.args.self.now.tokens.now c.args.self.now.room.rules c.args.self.now.room.words) (called c.args.self.now.rules.now c.args.self.now.tokens.now (opens c.args.self.now.rules.now c.args.self.now.tokens.now c.args.self.now.room.rules c.args.self.now.room.words) c.args.self.now.number)) refl)))

pub chain-returns-then-is_barred-clause-extends : goal.chain-returns-then-is_barred-clause-extends
chain-returns-then-is_barred-clause-extends g t c = c.turns.invariant.extends

pub chain-returns-then-is_barred-clause-goes : goal.chain-returns-then-is_barred-clause-goes
chain-returns-then-is_barred-clause-goes g t c = c.turns.invariant.goes _ _ _ (goes_to _ _ _ _ _ _ _ _ c.fails.ensures (turn_fails (full_chain c.args.self.now.tokens.now c.args.head.now) (part_in c.args.self.now.rules.now c.args.self.now.tokens.now c.args.self.now.room c.args.self.now.number c.args.part.now).step (part_in c.args.self.now.rules.now c.args.self.now.tokens.now c.args.self.now.room c.args.self.now.number c.args.part.now).trees c.turns.fuel c.turns.at _ _ c.turns.store.trail _ (omega arith) (extends_same _) (goes_failed _ _ _ _ _ c.turns.at (c.is_barred.ensures c.if-is_barred.true (opens c.args.self.now.rules.now c.args.self.now.tokens.now c.args.self.now.room.rules c.args.self.now.room.words) (called c.args.self.now.rules.now c.args.self.now.tokens.now (opens c.args.self.now.rules.now c.args.self.now.tokens.now c.args.self.now.room.rules c.args.self.now.room.words) c.args.self.now.number)) refl)))
