use Rattle.std.proofs.Common.{◌<◌, ◌^◌, length, sym, ◌∙◌, ap, arith}
use Rattle.std.specs.Str.Iter.{char_indices_rest, char_indices_offset}
use Rattle.rbs_lexer.proofs.WordLen.{stops, goes, starts, ends}
use Rattle.rbs_lexer.proofs.words.any_len.Goals as goal

pub loop-at-init : goal.loop-at-init
loop-at-init c =
    let same = c.into_iter-at-iterator.ensures.into_iter_gives in
    let short : length c.args.text.now < 2 ^ 64 = omega arith in
    let s = starts c.args.text.now _ _ short c.utf8.text (ap char_indices_offset same ∙ c.char_indices-at-items.ensures.offset) (ap char_indices_rest same ∙ c.char_indices-at-items.ensures.rest) in
    record { can_next = s.fits; is_finite = tt {0}; stands = s }

pub returns-then-not-is_word_character-clause-value : goal.returns-then-not-is_word_character-clause-value
returns-then-not-is_word_character-clause-value c =
    let step = c.in-Some.ensures.steps in
    step.0 ∙ stops c.args.text.now _ _ _ c.in-Some.character c.utf8.text c.loop-at.invariant.stands step.1 (sym c.is_word_character.ensures ∙ c.if-not-is_word_character.true)

pub loop-at-preserved : goal.loop-at-preserved
loop-at-preserved c =
    let step = c.in-Some.ensures.steps in
    let s = goes c.args.text.now _ _ _ c.in-Some.character c.utf8.text c.loop-at.invariant.stands step.1 _ step.2 (sym c.is_word_character.ensures ∙ c.if-not-is_word_character.false) in
    record { can_next = s.fits; is_finite = tt {0}; stands = s }

pub returns-clause-value : goal.returns-clause-value
returns-clause-value c = ends c.args.text.now _ _ c.loop-at.invariant.stands c.in-None.ensures.steps.0
