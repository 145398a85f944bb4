use Rattle.std.specs.Str.Iter.{char_indices_rest, char_indices_offset}
use Rattle.rbs_lexer.proofs.WordLen.{Stands}
use Rattle.rbs_lexer.proofs.words.any_len.Given as goal

abbrev pub invariant-loop-at : goal.invariant-loop-at
invariant-loop-at l = record {
  can_next : (goal.iterator-loop-at).can_next l.at-iterator;
  is_finite : (goal.iterator-loop-at).is_finite l.at-iterator;
  stands : Stands l.text (char_indices_offset l.at-iterator) (char_indices_rest l.at-iterator);
}
