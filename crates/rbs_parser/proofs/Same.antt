-- What is read with the same value.
use Rattle.std.proofs.Common.{◌≡◌, Ok, Err, refl}
use Rattle.rbs_grammar.specs.Grammar.{Outcome, then_read, pure}
use Rattle.rbs_grammar.specs.Parts.{same}

pub same_read : {A : Type 0} (o : Outcome A) → then_read o (pure same) ≡ o
same_read (Ok r) = refl
same_read (Err e) = refl
