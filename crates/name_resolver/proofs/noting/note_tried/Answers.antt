use Rattle.std.proofs.lemmas.Result.{on_err_weaker}
use Rattle.name_resolver.proofs.CandidateLemmas.{notes_none}
use Rattle.name_resolver.proofs.noting.note_tried.Goals as goal

pub returns-then-name-clause-err : goal.returns-then-name-clause-err
returns-then-name-clause-err c = on_err_weaker c.note.result (λ same. notes_none _ _ _ same) c.note.ensures.err
