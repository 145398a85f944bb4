use Rattle.std.proofs.Common.{◌∙◌}
use Rattle.std.proofs.lemmas.Result.{on_ok_weaker, on_err_weaker}
use Rattle.name_resolver.proofs.CandidateLemmas.{notes_more, notes_all, notes_joined, on_any_err}
use Rattle.name_resolver.proofs.noting.note_from.Goals as goal

-- not all first words could be noted
pub returns-in_err-found-clause-err : goal.returns-in_err-found-clause-err
returns-in_err-found-clause-err c = on_any_err c.from_residual.result (notes_more _ _ _ _ c.in_err-found.ensures.err)

-- all are noted
pub returns-clause-ok : goal.returns-clause-ok
returns-clause-ok c = on_ok_weaker c.note_whole.result (λ noted. notes_joined _ _ _ _ _ c.in_ok-found.ensures.ok noted) (c.note_whole.ensures.ok _ c.in_ok-found.ensures.found)

-- the whole name couldn't be noted
pub returns-clause-err : goal.returns-clause-err
returns-clause-err c = on_err_weaker c.note_whole.result (λ same. notes_all _ _ _ _ (same ∙ c.in_ok-found.ensures.ok)) c.note_whole.ensures.err
