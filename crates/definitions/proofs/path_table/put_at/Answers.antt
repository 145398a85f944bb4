use Rattle.std.proofs.Common.{◌∙◌}
use Rattle.std.proofs.lemmas.Result.{on_ok_weaker}
use Rattle.definitions.proofs.TableLemmas.{puts_at}
use Rattle.definitions.proofs.path_table.put_at.Goals as goal

pub returns : goal.returns
returns g c = on_ok_weaker c.put.result (λ puts. puts_at _ _ _ _ _ (c.in_ok-path.ensures ∙ c.as_slice.ensures) puts) c.put.ensures
