use Rattle.std.proofs.Common.{rules}
use Rattle.indexmap.proofs.CallerLemmas.{insert_entry-new}
use Rattle.method_steps.proofs.slots.Keys.note.Goals as goal

pub returns-in_ok-insert : goal.returns-in_ok-insert
returns-in_ok-insert c = search (rules, insert_entry-new)
