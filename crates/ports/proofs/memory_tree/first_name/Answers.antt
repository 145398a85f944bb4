use Rattle.std.proofs.Common.{sym}
use Rattle.ports.proofs.PathLemmas.{no_slash}
use Rattle.ports.proofs.memory_tree.first_name.Goals as goal

pub returns-in-None-clause-folder : goal.returns-in-None-clause-folder
returns-in-None-clause-folder c = sym (no_slash c.args.rest.now c.in-None.ensures.cases)
