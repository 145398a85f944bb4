use Rattle.definitions.proofs.TableLemmas.{all_few}
use Rattle.definitions.proofs.fresh_table.FreshTable.defined.Goals as goal

pub returns-clause-few_methods : goal.returns-clause-few_methods
returns-clause-few_methods g c = all_few c.args.lined _ _ c.in_ok-tables.ensures.defined.definitions c.in_ok-tables.ensures.defined.shapes
