use Rattle.definitions.proofs.TableLemmas.{both_sides}
use Rattle.definitions.proofs.lined_table.both_lines.Goals as goal

pub returns : goal.returns
returns g c = both_sides (g.N.Names.all c.args.names.now) c.args.name.now.path c.in_ok-lines.lines c.instance_list_knowing-instance.result c.singleton_list_knowing-singleton.result c.in_ok-lines.ensures.first c.in_ok-lines.ensures.second c.instance_list_knowing-instance.ensures c.singleton_list_knowing-singleton.ensures
