use Rattle.std.proofs.Common.{◌∙◌, sym}
use Rattle.definitions.proofs.MadeLemmas.{put_keeps, put_made, put_sound}
use Rattle.definitions.proofs.lined_table.make_one.Goals as goal

pub returns-clause-sound : goal.returns-clause-sound
returns-clause-sound g c = put_sound (g.N.Names.all c.args.names.now) _ _ c.args.name.now.path _ c.requires c.in_ok-found.ensures c.in_ok-put.ensures

pub returns-clause-kept : goal.returns-clause-kept
returns-clause-kept g c = put_keeps (g.N.Names.all c.args.names.now) _ _ c.args.name.now.path _ c.in_ok-found.ensures c.in_ok-put.ensures

pub returns-clause-made : goal.returns-clause-made
returns-clause-made g c = put_made (g.N.Names.all c.args.names.now) _ _ c.args.name.now.path _ (sym c.has.ensures ∙ c.if-has.false) c.in_ok-found.ensures c.in_ok-put.ensures
