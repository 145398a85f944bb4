use Rattle.std.proofs.Common.{◌∙◌, ap, subst, sym}
use Rattle.sig_rules.specs.Sorted.{paths_of}
use Rattle.definitions.specs.MadeLines.{IsSound}
use Rattle.definitions.proofs.MadeLemmas.{made_all, sound_nothing}
use Rattle.definitions.proofs.lined_table.all_lines.Goals as goal

pub make_first-requires : goal.make_first-requires
make_first-requires g c =
    let all = g.N.Names.all c.args.names.now in
    subst (IsSound all) (sym c.new.ensures) (sound_nothing all)

pub returns : goal.returns
returns g c =
    let all = g.N.Names.all c.args.names.now in
    made_all all _ _ (ap paths_of c.as_slice.ensures ∙ c.in_ok-list.ensures) c.in_ok-make_all.ensures.sound c.in_ok-make_all.ensures.made
