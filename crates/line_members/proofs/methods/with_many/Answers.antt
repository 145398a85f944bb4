use Rattle.std.proofs.Common.{◌∙◌, List, ap}
use Rattle.std.specs.Option.{is_some}
use Rattle.sig_rules.specs.declared.given.GivenMethod.{GivenMethod}
use Rattle.sig_rules.specs.Worlds.{by_name}
use Rattle.line_members.specs.Along.{is_given}
use Rattle.line_members.proofs.AlongLemmas.{if_ok}
use Rattle.line_members.proofs.FewLemmas.{given_in_front}
use Rattle.line_members.proofs.methods.with_many.Goals as goal

pub returns : goal.returns
returns g c = λ step rest is once.
    if_ok _ (λ all listed. given_in_front (g.M.Making.made c.args.making.now) step rest c.args.behind c.in_ok-found.found all (λ name. is_some (by_name c.in_ok-names.names name)) c.args.given
    (λ name. c.in_ok-names.ensures name ∙ ap (λ (gs : List GivenMethod). is_given gs name) c.as_slice.ensures) (c.in_ok-found.ensures step rest is) listed) (c.in_front.ensures once)
