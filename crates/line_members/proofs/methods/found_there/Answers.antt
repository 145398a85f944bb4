use Rattle.std.proofs.Common.{◌∙◌, ℕ, List, ap}
use Rattle.std.specs.Option.{is_some}
use Rattle.sig_rules.specs.declared.given.GivenMethod.{GivenMethod}
use Rattle.sig_rules.specs.declared.method.Method.{Method}
use Rattle.sig_rules.specs.Worlds.{by_name}
use Rattle.line_members.specs.Along.{is_wanted}
use Rattle.line_members.proofs.AlongLemmas.{if_ok}
use Rattle.line_members.proofs.FewLemmas.{by_few}
use Rattle.line_members.proofs.methods.found_there.Goals as goal

pub returns : goal.returns
returns g c = λ step rest is.
    if_ok _ (λ found is_found. by_few (g.M.Making.made c.args.making.now) step rest c.args.behind.now c.in_ok-few.few found (λ name. is_some (by_name c.in_ok-wanted.wanted name)) c.args.given
    (λ name. c.in_ok-wanted.ensures name ∙ ap (λ (gs : List GivenMethod). is_wanted gs name) c.as_slice.ensures)
    (λ name there. c.in_ok-few.ensures name there ∙ ap (λ (es : List (List ℕ × Method)). by_name es name) c.as_slice-2.ensures) is_found) (c.methods_from.ensures step rest is)
