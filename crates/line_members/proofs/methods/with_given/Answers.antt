use Rattle.std.proofs.Common.{◌∙◌, ℕ, List, ap}
use Rattle.std.specs.Option.{is_some}
use Rattle.sig_rules.specs.declared.given.GivenMethod.{GivenMethod}
use Rattle.sig_rules.specs.Worlds.{by_name}
use Rattle.line_members.specs.Along.{is_given}
use Rattle.line_members.proofs.AlongLemmas.{if_ok}
use Rattle.line_members.proofs.FewLemmas.{given_in_front, nothing_given}
use Rattle.line_members.proofs.methods.with_given.Goals as goal

pub returns-then-is_empty : goal.returns-then-is_empty
returns-then-is_empty g c = λ step rest is once. nothing_given (g.M.Making.made c.args.making.now) step rest c.args.behind c.args.given (c.is_empty.ensures.0 c.if-is_empty.true) once

pub returns : goal.returns
returns g c = λ step rest is once.
    if_ok _ (λ all listed. given_in_front (g.M.Making.made c.args.making.now) step rest c.args.behind c.in_ok-found.found all _ c.args.given
    (λ name. ap (λ (es : List (List ℕ × Unit {0})). is_some (by_name es name)) c.as_slice-2.ensures ∙ c.in_ok-names.ensures name ∙ ap (λ (gs : List GivenMethod). is_given gs name) c.as_slice.ensures)
    (c.in_ok-found.ensures step rest is) listed) (c.in_front_of_few.ensures once)
