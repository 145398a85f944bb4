use Rattle.std.proofs.Common.{◌∙◌, ◌++◌, ℕ, List, None, ap, subst, if◌then◌else◌}
use Rattle.std.specs.Option.{is_some}
use Rattle.sig_rules.specs.declared.method.Method.{Method}
use Rattle.sig_rules.specs.Worlds.{by_name}
use Rattle.line_members.specs.Along.{IsListed}
use Rattle.line_members.proofs.AlongLemmas.{if_ok}
use Rattle.line_members.proofs.EntryLemmas.{own_in_front}
use Rattle.line_members.proofs.methods.in_front.Goals as goal

pub returns : goal.returns
returns c = λ once.
    if_ok _ (λ all is. own_in_front (λ name. is_some (by_name c.args.names name)) (by_name c.args.found.now) c.in_ok-own.own c.args.behind all
    (subst (λ names. IsListed (λ name. if is_some (by_name names name) then by_name c.args.found.now name else None) c.in_ok-own.own) (c.as_slice.ensures ∙ c.in_ok-names.ensures.same) c.in_ok-own.ensures)
    once (is ∙ ap (λ (es : List (List ℕ × Method)). c.in_ok-own.own ++ es) c.in_ok-others.ensures)) c.joined.ensures
