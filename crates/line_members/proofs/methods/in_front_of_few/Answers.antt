use Rattle.std.specs.Option.{is_some}
use Rattle.sig_rules.specs.Worlds.{by_name}
use Rattle.line_members.proofs.AlongLemmas.{if_ok}
use Rattle.line_members.proofs.EntryLemmas.{own_in_front}
use Rattle.line_members.proofs.methods.in_front_of_few.Goals as goal

pub returns : goal.returns
returns c = λ once.
    if_ok _ (λ all is. own_in_front (λ name. is_some (by_name c.args.names.now name)) (by_name c.args.found.now) c.in_ok-own.own c.args.behind all c.in_ok-own.ensures once is) c.in_front_of_others.ensures
