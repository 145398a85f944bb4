use Rattle.std.proofs.Common.{◌≡◌, ◌∙◌, rules, sym}
use Rattle.std.specs.Option.{is_some}
use Rattle.sig_rules.specs.Worlds.{by_name}
use Rattle.line_members.proofs.AlongLemmas.{on_ok}
use Rattle.line_members.proofs.EntryLemmas.{copy_kept, copy_put}
use Rattle.line_members.proofs.few.put_copy.Goals as goal

pub returns-then-not-is_missing : goal.returns-then-not-is_missing
returns-then-not-is_missing c = λ name rest wanted. copy_kept (λ n. is_some (by_name c.args.names.now n)) c.args.copies.now c.args.entry.now (sym c.is_missing.ensures ∙ c.if-not-is_missing.true) name rest wanted

pub returns : goal.returns
returns c =
    let same : c.in_ok-word.word ≡ c.args.entry.now.0 = search rules in
    on_ok _ (λ put. copy_put (λ n. is_some (by_name c.args.names.now n)) c.args.copies.now c.put.new.self c.args.entry.now c.in_ok-word.word c.in_ok-copy.copy (sym c.is_missing.ensures ∙ c.if-not-is_missing.false) same c.in_ok-copy.ensures put) c.put.ensures.values
