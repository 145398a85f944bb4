use Rattle.std.proofs.Common.{◌≡◌, rules}
use Rattle.line_members.proofs.AlongLemmas.{on_ok}
use Rattle.line_members.proofs.FewLemmas.{added_copy}
use Rattle.line_members.proofs.few.add.Goals as goal

pub returns : goal.returns
returns c =
    let same : c.in_ok-word.word ≡ c.args.name.now = search rules in
    on_ok _ (added_copy c.args.names.now c.push.new.self c.in_ok-word.word c.args.name.now _ same) c.push.ensures.ok
