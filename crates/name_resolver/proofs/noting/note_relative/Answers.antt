use Rattle.std.proofs.Common.{◌≡◌, ◌++◌, map, OnOk, OnErr, subst}
use Rattle.sig_rules.specs.Declarations.{Path, full_name}
use Rattle.sig_rules.specs.Names.{tried_relative}
use Rattle.name_resolver.specs.Noting.{NotesFirst}
use Rattle.name_resolver.proofs.CandidateLemmas.{cons_of}
use Rattle.name_resolver.proofs.noting.note_relative.Goals as goal

pub returns-in-len1-up-clause-ok : goal.returns-in-len1-up-clause-ok
returns-in-len1-up-clause-ok c =
    let path = cons_of c.args.path.now c.head-item.result c.in-len1-up.len_at_least c.head-item.is in
    subst (λ (p : Path). OnOk c.note_from.result (c.note_from.new.noted ≡ c.args.noted.now ++ map full_name (tried_relative c.args.table.now c.args.context.now p))) path c.note_from.ensures.ok

pub returns-in-len1-up-clause-err : goal.returns-in-len1-up-clause-err
returns-in-len1-up-clause-err c =
    let path = cons_of c.args.path.now c.head-item.result c.in-len1-up.len_at_least c.head-item.is in
    subst (λ (p : Path). OnErr c.note_from.result (NotesFirst (tried_relative c.args.table.now c.args.context.now p) c.args.noted.now c.note_from.new.noted)) path c.note_from.ensures.err
