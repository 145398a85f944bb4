use Rattle.std.proofs.Common.{ℕ, List, false, sym, subst, take}
use Rattle.std.specs.Option.{is_some}
use Rattle.sig_rules.specs.declared.method.Method.{Method}
use Rattle.sig_rules.specs.Worlds.{by_name}
use Rattle.line_members.specs.Along.{IsTaken}
use Rattle.line_members.proofs.EntryLemmas.{all_taken, nothing_taken, taken_more}
use Rattle.line_members.proofs.methods.taken.Goals as goal

pub loop-entry-init : goal.loop-entry-init
loop-entry-init c = subst (λ (es : List (List ℕ × Method)). IsTaken (by_name c.args.found.now) (λ name. false) es c.args.found.now) (sym c.new-own.ensures) (nothing_taken c.args.found.now)

pub loop-entry-preserved : goal.loop-entry-preserved
loop-entry-preserved c =
    taken_more (by_name c.args.found.now) c.args.names.now _ c.entry-item.result c.take_one.new.own c.take_one.new.left c.loop-entry-test.true c.entry-item.is
    (c.in_ok-take_one.ensures (by_name c.args.found.now) (λ name. is_some (by_name (take _ c.args.names.now) name)) c.loop-entry.invariant)

pub returns : goal.returns
returns c = all_taken (by_name c.args.found.now) c.args.names.now _ c.loop-entry.own c.loop-entry.found c.loop-entry-test.false c.loop-entry.invariant
