use Rattle.std.proofs.Common.{rules, ◌≡◌, true, false, Some, None}
use Rattle.steep_run.specs.Reading.{FindsRuby}
use Rattle.steep_run.specs.Small.{is_small}
use Rattle.steep_run.proofs.ProjectLemmas.{other_signature, both_small, other_ruby}
use Rattle.steep_run.proofs.check.judged.Goals as goal

pub returns-then-not-branch : goal.returns-then-not-branch
returns-then-not-branch g c =
    let other : is_small c.args.decls.now ≡ false = search rules in
    other_signature c.args.project.now c.args.decls.now (g.M.Names.all c.args.members.now) c.args.signature c.requires.gives c.requires.declares c.requires.limits other

pub returns-in-Some : goal.returns-in-Some
returns-in-Some g c =
    let small : is_small c.args.decls.now ≡ true = search rules in
    let reads : FindsRuby (g.M.Names.all c.args.members.now) c.args.project.now.ruby (Some c.in-Some.ruby) = search rules in
    both_small c.args.project.now c.args.decls.now (g.M.Names.all c.args.members.now) c.args.signature c.in-Some.ruby c.requires.sizes c.requires.gives c.requires.declares c.requires.limits small reads

pub returns-in-None : goal.returns-in-None
returns-in-None g c =
    let small : is_small c.args.decls.now ≡ true = search rules in
    let reads : FindsRuby (g.M.Names.all c.args.members.now) c.args.project.now.ruby None = search rules in
    other_ruby c.args.project.now c.args.decls.now (g.M.Names.all c.args.members.now) c.args.signature c.requires.gives c.requires.declares c.requires.limits small reads
