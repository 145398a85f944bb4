use Rattle.std.proofs.Common.{rules, ◌≡◌, [], ◌∷◌}
use Rattle.steep_run.specs.Signature.{signature_file}
use Rattle.steep_run.proofs.ProjectLemmas.{has_too_much}
use Rattle.steep_run.proofs.SignatureLemmas.{if_ok, of_one_file}
use Rattle.steep_run.proofs.check.checked_over.Goals as goal

pub returns-in-Err : goal.returns-in-Err
returns-in-Err c =
    let file : c.from_ref.result.now ≡ signature_file c.args.found.tree ∷ [] = search rules in
    if_ok c.too_much.result c.too_much.ensures
    (λ verdict told. has_too_much c.args.project.now c.args.found.tree c.args.found.faults c.from_ref.result.now c.in-Err.fault verdict c.requires.gives file c.in-Err.ensures.fault told)

pub judged-verdict-requires-clause-declares : goal.judged-verdict-requires-clause-declares
judged-verdict-requires-clause-declares c =
    let file : c.from_ref.result.now ≡ signature_file c.args.found.tree ∷ [] = search rules in
    let tree : c.as_slice.result.now ≡ c.args.found.tree = search rules in
    of_one_file c.from_ref.result.now c.args.found.tree c.as_slice.result.now _ file tree c.in-Ok.ensures.project
