use Rattle.std.proofs.Common.{◌≡◌, lit<, ◌++◌, ℕ, List}
use Rattle.std.proofs.lemmas.Str.Pattern.{strip_prefix_char}
use Rattle.ports.proofs.PathLemmas.{not_below, rest_behind}
use Rattle.ports.proofs.memory_tree.rest_below.Goals as goal

pub returns-in_err-strip_prefix : goal.returns-in_err-strip_prefix
returns-in_err-strip_prefix c = rw c.from_residual.ensures (not_below c.args.folder.now c.args.path.now c.in_err-strip_prefix.ensures.cases)

pub returns : goal.returns
returns c =
    let folder : List ℕ = c.args.folder.now in
    let path : List ℕ = c.args.path.now in
    let rest : List ℕ = c.in_ok-strip_prefix.field-0.now in
    let front = c.in_ok-strip_prefix.ensures.cases in
    let parts : path ≡ folder ++ rest = rw front.2 front.1.1 in
    rest_behind folder path rest c.strip_prefix-2.result parts (strip_prefix_char 47 rest c.strip_prefix-2.result c.strip_prefix-2.ensures.cases (lit< tt))
