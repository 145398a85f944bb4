use Rattle.std.proofs.Common.{◌∙◌, ℕ, List, ap, codes}
use Rattle.sig_rules.specs.declared.method.Method.{Method}
use Rattle.sig_rules.specs.Worlds.{by_name}
use Rattle.line_members.proofs.SideLemmas.{known_by_side}
use Rattle.line_members.proofs.sides.singleton_side.Goals as goal

pub side_of-requires-clause-made : goal.side_of-requires-clause-made
side_of-requires-clause-made g c =
    known_by_side (g.L.Names.all c.args.lines.now) c.args.name.now.path c.args.instance.now _ c.requires.instance
    (c.method_named.ensures ∙ ap (λ (ms : List (List ℕ × Method)). by_name ms (codes "initialize")) c.as_slice.ensures)
