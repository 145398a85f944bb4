use Rattle.std.proofs.Common.{rules, ◌≡◌, Some, sym, subst}
use Rattle.std.specs.Map.{lookup}
use Rattle.line_members.specs.Sides.{Describes}
use Rattle.sig_rules.specs.Declarations.{same_path}
use Rattle.sig_rules.specs.Lines.{line}
use Rattle.definitions.proofs.TableLemmas.{described_in}
use Rattle.definitions.proofs.behind.side_in.Goals as goal

pub returns-in-Some : goal.returns-in-Some
returns-in-Some g c =
    let all = g.L.Names.all c.args.lines.now in
    let path = c.args.name.now.path in
    let there : lookup (same_path path) c.args.table.now ≡ Some c.in-Some.sides.now = search rules in
    subst (Describes all c.args.kind (line all path c.args.kind).steps) (sym c.side_on.ensures) (described_in all c.args.table.now path c.args.kind c.in-Some.sides.now c.requires there)
