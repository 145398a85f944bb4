use Rattle.std.proofs.Common.{◌≡◌, subst}
use Rattle.std.specs.Option.{option_copied, option_map}
use Rattle.sig_rules.specs.Declarations.{Path, full_name}
use Rattle.sig_rules.specs.Names.{resolve_relative}
use Rattle.name_resolver.proofs.CandidateLemmas.{cons_of}
use Rattle.name_resolver.proofs.resolution.resolve_relative.Goals as goal

pub returns-in-len1-up : goal.returns-in-len1-up
returns-in-len1-up c =
    let path = cons_of c.args.path.now c.head-item.result c.in-len1-up.len_at_least c.head-item.is in
    subst (λ (p : Path). option_copied c.resolve_from.result ≡ option_map full_name (resolve_relative c.args.table.now c.args.context.now p)) path c.resolve_from.ensures
