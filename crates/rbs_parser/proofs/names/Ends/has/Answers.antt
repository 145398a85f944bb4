use Rattle.std.proofs.Common.{◌≡◌, Bool, sym, subst}
use Rattle.rbs_parser.specs.NameWords.{ends_of}
use Rattle.rbs_parser.proofs.names.Ends.has.Goals as goal

pub returns-in-Interface : goal.returns-in-Interface
returns-in-Interface c = subst (λ e. (line : Bool) → c.is_interface.result ≡ ends_of e c.args.kind line) (sym c.in-Interface.is) c.is_interface.ensures
