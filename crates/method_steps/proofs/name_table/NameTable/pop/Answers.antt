use Rattle.std.proofs.Common.{◌≡◌, ◌∙◌, ◌++◌, List, ℕ, Option, Some, None, sym, ap, IfSome, nat_eq}
use Rattle.std.specs.Cmp.Lexicographic.{pointwise}
use Rattle.std.specs.HashMap.{HashMap, Updates}
use Rattle.std.specs.Option.{option_to_list}
use Rattle.std.proofs.lemmas.Cmp.{nat_list_eq_equiv}
use Rattle.sig_rules.specs.Worlds.{by_name}
use Rattle.method_steps.proofs.TableLemmas.{lookup-last}
use Rattle.method_steps.proofs.name_table.NameTable.pop.Goals as goal

last : {V S : Type 0} (before new : HashMap (List ℕ) V S) (old : List (List ℕ × V)) (popped : Option (List ℕ × V)) → before.entries ≡ old
    → before.entries ≡ new.entries ++ option_to_list popped → IfSome popped (λ entry. Updates (pointwise nat_eq) before new entry.0 None) → IfSome popped (λ entry. by_name old entry.0 ≡ Some entry.1)
last before new old None seen whole updates = tt
last before new old (Some entry) seen whole updates =
    ap (λ es. by_name es entry.0) (sym seen ∙ whole) ∙ lookup-last (pointwise nat_eq entry.0) new.entries entry updates.1 (nat_list_eq_equiv.refl entry.0)

pub returns-clause-some : goal.returns-clause-some
returns-clause-some g c = last c.self.inside.entries c.pop.new.self c.args.self.now c.pop.result c.self.view_is c.pop.ensures.entries c.pop.ensures.updates
