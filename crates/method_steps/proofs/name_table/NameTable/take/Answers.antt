use Rattle.std.proofs.Common.{◌≡◌, List, ℕ, Option, Some, None, sym, IfSome, nat_eq}
use Rattle.std.specs.Cmp.Lexicographic.{pointwise, same_text}
use Rattle.std.specs.Option.{option_map}
use Rattle.std.specs.Map.{lookup_key}
use Rattle.std.proofs.lemmas.Map.Made.{lookup_key_passes}
use Rattle.method_steps.proofs.name_table.NameTable.take.Goals as goal

named : {V : Type 0} (name : List ℕ) (entries : List (List ℕ × V)) (result : Option (List ℕ × V)) → option_map (λ p. p.0) result ≡ lookup_key (pointwise nat_eq name) entries → IfSome result (λ entry. entry.0 ≡ name)
named name entries None found = tt
named name entries (Some entry) found = sym (same_text name entry.0 (sym (lookup_key_passes (pointwise nat_eq name) entries entry.0 (sym found))))

pub returns-clause-named : goal.returns-clause-named
returns-clause-named g c = named c.args.name.now c.self.inside.entries.entries c.swap_remove_entry.result c.swap_remove_entry.ensures.key
