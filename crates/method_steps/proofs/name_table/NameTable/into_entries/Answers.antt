use Rattle.std.proofs.Common.{◌≡◌, ◌∙◌, rules, subst, sym}
use Rattle.std.specs.List.{IsDistinct}
use Rattle.std.specs.Map.{keys_of}
use Rattle.sig_rules.specs.Methods.{same_word}
use Rattle.method_steps.proofs.name_table.NameTable.into_entries.Goals as goal

pub returns-clause-same : goal.returns-clause-same
returns-clause-same g c =
    let taken : c.in_ok-entries.entries.items ≡ c.self.inside.entries.entries = search rules in
    c.from_vec.ensures ∙ taken ∙ c.self.view_is

pub returns-clause-once : goal.returns-clause-once
returns-clause-once g c =
    let taken : c.in_ok-entries.entries.items ≡ c.self.inside.entries.entries = search rules in
    subst (λ entries. IsDistinct same_word (keys_of entries)) (sym (c.from_vec.ensures ∙ taken)) c.into_iter.ensures.into_iter_gives.4
