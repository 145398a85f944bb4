use Rattle.std.proofs.Common.{◌≡◌, ℕ, List, None, false}
use Rattle.sig_rules.specs.Methods.{same_word, with_all}
use Rattle.sig_rules.specs.Worlds.{by_name}
use Rattle.method_steps.specs.Steps.{elsewhere}
use Rattle.method_steps.proofs.step_methods.with_all.Given as goal

abbrev pub invariant-loop-given : goal.invariant-loop-given
invariant-loop-given g l = record {
  so_far :
      with_all l.site.step.now (elsewhere (g.M.Making.made l.site.making.now) l.site.rest.now (by_name l.fn.methods) l.name) (elsewhere (g.M.Making.made l.site.making.now) l.site.steps.now (by_name l.fn.methods)) l.so_far l.given-iterator.rest.items
      ≡ with_all l.site.step.now (elsewhere (g.M.Making.made l.site.making.now) l.site.rest.now (by_name l.fn.methods) l.name) (elsewhere (g.M.Making.made l.site.making.now) l.site.steps.now (by_name l.fn.methods)) None l.fn.group;
  kept : l.so_far ≡ None → by_name l.methods ≡ by_name l.fn.methods;
  others : (other : List ℕ) → same_word l.name other ≡ false → by_name l.methods other ≡ by_name l.fn.methods other;
}
