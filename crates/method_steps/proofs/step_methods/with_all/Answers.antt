use Rattle.std.proofs.Common.{None, ◌≡◌, ◌∙◌, ◌∷◌, rules}
use Rattle.sig_rules.specs.Methods.{with_all}
use Rattle.sig_rules.specs.Worlds.{by_name}
use Rattle.method_steps.specs.Steps.{elsewhere}
use Rattle.method_steps.proofs.AimLemmas.{next_so_far, nothing_before}
use Rattle.method_steps.proofs.step_methods.with_all.Goals as goal

pub loop-given-preserved : goal.loop-given-preserved
loop-given-preserved g c =
    let next : c.loop-given.given-iterator.rest.items ≡ c.in-Some.given ∷ c.next.new.self.rest.items = search rules in
    record {
      so_far = next_so_far c.args.site.now.step.now (g.M.Making.made c.args.site.now.making.now) c.args.site.now.rest.now c.args.site.now.steps.now (by_name c.args.methods.now) (by_name c.loop-given.methods) c.args.name.now
          c.loop-given.so_far c.in_ok-so_far.so_far
          (with_all c.args.site.now.step.now (elsewhere (g.M.Making.made c.args.site.now.making.now) c.args.site.now.rest.now (by_name c.args.methods.now) c.args.name.now) (elsewhere (g.M.Making.made c.args.site.now.making.now) c.args.site.now.steps.now (by_name c.args.methods.now)) None c.args.group)
          c.in-Some.given c.loop-given.given-iterator.rest.items c.next.new.self.rest.items c.loop-given.invariant.kept c.in_ok-so_far.ensures.method next c.loop-given.invariant.so_far;
      kept = λ none. c.in_ok-so_far.ensures.kept none ∙ c.loop-given.invariant.kept (nothing_before c.args.site.now.step.now (g.M.Making.made c.args.site.now.making.now) c.args.site.now.rest.now c.args.site.now.steps.now (by_name c.loop-given.methods) c.args.name.now c.loop-given.so_far c.in_ok-so_far.so_far c.in-Some.given c.in_ok-so_far.ensures.method none);
      others = λ other apart. c.in_ok-so_far.ensures.others other apart ∙ c.loop-given.invariant.others other apart;
    }
