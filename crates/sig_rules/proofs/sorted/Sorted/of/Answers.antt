use Rattle.std.proofs.Common.{rules, ◌≡◌, ◌∙◌, ◌++◌, [], ◌∷◌, List, map, sym, ap, append_assoc}
use Rattle.std.specs.List.{list_any}
use Rattle.rbs_tree.specs.declared.names.TypeName.{TypeName}
use Rattle.sig_rules.specs.declared.files.Declared.{Declared}
use Rattle.sig_rules.specs.Declarations.{same_path, declared_path, somes}
use Rattle.sig_rules.specs.Sorted.{is_among}
use Rattle.sig_rules.proofs.TableLemmas.{has_name}
use Rattle.sig_rules.proofs.sorted.Sorted.of.Goals as goal

-- the next declaration's name is among the names, which are those of all declarations
pub loop-declared-preserved : goal.loop-declared-preserved
loop-declared-preserved c =
    let before = c.loop-declared.yielded in
    let after = c.next.new.self.rest.items in
    let next : c.loop-declared.declared-iterator.rest.items ≡ c.in-Some.declared ∷ after = search rules in
    let whole : before ++ c.in-Some.declared ∷ after ≡ c.args.all = ap (λ (ds : List Declared). before ++ ds) (sym next) ∙ c.loop-declared.invariant.rest in
    record {
      sorts = c.in_ok-put.ensures.sorts before c.loop-declared.invariant.sorts (λ path own.
          ap (λ (ns : List TypeName). is_among ns path) c.loop-declared.invariant.names
          ∙ c.requires.same path
          ∙ ap (λ (ds : List Declared). list_any (same_path path) (somes (map declared_path ds))) (sym whole)
          ∙ has_name before after c.in-Some.declared path own);
      names = c.in_ok-put.ensures.names ∙ c.loop-declared.invariant.names;
      rest = append_assoc before (c.in-Some.declared ∷ []) after ∙ whole;
    }
