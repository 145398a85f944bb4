use Rattle.std.proofs.Common.{rules, ◌≡◌, ◌∙◌, ◌++◌, [], ◌∷◌, ◌-◌, false, arith, length}
use Rattle.std.proofs.lemmas.List.{length-take-le}
use Rattle.sig_rules.specs.Declarations.{full_name}
use Rattle.sig_rules.specs.Names.{is_head}
use Rattle.name_resolver.proofs.CandidateLemmas.{found_further, noted_further}
use Rattle.name_resolver.proofs.noting.note_heads.Goals as goal

-- the innermost name is noted, and the word doesn't stand for it
pub loop-enclosing-preserved : goal.loop-enclosing-preserved
loop-enclosing-preserved c =
    let names = c.loop-enclosing.enclosing.now in
    let inner = c.inner-item.result in
    let test = is_head c.args.table.now c.args.rest.now in
    let other : is_head c.args.table.now c.args.rest.now (inner.path ++ c.args.head.now ∷ []) ≡ false = search rules in
    let next : c.note.new.noted ≡ c.loop-enclosing.noted ++ full_name (inner.path ++ c.args.head.now ∷ []) ∷ [] = search rules in
    record {
      within = omega (arith, length-take-le (length names - 1) names (omega arith), c.loop-enclosing.invariant.within);
      found = found_further test names inner c.args.head.now c.in-len1-up.len_at_least c.inner-item.is other ∙ c.loop-enclosing.invariant.found;
      noted = noted_further test _ names inner c.args.head.now _ _ _ c.in-len1-up.len_at_least c.inner-item.is other c.loop-enclosing.invariant.noted next;
    }
