use Rattle.std.proofs.Common.{◌≡◌, ◌++◌, ℕ, List, not, codes, filter, length}
use Rattle.sig_rules.specs.declared.method.Method.{Method}
use Rattle.sig_rules.specs.Methods.{same_word}
use Rattle.line_members.proofs.entries.shared_but_new.Given as goal

abbrev pub invariant-loop-rest : goal.invariant-loop-rest
invariant-loop-rest l = l.same.items ++ filter (λ (e : List ℕ × Method). not (same_word e.0 (codes "new"))) l.rest ≡ filter (λ (e : List ℕ × Method). not (same_word e.0 (codes "new"))) l.methods

abbrev pub decreases-loop-rest : goal.decreases-loop-rest
decreases-loop-rest l = length l.rest
