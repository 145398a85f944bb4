use Rattle.std.proofs.Common.{◌≡◌, take}
use Rattle.rbs_tree.proofs.comparison.+comparisons.Given as goal

abbrev pub invariant-same_tys-loop-i : goal.invariant-same_tys-loop-i
invariant-same_tys-loop-i l = take l.i l.a ≡ take l.i l.b

abbrev pub invariant-same_fields-loop-i : goal.invariant-same_fields-loop-i
invariant-same_fields-loop-i l = take l.i l.a ≡ take l.i l.b

abbrev pub invariant-same_params-loop-i : goal.invariant-same_params-loop-i
invariant-same_params-loop-i l = take l.i l.a ≡ take l.i l.b

abbrev pub invariant-same_keywords-loop-i : goal.invariant-same_keywords-loop-i
invariant-same_keywords-loop-i l = take l.i l.a ≡ take l.i l.b
