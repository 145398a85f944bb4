-- What comes of a list of overloads, item by item.
use Rattle.std.proofs.Common.{◌≡◌, Bool, true, false, ◌||◌, List, [], ◌∷◌, ◌++◌, Option, Some, None, refl, sym, ap, append_assoc}
use Rattle.rbs_tree.specs.declared.types.MethodType.{MethodType}
use Rattle.rbs_grammar.specs.declared.parts.Overloads.{Overloads}
use Rattle.rbs_grammar.specs.Types.{somes}
use Rattle.rbs_grammar.specs.Members.{has_more, overloads_of}
use Rattle.rbs_parser.specs.MemberParts.{one_overload, with_overloads}

abbrev pub no_overloads : Overloads
no_overloads = record { methods = []; more = false }

abbrev pub first_overload : Option MethodType → Overloads
first_overload x = one_overload no_overloads x

pub overloads_begin : (x : Option MethodType) (xs : List (Option MethodType)) → overloads_of (x ∷ xs) ≡ with_overloads (first_overload x) xs
overloads_begin None xs = refl
overloads_begin (Some f) xs = refl

or_true : (b : Bool) → (b || true) ≡ true
or_true true = refl
or_true false = refl

pub overloads_step : (found : Overloads) (x : Option MethodType) (xs : List (Option MethodType)) → with_overloads found (x ∷ xs) ≡ with_overloads (one_overload found x) xs
overloads_step found None xs = ap (λ (b : Bool). record { methods = found.methods ++ somes xs; more = b }) (or_true found.more)
overloads_step found (Some f) xs = ap (λ (fs : List MethodType). record { methods = fs; more = found.more || has_more xs }) (sym (append_assoc found.methods (f ∷ []) (somes xs)))
