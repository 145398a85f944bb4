-- What the grammar spells from real tokens fits.
use Rattle.std.proofs.Common.{◌≡◌, true}
use Rattle.rbs_tree.specs.declared.types.Ty.{Ty}
use Rattle.rbs_tree.specs.declared.types.MethodType.{MethodType}
use Rattle.rbs_grammar.specs.Levels.{Room, full, room, by_rule, spell, spell_in}
use Rattle.rbs_printer.specs.Again.{IsSpelled, IsSpelledMethod}
use Rattle.rbs_printer.proofs.Fit.{fit, fit_method}
use Rattle.rbs_printer.proofs.FitTypes.{FitWays, union_keeps}
use Rattle.rbs_printer.proofs.FitFunctions.{function_keeps, method_keeps}

-- what two rooms leave
by_rooms : (marked function : Room) → FitWays (spell marked) → FitWays (spell function) → FitWays (by_rule (spell marked) (spell function))
by_rooms marked function m f = record { ty = m.ty; function = f.function }

spell_fits : (r : Room) → FitWays (spell r)
unfolding spell
spell_fits full = record { ty = λ ts rest x real h. absurd h; function = λ ts rest x real h. absurd h }
spell_fits (room marked function) =
    let inside = by_rooms marked function (spell_fits marked) (spell_fits function) in
    record { ty = union_keeps (by_rule (spell marked) (spell function)) inside; function = function_keeps (by_rule (spell marked) (spell function)) inside }

spell_in_fits : (r : Room) → FitWays (spell_in r)
spell_in_fits full = record { ty = λ ts rest x real h. absurd h; function = λ ts rest x real h. absurd h }
spell_in_fits (room marked function) = by_rooms marked function (spell_fits marked) (spell_fits function)

pub type_fits : (ty : Ty) → IsSpelled ty → fit ty ≡ true
type_fits ty s = ((spell_in_fits s.room).ty s.tokens s.rest ty s.real s.spelled).0

pub method_fits : (m : MethodType) → IsSpelledMethod m → fit_method m ≡ true
method_fits m s = (method_keeps (spell_in s.room) (spell_in_fits s.room) s.tokens s.rest m s.real s.spelled).0
