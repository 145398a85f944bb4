-- A printed tree is read again.
use Rattle.std.proofs.Common.{◌≡◌, true}
use Rattle.rbs_tree.specs.declared.types.Ty.{Ty}
use Rattle.rbs_tree.specs.declared.types.MethodType.{MethodType}
use Rattle.rbs_printer.specs.Printed.{type_text, method_text}
use Rattle.rbs_printer.specs.Again.{IsSpelled, IsSpelledMethod, IsReadAgain, IsReadAgainMethod}
use Rattle.rbs_printer.proofs.Pieces.{method_pieces}
use Rattle.rbs_printer.proofs.Fit.{fit_method}
use Rattle.rbs_printer.proofs.SpelledMethods.{method_spelled}
use Rattle.rbs_printer.proofs.SpelledTrees.{type_spelled, parts_spelled}
use Rattle.rbs_printer.proofs.CutTrees.{type_text_cut, method_text_cut}
use Rattle.rbs_printer.proofs.Again.{SpelledWhole, spelled_type_again, spelled_method_again}

-- the tokens of a method type's pieces spell it
whole : (m : MethodType) → fit_method m ≡ true → SpelledWhole (method_pieces m) m
whole m fits = let s = method_spelled m (parts_spelled m) fits in record { least = s.least; spells = s.spells }

-- A type that some tokens spell is read again from its printed text.
pub type_again : (ty : Ty) → IsSpelled ty → IsReadAgain (type_text ty) ty
type_again = spelled_type_again type_spelled type_text_cut

-- The same of a method type.
pub method_again : (m : MethodType) → IsSpelledMethod m → IsReadAgainMethod (method_text m) m
method_again = spelled_method_again whole method_text_cut
