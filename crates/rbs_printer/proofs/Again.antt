-- A printed tree is read again, where its text is cut into its pieces and their tokens spell it.
use Rattle.std.proofs.Common.{◌≡◌, ℕ, suc, ◌≤◌, true, false, ◌&&◌, ◌||◌, if◌then◌else◌, List, [], ◌∷◌, ◌++◌, refl, sym, ◌∙◌, ap, subst, inr, arith}
use Rattle.std.proofs.lemmas.List.{append-nil}
use Rattle.rbs_tree.specs.declared.types.Ty.{Ty}
use Rattle.rbs_tree.specs.declared.types.MethodType.{MethodType}
use Rattle.rbs_lexer.specs.Tokens.{Token}
use Rattle.rbs_lexer.specs.declared.walk.Walk.{Walk}
use Rattle.rbs_lexer.specs.Lexing.{Piece, start, tokens_of, IsCut, AreTokens}
use Rattle.rbs_grammar.specs.Rules.{Rule}
use Rattle.rbs_grammar.specs.Grammar.{spells}
use Rattle.rbs_grammar.specs.Levels.{spell, spell_in}
use Rattle.rbs_grammar.specs.Types.{base, opt, inter, union}
use Rattle.rbs_grammar.specs.Functions.{method_type}
use Rattle.rbs_printer.specs.declared.level.Level.{Level}
use Rattle.rbs_printer.specs.declared.level.Level.TheVariants as at
use Rattle.rbs_printer.specs.Printed.{is_below, is_name, type_text, method_text}
use Rattle.rbs_printer.specs.Again.{bare_method, IsSpelled, IsSpelledMethod, IsReadAgain, IsReadAgainMethod}
use Rattle.rbs_printer.proofs.Pieces.{Pieced, pieced, flat, in_parens, any_pieces, type_pieces, method_pieces}
use Rattle.rbs_printer.proofs.Fit.{fit, fit_method}
use Rattle.rbs_printer.proofs.Claims.{deep, grammar_at, Clear, Spelled, SpelledIfFit}
use Rattle.rbs_printer.proofs.KeepingParts.{Ways}
use Rattle.rbs_printer.proofs.FitSpelled.{type_fits, method_fits}
use Rattle.rbs_printer.proofs.FlatPieces.{type_flat, method_flat}

-- ---- a type of a level that binds more is one of a level that binds less

opt_of_base : (d : Ways) (ts rest : List Token) (x : Ty) → spells d base ts rest x → spells d opt ts rest x
unfolding opt
opt_of_base d ts rest x h = inr (x, false, rest, h, inr (refl, refl), refl)

inter_of_opt : (d : Ways) (ts rest : List Token) (x : Ty) → spells d opt ts rest x → spells d inter ts rest x
unfolding inter
inter_of_opt d ts rest x h = (x ∷ [], tt, rest, (x, [], rest, h, ([], refl, refl), refl), (refl, refl), refl)

union_of_inter : (d : Ways) (ts rest : List Token) (x : Ty) → spells d inter ts rest x → spells d union ts rest x
unfolding union
union_of_inter d ts rest x h = (x ∷ [], tt, rest, (x, [], rest, h, ([], refl, refl), refl), (refl, refl), refl)

union_at : (d : Ways) (level : Level) (ts rest : List Token) (x : Ty) → spells d (grammar_at level) ts rest x → spells d union ts rest x
union_at d at.Union ts rest x h = h
union_at d at.Inter ts rest x h = union_of_inter d ts rest x h
union_at d at.Optional ts rest x h = union_of_inter d ts rest x (inter_of_opt d ts rest x h)
union_at d at.Base ts rest x h = union_of_inter d ts rest x (inter_of_opt d ts rest x (opt_of_base d ts rest x h))

-- where any type may stand it has no parentheses
ungrouped : (p : Pieced) → any_pieces p ≡ p.pieces false
ungrouped p = go p.level
  where
    go : (level : Level) → (if is_below level at.Union || (false && is_name p.front) then in_parens (p.pieces false) else p.pieces false) ≡ p.pieces false
    go at.Union = refl
    go at.Inter = refl
    go at.Optional = refl
    go at.Base = refl

-- ---- texts

-- The tokens of a method type's pieces spell it; from some room on, wherever they stand.
pub record SpelledWhole (pieces : List Piece) (m : MethodType) : Type 0 where
  pub least : ℕ
  pub spells : (n : ℕ) → least ≤ n → (walk : Walk) (rest : List Token) → Clear rest
      → (read : MethodType) × (spells (spell_in (deep n)) method_type (tokens_of walk pieces ++ rest) rest read) × (bare_method read ≡ bare_method m)

-- from a text's start it is cut into these pieces
abbrev pub IsCutWhole : List Piece → Type 0
IsCutWhole pieces = IsCut start (flat pieces) pieces []

-- the tokens of the pieces are those of the text
are_tokens : (text : List ℕ) (pieces : List Piece) → flat pieces ≡ text → IsCutWhole pieces → AreTokens text (tokens_of start pieces)
are_tokens text pieces same cut = (pieces, subst (λ t. IsCut start t pieces []) same cut, refl)

open_rule : (n : ℕ) (ts : List Token) (ty : Ty) → spells (spell_in (deep (suc n))) union ts [] ty → spell_in (deep (suc (suc n))) Rule.ty ts [] ty
unfolding spell
open_rule n ts ty h = h

type_again : (ty : Ty) → Spelled (pieced ty) ty → IsCutWhole (type_pieces ty) → IsReadAgain (type_text ty) ty
type_again ty s cut =
    let p = pieced ty in
    let told = s.spells false (suc s.least) (omega arith) start [] refl in
    let tokens : tokens_of start (p.pieces false) ++ [] ≡ tokens_of start (type_pieces ty) = append-nil (tokens_of start (p.pieces false)) ∙ ap (tokens_of start) (sym (ungrouped p)) in
    record {
      tokens = tokens_of start (type_pieces ty);
      are = are_tokens (type_text ty) (type_pieces ty) (type_flat ty) cut;
      room = deep (suc (suc s.least));
      read = told.0;
      spelled = open_rule s.least (tokens_of start (type_pieces ty)) told.0
          (subst (λ ts. spells (spell_in (deep (suc s.least))) union ts [] told.0) tokens
          (union_at (spell_in (deep (suc s.least))) p.level (tokens_of start (p.pieces false) ++ []) [] told.0 told.1));
      same = told.2;
    }

method_again : (m : MethodType) → SpelledWhole (method_pieces m) m → IsCutWhole (method_pieces m) → IsReadAgainMethod (method_text m) m
method_again m s cut =
    let told = s.spells s.least (omega arith) start [] refl in
    record {
      tokens = tokens_of start (method_pieces m);
      are = are_tokens (method_text m) (method_pieces m) (method_flat m) cut;
      room = deep s.least;
      read = told.0;
      spelled = subst (λ ts. spells (spell_in (deep s.least)) method_type ts [] told.0) (append-nil (tokens_of start (method_pieces m))) told.1;
      same = told.2;
    }

-- A type that some tokens spell is read again, where all that fit are spelled and cut.
pub spelled_type_again : ((ty : Ty) → SpelledIfFit ty) → ((ty : Ty) → fit ty ≡ true → IsCutWhole (type_pieces ty)) → (ty : Ty) → IsSpelled ty → IsReadAgain (type_text ty) ty
spelled_type_again spelled cut ty is = let fits = type_fits ty is in type_again ty (spelled ty fits) (cut ty fits)

-- The same of method types.
pub spelled_method_again : ((m : MethodType) → fit_method m ≡ true → SpelledWhole (method_pieces m) m) → ((m : MethodType) → fit_method m ≡ true → IsCutWhole (method_pieces m))
    → (m : MethodType) → IsSpelledMethod m → IsReadAgainMethod (method_text m) m
spelled_method_again spelled cut m is = let fits = method_fits m is in method_again m (spelled m fits) (cut m fits)
