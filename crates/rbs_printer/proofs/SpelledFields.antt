-- The tokens of a printed record type spell it where those of its fields' types do.
use Rattle.std.proofs.Common.{◌≡◌, inl, inr, ℕ, suc, ◌≤◌, max, Bool, true, false, List, [], ◌∷◌, ◌++◌, map, Some, refl, sym, ◌∙◌, ap, subst, arith}
use Rattle.std.specs.Prelude.{codes}
use Rattle.rbs_tree.specs.declared.types.Ty.{Ty, roll-Ty}
use Rattle.rbs_tree.specs.declared.types.BlockType.{BlockType}
use Rattle.rbs_tree.specs.declared.types.Field.{Field}
use Rattle.rbs_tree.specs.declared.types.Keyword.{Keyword}
use Rattle.rbs_tree.specs.declared.types.MethodType.{MethodType}
use Rattle.rbs_tree.specs.declared.types.Param.{Param}
use Rattle.rbs_tree.specs.declared.types.Ty.TheOpen.{Ty-F}
use Rattle.rbs_tree.specs.declared.types.Ty.TheViews.{roll-BlockType, roll-Field, roll-Keyword, roll-MethodType, roll-Param}
use Rattle.rbs_tree.specs.declared.types.Ty.TheFolds.{fold-Field, fold-roll-Ty, fold_out-Field}
use Rattle.rbs_tree.specs.declared.types.Ty.TheVariants as t
use Rattle.rbs_lexer.specs.Tokens.{Token}
use Rattle.rbs_lexer.specs.declared.kind.Kind.{Kind}
use Rattle.rbs_lexer.specs.declared.kind.Kind.TheVariants as k
use Rattle.rbs_lexer.specs.declared.walk.Walk.{Walk}
use Rattle.rbs_lexer.specs.Words.{word_kind}
use Rattle.rbs_lexer.specs.Lexing.{Piece, past, past_all, tokens_of}
use Rattle.rbs_grammar.specs.declared.stage.Stage.TheVariants as at
use Rattle.rbs_grammar.specs.Rules.{Rule, Value, is, is_word}
use Rattle.rbs_grammar.specs.Grammar.{Grammar, Way, Chain, chain, spells, begins}
use Rattle.rbs_grammar.specs.Levels.{spell_in}
use Rattle.rbs_grammar.specs.Parts.{before, map_value, any_of}
use Rattle.rbs_grammar.specs.Types as types
use Rattle.rbs_grammar.specs.Types.{a_type, field_of, some_field, fields_lead, field_part, somes}
use Rattle.rbs_printer.specs.declared.level.Level.TheVariants as level
use Rattle.rbs_printer.specs.declared.level.Front.TheVariants as f
use Rattle.rbs_printer.specs.Again.{bare_step, bare}
use Rattle.rbs_printer.proofs.Pieces.{Pieced, PiecedFunction, pieced, pieced_ty, pieced_block, pieced_field, pieced_keyword, pieced_function, pieced_param, any_pieces, word, blank, comma, colon, key_pieces, listed, behind_each, left_brace, right_brace, record_pieces, always}
use Rattle.rbs_printer.proofs.Fit.{is_word_of}
use Rattle.rbs_printer.proofs.Claims.{deep, Clear, NoKey, AllOf}
use Rattle.rbs_printer.proofs.TokensOf.{tokens_before}
use Rattle.rbs_printer.proofs.Spelling.{token_at, Reads, AllRead, reads_behind, behind_each-clear, both_same}
use Rattle.rbs_printer.proofs.SpelledNames.{word_of}
use Rattle.rbs_printer.proofs.SpelledTypes.{Well, any_reads, comma_sign}
use Rattle.rbs_printer.proofs.SpelledLayers.{made}

-- ---- folds at a field

abbrev pub bare_field : Field → Field
bare_field = fold-Field Ty BlockType Field Keyword MethodType Param bare_step roll-BlockType roll-Field roll-Keyword roll-MethodType roll-Param

abbrev pub field_pieces : Field → List Piece
field_pieces = fold-Field Pieced (List Piece) (List Piece) (List Piece) PiecedFunction (List Piece) pieced_ty pieced_block pieced_field pieced_keyword pieced_function pieced_param

bare_field_is : (f : Field) → bare_field f ≡ record { key = f.key; ty = bare f.ty }
bare_field_is f = fold_out-Field _ _ _ _ _ _ _ _ _ _ _ _ f

field_pieces_are : (f : Field) → field_pieces f ≡ key_pieces f.key (pieced f.ty)
field_pieces_are f = fold_out-Field _ _ _ _ _ _ _ _ _ _ _ _ f

-- ---- a field

word_line : (kind : Kind) (line : Bool) → is_word kind false ≡ true → is_word kind line ≡ true
word_line k.Constant line e = refl
word_line _ line e = e

-- the key is a word, and the tokens of the type spell it
abbrev pub WellField : Field → Type 0
WellField f = (is_word_of is_word f.key ≡ true) × Well f.ty

field_reads : (f : Field) (well : WellField f) (n : ℕ) → suc (suc (suc (suc well.1.least))) ≤ n → Reads (spell_in (deep n)) types.field bare_field (key_pieces f.key (pieced f.ty)) (bare_field f)
unfolding types.field
field_reads f well n enough walk rest clear =
    let d = spell_in (deep n) in
    let t = token_at walk (word_kind f.key) f.key in
    let on = past walk (word f.key) in
    let type_read : Reads d a_type bare (blank ∷ any_pieces (pieced f.ty)) (bare f.ty) = λ walk rest clear. any_reads (pieced f.ty) f.ty well.1 n enough (past walk blank) rest clear in
    let r = reads_behind d a_type bare (blank ∷ any_pieces (pieced f.ty)) (bare f.ty) k.Colon (codes ":") refl type_read on rest clear in
    let read = field_of t r.0 in (
      read,
      (t, r.0, tokens_of on (colon ∷ blank ∷ any_pieces (pieced f.ty)) ++ rest, (t, refl, word_line (word_kind f.key) walk.line_ended (word_of is_word f.key well.0), refl), r.1, refl),
      bare_field_is read ∙ ap (λ b. record { key = f.key; ty = b }) r.2 ∙ sym (bare_field_is f),
    )

-- ---- fields behind commas

fields_chain : (d : (r : Rule) → Way (Value r)) (pss : List (List Piece)) (ys : List Field) → AllRead d types.field bare_field pss ys
    → (walk : Walk) (rest : List Token) → Clear rest → begins (is k.Comma) rest ≡ false
    → (read : List Field) × (Chain fields_lead (λ s. spells d (field_part s)) at.Open (tokens_of walk (behind_each (comma ∷ blank ∷ []) pss) ++ rest) rest (map Some read)) × (map bare_field read ≡ ys)
fields_chain d [] [] all walk rest clear no_comma = ([], (refl, no_comma), refl)
fields_chain d [] (y ∷ ys) all walk rest clear no_comma = absurd all
fields_chain d (ps ∷ pss) [] all walk rest clear no_comma = absurd all
fields_chain d (ps ∷ pss) (y ∷ ys) all walk rest clear no_comma =
    let t = token_at walk k.Comma (codes ",") in
    let w = past (past walk comma) blank in
    let mid = tokens_of (past_all w ps) (behind_each (comma ∷ blank ∷ []) pss) ++ rest in
    let one = all.0 w mid (behind_each-clear k.Comma (comma ∷ blank ∷ []) comma_sign refl pss (past_all w ps) rest clear) in
    let more = fields_chain d pss ys all.1 (past_all w ps) rest clear no_comma in
    let item : spells d (field_part at.Open) (t ∷ (tokens_of w ps ++ mid)) mid (Some one.0, at.Open) =
    (t, (Some one.0, at.Open), tokens_of w ps ++ mid, (t, refl, refl, refl), inl (one.0, tt, mid, one.1, (refl, refl), refl), refl) in (
      one.0 ∷ more.0,
      (refl, (at.Open, mid, subst (λ ts. spells d (field_part at.Open) (t ∷ ts) mid (Some one.0, at.Open)) (sym (tokens_before w ps (behind_each (comma ∷ blank ∷ []) pss) rest)) item, more.1)),
      both_same (bare_field one.0) y (map bare_field more.0) ys one.2 more.2,
    )

somes_all : (fs : List Field) → somes (map Some fs) ≡ fs
somes_all [] = refl
somes_all (f ∷ fs) = ap (λ l. f ∷ l) (somes_all fs)

-- all fields
abbrev all_fields : Grammar (List Field)
all_fields = any_of (chain somes (map_value some_field types.field) fields_lead field_part)

fields_read : (d : (r : Rule) → Way (Value r)) (pss : List (List Piece)) (ys : List Field) → AllRead d types.field bare_field pss ys
    → (walk : Walk) (rest : List Token) → Clear rest → begins (is k.Comma) rest ≡ false
    → (read : List Field) × (spells d all_fields (tokens_of walk (listed pss) ++ rest) rest read) × (map bare_field read ≡ ys)
fields_read d [] [] all walk rest clear no_comma = ([], inr (refl, refl), refl)
fields_read d [] (y ∷ ys) all walk rest clear no_comma = absurd all
fields_read d (ps ∷ pss) [] all walk rest clear no_comma = absurd all
fields_read d (ps ∷ pss) (y ∷ ys) all walk rest clear no_comma =
    let others = behind_each (comma ∷ blank ∷ []) pss in
    let mid = tokens_of (past_all walk ps) others ++ rest in
    let one = all.0 walk mid (behind_each-clear k.Comma (comma ∷ blank ∷ []) comma_sign refl pss (past_all walk ps) rest clear) in
    let more = fields_chain d pss ys all.1 (past_all walk ps) rest clear no_comma in
    let first : spells d all_fields (tokens_of walk ps ++ mid) rest (one.0 ∷ more.0) =
    inl (Some one.0, at.Open, mid, map Some more.0, (one.0, tt, mid, one.1, (refl, refl), refl), more.1, ap (λ l. one.0 ∷ l) (somes_all more.0)) in
    (one.0 ∷ more.0, subst (λ ts. spells d all_fields ts rest (one.0 ∷ more.0)) (sym (tokens_before walk ps others rest)) first, both_same (bare_field one.0) y (map bare_field more.0) ys one.2 more.2)

-- ---- record types

bare_record : (fs : List Field) → bare (roll-Ty (Ty-F.RecordOf fs)) ≡ roll-Ty (Ty-F.RecordOf (map bare_field fs))
bare_record fs = fold-roll-Ty _ _ _ _ _ _ _ _ _ _ _ _ (Ty-F.RecordOf fs)

abbrev pub most_of : (fs : List Field) → AllOf WellField fs → ℕ
most_of [] all = 0
most_of (f ∷ fs) all = max all.0.1.least (most_of fs all.1)

every_field : (fs : List Field) (all : AllOf WellField fs) (n : ℕ) → suc (suc (suc (suc (most_of fs all)))) ≤ n → AllRead (spell_in (deep n)) types.field bare_field (map field_pieces fs) (map bare_field fs)
every_field [] all n enough = tt
every_field (f ∷ fs) all n enough =
    (subst (λ ps. Reads (spell_in (deep n)) types.field bare_field ps (bare_field f)) (sym (field_pieces_are f)) (field_reads f all.0 n (omega arith)), every_field fs all.1 n (omega arith))

-- the record type, from the blank behind its brace on
inside_braces : (d : (r : Rule) → Way (Value r)) (pss : List (List Piece)) (ys : List Field) → AllRead d types.field bare_field pss ys
    → Reads d (before (map_value t.RecordOf all_fields) k.RightBrace) bare (listed pss ++ blank ∷ right_brace ∷ []) (roll-Ty (Ty-F.RecordOf ys))
inside_braces d pss ys all walk rest clear =
    let on = past (past_all walk (listed pss)) blank in
    let last = token_at on k.RightBrace (codes "}") in
    let r = fields_read d pss ys all walk (last ∷ rest) refl refl in (
      t.RecordOf r.0,
      subst (λ ts. spells d (before (map_value t.RecordOf all_fields) k.RightBrace) ts rest (t.RecordOf r.0)) (sym (tokens_before walk (listed pss) (blank ∷ right_brace ∷ []) rest))
          (t.RecordOf r.0, last, last ∷ rest, (r.0, tt, last ∷ rest, r.1, (refl, refl), refl), (last, refl, refl, refl), refl),
      ap bare (sym (t.rolls-RecordOf r.0)) ∙ bare_record r.0 ∙ ap (λ l. roll-Ty (Ty-F.RecordOf l)) r.2,
    )

record_reads : (d : (r : Rule) → Way (Value r)) (pss : List (List Piece)) (ys : List Field) → AllRead d types.field bare_field pss ys → Reads d types.base bare (record_pieces pss) (roll-Ty (Ty-F.RecordOf ys))
unfolding types.base types.record_type
record_reads d [] (y ∷ ys) all walk rest clear = absurd all
record_reads d [] [] all walk rest clear =
    let on = past (past walk left_brace) blank in
    let last = token_at on k.RightBrace (codes "}") in
    let first = token_at walk k.LeftBrace (codes "{") in (
      t.RecordOf [],
      inr (inr (inl (first, t.RecordOf [], last ∷ rest, (first, refl, refl, refl), (t.RecordOf [], last, last ∷ rest, ([], tt, last ∷ rest, inr (refl, refl), (refl, refl), refl), (last, refl, refl, refl), refl), refl))),
      ap bare (sym (t.rolls-RecordOf [])) ∙ bare_record [],
    )
record_reads d (ps ∷ pss) ys all walk rest clear =
    let b = roll-Ty (Ty-F.RecordOf ys) in
    let inner = listed (ps ∷ pss) ++ blank ∷ right_brace ∷ [] in
    let r = reads_behind d (before (map_value t.RecordOf all_fields) k.RightBrace) bare (blank ∷ inner) b k.LeftBrace (codes "{") refl
    (λ walk rest clear. inside_braces d (ps ∷ pss) ys all (past walk blank) rest clear) walk rest clear in
    (r.0, inr (inr (inl r.1)), r.2)

record-no_key : (pss : List (List Piece)) → NoKey (record_pieces pss)
record-no_key [] walk rest clear = refl
record-no_key (ps ∷ pss) walk rest clear = refl

pub record_spelled : (fs : List Field) → AllOf WellField fs → Well (roll-Ty (Ty-F.RecordOf fs))
record_spelled fs all =
    made (roll-Ty (Ty-F.RecordOf fs)) (always level.Base f.Other (record_pieces (map field_pieces fs))) (roll-Ty (Ty-F.RecordOf (map bare_field fs)))
    (fold-roll-Ty _ _ _ _ _ _ _ _ _ _ _ _ (Ty-F.RecordOf fs)) (bare_record fs) (suc (suc (suc (suc (most_of fs all)))))
    (λ old n enough. record_reads (spell_in (deep n)) (map field_pieces fs) (map bare_field fs) (every_field fs all n enough))
    (λ old. record-no_key (map field_pieces fs))
