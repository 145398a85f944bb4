-- Functions are cut into their pieces, where their types are.
use Rattle.std.proofs.Common.{◌≡◌, ℕ, Bool, true, false, ◌&&◌, List, [], ◌∷◌, ◌++◌, map, refl, sym, subst, ◌∙◌}
use Rattle.std.specs.Prelude.{codes, if◌then◌else◌, Option, Some, None}
use Rattle.std.specs.List.{list_all}
use Rattle.std.specs.Str.{IsUtf8}
use Rattle.std.proofs.lemmas.Str.{IsUtf8-nil}
use Rattle.rbs_tree.specs.declared.types.Ty.TheOpen.{MethodType-F}
use Rattle.rbs_lexer.specs.declared.kind.Kind.TheVariants as k
use Rattle.rbs_lexer.specs.declared.place.Place.{Place}
use Rattle.rbs_lexer.specs.declared.place.Place.TheVariants as place
use Rattle.rbs_lexer.specs.Bytes.{first_is, is_blank, begins_with}
use Rattle.rbs_lexer.specs.Words.{word_kind}
use Rattle.rbs_lexer.specs.Places.{after, has_name}
use Rattle.rbs_lexer.specs.Lexing.{Piece, token}
use Rattle.rbs_lexer.proofs.Finding.{and_right}
use Rattle.rbs_lexer.proofs.Skipping.{both}
use Rattle.rbs_grammar.specs.Rules.{is, is_small, is_word as is_any_word}
use Rattle.rbs_printer.specs.declared.level.Level.TheVariants as at
use Rattle.rbs_printer.specs.declared.level.Front.TheVariants as f
use Rattle.rbs_printer.specs.Printed.{is_name}
use Rattle.rbs_printer.proofs.Pieces.{flat, blank, question, word, in_parens, in_brackets, listed, left_brace, right_brace, Pieced, placed_leads, pieces_at, any_pieces, mark, key_pieces, param_name, signed, signed_one, vars_pieces, block_pieces, PiecedFunction, params_pieces, result_pieces, pieced_function}
use Rattle.rbs_printer.proofs.Fit.{is_word_of, is_constant, fits_name}
use Rattle.rbs_printer.proofs.Claims.{follows, starts, Ends, front_before, AllOf, IfThere}
use Rattle.rbs_printer.proofs.Follow.{has_mark}
use Rattle.rbs_printer.proofs.CutLists.{end_of, Cuttable, end_behind, nothing_cut, then_cut, pieces_utf8, Opens, opens_before, opens_no_blank, opens_no_star, opens_first, opens_flat, opens_shown, CutInList, Item, all_behind, past_arrow, past_caret, blank_cut, left_brace_cut, right_brace_cut, question_cut, star_cut, star_star_cut, caret_cut, arrow_cut, word_cut, listed_cut, in_parens_cut, in_brackets_cut, in_brackets_end}
use Rattle.rbs_printer.proofs.CutTypes.{follows_ends_word, follows_no_mark, word_of, word_opens, Cuts, placed_begins, placed_ends, placed_cut, any_item, key_item}

-- A function is cut from where no name stands, before what may follow a type that can stand in a `?`, and ends where it should.
pub record FunctionCuts (p : PiecedFunction) : Type 0 where
  pub begins : Opens (flat p.pieces)
  pub cut : (rest : List ℕ) → IsUtf8 rest → follows at.Optional rest ≡ true → Cuttable place.Plain p.pieces rest
  pub ends : Ends p.leads (end_of place.Plain p.pieces)

-- A block is cut wherever it stands.
pub record BlockCuts (block : List Piece) : Type 0 where
  pub begins : Opens (flat block)
  pub cut : (from : Place) (rest : List ℕ) → IsUtf8 rest → Cuttable from block rest

-- a positional parameter
pub record ParamItem (x : List Piece) : Type 0 where
  pub begins : Opens (flat x)
  pub cut : CutInList x

param_is_item : (x : List Piece) → ParamItem x → Item x
param_is_item x i = record { begins = opens_shown (flat x) i.begins; cut = i.cut }

plain_items : (xs : List (List Piece)) → AllOf ParamItem xs → AllOf Item xs
plain_items [] all = tt
plain_items (x ∷ xs) all = (param_is_item x all.0, plain_items xs all.1)

vars_end : (vars : List (List ℕ)) → end_of place.Plain (vars_pieces vars) ≡ place.Plain
vars_end [] = refl
vars_end (v ∷ vs) =
    let inner = listed (map (λ w. word w ∷ []) (v ∷ vs)) in
    end_behind place.Plain (in_brackets inner) (blank ∷ []) ∙ in_brackets_end place.Plain inner

result_end : (from : Place) (p : Pieced) → Cuts p → Ends (placed_leads at.Optional false p) (end_of from (result_pieces p))
result_end from p c = subst (λ q. Ends (placed_leads at.Optional false p) (end_of q (pieces_at at.Optional p))) (sym (past_arrow (codes "->") from)) (placed_ends at.Optional false p c)

-- a function as a type
abbrev pub proc : PiecedFunction → Pieced
proc fun = record { level = at.Optional; front = f.Name; pieces = λ behind. token k.Caret (codes "^") ∷ fun.pieces; leads = λ behind. fun.leads }

-- ---- parameters

-- the name of a parameter, with a blank before it
name_behind : (from : Place) (name : List ℕ) → is_word_of is_small name ≡ true → (rest : List ℕ) → IsUtf8 rest → follows at.Union rest ≡ true → Cuttable from (blank ∷ word name ∷ []) rest
name_behind from name h rest u e =
    let t = word_of is_small name h in
    let named = word_cut from name [] rest t.is_w t.no_digit (follows_ends_word at.Union rest e) (and_right (has_name from) (has_mark rest) (follows_no_mark rest e)) (nothing_cut (after from (word_kind name) name) rest u) in
    blank_cut from (word name ∷ []) rest (opens_no_blank (flat (word name ∷ []) ++ rest) (opens_before (flat (word name ∷ [])) rest (opens_before name [] (word_opens name t.is_w)))) named

pub param_item : (p : Pieced) (name : Option (List ℕ)) → Cuts p → fits_name name ≡ true → ParamItem (any_pieces p ++ param_name name)
param_item p name c h = record { begins = opens_first (any_pieces p) (param_name name) (placed_begins at.Union false p c); cut = λ rest u e. cut name h rest u e }
  where
    cut : (name : Option (List ℕ)) → fits_name name ≡ true → CutInList (any_pieces p ++ param_name name)
    cut None h rest u e = then_cut place.Plain (any_pieces p) [] rest ((any_item p c).cut rest u e) (nothing_cut (end_of place.Plain (any_pieces p)) rest u)
    cut (Some name) h rest u e =
        then_cut place.Plain (any_pieces p) (blank ∷ word name ∷ []) rest ((any_item p c).cut (flat (blank ∷ word name ∷ []) ++ rest) (name_behind place.Plain name h rest u e).utf8 refl)
        (name_behind (end_of place.Plain (any_pieces p)) name h rest u e)

pub keyword_item : (required : Bool) (key : List ℕ) (p : Pieced) → is_word_of is_any_word key ≡ true → Cuts p → Item (mark required ++ key_pieces key p)
keyword_item true key p h c = key_item key p h c
keyword_item false key p h c = question_item (key_pieces key p) (key_item key p h c)
  where
    question_item : (x : List Piece) → Item x → Item (question ∷ x)
    question_item x i = record { begins = refl; cut = λ rest u e. question_cut place.Plain x rest (i.cut rest u e) }

optional_items : (xs : List (List Piece)) → AllOf ParamItem xs → AllOf Item (signed question xs)
optional_items [] all = tt
optional_items (x ∷ xs) all = (record { begins = refl; cut = λ rest u e. question_cut place.Plain x rest (all.0.cut rest u e) }, optional_items xs all.1)

rest_items : (x : Option (List Piece)) → IfThere ParamItem x → AllOf Item (signed_one (token k.Star (codes "*")) x)
rest_items None i = tt
rest_items (Some x) i = (record { begins = refl; cut = λ rest u e. star_cut x rest (opens_no_star (flat x ++ rest) (opens_before (flat x) rest i.begins)) (i.cut rest u e) }, tt)

rest_keyword_items : (x : Option (List Piece)) → IfThere ParamItem x → AllOf Item (signed_one (token k.StarStar (codes "**")) x)
rest_keyword_items None i = tt
rest_keyword_items (Some x) i = (record { begins = refl; cut = λ rest u e. star_star_cut x rest (i.cut rest u e) }, tt)

-- ---- variables, blocks and results

var_items : (vars : List (List ℕ)) → list_all is_constant vars ≡ true → AllOf Item (map (λ w. word w ∷ []) vars)
var_items [] h = tt
var_items (v ∷ vs) h =
    let a = both (is_constant v) (list_all is_constant vs) h in
    let t = word_of (is k.Constant) v a.0 in (
      record {
        begins = opens_shown (flat (word v ∷ [])) (opens_before v [] (word_opens v t.is_w));
        cut = λ rest u e. word_cut place.Plain v [] rest t.is_w t.no_digit (follows_ends_word at.Union rest e) refl (nothing_cut (after place.Plain (word_kind v) v) rest u);
      },
      var_items vs a.1,
    )

vars_cut : (vars : List (List ℕ)) → list_all is_constant vars ≡ true → (more : List Piece) (rest : List ℕ) → first_is is_blank (flat more ++ rest) ≡ false → Cuttable place.Plain more rest → Cuttable place.Plain (vars_pieces vars ++ more) rest
vars_cut [] h more rest n c = c
vars_cut (v ∷ vs) h more rest n c =
    let inner = listed (map (λ w. word w ∷ []) (v ∷ vs)) in
    let behind = λ (from : Place). blank_cut from [] (flat more ++ rest) n (nothing_cut from (flat more ++ rest) c.utf8) in
    let brackets = in_brackets_cut place.Plain inner (listed_cut (map (λ w. word w ∷ []) (v ∷ vs)) (var_items (v ∷ vs) h)) (32 ∷ (flat more ++ rest)) (behind place.Plain).utf8 refl in
    let first = then_cut place.Plain (in_brackets inner) (blank ∷ []) (flat more ++ rest) brackets (behind (end_of place.Plain (in_brackets inner))) in
    then_cut place.Plain (vars_pieces (v ∷ vs)) more rest first (subst (λ q. Cuttable q more rest) (sym (vars_end (v ∷ vs))) c)

result_cut : (from : Place) (p : Pieced) → Cuts p → (rest : List ℕ) → IsUtf8 rest → follows at.Optional rest ≡ true → Cuttable from (result_pieces p) rest
result_cut from p c rest u e =
    let ty = pieces_at at.Optional p in
    blank_cut from (token k.Arrow (codes "->") ∷ blank ∷ ty) rest refl
    (arrow_cut from ty rest (opens_no_blank (flat ty ++ rest) (opens_before (flat ty) rest (placed_begins at.Optional false p c))) (placed_cut at.Optional false p c rest u e refl))

block_cut : (from : Place) (block : Option (List Piece)) → IfThere BlockCuts block → (more : List Piece) (rest : List ℕ) → ((from : Place) → Cuttable from more rest) → Cuttable from (block_pieces block ++ more) rest
block_cut from None i more rest c = c from
block_cut from (Some b) i more rest c =
    blank_cut from (b ++ more) rest (opens_no_blank (flat (b ++ more) ++ rest) (opens_flat b more rest i.begins)) (then_cut from b more rest (i.cut from (flat more ++ rest) (c from).utf8) (c (end_of from b)))

pub block_cuts : (required : Bool) (fun : PiecedFunction) → FunctionCuts fun → BlockCuts (mark required ++ (left_brace ∷ blank ∷ (fun.pieces ++ blank ∷ right_brace ∷ [])))
block_cuts required fun c = go required
  where
    braced : (from : Place) (rest : List ℕ) → IsUtf8 rest → Cuttable from (left_brace ∷ blank ∷ (fun.pieces ++ blank ∷ right_brace ∷ [])) rest
    braced from rest u =
        let last = blank ∷ right_brace ∷ [] in
        let close = λ (from : Place). blank_cut from (right_brace ∷ []) rest refl (right_brace_cut from [] rest (nothing_cut place.Plain rest u)) in
        let inner = then_cut place.Plain fun.pieces last rest (c.cut (32 ∷ 125 ∷ rest) (close place.Plain).utf8 refl) (close (end_of place.Plain fun.pieces)) in
        left_brace_cut from (blank ∷ (fun.pieces ++ last)) rest (blank_cut place.Plain (fun.pieces ++ last) rest (opens_no_blank (flat (fun.pieces ++ last) ++ rest) (opens_flat fun.pieces last rest c.begins)) inner)

    go : (required : Bool) → BlockCuts (mark required ++ (left_brace ∷ blank ∷ (fun.pieces ++ blank ∷ right_brace ∷ [])))
    go true = record { begins = refl; cut = braced }
    go false = record { begins = refl; cut = λ from rest u. question_cut from (left_brace ∷ blank ∷ (fun.pieces ++ blank ∷ right_brace ∷ [])) rest (braced place.Plain rest u) }

-- ---- functions

pub record FunctionParts (m : MethodType-F Pieced (List Piece) (List Piece) (List Piece) PiecedFunction (List Piece)) : Type 0 where
  pub vars : list_all is_constant m.vars ≡ true
  pub required : AllOf ParamItem m.required
  pub optional : AllOf ParamItem m.optional
  pub rest : IfThere ParamItem m.rest
  pub trailing : AllOf ParamItem m.trailing
  pub keywords : AllOf Item m.keywords
  pub rest_keywords : IfThere ParamItem m.rest_keywords
  pub block : IfThere BlockCuts m.block
  pub result : Cuts m.result

module _ (m : MethodType-F Pieced (List Piece) (List Piece) (List Piece) PiecedFunction (List Piece)) (c : FunctionParts m) where
  params_items : AllOf Item (params_pieces m)
  params_items =
      let star = token k.Star (codes "*") in
      let star_star = token k.StarStar (codes "**") in
      let keys = m.keywords ++ signed_one star_star m.rest_keywords in
      let last = all_behind Item m.keywords (signed_one star_star m.rest_keywords) c.keywords (rest_keyword_items m.rest_keywords c.rest_keywords) in
      let trailing = all_behind Item m.trailing keys (plain_items m.trailing c.trailing) last in
      let rests = all_behind Item (signed_one star m.rest) (m.trailing ++ keys) (rest_items m.rest c.rest) trailing in
      let optionals = all_behind Item (signed question m.optional) (signed_one star m.rest ++ (m.trailing ++ keys)) (optional_items m.optional c.optional) rests in
      all_behind Item m.required (signed question m.optional ++ (signed_one star m.rest ++ (m.trailing ++ keys))) (plain_items m.required c.required) optionals

  function_cut : (rest : List ℕ) → IsUtf8 rest → follows at.Optional rest ≡ true → Cuttable place.Plain (pieced_function m).pieces rest
  function_cut rest u e =
      let params = listed (params_pieces m) in
      let last = block_pieces m.block ++ result_pieces m.result in
      let behind = λ (from : Place). block_cut from m.block c.block (result_pieces m.result) rest (λ from. result_cut from m.result c.result rest u e) in
      let first = in_parens_cut place.Plain params (listed_cut (params_pieces m) params_items) (flat last ++ rest) (behind place.Plain).utf8 in
      vars_cut m.vars c.vars (in_parens params ++ last) rest refl (then_cut place.Plain (in_parens params) last rest first (behind (end_of place.Plain (in_parens params))))

  function_end : Ends (pieced_function m).leads (end_of place.Plain (pieced_function m).pieces)
  function_end =
      let params = in_parens (listed (params_pieces m)) in
      let block = block_pieces m.block in
      let result = result_pieces m.result in
      let from = end_of place.Plain (vars_pieces m.vars) in
      let path = end_behind place.Plain (vars_pieces m.vars) (params ++ (block ++ result)) ∙ end_behind from params (block ++ result) ∙ end_behind (end_of from params) block result in
      subst (Ends (placed_leads at.Optional false m.result)) (sym path) (result_end (end_of (end_of from params) block) m.result c.result)

  function_opens : Opens (flat (pieced_function m).pieces)
  function_opens = go m.vars
    where
      go : (vars : List (List ℕ)) → Opens (flat (vars_pieces vars ++ (in_parens (listed (params_pieces m)) ++ (block_pieces m.block ++ result_pieces m.result))))
      go [] = refl
      go (v ∷ vs) = refl

  pub function_cuts : FunctionCuts (pieced_function m)
  function_cuts = record { begins = function_opens; cut = function_cut; ends = function_end }

-- a function as a type
pub proc_cuts : (fun : PiecedFunction) → FunctionCuts fun → Cuts (proc fun)
proc_cuts fun c = record {
  utf8 = λ behind. pieces_utf8 place.Plain (token k.Caret (codes "^") ∷ fun.pieces) (cut false [] IsUtf8-nil refl refl);
  begins = λ behind. refl;
  alike = λ _. refl;
  cut = cut;
  ends = ends;
}
  where
    no_name : (b : Bool) → is_name (if b then f.Name else f.Name) ≡ false → true ≡ false
    no_name true n = n
    no_name false n = n

    cut : (behind : Bool) (rest : List ℕ) → IsUtf8 rest → follows at.Optional rest ≡ true → (behind && is_name (front_before rest f.Name)) ≡ false → Cuttable (starts behind) (token k.Caret (codes "^") ∷ fun.pieces) rest
    cut false rest u e n = caret_cut fun.pieces rest (c.cut rest u e)
    cut true rest u e n = absurd (cc (no_name (begins_with 63 rest) n))

    ends : (behind : Bool) → (behind && is_name f.Name) ≡ false → Ends fun.leads (end_of (starts behind) (token k.Caret (codes "^") ∷ fun.pieces))
    ends false n = subst (λ q. Ends fun.leads (end_of q fun.pieces)) (sym (past_caret (codes "^") place.Plain)) c.ends
    ends true n = absurd (cc n)
