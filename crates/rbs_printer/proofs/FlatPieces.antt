-- The bytes of a printed tree's pieces, one behind another, are its text.
use Rattle.std.proofs.Common.{◌≡◌, ℕ, Bool, true, false, ◌&&◌, not, if◌then◌else◌, List, [], ◌∷◌, ◌++◌, map, refl, ◌∙◌, sym, ap, ap₂, subst}
use Rattle.std.specs.Prelude.{Option, Some, None, codes}
use mathlib.Core.List.{append_assoc}
use Rattle.rbs_tree.specs.declared.names.TypeName.{TypeName}
use Rattle.rbs_tree.specs.declared.types.Ty.{Ty, roll-Ty}
use Rattle.rbs_tree.specs.declared.types.BlockType.{BlockType}
use Rattle.rbs_tree.specs.declared.types.Field.{Field}
use Rattle.rbs_tree.specs.declared.types.Keyword.{Keyword}
use Rattle.rbs_tree.specs.declared.types.MethodType.{MethodType}
use Rattle.rbs_tree.specs.declared.types.Param.{Param}
use Rattle.rbs_tree.specs.declared.types.Ty.TheOpen.{Ty-F, BlockType-F, Field-F, Keyword-F, MethodType-F, Param-F}
use Rattle.rbs_tree.specs.declared.types.Ty.TheViews.{roll-BlockType, roll-Field, roll-Keyword, roll-MethodType, roll-Param}
use Rattle.rbs_tree.specs.declared.types.Ty.TheFolds.{fold-roll-Ty, fold-roll-BlockType, fold-roll-Field, fold-roll-Keyword, fold-roll-MethodType, fold-roll-Param, fold-BlockType, fold-Field, fold-Keyword, fold-Param, map-Ty, map-BlockType, map-Field, map-Keyword, map-MethodType, map-Param, ind-Ty, ind-MethodType}
use Rattle.rbs_lexer.specs.declared.kind.Kind.TheVariants as k
use Rattle.rbs_lexer.specs.Lexing.{Piece, token, bytes_of}
use Rattle.rbs_printer.specs.declared.level.Level.{Level}
use Rattle.rbs_printer.specs.declared.level.Level.TheVariants as at
use Rattle.rbs_printer.specs.declared.level.Front.{Front}
use Rattle.rbs_printer.specs.Words as words
use Rattle.rbs_printer.specs.Words.{name_text}
use Rattle.rbs_printer.specs.Printed as text
use Rattle.rbs_printer.specs.Printed.{Printed}
use Rattle.rbs_printer.proofs.Pieces as pieces
use Rattle.rbs_printer.proofs.Pieces.{Pieced, PiecedFunction, flat}

-- ---- lists of pieces

append_none : (xs : List ℕ) → xs ++ [] ≡ xs
append_none [] = refl
append_none (x ∷ xs) = ap (λ ys. x ∷ ys) (append_none xs)

pub flat_append : (ps qs : List Piece) → flat (ps ++ qs) ≡ flat ps ++ flat qs
flat_append [] qs = refl
flat_append (p ∷ ps) qs = ap (λ bytes. bytes_of p ++ bytes) (flat_append ps qs) ∙ sym (append_assoc (bytes_of p) (flat ps) (flat qs))

map_append : {A B : Type 0} (g : A → B) (xs ys : List A) → map g (xs ++ ys) ≡ map g xs ++ map g ys
map_append g [] ys = refl
map_append g (x ∷ xs) ys = ap (λ zs. g x ∷ zs) (map_append g xs ys)

behind_each_flat : (sign : List Piece) (xs : List (List Piece)) → flat (pieces.behind_each sign xs) ≡ words.behind_each (flat sign) (map flat xs)
behind_each_flat sign [] = refl
behind_each_flat sign (x ∷ xs) =
    flat_append sign (x ++ pieces.behind_each sign xs)
    ∙ ap (λ bytes. flat sign ++ bytes) (flat_append x (pieces.behind_each sign xs) ∙ ap (λ bytes. flat x ++ bytes) (behind_each_flat sign xs))

separated_flat : (sign : List Piece) (xs : List (List Piece)) → flat (pieces.separated sign xs) ≡ words.separated (flat sign) (map flat xs)
separated_flat sign [] = refl
separated_flat sign (x ∷ xs) = flat_append x (pieces.behind_each sign xs) ∙ ap (λ bytes. flat x ++ bytes) (behind_each_flat sign xs)

listed_flat : (xs : List (List Piece)) → flat (pieces.listed xs) ≡ words.listed (map flat xs)
listed_flat xs = separated_flat (pieces.comma ∷ pieces.blank ∷ []) xs

-- pieces between two others, and what follows them
between_flat : (inner more : List Piece) (right : Piece) → flat ((inner ++ right ∷ []) ++ more) ≡ flat inner ++ (bytes_of right ++ flat more)
between_flat inner more right =
    flat_append (inner ++ right ∷ []) more
    ∙ ap (λ bytes. bytes ++ flat more) (flat_append inner (right ∷ []) ∙ ap (λ bytes. flat inner ++ bytes) (append_none (bytes_of right)))
    ∙ append_assoc (flat inner) (bytes_of right) (flat more)

-- pieces and one behind them
end_flat : (inner : List Piece) (right : Piece) → flat (inner ++ right ∷ []) ≡ flat inner ++ bytes_of right
end_flat inner right = flat_append inner (right ∷ []) ∙ ap (λ bytes. flat inner ++ bytes) (append_none (bytes_of right))

-- ---- types in their places

-- what is printed of the pieces
abbrev pub flatten : Pieced → Printed
flatten p = record { level = p.level; front = p.front; piece = λ behind. record { text = flat (p.pieces behind); leads = p.leads behind } }

abbrev pub flat_function : PiecedFunction → text.Piece
flat_function fun = record { text = flat fun.pieces; leads = fun.leads }

placed_flat : (wanted : Level) (behind : Bool) (p : Pieced) → flat (pieces.placed wanted behind p) ≡ (text.placed wanted behind (flatten p)).text
placed_flat wanted behind p = go (pieces.is_grouped wanted behind p)
  where
    go : (b : Bool) → flat (if b then pieces.in_parens (p.pieces false) else p.pieces behind)
        ≡ (if b then text.grouped ((flatten p).piece false) else (flatten p).piece behind).text
    go true = ap (λ bytes. codes "(" ++ bytes) (end_flat (p.pieces false) (token k.RightParen (codes ")")))
    go false = refl

placed_leads_flat : (wanted : Level) (behind : Bool) (p : Pieced) → pieces.placed_leads wanted behind p ≡ (text.placed wanted behind (flatten p)).leads
placed_leads_flat wanted behind p = go (pieces.is_grouped wanted behind p)
  where
    go : (b : Bool) → (if b then false else p.leads behind) ≡ (if b then text.grouped ((flatten p).piece false) else (flatten p).piece behind).leads
    go true = refl
    go false = refl

any_flat : (p : Pieced) → flat (pieces.any_pieces p) ≡ text.any_text (flatten p)
any_flat p = placed_flat at.Union false p

any_each_flat : (ps : List Pieced) → map flat (map pieces.any_pieces ps) ≡ map text.any_text (map flatten ps)
any_each_flat [] = refl
any_each_flat (p ∷ ps) = ap₂ ◌∷◌ (any_flat p) (any_each_flat ps)

bracketed_flat : (ps : List Pieced) → flat (pieces.bracketed ps) ≡ text.bracketed (map flatten ps)
bracketed_flat ps =
    ap (λ bytes. codes "[" ++ bytes) (end_flat (pieces.listed (map pieces.any_pieces ps)) (token k.RightBracket (codes "]"))
    ∙ ap (λ bytes. bytes ++ codes "]") (listed_flat (map pieces.any_pieces ps) ∙ ap words.listed (any_each_flat ps)))

-- ---- named types

words_flat : (ws : List (List ℕ)) → map flat (map (λ w. pieces.word w ∷ []) ws) ≡ ws
words_flat [] = refl
words_flat (w ∷ ws) = ap₂ ◌∷◌ (append_none w) (words_flat ws)

colons_flat : (absolute : Bool) → flat (if absolute then pieces.colons ∷ [] else []) ≡ (if absolute then codes "::" else [])
colons_flat true = refl
colons_flat false = refl

name_flat : (name : TypeName) → flat (pieces.name_pieces name) ≡ name_text name
unfolding name_text
name_flat name =
    flat_append (if name.absolute then pieces.colons ∷ [] else []) (pieces.separated (pieces.colons ∷ []) (map (λ w. pieces.word w ∷ []) name.path))
    ∙ ap₂ ◌++◌ (colons_flat name.absolute) (separated_flat (pieces.colons ∷ []) (map (λ w. pieces.word w ∷ []) name.path) ∙ ap (words.separated (codes "::")) (words_flat name.path))

args_flat : (args : List Pieced) → flat (pieces.args_pieces args) ≡ text.args_text (map flatten args)
args_flat [] = refl
args_flat (p ∷ ps) = bracketed_flat (p ∷ ps)

named_flat : (name : TypeName) (args : List Pieced) → flat (pieces.named_pieces name args) ≡ text.named_text name (map flatten args)
named_flat name args = flat_append (pieces.name_pieces name) (pieces.args_pieces args) ∙ ap₂ ◌++◌ (name_flat name) (args_flat args)

front_flat : (name : TypeName) (args : List Pieced) → pieces.named_front name args ≡ text.named_front name (map flatten args)
front_flat name [] = refl
front_flat name (p ∷ ps) = refl

negated : (b : Bool) → (if b then false else true) ≡ not b
negated true = refl
negated false = refl

alias_flat : (name : TypeName) (args : List Pieced) (behind : Bool) → pieces.alias_leads name args behind ≡ text.alias_leads name (map flatten args) behind
alias_flat name [] behind = ap (λ b. text.ends_in_alias name.path && b) (negated (behind && text.is_lone name))
alias_flat name (p ∷ ps) behind = refl

singleton_flat : (name : TypeName) → flat (pieces.singleton_pieces name) ≡ text.singleton_text name
singleton_flat name = ap (λ bytes. codes "singleton(" ++ bytes) (end_flat (pieces.name_pieces name) (token k.RightParen (codes ")")) ∙ ap (λ bytes. bytes ++ codes ")") (name_flat name))

-- ---- composed types

-- a sign between blanks
abbrev IsBlanked : Piece → List ℕ → Type 0
IsBlanked sign bytes = (more : List ℕ) → codes " " ++ (bytes_of sign ++ (codes " " ++ more)) ≡ bytes ++ more

and_parts_flat : (sign : Piece) (bytes : List ℕ) (wanted : Level) → IsBlanked sign bytes → (before : List ℕ) (leads : Bool) (ps : List Pieced)
    → before ++ flat (pieces.and_parts sign wanted leads ps) ≡ (text.and_parts bytes wanted before leads (map flatten ps)).text
and_parts_flat sign bytes wanted blanked before leads [] = append_none before
and_parts_flat sign bytes wanted blanked before leads (p ∷ ps) =
    let part = text.placed wanted leads (flatten p) in
    let rest = pieces.and_parts sign wanted (pieces.placed_leads wanted leads p) ps in
    ap (λ more. before ++ more) (blanked (flat (pieces.placed wanted leads p ++ rest))
    ∙ ap (λ more. bytes ++ more) (flat_append (pieces.placed wanted leads p) rest ∙ ap (λ more. more ++ flat rest) (placed_flat wanted leads p))
    ∙ sym (append_assoc bytes part.text (flat rest)))
    ∙ sym (append_assoc before (bytes ++ part.text) (flat rest))
    ∙ and_parts_flat sign bytes wanted blanked (before ++ (bytes ++ part.text)) (pieces.placed_leads wanted leads p) ps
    ∙ ap (λ b. (text.and_parts bytes wanted (before ++ (bytes ++ part.text)) b (map flatten ps)).text) (placed_leads_flat wanted leads p)

and_leads_flat : (bytes : List ℕ) (wanted : Level) (before : List ℕ) (leads : Bool) (ps : List Pieced)
    → pieces.and_leads wanted leads ps ≡ (text.and_parts bytes wanted before leads (map flatten ps)).leads
and_leads_flat bytes wanted before leads [] = refl
and_leads_flat bytes wanted before leads (p ∷ ps) =
    let part = text.placed wanted leads (flatten p) in
    and_leads_flat bytes wanted (before ++ (bytes ++ part.text)) (pieces.placed_leads wanted leads p) ps
    ∙ ap (λ b. (text.and_parts bytes wanted (before ++ (bytes ++ part.text)) b (map flatten ps)).leads) (placed_leads_flat wanted leads p)

parts_flat : (sign : Piece) (bytes : List ℕ) (wanted : Level) → IsBlanked sign bytes → (ps : List Pieced) (behind : Bool)
    → flat (pieces.parts sign wanted ps behind) ≡ (text.parts bytes wanted (map flatten ps) behind).text
parts_flat sign bytes wanted blanked [] behind = refl
parts_flat sign bytes wanted blanked (p ∷ ps) behind =
    let first = text.placed wanted behind (flatten p) in
    let rest = pieces.and_parts sign wanted (pieces.placed_leads wanted behind p) ps in
    flat_append (pieces.placed wanted behind p) rest
    ∙ ap (λ more. more ++ flat rest) (placed_flat wanted behind p)
    ∙ and_parts_flat sign bytes wanted blanked first.text (pieces.placed_leads wanted behind p) ps
    ∙ ap (λ b. (text.and_parts bytes wanted first.text b (map flatten ps)).text) (placed_leads_flat wanted behind p)

parts_leads_flat : (bytes : List ℕ) (wanted : Level) (ps : List Pieced) (behind : Bool)
    → pieces.parts_leads wanted ps behind ≡ (text.parts bytes wanted (map flatten ps) behind).leads
parts_leads_flat bytes wanted [] behind = refl
parts_leads_flat bytes wanted (p ∷ ps) behind =
    let first = text.placed wanted behind (flatten p) in
    and_leads_flat bytes wanted first.text (pieces.placed_leads wanted behind p) ps
    ∙ ap (λ b. (text.and_parts bytes wanted first.text b (map flatten ps)).leads) (placed_leads_flat wanted behind p)

parts_front_flat : (wanted : Level) (ps : List Pieced) → pieces.parts_front wanted ps ≡ text.parts_front wanted (map flatten ps)
parts_front_flat wanted [] = refl
parts_front_flat wanted (p ∷ ps) = refl

optional_flat : (p : Pieced) → flat (pieces.pieces_at at.Base p ++ pieces.question ∷ []) ≡ text.text_at at.Base (flatten p) ++ codes "?"
optional_flat p = end_flat (pieces.pieces_at at.Base p) pieces.question ∙ ap (λ bytes. bytes ++ codes "?") (placed_flat at.Base false p)

tuple_front_flat : (ps : List Pieced) → pieces.tuple_front ps ≡ text.tuple_front (map flatten ps)
tuple_front_flat [] = refl
tuple_front_flat (p ∷ ps) = refl

-- pieces and a closing brace
closed_flat : (inner : List Piece) → flat (inner ++ pieces.blank ∷ pieces.right_brace ∷ []) ≡ flat inner ++ codes " }"
closed_flat inner = flat_append inner (pieces.blank ∷ pieces.right_brace ∷ [])

record_flat : (fields : List (List Piece)) → flat (pieces.record_pieces fields) ≡ text.record_text (map flat fields)
record_flat [] = refl
record_flat (x ∷ xs) = ap (λ bytes. codes "{ " ++ bytes) (closed_flat (pieces.listed (x ∷ xs)) ∙ ap (λ bytes. bytes ++ codes " }") (listed_flat (x ∷ xs)))

-- ---- functions

mark_flat : (required : Bool) → flat (pieces.mark required) ≡ text.mark required
mark_flat true = refl
mark_flat false = refl

key_flat : (key : List ℕ) (p : Pieced) → flat (pieces.key_pieces key p) ≡ text.key_text key (flatten p)
key_flat key p = ap (λ bytes. key ++ (codes ": " ++ bytes)) (any_flat p)

param_name_flat : (name : Option (List ℕ)) → flat (pieces.param_name name) ≡ text.param_name name
param_name_flat None = refl
param_name_flat (Some name) = ap (λ bytes. codes " " ++ bytes) (append_none name)

signed_flat : (sign : Piece) (xs : List (List Piece)) → map flat (pieces.signed sign xs) ≡ text.signed (bytes_of sign) (map flat xs)
signed_flat sign [] = refl
signed_flat sign (x ∷ xs) = ap (λ ys. (bytes_of sign ++ flat x) ∷ ys) (signed_flat sign xs)

vars_flat : (vars : List (List ℕ)) → flat (pieces.vars_pieces vars) ≡ text.vars_text vars
vars_flat [] = refl
vars_flat (v ∷ vs) =
    let inner = pieces.listed (map (λ w. pieces.word w ∷ []) (v ∷ vs)) in
    ap (λ bytes. codes "[" ++ bytes) (between_flat inner (pieces.blank ∷ []) (token k.RightBracket (codes "]"))
    ∙ ap (λ bytes. bytes ++ codes "] ") (listed_flat (map (λ w. pieces.word w ∷ []) (v ∷ vs)) ∙ ap words.listed (words_flat (v ∷ vs))))

-- ---- one layer of a tree

-- what is the same wherever it stands
always_flat : (level : Level) (front shown : Front) (ps : List Piece) (bytes : List ℕ) → front ≡ shown → flat ps ≡ bytes
    → flatten (pieces.always level front ps) ≡ text.always level shown bytes
always_flat level front shown ps bytes e d = λ i. record { level = level; front = e i; piece = λ behind. record { text = d i; leads = false } }

signs_flat : (sign : Piece) (bytes : List ℕ) (level wanted : Level) → IsBlanked sign bytes → (ps : List Pieced)
    → flatten (record { level = level; front = pieces.parts_front wanted ps; pieces = pieces.parts sign wanted ps; leads = pieces.parts_leads wanted ps })
    ≡ record { level = level; front = text.parts_front wanted (map flatten ps); piece = text.parts bytes wanted (map flatten ps) }
signs_flat sign bytes level wanted blanked ps = λ i. record {
  level = level;
  front = parts_front_flat wanted ps i;
  piece = λ behind. record { text = parts_flat sign bytes wanted blanked ps behind i; leads = parts_leads_flat bytes wanted ps behind i };
}

ty_flat : (x : Ty-F Pieced (List Piece) (List Piece) (List Piece) PiecedFunction (List Piece)) → flatten (pieces.pieced_ty x) ≡ text.print_ty (map-Ty _ _ _ _ _ _ _ _ _ _ _ _ flatten flat flat flat flat_function flat x)
ty_flat (Ty-F.Instance name args) = always_flat at.Base _ _ (pieces.named_pieces name args) _ (front_flat name args) (named_flat name args)
ty_flat (Ty-F.Interface name args) = always_flat at.Base _ _ (pieces.named_pieces name args) _ (front_flat name args) (named_flat name args)
ty_flat (Ty-F.Alias name args) = λ i. record {
  level = at.Base;
  front = front_flat name args i;
  piece = λ behind. record { text = named_flat name args i; leads = alias_flat name args behind i };
}
ty_flat (Ty-F.Singleton name) = always_flat at.Base _ _ (pieces.singleton_pieces name) _ refl (singleton_flat name)
ty_flat (Ty-F.IntLit value) = always_flat at.Base _ _ (token k.Integer (words.integer_text value) ∷ []) _ refl (append_none (words.integer_text value))
ty_flat (Ty-F.StrLit value) = always_flat at.Base _ _ (token k.String (words.string_text value) ∷ []) _ refl (append_none (words.string_text value))
ty_flat (Ty-F.SymLit name) = always_flat (text.symbol_level name) _ _ (token k.Symbol (words.symbol_text name) ∷ []) _ refl (append_none (words.symbol_text name))
ty_flat Ty-F.True = refl
ty_flat Ty-F.False = refl
ty_flat Ty-F.Bool = refl
ty_flat Ty-F.Nil = refl
ty_flat Ty-F.Top = refl
ty_flat Ty-F.Bot = refl
ty_flat Ty-F.Void = refl
ty_flat Ty-F.Untyped = refl
ty_flat Ty-F.SelfTy = refl
ty_flat Ty-F.InstanceTy = refl
ty_flat Ty-F.ClassTy = refl
ty_flat (Ty-F.Var name) = always_flat at.Base _ _ (pieces.word name ∷ []) _ refl (append_none name)
ty_flat (Ty-F.Union ps) = signs_flat (token k.Bar (codes "|")) (codes " | ") at.Union at.Inter (λ more. refl) ps
ty_flat (Ty-F.Inter ps) = signs_flat (token k.Ampersand (codes "&")) (codes " & ") at.Inter at.Optional (λ more. refl) ps
ty_flat (Ty-F.Optional p) = always_flat at.Optional _ _ (pieces.pieces_at at.Base p ++ pieces.question ∷ []) _ refl (optional_flat p)
ty_flat (Ty-F.TupleOf ps) = always_flat at.Base _ _ (pieces.bracketed ps) _ (tuple_front_flat ps) (bracketed_flat ps)
ty_flat (Ty-F.RecordOf fields) = always_flat at.Base _ _ (pieces.record_pieces fields) _ refl (record_flat fields)
ty_flat (Ty-F.ProcOf fun) = refl

field_flat : (x : Field-F Pieced (List Piece) (List Piece) (List Piece) PiecedFunction (List Piece)) → flat (pieces.pieced_field x) ≡ text.print_field (map-Field _ _ _ _ _ _ _ _ _ _ _ _ flatten flat flat flat flat_function flat x)
field_flat x = key_flat x.key x.ty

keyword_flat : (x : Keyword-F Pieced (List Piece) (List Piece) (List Piece) PiecedFunction (List Piece)) → flat (pieces.pieced_keyword x) ≡ text.print_keyword (map-Keyword _ _ _ _ _ _ _ _ _ _ _ _ flatten flat flat flat flat_function flat x)
keyword_flat x = flat_append (pieces.mark x.required) (pieces.key_pieces x.key x.ty) ∙ ap₂ ◌++◌ (mark_flat x.required) (key_flat x.key x.ty)

param_flat : (x : Param-F Pieced (List Piece) (List Piece) (List Piece) PiecedFunction (List Piece)) → flat (pieces.pieced_param x) ≡ text.print_param (map-Param _ _ _ _ _ _ _ _ _ _ _ _ flatten flat flat flat flat_function flat x)
param_flat x = flat_append (pieces.any_pieces x.ty) (pieces.param_name x.name) ∙ ap₂ ◌++◌ (any_flat x.ty) (param_name_flat x.name)

one_block_flat : (x : BlockType-F Pieced (List Piece) (List Piece) (List Piece) PiecedFunction (List Piece)) → flat (pieces.pieced_block x) ≡ text.print_block (map-BlockType _ _ _ _ _ _ _ _ _ _ _ _ flatten flat flat flat flat_function flat x)
one_block_flat x =
    flat_append (pieces.mark x.required) (pieces.left_brace ∷ pieces.blank ∷ (x.fun.pieces ++ pieces.blank ∷ pieces.right_brace ∷ []))
    ∙ ap₂ ◌++◌ (mark_flat x.required) (ap (λ bytes. codes "{ " ++ bytes) (closed_flat x.fun.pieces))

abbrev flat_parts : MethodType-F Pieced (List Piece) (List Piece) (List Piece) PiecedFunction (List Piece) → MethodType-F Printed (List ℕ) (List ℕ) (List ℕ) text.Piece (List ℕ)
flat_parts m = map-MethodType _ _ _ _ _ _ _ _ _ _ _ _ flatten flat flat flat flat_function flat m

rest_flat : (sign : Piece) (m : MethodType-F Pieced (List Piece) (List Piece) (List Piece) PiecedFunction (List Piece)) (x : Option (List Piece))
    → map flat (pieces.signed_one sign x) ≡ text.signed_one (bytes_of sign) (flat_parts (record m { rest = x })).rest
rest_flat sign m None = refl
rest_flat sign m (Some x) = refl

rest_keywords_flat : (sign : Piece) (m : MethodType-F Pieced (List Piece) (List Piece) (List Piece) PiecedFunction (List Piece)) (x : Option (List Piece))
    → map flat (pieces.signed_one sign x) ≡ text.signed_one (bytes_of sign) (flat_parts (record m { rest_keywords = x })).rest_keywords
rest_keywords_flat sign m None = refl
rest_keywords_flat sign m (Some x) = refl

block_flat : (m : MethodType-F Pieced (List Piece) (List Piece) (List Piece) PiecedFunction (List Piece)) (x : Option (List Piece))
    → flat (pieces.block_pieces x) ≡ text.block_text (flat_parts (record m { block = x })).block
block_flat m None = refl
block_flat m (Some x) = refl

params_flat : (m : MethodType-F Pieced (List Piece) (List Piece) (List Piece) PiecedFunction (List Piece))
    → map flat (pieces.params_pieces m) ≡ text.param_texts (flat_parts m)
params_flat m =
    map_append flat m.required _ ∙ ap (λ xs. map flat m.required ++ xs) (
    map_append flat (pieces.signed pieces.question m.optional) _ ∙ ap₂ ◌++◌ (signed_flat pieces.question m.optional) (
    map_append flat (pieces.signed_one (token k.Star (codes "*")) m.rest) _ ∙ ap₂ ◌++◌ (rest_flat (token k.Star (codes "*")) m m.rest) (
    map_append flat m.trailing _ ∙ ap (λ xs. map flat m.trailing ++ xs) (
    map_append flat m.keywords _ ∙ ap (λ xs. map flat m.keywords ++ xs) (rest_keywords_flat (token k.StarStar (codes "**")) m m.rest_keywords)))))

function_flat : (m : MethodType-F Pieced (List Piece) (List Piece) (List Piece) PiecedFunction (List Piece))
    → flat_function (pieces.pieced_function m) ≡ text.print_method (flat_parts m)
function_flat m = λ i. record { text = all i; leads = placed_leads_flat at.Optional false m.result i }
  where
    end : List Piece
    end = pieces.block_pieces m.block ++ pieces.result_pieces m.result

    end_text : flat end ≡ text.block_text (flat_parts m).block ++ (codes " -> " ++ text.text_at at.Optional (flatten m.result))
    end_text = flat_append (pieces.block_pieces m.block) (pieces.result_pieces m.result) ∙ ap₂ ◌++◌ (block_flat m m.block) (ap (λ bytes. codes " -> " ++ bytes) (placed_flat at.Optional false m.result))

    all : flat (pieces.pieced_function m).pieces ≡ (text.print_method (flat_parts m)).text
    all = flat_append (pieces.vars_pieces m.vars) (pieces.in_parens (pieces.listed (pieces.params_pieces m)) ++ end)
        ∙ ap₂ ◌++◌ (vars_flat m.vars) (ap (λ bytes. codes "(" ++ bytes) (
        between_flat (pieces.listed (pieces.params_pieces m)) end (token k.RightParen (codes ")"))
        ∙ ap₂ (λ xs ys. xs ++ (codes ")" ++ ys)) (listed_flat (pieces.params_pieces m) ∙ ap words.listed (params_flat m)) end_text))

-- ---- by induction on trees

abbrev FlatTy : Ty → Type 0
FlatTy ty = flatten (pieces.pieced ty) ≡ text.printed ty

abbrev block_pieces : BlockType → List Piece
block_pieces = fold-BlockType Pieced (List Piece) (List Piece) (List Piece) PiecedFunction (List Piece) pieces.pieced_ty pieces.pieced_block pieces.pieced_field pieces.pieced_keyword pieces.pieced_function pieces.pieced_param

abbrev field_pieces : Field → List Piece
field_pieces = fold-Field Pieced (List Piece) (List Piece) (List Piece) PiecedFunction (List Piece) pieces.pieced_ty pieces.pieced_block pieces.pieced_field pieces.pieced_keyword pieces.pieced_function pieces.pieced_param

abbrev keyword_pieces : Keyword → List Piece
keyword_pieces = fold-Keyword Pieced (List Piece) (List Piece) (List Piece) PiecedFunction (List Piece) pieces.pieced_ty pieces.pieced_block pieces.pieced_field pieces.pieced_keyword pieces.pieced_function pieces.pieced_param

abbrev param_pieces : Param → List Piece
param_pieces = fold-Param Pieced (List Piece) (List Piece) (List Piece) PiecedFunction (List Piece) pieces.pieced_ty pieces.pieced_block pieces.pieced_field pieces.pieced_keyword pieces.pieced_function pieces.pieced_param

abbrev FlatBlock : BlockType → Type 0
FlatBlock x = flat (block_pieces x) ≡ text.printed_block x

abbrev FlatField : Field → Type 0
FlatField x = flat (field_pieces x) ≡ text.printed_field x

abbrev FlatKeyword : Keyword → Type 0
FlatKeyword x = flat (keyword_pieces x) ≡ text.printed_keyword x

abbrev FlatMethod : MethodType → Type 0
FlatMethod x = flat_function (pieces.pieced_method x) ≡ text.printed_method x

abbrev FlatParam : Param → Type 0
FlatParam x = flat (param_pieces x) ≡ text.printed_param x

-- a function after another is a third on each of a list, where it is for each
each_flat : {A B C : Type 0} (g : A → B) (h : B → C) (l : A → C) (xs : List ((a : A) × (h (g a) ≡ l a))) → map h (map g (map (λ e. e.0) xs)) ≡ map l (map (λ e. e.0) xs)
each_flat g h l [] = refl
each_flat g h l (x ∷ xs) = ap₂ ◌∷◌ x.1 (each_flat g h l xs)

abbrev Layer : Type 0
Layer = Ty-F ((x : Ty) × FlatTy x) ((x : BlockType) × FlatBlock x) ((x : Field) × FlatField x) ((x : Keyword) × FlatKeyword x) ((x : MethodType) × FlatMethod x) ((x : Param) × FlatParam x)

abbrev flat_layer : Ty-F Ty BlockType Field Keyword MethodType Param → Ty-F Printed (List ℕ) (List ℕ) (List ℕ) text.Piece (List ℕ)
flat_layer x = map-Ty _ _ _ _ _ _ _ _ _ _ _ _ flatten flat flat flat flat_function flat (map-Ty _ _ _ _ _ _ _ _ _ _ _ _ pieces.pieced block_pieces field_pieces keyword_pieces pieces.pieced_method param_pieces x)

abbrev text_layer : Ty-F Ty BlockType Field Keyword MethodType Param → Ty-F Printed (List ℕ) (List ℕ) (List ℕ) text.Piece (List ℕ)
text_layer x = map-Ty _ _ _ _ _ _ _ _ _ _ _ _ text.printed text.printed_block text.printed_field text.printed_keyword text.printed_method text.printed_param x

layers_flat : (y : Layer) → flat_layer (map-Ty _ _ _ _ _ _ _ _ _ _ _ _ (λ e. e.0) (λ e. e.0) (λ e. e.0) (λ e. e.0) (λ e. e.0) (λ e. e.0) y) ≡ text_layer (map-Ty _ _ _ _ _ _ _ _ _ _ _ _ (λ e. e.0) (λ e. e.0) (λ e. e.0) (λ e. e.0) (λ e. e.0) (λ e. e.0) y)
layers_flat (Ty-F.Instance name args) = ap (Ty-F.Instance name) (each_flat pieces.pieced flatten text.printed args)
layers_flat (Ty-F.Interface name args) = ap (Ty-F.Interface name) (each_flat pieces.pieced flatten text.printed args)
layers_flat (Ty-F.Alias name args) = ap (Ty-F.Alias name) (each_flat pieces.pieced flatten text.printed args)
layers_flat (Ty-F.Singleton name) = refl
layers_flat (Ty-F.IntLit value) = refl
layers_flat (Ty-F.StrLit value) = refl
layers_flat (Ty-F.SymLit name) = refl
layers_flat Ty-F.True = refl
layers_flat Ty-F.False = refl
layers_flat Ty-F.Bool = refl
layers_flat Ty-F.Nil = refl
layers_flat Ty-F.Top = refl
layers_flat Ty-F.Bot = refl
layers_flat Ty-F.Void = refl
layers_flat Ty-F.Untyped = refl
layers_flat Ty-F.SelfTy = refl
layers_flat Ty-F.InstanceTy = refl
layers_flat Ty-F.ClassTy = refl
layers_flat (Ty-F.Var name) = refl
layers_flat (Ty-F.Union ps) = ap Ty-F.Union (each_flat pieces.pieced flatten text.printed ps)
layers_flat (Ty-F.Inter ps) = ap Ty-F.Inter (each_flat pieces.pieced flatten text.printed ps)
layers_flat (Ty-F.Optional p) = ap Ty-F.Optional p.1
layers_flat (Ty-F.TupleOf ps) = ap Ty-F.TupleOf (each_flat pieces.pieced flatten text.printed ps)
layers_flat (Ty-F.RecordOf fields) = ap Ty-F.RecordOf (each_flat field_pieces flat text.printed_field fields)
layers_flat (Ty-F.ProcOf fun) = ap Ty-F.ProcOf fun.1

ty_step : (x : Ty-F Ty BlockType Field Keyword MethodType Param) (y : Layer) → map-Ty _ _ _ _ _ _ _ _ _ _ _ _ (λ e. e.0) (λ e. e.0) (λ e. e.0) (λ e. e.0) (λ e. e.0) (λ e. e.0) y ≡ x → FlatTy (roll-Ty x)
ty_step x y is =
    ap flatten (fold-roll-Ty Pieced (List Piece) (List Piece) (List Piece) PiecedFunction (List Piece) pieces.pieced_ty pieces.pieced_block pieces.pieced_field pieces.pieced_keyword pieces.pieced_function pieces.pieced_param x)
    ∙ ty_flat (map-Ty _ _ _ _ _ _ _ _ _ _ _ _ pieces.pieced block_pieces field_pieces keyword_pieces pieces.pieced_method param_pieces x)
    ∙ ap text.print_ty (subst (λ z. flat_layer z ≡ text_layer z) is (layers_flat y))
    ∙ sym (fold-roll-Ty Printed (List ℕ) (List ℕ) (List ℕ) text.Piece (List ℕ) text.print_ty text.print_block text.print_field text.print_keyword text.print_method text.print_param x)

abbrev flat_block : BlockType-F Ty BlockType Field Keyword MethodType Param → BlockType-F Printed (List ℕ) (List ℕ) (List ℕ) text.Piece (List ℕ)
flat_block x = map-BlockType _ _ _ _ _ _ _ _ _ _ _ _ flatten flat flat flat flat_function flat (map-BlockType _ _ _ _ _ _ _ _ _ _ _ _ pieces.pieced block_pieces field_pieces keyword_pieces pieces.pieced_method param_pieces x)

abbrev flat_field : Field-F Ty BlockType Field Keyword MethodType Param → Field-F Printed (List ℕ) (List ℕ) (List ℕ) text.Piece (List ℕ)
flat_field x = map-Field _ _ _ _ _ _ _ _ _ _ _ _ flatten flat flat flat flat_function flat (map-Field _ _ _ _ _ _ _ _ _ _ _ _ pieces.pieced block_pieces field_pieces keyword_pieces pieces.pieced_method param_pieces x)

abbrev flat_keyword : Keyword-F Ty BlockType Field Keyword MethodType Param → Keyword-F Printed (List ℕ) (List ℕ) (List ℕ) text.Piece (List ℕ)
flat_keyword x = map-Keyword _ _ _ _ _ _ _ _ _ _ _ _ flatten flat flat flat flat_function flat (map-Keyword _ _ _ _ _ _ _ _ _ _ _ _ pieces.pieced block_pieces field_pieces keyword_pieces pieces.pieced_method param_pieces x)

abbrev flat_param : Param-F Ty BlockType Field Keyword MethodType Param → Param-F Printed (List ℕ) (List ℕ) (List ℕ) text.Piece (List ℕ)
flat_param x = map-Param _ _ _ _ _ _ _ _ _ _ _ _ flatten flat flat flat flat_function flat (map-Param _ _ _ _ _ _ _ _ _ _ _ _ pieces.pieced block_pieces field_pieces keyword_pieces pieces.pieced_method param_pieces x)

abbrev flat_method : MethodType-F Ty BlockType Field Keyword MethodType Param → MethodType-F Printed (List ℕ) (List ℕ) (List ℕ) text.Piece (List ℕ)
flat_method x = flat_parts (map-MethodType _ _ _ _ _ _ _ _ _ _ _ _ pieces.pieced block_pieces field_pieces keyword_pieces pieces.pieced_method param_pieces x)

abbrev text_block : BlockType-F Ty BlockType Field Keyword MethodType Param → BlockType-F Printed (List ℕ) (List ℕ) (List ℕ) text.Piece (List ℕ)
text_block x = map-BlockType _ _ _ _ _ _ _ _ _ _ _ _ text.printed text.printed_block text.printed_field text.printed_keyword text.printed_method text.printed_param x

abbrev text_field : Field-F Ty BlockType Field Keyword MethodType Param → Field-F Printed (List ℕ) (List ℕ) (List ℕ) text.Piece (List ℕ)
text_field x = map-Field _ _ _ _ _ _ _ _ _ _ _ _ text.printed text.printed_block text.printed_field text.printed_keyword text.printed_method text.printed_param x

abbrev text_keyword : Keyword-F Ty BlockType Field Keyword MethodType Param → Keyword-F Printed (List ℕ) (List ℕ) (List ℕ) text.Piece (List ℕ)
text_keyword x = map-Keyword _ _ _ _ _ _ _ _ _ _ _ _ text.printed text.printed_block text.printed_field text.printed_keyword text.printed_method text.printed_param x

abbrev text_param : Param-F Ty BlockType Field Keyword MethodType Param → Param-F Printed (List ℕ) (List ℕ) (List ℕ) text.Piece (List ℕ)
text_param x = map-Param _ _ _ _ _ _ _ _ _ _ _ _ text.printed text.printed_block text.printed_field text.printed_keyword text.printed_method text.printed_param x

abbrev text_method : MethodType-F Ty BlockType Field Keyword MethodType Param → MethodType-F Printed (List ℕ) (List ℕ) (List ℕ) text.Piece (List ℕ)
text_method x = map-MethodType _ _ _ _ _ _ _ _ _ _ _ _ text.printed text.printed_block text.printed_field text.printed_keyword text.printed_method text.printed_param x

abbrev MethodLayer : Type 0
MethodLayer = MethodType-F ((x : Ty) × FlatTy x) ((x : BlockType) × FlatBlock x) ((x : Field) × FlatField x) ((x : Keyword) × FlatKeyword x) ((x : MethodType) × FlatMethod x) ((x : Param) × FlatParam x)

abbrev parts_of : MethodLayer → MethodType-F Ty BlockType Field Keyword MethodType Param
parts_of y = map-MethodType _ _ _ _ _ _ _ _ _ _ _ _ (λ e. e.0) (λ e. e.0) (λ e. e.0) (λ e. e.0) (λ e. e.0) (λ e. e.0) y

rest_layer : (y : MethodLayer) (x : Option ((p : Param) × FlatParam p)) → (flat_method (parts_of (record y { rest = x }))).rest ≡ (text_method (parts_of (record y { rest = x }))).rest
rest_layer y None = refl
rest_layer y (Some x) = ap Some x.1

rest_keywords_layer : (y : MethodLayer) (x : Option ((p : Param) × FlatParam p)) → (flat_method (parts_of (record y { rest_keywords = x }))).rest_keywords ≡ (text_method (parts_of (record y { rest_keywords = x }))).rest_keywords
rest_keywords_layer y None = refl
rest_keywords_layer y (Some x) = ap Some x.1

block_layer : (y : MethodLayer) (x : Option ((b : BlockType) × FlatBlock b)) → (flat_method (parts_of (record y { block = x }))).block ≡ (text_method (parts_of (record y { block = x }))).block
block_layer y None = refl
block_layer y (Some x) = ap Some x.1

method_layer : (y : MethodLayer) → flat_method (parts_of y) ≡ text_method (parts_of y)
method_layer y = λ i. record {
  vars = y.vars;
  required = each_flat param_pieces flat text.printed_param y.required i;
  optional = each_flat param_pieces flat text.printed_param y.optional i;
  rest = rest_layer y y.rest i;
  trailing = each_flat param_pieces flat text.printed_param y.trailing i;
  keywords = each_flat keyword_pieces flat text.printed_keyword y.keywords i;
  rest_keywords = rest_keywords_layer y y.rest_keywords i;
  block = block_layer y y.block i;
  result = y.result.1 i;
}

block_step : (x : BlockType-F Ty BlockType Field Keyword MethodType Param) (y : BlockType-F ((x : Ty) × FlatTy x) ((x : BlockType) × FlatBlock x) ((x : Field) × FlatField x) ((x : Keyword) × FlatKeyword x) ((x : MethodType) × FlatMethod x) ((x : Param) × FlatParam x)) → map-BlockType _ _ _ _ _ _ _ _ _ _ _ _ (λ e. e.0) (λ e. e.0) (λ e. e.0) (λ e. e.0) (λ e. e.0) (λ e. e.0) y ≡ x → FlatBlock (roll-BlockType x)
block_step x y is =
    ap flat (fold-roll-BlockType Pieced (List Piece) (List Piece) (List Piece) PiecedFunction (List Piece) pieces.pieced_ty pieces.pieced_block pieces.pieced_field pieces.pieced_keyword pieces.pieced_function pieces.pieced_param x)
    ∙ one_block_flat (map-BlockType _ _ _ _ _ _ _ _ _ _ _ _ pieces.pieced block_pieces field_pieces keyword_pieces pieces.pieced_method param_pieces x)
    ∙ ap text.print_block (subst (λ z. flat_block z ≡ text_block z) is (λ i. record { required = y.required; fun = y.fun.1 i }))
    ∙ sym (fold-roll-BlockType Printed (List ℕ) (List ℕ) (List ℕ) text.Piece (List ℕ) text.print_ty text.print_block text.print_field text.print_keyword text.print_method text.print_param x)

field_step : (x : Field-F Ty BlockType Field Keyword MethodType Param) (y : Field-F ((x : Ty) × FlatTy x) ((x : BlockType) × FlatBlock x) ((x : Field) × FlatField x) ((x : Keyword) × FlatKeyword x) ((x : MethodType) × FlatMethod x) ((x : Param) × FlatParam x)) → map-Field _ _ _ _ _ _ _ _ _ _ _ _ (λ e. e.0) (λ e. e.0) (λ e. e.0) (λ e. e.0) (λ e. e.0) (λ e. e.0) y ≡ x → FlatField (roll-Field x)
field_step x y is =
    ap flat (fold-roll-Field Pieced (List Piece) (List Piece) (List Piece) PiecedFunction (List Piece) pieces.pieced_ty pieces.pieced_block pieces.pieced_field pieces.pieced_keyword pieces.pieced_function pieces.pieced_param x)
    ∙ field_flat (map-Field _ _ _ _ _ _ _ _ _ _ _ _ pieces.pieced block_pieces field_pieces keyword_pieces pieces.pieced_method param_pieces x)
    ∙ ap text.print_field (subst (λ z. flat_field z ≡ text_field z) is (λ i. record { key = y.key; ty = y.ty.1 i }))
    ∙ sym (fold-roll-Field Printed (List ℕ) (List ℕ) (List ℕ) text.Piece (List ℕ) text.print_ty text.print_block text.print_field text.print_keyword text.print_method text.print_param x)

keyword_step : (x : Keyword-F Ty BlockType Field Keyword MethodType Param) (y : Keyword-F ((x : Ty) × FlatTy x) ((x : BlockType) × FlatBlock x) ((x : Field) × FlatField x) ((x : Keyword) × FlatKeyword x) ((x : MethodType) × FlatMethod x) ((x : Param) × FlatParam x)) → map-Keyword _ _ _ _ _ _ _ _ _ _ _ _ (λ e. e.0) (λ e. e.0) (λ e. e.0) (λ e. e.0) (λ e. e.0) (λ e. e.0) y ≡ x → FlatKeyword (roll-Keyword x)
keyword_step x y is =
    ap flat (fold-roll-Keyword Pieced (List Piece) (List Piece) (List Piece) PiecedFunction (List Piece) pieces.pieced_ty pieces.pieced_block pieces.pieced_field pieces.pieced_keyword pieces.pieced_function pieces.pieced_param x)
    ∙ keyword_flat (map-Keyword _ _ _ _ _ _ _ _ _ _ _ _ pieces.pieced block_pieces field_pieces keyword_pieces pieces.pieced_method param_pieces x)
    ∙ ap text.print_keyword (subst (λ z. flat_keyword z ≡ text_keyword z) is (λ i. record { key = y.key; required = y.required; ty = y.ty.1 i }))
    ∙ sym (fold-roll-Keyword Printed (List ℕ) (List ℕ) (List ℕ) text.Piece (List ℕ) text.print_ty text.print_block text.print_field text.print_keyword text.print_method text.print_param x)

method_step : (x : MethodType-F Ty BlockType Field Keyword MethodType Param) (y : MethodLayer) → parts_of y ≡ x → FlatMethod (roll-MethodType x)
method_step x y is =
    ap flat_function (fold-roll-MethodType Pieced (List Piece) (List Piece) (List Piece) PiecedFunction (List Piece) pieces.pieced_ty pieces.pieced_block pieces.pieced_field pieces.pieced_keyword pieces.pieced_function pieces.pieced_param x)
    ∙ function_flat (map-MethodType _ _ _ _ _ _ _ _ _ _ _ _ pieces.pieced block_pieces field_pieces keyword_pieces pieces.pieced_method param_pieces x)
    ∙ ap text.print_method (subst (λ z. flat_method z ≡ text_method z) is (method_layer y))
    ∙ sym (fold-roll-MethodType Printed (List ℕ) (List ℕ) (List ℕ) text.Piece (List ℕ) text.print_ty text.print_block text.print_field text.print_keyword text.print_method text.print_param x)

param_step : (x : Param-F Ty BlockType Field Keyword MethodType Param) (y : Param-F ((x : Ty) × FlatTy x) ((x : BlockType) × FlatBlock x) ((x : Field) × FlatField x) ((x : Keyword) × FlatKeyword x) ((x : MethodType) × FlatMethod x) ((x : Param) × FlatParam x)) → map-Param _ _ _ _ _ _ _ _ _ _ _ _ (λ e. e.0) (λ e. e.0) (λ e. e.0) (λ e. e.0) (λ e. e.0) (λ e. e.0) y ≡ x → FlatParam (roll-Param x)
param_step x y is =
    ap flat (fold-roll-Param Pieced (List Piece) (List Piece) (List Piece) PiecedFunction (List Piece) pieces.pieced_ty pieces.pieced_block pieces.pieced_field pieces.pieced_keyword pieces.pieced_function pieces.pieced_param x)
    ∙ param_flat (map-Param _ _ _ _ _ _ _ _ _ _ _ _ pieces.pieced block_pieces field_pieces keyword_pieces pieces.pieced_method param_pieces x)
    ∙ ap text.print_param (subst (λ z. flat_param z ≡ text_param z) is (λ i. record { ty = y.ty.1 i; name = y.name }))
    ∙ sym (fold-roll-Param Printed (List ℕ) (List ℕ) (List ℕ) text.Piece (List ℕ) text.print_ty text.print_block text.print_field text.print_keyword text.print_method text.print_param x)

-- The pieces of a type, with what is told beside them, are what is printed of it.
pub ty_is_flat : (ty : Ty) → flatten (pieces.pieced ty) ≡ text.printed ty
ty_is_flat = ind-Ty FlatTy FlatBlock FlatField FlatKeyword FlatMethod FlatParam ty_step block_step field_step keyword_step method_step param_step

pub method_is_flat : (m : MethodType) → flat_function (pieces.pieced_method m) ≡ text.printed_method m
method_is_flat = ind-MethodType FlatTy FlatBlock FlatField FlatKeyword FlatMethod FlatParam ty_step block_step field_step keyword_step method_step param_step

pub type_flat : (ty : Ty) → flat (pieces.type_pieces ty) ≡ text.type_text ty
type_flat ty = any_flat (pieces.pieced ty) ∙ ap text.any_text (ty_is_flat ty)

pub method_flat : (m : MethodType) → flat (pieces.method_pieces m) ≡ text.method_text m
method_flat m = ap (λ x. x.text) (method_is_flat m)
