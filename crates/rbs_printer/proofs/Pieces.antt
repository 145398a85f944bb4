-- A printed type as pieces: its tokens with their kinds, and the blanks between them.
use Rattle.std.specs.Prelude.{ℕ, Bool, true, false, ◌&&◌, ◌||◌, if◌then◌else◌, List, [], ◌∷◌, ◌++◌, Option, Some, None, codes, map}
use Rattle.rbs_tree.specs.declared.names.TypeName.{TypeName}
use Rattle.rbs_tree.specs.declared.types.Ty.{Ty}
use Rattle.rbs_tree.specs.declared.types.MethodType.{MethodType}
use Rattle.rbs_tree.specs.declared.types.Ty.TheOpen.{Ty-F, BlockType-F, Field-F, Keyword-F, MethodType-F, Param-F}
use Rattle.rbs_tree.specs.declared.types.Ty.TheFolds.{fold-Ty, fold-MethodType}
use Rattle.rbs_lexer.specs.declared.kind.Kind.{Kind}
use Rattle.rbs_lexer.specs.declared.kind.Kind.TheVariants as k
use Rattle.rbs_lexer.specs.Words.{word_kind}
use Rattle.rbs_lexer.specs.Lexing.{Piece, token, gap, bytes_of}
use Rattle.rbs_printer.specs.declared.level.Level.{Level}
use Rattle.rbs_printer.specs.declared.level.Level.TheVariants as at
use Rattle.rbs_printer.specs.declared.level.Front.{Front}
use Rattle.rbs_printer.specs.declared.level.Front.TheVariants as f
use Rattle.rbs_printer.specs.Words.{string_text, symbol_text, integer_text}
use Rattle.rbs_printer.specs.Printed.{is_below, is_name, is_lone, ends_in_alias, integer_front, symbol_level, marked_front}

-- the bytes of pieces
abbrev pub flat : List Piece → List ℕ
flat [] = []
flat (p ∷ ps) = bytes_of p ++ flat ps

abbrev pub blank : Piece
blank = gap (codes " ")

abbrev pub word : List ℕ → Piece
word text = token (word_kind text) text

abbrev pub colons : Piece
colons = token k.ColonColon (codes "::")

abbrev pub comma : Piece
comma = token k.Comma (codes ",")

abbrev pub colon : Piece
colon = token k.Colon (codes ":")

abbrev pub question : Piece
question = token k.Question (codes "?")

-- ---- lists

-- each with other pieces before it
abbrev pub behind_each : List Piece → List (List Piece) → List Piece
behind_each sign [] = []
behind_each sign (x ∷ xs) = sign ++ (x ++ behind_each sign xs)

-- with other pieces between them
abbrev pub separated : List Piece → List (List Piece) → List Piece
separated sign [] = []
separated sign (x ∷ xs) = x ++ behind_each sign xs

abbrev pub listed : List (List Piece) → List Piece
listed = separated (comma ∷ blank ∷ [])

-- between a token and another
abbrev pub between : Piece → List Piece → Piece → List Piece
between left inner right = left ∷ (inner ++ right ∷ [])

abbrev pub in_parens : List Piece → List Piece
in_parens inner = between (token k.LeftParen (codes "(")) inner (token k.RightParen (codes ")"))

abbrev pub in_brackets : List Piece → List Piece
in_brackets inner = between (token k.LeftBracket (codes "[")) inner (token k.RightBracket (codes "]"))

-- ---- types in their places

-- A printed type: its level, what it begins with, its pieces and whether it leads to the name of a method, both by whether it stands
-- behind `alias |` or `alias &`.
pub record Pieced : Type 0 where
  pub level : Level
  pub front : Front
  pub pieces : Bool → List Piece
  pub leads : Bool → Bool

abbrev pub always : Level → Front → List Piece → Pieced
always level front pieces = record { level = level; front = front; pieces = λ behind. pieces; leads = λ behind. false }

abbrev pub is_grouped : Level → Bool → Pieced → Bool
is_grouped wanted behind p = is_below p.level wanted || (behind && is_name p.front)

abbrev pub placed : Level → Bool → Pieced → List Piece
placed wanted behind p = if is_grouped wanted behind p then in_parens (p.pieces false) else p.pieces behind

abbrev pub placed_leads : Level → Bool → Pieced → Bool
placed_leads wanted behind p = if is_grouped wanted behind p then false else p.leads behind

abbrev pub pieces_at : Level → Pieced → List Piece
pieces_at wanted p = placed wanted false p

abbrev pub any_pieces : Pieced → List Piece
any_pieces p = pieces_at at.Union p

-- ---- named types

abbrev pub name_pieces : TypeName → List Piece
name_pieces name = (if name.absolute then colons ∷ [] else []) ++ separated (colons ∷ []) (map (λ w. word w ∷ []) name.path)

abbrev pub bracketed : List Pieced → List Piece
bracketed ps = in_brackets (listed (map any_pieces ps))

abbrev pub args_pieces : List Pieced → List Piece
args_pieces [] = []
args_pieces args = bracketed args

abbrev pub named_pieces : TypeName → List Pieced → List Piece
named_pieces name args = name_pieces name ++ args_pieces args

abbrev pub named_front : TypeName → List Pieced → Front
named_front name [] = if is_lone name then f.Word else f.Other
named_front name args = f.Other

abbrev pub named : TypeName → List Pieced → Pieced
named name args = always at.Base (named_front name args) (named_pieces name args)

abbrev pub alias_leads : TypeName → List Pieced → Bool → Bool
alias_leads name [] behind = ends_in_alias name.path && (if behind && is_lone name then false else true)
alias_leads name args behind = false

abbrev pub alias : TypeName → List Pieced → Pieced
alias name args = record { level = at.Base; front = named_front name args; pieces = λ behind. named_pieces name args; leads = alias_leads name args }

abbrev pub singleton_pieces : TypeName → List Piece
singleton_pieces name = token k.Singleton (codes "singleton") ∷ in_parens (name_pieces name)

-- ---- composed types

abbrev pub single : Kind → List ℕ → Pieced
single kind text = always at.Base f.Word (token kind text ∷ [])

abbrev pub optional_front : Pieced → Front
optional_front p = if is_below p.level at.Base then f.Other else marked_front p.front

abbrev pub optional : Pieced → Pieced
optional p = always at.Optional (optional_front p) (pieces_at at.Base p ++ question ∷ [])

-- further parts, each behind a sign between blanks
abbrev pub and_parts : Piece → Level → Bool → List Pieced → List Piece
and_parts sign wanted leads [] = []
and_parts sign wanted leads (p ∷ ps) = blank ∷ sign ∷ blank ∷ (placed wanted leads p ++ and_parts sign wanted (placed_leads wanted leads p) ps)

abbrev pub and_leads : Level → Bool → List Pieced → Bool
and_leads wanted leads [] = leads
and_leads wanted leads (p ∷ ps) = and_leads wanted (placed_leads wanted leads p) ps

abbrev pub parts : Piece → Level → List Pieced → Bool → List Piece
parts sign wanted [] behind = []
parts sign wanted (p ∷ ps) behind = placed wanted behind p ++ and_parts sign wanted (placed_leads wanted behind p) ps

abbrev pub parts_leads : Level → List Pieced → Bool → Bool
parts_leads wanted [] behind = false
parts_leads wanted (p ∷ ps) behind = and_leads wanted (placed_leads wanted behind p) ps

abbrev pub parts_front : Level → List Pieced → Front
parts_front wanted [] = f.Other
parts_front wanted (p ∷ ps) = if is_below p.level wanted then f.Other else p.front

abbrev pub inter : List Pieced → Pieced
inter ps = record { level = at.Inter; front = parts_front at.Optional ps; pieces = parts (token k.Ampersand (codes "&")) at.Optional ps; leads = parts_leads at.Optional ps }

abbrev pub union : List Pieced → Pieced
union ps = record { level = at.Union; front = parts_front at.Inter ps; pieces = parts (token k.Bar (codes "|")) at.Inter ps; leads = parts_leads at.Inter ps }

abbrev pub tuple_front : List Pieced → Front
tuple_front [] = f.Name
tuple_front ps = f.Other

abbrev pub tuple : List Pieced → Pieced
tuple ps = always at.Base (tuple_front ps) (bracketed ps)

abbrev pub left_brace : Piece
left_brace = token k.LeftBrace (codes "{")

abbrev pub right_brace : Piece
right_brace = token k.RightBrace (codes "}")

abbrev pub record_pieces : List (List Piece) → List Piece
record_pieces [] = left_brace ∷ blank ∷ right_brace ∷ []
record_pieces fields = left_brace ∷ blank ∷ (listed fields ++ blank ∷ right_brace ∷ [])

-- ---- functions

abbrev pub mark : Bool → List Piece
mark required = if required then [] else question ∷ []

abbrev pub key_pieces : List ℕ → Pieced → List Piece
key_pieces key p = word key ∷ colon ∷ blank ∷ any_pieces p

abbrev pub param_name : Option (List ℕ) → List Piece
param_name None = []
param_name (Some name) = blank ∷ word name ∷ []

abbrev pub signed : Piece → List (List Piece) → List (List Piece)
signed sign params = map (λ pieces. sign ∷ pieces) params

abbrev pub signed_one : Piece → Option (List Piece) → List (List Piece)
signed_one sign None = []
signed_one sign (Some pieces) = (sign ∷ pieces) ∷ []

abbrev pub vars_pieces : List (List ℕ) → List Piece
vars_pieces [] = []
vars_pieces vars = in_brackets (listed (map (λ w. word w ∷ []) vars)) ++ blank ∷ []

abbrev pub block_pieces : Option (List Piece) → List Piece
block_pieces None = []
block_pieces (Some block) = blank ∷ block

-- a function's pieces, and whether they lead to the name of a method
pub record PiecedFunction : Type 0 where
  pub pieces : List Piece
  pub leads : Bool

-- ---- one layer of a tree

abbrev pub pieced_ty : Ty-F Pieced (List Piece) (List Piece) (List Piece) PiecedFunction (List Piece) → Pieced
pieced_ty (Ty-F.Instance name args) = named name args
pieced_ty (Ty-F.Interface name args) = named name args
pieced_ty (Ty-F.Alias name args) = alias name args
pieced_ty (Ty-F.Singleton name) = always at.Base f.Other (singleton_pieces name)
pieced_ty (Ty-F.IntLit value) = always at.Base (integer_front value) (token k.Integer (integer_text value) ∷ [])
pieced_ty (Ty-F.StrLit value) = always at.Base f.Other (token k.String (string_text value) ∷ [])
pieced_ty (Ty-F.SymLit name) = always (symbol_level name) f.Other (token k.Symbol (symbol_text name) ∷ [])
pieced_ty Ty-F.True = single k.True (codes "true")
pieced_ty Ty-F.False = single k.False (codes "false")
pieced_ty Ty-F.Bool = single k.Bool (codes "bool")
pieced_ty Ty-F.Nil = single k.Nil (codes "nil")
pieced_ty Ty-F.Top = single k.Top (codes "top")
pieced_ty Ty-F.Bot = single k.Bot (codes "bot")
pieced_ty Ty-F.Void = single k.Void (codes "void")
pieced_ty Ty-F.Untyped = single k.Untyped (codes "untyped")
pieced_ty Ty-F.SelfTy = single k.SelfWord (codes "self")
pieced_ty Ty-F.InstanceTy = single k.Instance (codes "instance")
pieced_ty Ty-F.ClassTy = single k.Class (codes "class")
pieced_ty (Ty-F.Var name) = always at.Base f.Word (word name ∷ [])
pieced_ty (Ty-F.Union ps) = union ps
pieced_ty (Ty-F.Inter ps) = inter ps
pieced_ty (Ty-F.Optional p) = optional p
pieced_ty (Ty-F.TupleOf ps) = tuple ps
pieced_ty (Ty-F.RecordOf fields) = always at.Base f.Other (record_pieces fields)
pieced_ty (Ty-F.ProcOf fun) = record { level = at.Optional; front = f.Name; pieces = λ behind. token k.Caret (codes "^") ∷ fun.pieces; leads = λ behind. fun.leads }

abbrev pub pieced_field : Field-F Pieced (List Piece) (List Piece) (List Piece) PiecedFunction (List Piece) → List Piece
pieced_field field = key_pieces field.key field.ty

abbrev pub pieced_keyword : Keyword-F Pieced (List Piece) (List Piece) (List Piece) PiecedFunction (List Piece) → List Piece
pieced_keyword keyword = mark keyword.required ++ key_pieces keyword.key keyword.ty

abbrev pub pieced_param : Param-F Pieced (List Piece) (List Piece) (List Piece) PiecedFunction (List Piece) → List Piece
pieced_param param = any_pieces param.ty ++ param_name param.name

abbrev pub pieced_block : BlockType-F Pieced (List Piece) (List Piece) (List Piece) PiecedFunction (List Piece) → List Piece
pieced_block block = mark block.required ++ (left_brace ∷ blank ∷ (block.fun.pieces ++ blank ∷ right_brace ∷ []))

abbrev pub params_pieces : MethodType-F Pieced (List Piece) (List Piece) (List Piece) PiecedFunction (List Piece) → List (List Piece)
params_pieces m = m.required ++ (signed question m.optional ++ (signed_one (token k.Star (codes "*")) m.rest
    ++ (m.trailing ++ (m.keywords ++ signed_one (token k.StarStar (codes "**")) m.rest_keywords))))

abbrev pub result_pieces : Pieced → List Piece
result_pieces p = blank ∷ token k.Arrow (codes "->") ∷ blank ∷ pieces_at at.Optional p

abbrev pub pieced_function : MethodType-F Pieced (List Piece) (List Piece) (List Piece) PiecedFunction (List Piece) → PiecedFunction
pieced_function m = record {
  pieces = vars_pieces m.vars ++ (in_parens (listed (params_pieces m)) ++ (block_pieces m.block ++ result_pieces m.result));
  leads = placed_leads at.Optional false m.result;
}

-- ---- trees

abbrev pub pieced : Ty → Pieced
pieced = fold-Ty Pieced (List Piece) (List Piece) (List Piece) PiecedFunction (List Piece) pieced_ty pieced_block pieced_field pieced_keyword pieced_function pieced_param

abbrev pub pieced_method : MethodType → PiecedFunction
pieced_method = fold-MethodType Pieced (List Piece) (List Piece) (List Piece) PiecedFunction (List Piece) pieced_ty pieced_block pieced_field pieced_keyword pieced_function pieced_param

abbrev pub type_pieces : Ty → List Piece
type_pieces ty = any_pieces (pieced ty)

abbrev pub method_pieces : MethodType → List Piece
method_pieces m = (pieced_method m).pieces
