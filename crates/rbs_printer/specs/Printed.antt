-- The printed text of a type and of a method type, in the notation of RBS's `docs/syntax.md`.
--
-- A type is printed from its parts: each layer of a tree is given what its parts are printed as, and at what level each stands in
-- the grammar. A part gets parentheses where the grammar wants another level, and where the lexer would read its first token as the
-- name of a method, which it does behind `alias |` and `alias &`.
use Rattle.std.specs.Prelude.{ℕ, ℤ, pos, negsuc, Bool, true, false, not, ◌&&◌, ◌||◌, if◌then◌else◌, List, [], ◌∷◌, ◌++◌, Option, Some, None, codes, map, option_map, fold, bytes_eq}
use Rattle.rbs_tree.specs.declared.names.TypeName.{TypeName}
use Rattle.rbs_tree.specs.declared.types.Ty.{Ty}
use Rattle.rbs_tree.specs.declared.types.BlockType.{BlockType}
use Rattle.rbs_tree.specs.declared.types.Field.{Field}
use Rattle.rbs_tree.specs.declared.types.Keyword.{Keyword}
use Rattle.rbs_tree.specs.declared.types.MethodType.{MethodType}
use Rattle.rbs_tree.specs.declared.types.Param.{Param}
use Rattle.rbs_tree.specs.declared.types.Ty.TheOpen.{Ty-F, BlockType-F, Field-F, Keyword-F, MethodType-F, Param-F}
use Rattle.rbs_tree.specs.declared.types.Ty.TheViews.{out-MethodType}
use Rattle.rbs_tree.specs.declared.types.Ty.TheFolds.{fold-Ty, fold-BlockType, fold-Field, fold-Keyword, fold-MethodType, fold-Param}
use Rattle.rbs_printer.specs.declared.level.Level.{Level}
use Rattle.rbs_printer.specs.declared.level.Level.TheVariants as at
use Rattle.rbs_printer.specs.declared.level.Front.{Front}
use Rattle.rbs_printer.specs.declared.level.Front.TheVariants as f
use Rattle.rbs_lexer.specs.Words.{is_word}
use Rattle.rbs_printer.specs.Words.{joined, listed, name_text, string_text, symbol_text, integer_text}

-- ---- levels

-- whether the first level is below the second: union < inter < optional < base
abbrev pub is_below : Level → Level → Bool
is_below at.Union at.Union = false
is_below at.Union _ = true
is_below at.Inter at.Optional = true
is_below at.Inter at.Base = true
is_below at.Optional at.Base = true
is_below _ _ = false

-- ---- the name of a method behind `alias`

-- Behind `alias`, where it is a type's name without arguments, `|` and `&` are read as a method's name, and so is the first token
-- behind them where it can be one. What is printed carries this on: whether it `leads` to such a place with the sign behind it.

-- what is printed of a type, and whether a `|` or `&` behind it would be read as the new name of an `alias`
pub record Piece : Type 0 where
  pub text : List ℕ
  pub leads : Bool

-- text behind which no name is read
abbrev pub plain : List ℕ → Piece
plain text = record { text = text; leads = false }

-- a text between parentheses
abbrev pub grouped : Piece → Piece
grouped piece = plain (joined (codes "(" ∷ piece.text ∷ codes ")" ∷ []))

-- A printed type: its level, what it begins with, and its text, by whether it stands behind `alias |` or `alias &`.
pub record Printed : Type 0 where
  pub level : Level
  pub front : Front
  pub piece : Bool → Piece

-- the same wherever it stands
abbrev pub always : Level → Front → List ℕ → Printed
always level front text = record { level = level; front = front; piece = λ behind. plain text }

-- whether a text that begins so is read otherwise where a method's name may stand
abbrev pub is_name : Front → Bool
is_name f.Name = true
is_name _ = false

-- whether it has to be between parentheses: where a level is wanted, and maybe behind `alias |` or `alias &`
abbrev pub is_grouped : Level → Bool → Printed → Bool
is_grouped wanted behind p = is_below p.level wanted || (behind && is_name p.front)

-- a type where a level is wanted, and maybe behind `alias |` or `alias &`
abbrev pub placed : Level → Bool → Printed → Piece
placed wanted behind p = if is_grouped wanted behind p then grouped (p.piece false) else p.piece behind

-- a type where a level is wanted, behind any other token
abbrev pub text_at : Level → Printed → List ℕ
text_at wanted p = (placed wanted false p).text

-- a type where any may stand
abbrev pub any_text : Printed → List ℕ
any_text p = text_at at.Union p

-- ---- named types

-- a list of types between brackets
abbrev pub bracketed : List Printed → List ℕ
bracketed ps = joined (codes "[" ∷ listed (map any_text ps) ∷ codes "]" ∷ [])

-- the arguments of a name
abbrev pub args_text : List Printed → List ℕ
args_text [] = []
args_text args = bracketed args

-- a name with its arguments
abbrev pub named_text : TypeName → List Printed → List ℕ
named_text name args = name_text name ++ args_text args

abbrev pub has_one : List (List ℕ) → Bool
has_one (word ∷ []) = true
has_one _ = false

-- whether a name is one word
abbrev pub is_lone : TypeName → Bool
is_lone name = not name.absolute && has_one name.path

-- what a named type begins with: a name of one word is a token by itself, which takes a `?` where a method's name may stand
abbrev pub named_front : TypeName → List Printed → Front
named_front name [] = if is_lone name then f.Word else f.Other
named_front name args = f.Other

abbrev pub named : TypeName → List Printed → Printed
named name args = always at.Base (named_front name args) (named_text name args)

-- whether the last of some words is `alias`
abbrev pub ends_in_alias : List (List ℕ) → Bool
ends_in_alias [] = false
ends_in_alias (word ∷ []) = bytes_eq word (codes "alias")
ends_in_alias (word ∷ words) = ends_in_alias words

-- whether a name leads to the name of a method; not where its `alias` is itself read as one
abbrev pub alias_leads : TypeName → List Printed → Bool → Bool
alias_leads name [] behind = ends_in_alias name.path && not (behind && is_lone name)
alias_leads name args behind = false

-- a type alias
abbrev pub alias : TypeName → List Printed → Printed
alias name args = record {
  level = at.Base;
  front = named_front name args;
  piece = λ behind. record { text = named_text name args; leads = alias_leads name args behind };
}

-- `singleton(A)`
abbrev pub singleton_text : TypeName → List ℕ
singleton_text name = joined (codes "singleton(" ∷ name_text name ∷ codes ")" ∷ [])

-- ---- literals

-- digits can be the name of a method
abbrev pub integer_front : ℤ → Front
integer_front (pos n) = f.Name
integer_front (negsuc n) = f.Other

-- a symbol that is a word would take a `?` behind it
abbrev pub symbol_level : List ℕ → Level
symbol_level name = if is_word name then at.Optional else at.Base

-- a word by itself
abbrev pub word : List ℕ → Printed
word text = always at.Base f.Word text

-- ---- composed types

-- `A?`: a word and its `?` are one name
abbrev pub marked_front : Front → Front
marked_front f.Other = f.Other
marked_front _ = f.Name

abbrev pub optional_front : Printed → Front
optional_front p = if is_below p.level at.Base then f.Other else marked_front p.front

abbrev pub optional : Printed → Printed
optional p = always at.Optional (optional_front p) (text_at at.Base p ++ codes "?")

-- a further part of a union or an intersection
abbrev pub and_part : List ℕ → Level → Piece → Printed → Piece
and_part sign wanted piece p = let part = placed wanted piece.leads p in
    record { text = joined (piece.text ∷ sign ∷ part.text ∷ []); leads = part.leads }

-- further parts behind what is printed
abbrev pub and_parts : List ℕ → Level → List ℕ → Bool → List Printed → Piece
and_parts sign wanted text leads ps = fold (and_part sign wanted) (record { text = text; leads = leads }) ps

-- the parts of a union or an intersection, with its sign between them
abbrev pub parts : List ℕ → Level → List Printed → Bool → Piece
parts sign wanted [] behind = plain []
parts sign wanted (p ∷ ps) behind = let first = placed wanted behind p in and_parts sign wanted first.text first.leads ps

-- what the parts begin with
abbrev pub parts_front : Level → List Printed → Front
parts_front wanted [] = f.Other
parts_front wanted (p ∷ ps) = if is_below p.level wanted then f.Other else p.front

-- `A & B`
abbrev pub inter : List Printed → Printed
inter ps = record { level = at.Inter; front = parts_front at.Optional ps; piece = parts (codes " & ") at.Optional ps }

-- `A | B`
abbrev pub union : List Printed → Printed
union ps = record { level = at.Union; front = parts_front at.Inter ps; piece = parts (codes " | ") at.Inter ps }

-- `[A, B]`; an empty tuple is the name of a method
abbrev pub tuple_front : List Printed → Front
tuple_front [] = f.Name
tuple_front ps = f.Other

abbrev pub tuple : List Printed → Printed
tuple ps = always at.Base (tuple_front ps) (bracketed ps)

-- `{ a: A, b: B }`
abbrev pub record_text : List (List ℕ) → List ℕ
record_text [] = codes "{ }"
record_text fields = joined (codes "{ " ∷ listed fields ∷ codes " }" ∷ [])

-- ---- functions

-- what stands before what may be left out
abbrev pub mark : Bool → List ℕ
mark required = if required then [] else codes "?"

-- a key and its type
abbrev pub key_text : List ℕ → Printed → List ℕ
key_text key p = joined (key ∷ codes ": " ∷ any_text p ∷ [])

-- a positional parameter's name, behind its type
abbrev pub param_name : Option (List ℕ) → List ℕ
param_name None = []
param_name (Some name) = codes " " ++ name

-- each with a sign before it
abbrev pub signed : List ℕ → List (List ℕ) → List (List ℕ)
signed sign texts = map (λ text. sign ++ text) texts

-- what may be there, with a sign before it
abbrev pub signed_one : List ℕ → Option (List ℕ) → List (List ℕ)
signed_one sign None = []
signed_one sign (Some text) = (sign ++ text) ∷ []

-- the variables of a method type
abbrev pub vars_text : List (List ℕ) → List ℕ
vars_text [] = []
vars_text vars = joined (codes "[" ∷ listed vars ∷ codes "] " ∷ [])

-- a block, with the blank before it
abbrev pub block_text : Option (List ℕ) → List ℕ
block_text None = []
block_text (Some block) = codes " " ++ block

-- ---- one layer of a tree, whose parts are printed

abbrev pub print_ty : Ty-F Printed (List ℕ) (List ℕ) (List ℕ) Piece (List ℕ) → Printed
print_ty (Ty-F.Instance name args) = named name args
print_ty (Ty-F.Interface name args) = named name args
print_ty (Ty-F.Alias name args) = alias name args
print_ty (Ty-F.Singleton name) = always at.Base f.Other (singleton_text name)
print_ty (Ty-F.IntLit value) = always at.Base (integer_front value) (integer_text value)
print_ty (Ty-F.StrLit value) = always at.Base f.Other (string_text value)
print_ty (Ty-F.SymLit name) = always (symbol_level name) f.Other (symbol_text name)
print_ty Ty-F.True = word (codes "true")
print_ty Ty-F.False = word (codes "false")
print_ty Ty-F.Bool = word (codes "bool")
print_ty Ty-F.Nil = word (codes "nil")
print_ty Ty-F.Top = word (codes "top")
print_ty Ty-F.Bot = word (codes "bot")
print_ty Ty-F.Void = word (codes "void")
print_ty Ty-F.Untyped = word (codes "untyped")
print_ty Ty-F.SelfTy = word (codes "self")
print_ty Ty-F.InstanceTy = word (codes "instance")
print_ty Ty-F.ClassTy = word (codes "class")
print_ty (Ty-F.Var name) = word name
print_ty (Ty-F.Union ps) = union ps
print_ty (Ty-F.Inter ps) = inter ps
print_ty (Ty-F.Optional p) = optional p
print_ty (Ty-F.TupleOf ps) = tuple ps
print_ty (Ty-F.RecordOf fields) = always at.Base f.Other (record_text fields)
print_ty (Ty-F.ProcOf fun) = record { level = at.Optional; front = f.Name; piece = λ behind. record { text = codes "^" ++ fun.text; leads = fun.leads } }

abbrev pub print_field : Field-F Printed (List ℕ) (List ℕ) (List ℕ) Piece (List ℕ) → List ℕ
print_field field = key_text field.key field.ty

abbrev pub print_keyword : Keyword-F Printed (List ℕ) (List ℕ) (List ℕ) Piece (List ℕ) → List ℕ
print_keyword keyword = mark keyword.required ++ key_text keyword.key keyword.ty

abbrev pub print_param : Param-F Printed (List ℕ) (List ℕ) (List ℕ) Piece (List ℕ) → List ℕ
print_param param = any_text param.ty ++ param_name param.name

abbrev pub print_block : BlockType-F Printed (List ℕ) (List ℕ) (List ℕ) Piece (List ℕ) → List ℕ
print_block block = joined (mark block.required ∷ codes "{ " ∷ block.fun.text ∷ codes " }" ∷ [])

-- the texts of the parameters of all sorts
abbrev pub param_texts : MethodType-F Printed (List ℕ) (List ℕ) (List ℕ) Piece (List ℕ) → List (List ℕ)
param_texts m = m.required ++ (signed (codes "?") m.optional ++ (signed_one (codes "*") m.rest
    ++ (m.trailing ++ (m.keywords ++ signed_one (codes "**") m.rest_keywords))))

-- `[T] (A, ?B, *C, D, a: E, ?b: F, **G) ?{ .. } -> H`
abbrev pub print_method : MethodType-F Printed (List ℕ) (List ℕ) (List ℕ) Piece (List ℕ) → Piece
print_method m = let end = placed at.Optional false m.result in record {
  text = joined (vars_text m.vars ∷ codes "(" ∷ listed (param_texts m) ∷ codes ")" ∷ block_text m.block ∷ codes " -> " ∷ end.text ∷ []);
  leads = end.leads;
}

-- ---- trees

-- a type as it is printed
abbrev pub printed : Ty → Printed
printed = fold-Ty Printed (List ℕ) (List ℕ) (List ℕ) Piece (List ℕ) print_ty print_block print_field print_keyword print_method print_param

-- the text of a type
abbrev pub type_text : Ty → List ℕ
type_text ty = any_text (printed ty)

-- a method type as it is printed
abbrev pub printed_method : MethodType → Piece
printed_method = fold-MethodType Printed (List ℕ) (List ℕ) (List ℕ) Piece (List ℕ) print_ty print_block print_field print_keyword print_method print_param

-- a block as it is printed
abbrev pub printed_block : BlockType → List ℕ
printed_block = fold-BlockType Printed (List ℕ) (List ℕ) (List ℕ) Piece (List ℕ) print_ty print_block print_field print_keyword print_method print_param

-- a field of a record type as it is printed
abbrev pub printed_field : Field → List ℕ
printed_field = fold-Field Printed (List ℕ) (List ℕ) (List ℕ) Piece (List ℕ) print_ty print_block print_field print_keyword print_method print_param

-- a keyword parameter as it is printed
abbrev pub printed_keyword : Keyword → List ℕ
printed_keyword = fold-Keyword Printed (List ℕ) (List ℕ) (List ℕ) Piece (List ℕ) print_ty print_block print_field print_keyword print_method print_param

-- a positional parameter as it is printed
abbrev pub printed_param : Param → List ℕ
printed_param = fold-Param Printed (List ℕ) (List ℕ) (List ℕ) Piece (List ℕ) print_ty print_block print_field print_keyword print_method print_param

-- the text of a method type
abbrev pub method_text : MethodType → List ℕ
method_text m = (printed_method m).text

-- the texts of its parameters
abbrev pub method_params : MethodType → List (List ℕ)
method_params method = let m = out-MethodType method in
    map printed_param m.required ++ (signed (codes "?") (map printed_param m.optional) ++ (signed_one (codes "*") (option_map printed_param m.rest)
    ++ (map printed_param m.trailing ++ (map printed_keyword m.keywords ++ signed_one (codes "**") (option_map printed_param m.rest_keywords)))))

abbrev pub params_text : MethodType → List ℕ
params_text m = listed (method_params m)
