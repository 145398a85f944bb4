-- Which trees some tokens spell, told by the tree alone.
use Rattle.std.specs.Prelude.{ℕ, ℤ, pos, negsuc, ◌^◌, nat_lt, nat_le, Bool, true, false, not, ◌&&◌, ◌||◌, if◌then◌else◌, List, [], ◌∷◌, length, Option, Some, None}
use Rattle.std.specs.List.{list_all}
use Rattle.std.specs.Str.{is_utf8}
use Rattle.rbs_tree.specs.declared.names.TypeName.{TypeName}
use Rattle.rbs_tree.specs.declared.types.Ty.{Ty}
use Rattle.rbs_tree.specs.declared.types.BlockType.{BlockType}
use Rattle.rbs_tree.specs.declared.types.Field.{Field}
use Rattle.rbs_tree.specs.declared.types.Keyword.{Keyword}
use Rattle.rbs_tree.specs.declared.types.MethodType.{MethodType}
use Rattle.rbs_tree.specs.declared.types.Param.{Param}
use Rattle.rbs_tree.specs.declared.types.Ty.TheOpen.{Ty-F, BlockType-F, Field-F, Keyword-F, MethodType-F, Param-F}
use Rattle.rbs_tree.specs.declared.types.Ty.TheViews.{out-MethodType}
use Rattle.rbs_tree.specs.declared.types.Ty.TheFolds.{fold-Ty, fold-BlockType, fold-Field, fold-Keyword, fold-MethodType, fold-Param}
use Rattle.rbs_lexer.specs.declared.kind.Kind.TheVariants as k
use Rattle.rbs_lexer.specs.Bytes.{begins_with_digit}
use Rattle.rbs_lexer.specs.Words as words
use Rattle.rbs_grammar.specs.Rules.{Kinds, is, is_small, is_own_type, is_word}
use Rattle.rbs_grammar.specs.Functions.{with_variables}
use Rattle.rbs_printer.specs.Printed.{is_lone}

-- ---- words and names

-- a word of these kinds
abbrev pub is_word_of : Kinds → List ℕ → Bool
is_word_of p w = words.is_word w && (not (begins_with_digit w) && p (words.word_kind w) false)

abbrev pub is_constant : List ℕ → Bool
is_constant = is_word_of (is k.Constant)

-- constants, and a last word of these kinds
abbrev pub ends_name : Kinds → List (List ℕ) → Bool
ends_name p [] = false
ends_name p (w ∷ []) = is_word_of p w
ends_name p (w ∷ ws) = is_constant w && ends_name p ws

-- a small word that is no type by itself
abbrev pub is_lone_small : Kinds
is_lone_small kind line = is_small kind line && not (is_own_type kind line)

abbrev pub fits_alias : TypeName → Bool
fits_alias name = ends_name (if is_lone name then is_lone_small else is_small) name.path

-- ---- layers

abbrev pub in_range : ℤ → Bool
in_range (pos n) = nat_lt n (2 ^ 127)
in_range (negsuc n) = nat_lt n (2 ^ 127)

abbrev pub is_true : Bool → Bool
is_true b = b

-- all of them, and at least two
abbrev pub two_or_more : List Bool → Bool
two_or_more parts = nat_le 2 (length parts) && list_all is_true parts

abbrev pub if_some : Option Bool → Bool
if_some None = true
if_some (Some b) = b

abbrev pub is_some : {A : Type 0} → Option A → Bool
is_some None = false
is_some (Some x) = true

abbrev pub is_cons : {A : Type 0} → List A → Bool
is_cons [] = false
is_cons (x ∷ xs) = true

-- whether a function fits, and whether it has a block
pub record FitFunction : Type 0 where
  pub fits : Bool
  pub has_block : Bool

abbrev pub fit_ty : Ty-F Bool Bool Bool Bool FitFunction Bool → Bool
fit_ty (Ty-F.Instance name args) = ends_name (is k.Constant) name.path && list_all is_true args
fit_ty (Ty-F.Interface name args) = ends_name (is k.InterfaceName) name.path && list_all is_true args
fit_ty (Ty-F.Alias name args) = fits_alias name && list_all is_true args
fit_ty (Ty-F.Singleton name) = ends_name (is k.Constant) name.path
fit_ty (Ty-F.IntLit value) = in_range value
fit_ty (Ty-F.StrLit value) = is_utf8 value
fit_ty (Ty-F.SymLit name) = is_utf8 name
fit_ty (Ty-F.Var name) = false
fit_ty (Ty-F.Union parts) = two_or_more parts
fit_ty (Ty-F.Inter parts) = two_or_more parts
fit_ty (Ty-F.Optional part) = part
fit_ty (Ty-F.TupleOf parts) = list_all is_true parts
fit_ty (Ty-F.RecordOf fields) = list_all is_true fields
fit_ty (Ty-F.ProcOf fun) = fun.fits
fit_ty _ = true

abbrev pub fit_field : Field-F Bool Bool Bool Bool FitFunction Bool → Bool
fit_field field = is_word_of is_word field.key && field.ty

abbrev pub fit_keyword : Keyword-F Bool Bool Bool Bool FitFunction Bool → Bool
fit_keyword keyword = is_word_of is_word keyword.key && keyword.ty

abbrev pub fits_name : Option (List ℕ) → Bool
fits_name None = true
fits_name (Some name) = is_word_of is_small name

abbrev pub fit_param : Param-F Bool Bool Bool Bool FitFunction Bool → Bool
fit_param param = param.ty && fits_name param.name

abbrev pub fit_block : BlockType-F Bool Bool Bool Bool FitFunction Bool → Bool
fit_block block = block.fun.fits && not block.fun.has_block

-- trailing parameters stand only behind an optional one or a rest
abbrev pub fits_trailing : MethodType-F Bool Bool Bool Bool FitFunction Bool → Bool
fits_trailing m = not (is_cons m.trailing) || (is_cons m.optional || is_some m.rest)

-- a function inside a type or a member, which has no variables
abbrev pub fit_function : MethodType-F Bool Bool Bool Bool FitFunction Bool → FitFunction
fit_function m = record {
  fits = not (is_cons m.vars) && (list_all is_true m.required && (list_all is_true m.optional && (if_some m.rest && (list_all is_true m.trailing
      && (list_all is_true m.keywords && (if_some m.rest_keywords && (if_some m.block && (m.result && fits_trailing m))))))));
  has_block = is_some m.block;
}

-- ---- trees

abbrev pub fit : Ty → Bool
fit = fold-Ty Bool Bool Bool Bool FitFunction Bool fit_ty fit_block fit_field fit_keyword fit_function fit_param

-- a function without variables
abbrev pub fit_fun : MethodType → FitFunction
fit_fun = fold-MethodType Bool Bool Bool Bool FitFunction Bool fit_ty fit_block fit_field fit_keyword fit_function fit_param

-- a method type: its variables, and the rest as a function
abbrev pub fit_method : MethodType → Bool
fit_method m = list_all is_constant (out-MethodType m).vars && (fit_fun (with_variables [] m)).fits

abbrev pub fit_param_tree : Param → Bool
fit_param_tree = fold-Param Bool Bool Bool Bool FitFunction Bool fit_ty fit_block fit_field fit_keyword fit_function fit_param

abbrev pub fit_field_tree : Field → Bool
fit_field_tree = fold-Field Bool Bool Bool Bool FitFunction Bool fit_ty fit_block fit_field fit_keyword fit_function fit_param

abbrev pub fit_keyword_tree : Keyword → Bool
fit_keyword_tree = fold-Keyword Bool Bool Bool Bool FitFunction Bool fit_ty fit_block fit_field fit_keyword fit_function fit_param

abbrev pub fit_block_tree : BlockType → Bool
fit_block_tree = fold-BlockType Bool Bool Bool Bool FitFunction Bool fit_ty fit_block fit_field fit_keyword fit_function fit_param
