-- Which trees fit, by their parts.
use Rattle.std.proofs.Common.{◌≡◌, ℕ, Bool, true, List, [], ◌∷◌, map, refl, ap, sym, ◌∙◌}
use Rattle.std.specs.Prelude.{ℤ, Option}
use Rattle.std.specs.List.{list_all}
use Rattle.std.specs.Str.{is_utf8}
use Rattle.rbs_tree.specs.declared.names.TypeName.{TypeName}
use Rattle.rbs_tree.specs.declared.types.Ty.{Ty, roll-Ty}
use Rattle.rbs_tree.specs.declared.types.Ty.TheVariants as t
use Rattle.rbs_tree.specs.declared.types.BlockType.{BlockType}
use Rattle.rbs_tree.specs.declared.types.Field.{Field}
use Rattle.rbs_tree.specs.declared.types.Keyword.{Keyword}
use Rattle.rbs_tree.specs.declared.types.MethodType.{MethodType}
use Rattle.rbs_tree.specs.declared.types.Param.{Param}
use Rattle.rbs_tree.specs.declared.types.Ty.TheOpen.{Ty-F}
use Rattle.rbs_tree.specs.declared.types.Ty.TheFolds.{fold-roll-Ty, fold_out-Field, fold_out-Keyword, fold_out-Param, map-Ty}
use Rattle.rbs_lexer.specs.declared.kind.Kind.TheVariants as k
use Rattle.rbs_grammar.specs.Rules.{is, is_word}
use Rattle.rbs_grammar.proofs.Heads.{and_both, and_left}
use Rattle.rbs_printer.proofs.Claims.{AllOf}
use Rattle.rbs_printer.proofs.Fit.{FitFunction, ends_name, fits_alias, in_range, is_true, two_or_more, is_word_of, fits_name, fit, fit_ty, fit_block, fit_field, fit_keyword, fit_param, fit_function, fit_fun, fit_param_tree, fit_field_tree, fit_keyword_tree, fit_block_tree}

abbrev pub Fits : Ty → Type 0
Fits ty = fit ty ≡ true

abbrev pub FitsField : Field → Type 0
FitsField x = fit_field_tree x ≡ true

abbrev pub FitsKeyword : Keyword → Type 0
FitsKeyword x = fit_keyword_tree x ≡ true

abbrev pub FitsParam : Param → Type 0
FitsParam x = fit_param_tree x ≡ true

abbrev pub FitsBlock : BlockType → Type 0
FitsBlock x = fit_block_tree x ≡ true

abbrev pub FitsFunction : MethodType → Type 0
FitsFunction m = (fit_fun m).fits ≡ true

-- all of a list pass a test
pub all_pass : {A : Type 0} (test : A → Bool) (xs : List A) → AllOf (λ x. test x ≡ true) xs → list_all is_true (map test xs) ≡ true
all_pass test [] all = refl
all_pass test (x ∷ xs) all = and_both (test x) (list_all is_true (map test xs)) all.0 (all_pass test xs all.1)

-- ---- types

layer : (x : Ty-F Ty BlockType Field Keyword MethodType Param) → fit (roll-Ty x) ≡ fit_ty (map-Ty _ _ _ _ _ _ _ _ _ _ _ _ fit fit_block_tree fit_field_tree fit_keyword_tree fit_fun fit_param_tree x)
layer x = fold-roll-Ty Bool Bool Bool Bool FitFunction Bool fit_ty fit_block fit_field fit_keyword fit_function fit_param x

pub instance_fits : (name : TypeName) (args : List Ty) → ends_name (is k.Constant) name.path ≡ true → AllOf Fits args → Fits (t.Instance name args)
instance_fits name args ends all = ap fit (sym (t.rolls-Instance name args)) ∙ layer (Ty-F.Instance name args) ∙ and_both (ends_name (is k.Constant) name.path) (list_all is_true (map fit args)) ends (all_pass fit args all)

pub interface_fits : (name : TypeName) (args : List Ty) → ends_name (is k.InterfaceName) name.path ≡ true → AllOf Fits args → Fits (t.Interface name args)
interface_fits name args ends all = ap fit (sym (t.rolls-Interface name args)) ∙ layer (Ty-F.Interface name args) ∙ and_both (ends_name (is k.InterfaceName) name.path) (list_all is_true (map fit args)) ends (all_pass fit args all)

pub alias_fits : (name : TypeName) (args : List Ty) → fits_alias name ≡ true → AllOf Fits args → Fits (t.Alias name args)
alias_fits name args ends all = ap fit (sym (t.rolls-Alias name args)) ∙ layer (Ty-F.Alias name args) ∙ and_both (fits_alias name) (list_all is_true (map fit args)) ends (all_pass fit args all)

pub singleton_fits : (name : TypeName) → ends_name (is k.Constant) name.path ≡ true → Fits (t.Singleton name)
singleton_fits name ends = ap fit (sym (t.rolls-Singleton name)) ∙ layer (Ty-F.Singleton name) ∙ ends

pub integer_fits : (value : ℤ) → in_range value ≡ true → Fits (t.IntLit value)
integer_fits value h = ap fit (sym (t.rolls-IntLit value)) ∙ layer (Ty-F.IntLit value) ∙ h

pub string_fits : (value : List ℕ) → is_utf8 value ≡ true → Fits (t.StrLit value)
string_fits value h = ap fit (sym (t.rolls-StrLit value)) ∙ layer (Ty-F.StrLit value) ∙ h

pub symbol_fits : (name : List ℕ) → is_utf8 name ≡ true → Fits (t.SymLit name)
symbol_fits name h = ap fit (sym (t.rolls-SymLit name)) ∙ layer (Ty-F.SymLit name) ∙ h

pub true_fits : Fits t.True
true_fits = ap fit (sym t.rolls-True) ∙ layer Ty-F.True

pub false_fits : Fits t.False
false_fits = ap fit (sym t.rolls-False) ∙ layer Ty-F.False

pub bool_fits : Fits t.Bool
bool_fits = ap fit (sym t.rolls-Bool) ∙ layer Ty-F.Bool

pub nil_fits : Fits t.Nil
nil_fits = ap fit (sym t.rolls-Nil) ∙ layer Ty-F.Nil

pub top_fits : Fits t.Top
top_fits = ap fit (sym t.rolls-Top) ∙ layer Ty-F.Top

pub bot_fits : Fits t.Bot
bot_fits = ap fit (sym t.rolls-Bot) ∙ layer Ty-F.Bot

pub void_fits : Fits t.Void
void_fits = ap fit (sym t.rolls-Void) ∙ layer Ty-F.Void

pub untyped_fits : Fits t.Untyped
untyped_fits = ap fit (sym t.rolls-Untyped) ∙ layer Ty-F.Untyped

pub self_fits : Fits t.SelfTy
self_fits = ap fit (sym t.rolls-SelfTy) ∙ layer Ty-F.SelfTy

pub instance_word_fits : Fits t.InstanceTy
instance_word_fits = ap fit (sym t.rolls-InstanceTy) ∙ layer Ty-F.InstanceTy

pub class_fits : Fits t.ClassTy
class_fits = ap fit (sym t.rolls-ClassTy) ∙ layer Ty-F.ClassTy

pub union_fits : (parts : List Ty) → two_or_more (map fit parts) ≡ true → Fits (t.Union parts)
union_fits parts h = ap fit (sym (t.rolls-Union parts)) ∙ layer (Ty-F.Union parts) ∙ h

pub inter_fits : (parts : List Ty) → two_or_more (map fit parts) ≡ true → Fits (t.Inter parts)
inter_fits parts h = ap fit (sym (t.rolls-Inter parts)) ∙ layer (Ty-F.Inter parts) ∙ h

pub optional_fits : (ty : Ty) → Fits ty → Fits (t.Optional ty)
optional_fits ty h = ap fit (sym (t.rolls-Optional ty)) ∙ layer (Ty-F.Optional ty) ∙ h

pub tuple_fits : (parts : List Ty) → AllOf Fits parts → Fits (t.TupleOf parts)
tuple_fits parts all = ap fit (sym (t.rolls-TupleOf parts)) ∙ layer (Ty-F.TupleOf parts) ∙ all_pass fit parts all

pub record_fits : (fields : List Field) → AllOf FitsField fields → Fits (t.RecordOf fields)
record_fits fields all = ap fit (sym (t.rolls-RecordOf fields)) ∙ layer (Ty-F.RecordOf fields) ∙ all_pass fit_field_tree fields all

pub proc_fits : (fun : MethodType) → FitsFunction fun → Fits (t.ProcOf fun)
proc_fits fun h = ap fit (sym (t.rolls-ProcOf fun)) ∙ layer (Ty-F.ProcOf fun) ∙ h

-- ---- fields and parameters

pub field_fits : (key : List ℕ) (ty : Ty) → is_word_of is_word key ≡ true → Fits ty → FitsField (record { key = key; ty = ty })
field_fits key ty word h =
    fold_out-Field Bool Bool Bool Bool FitFunction Bool fit_ty fit_block fit_field fit_keyword fit_function fit_param (record { key = key; ty = ty })
    ∙ and_both (is_word_of is_word key) (fit ty) word h

pub keyword_fits : (key : List ℕ) (required : Bool) (ty : Ty) → is_word_of is_word key ≡ true → Fits ty → FitsKeyword (record { key = key; required = required; ty = ty })
keyword_fits key required ty word h =
    fold_out-Keyword Bool Bool Bool Bool FitFunction Bool fit_ty fit_block fit_field fit_keyword fit_function fit_param (record { key = key; required = required; ty = ty })
    ∙ and_both (is_word_of is_word key) (fit ty) word h

pub param_fits : (ty : Ty) (name : Option (List ℕ)) → Fits ty → fits_name name ≡ true → FitsParam (record { ty = ty; name = name })
param_fits ty name h word =
    fold_out-Param Bool Bool Bool Bool FitFunction Bool fit_ty fit_block fit_field fit_keyword fit_function fit_param (record { ty = ty; name = name })
    ∙ and_both (fit ty) (fits_name name) h word

-- the type of a parameter that fits
pub param_type : (p : Param) → FitsParam p → Fits p.ty
param_type p h = and_left (fit p.ty) (fits_name p.name) (sym (fold_out-Param Bool Bool Bool Bool FitFunction Bool fit_ty fit_block fit_field fit_keyword fit_function fit_param p) ∙ h)
