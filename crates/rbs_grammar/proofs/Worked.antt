-- Worked rows of the grammar, computed.
use Rattle.std.proofs.Common.{◌≡◌, ℕ, zero, suc, true, false, List, [], ◌∷◌, ◌++◌, Option, Some, None, Ok, Err, refl, ap}
use Rattle.rbs_lexer.specs.Tokens.{Token}
use Rattle.rbs_lexer.specs.declared.kind.Kind.{Kind}
use Rattle.rbs_lexer.specs.declared.kind.Kind.TheVariants as k
use Rattle.rbs_tree.specs.declared.names.TypeName.{TypeName}
use Rattle.rbs_tree.specs.declared.types.Ty.{Ty}
use Rattle.rbs_tree.specs.declared.types.Ty.TheVariants as t
use Rattle.rbs_tree.specs.declared.types.Param.{Param}
use Rattle.rbs_tree.specs.declared.types.BlockType.{BlockType}
use Rattle.rbs_tree.specs.declared.decls.Decl.{Decl}
use Rattle.rbs_tree.specs.declared.decls.Decl.TheVariants as d
use Rattle.rbs_tree.specs.declared.decls.Member.{Member}
use Rattle.rbs_tree.specs.declared.decls.Member.TheVariants as m
use Rattle.rbs_tree.specs.declared.decls.Side.TheVariants as side
use Rattle.rbs_tree.specs.declared.types.Ty.TheViews.{roll-MethodType, out-roll-MethodType}
use Rattle.rbs_grammar.specs.Grammar.{syntax, deep}
use Rattle.rbs_grammar.specs.Values.{method_name_value}
use Rattle.rbs_grammar.specs.Names.{constants, class_name, interface_name, alias_name, module_words, module_name}
use Rattle.rbs_grammar.specs.Types.{a_type, a_function, type_args, absolute_words, relative_words, named, group, tuple, field, record_type, singleton, base, proc, opt, inter, union}
use Rattle.rbs_grammar.specs.declared.parts.Parameters.{Parameters}
use Rattle.rbs_grammar.specs.Functions.{optional_one, trailing, parameters_of, no_params, with_variables, function_of, param, first_params, optional_params, trailing_params, keyword_params, params, param_list, result, block, function, variables, method_type}
use Rattle.rbs_grammar.specs.Members.{a_declaration, ref, attribute_name, defined_name, overloads, method, shown_method, bracketed_variable, visible, mixin, alias, variable, member, interface_member}
use Rattle.rbs_grammar.specs.Declarations.{type_param, type_params, superclass, class_decl, self_types, module_decl, interface_decl, alias_decl, constant_decl, global_decl, declaration, file}
use Rattle.rbs_grammar.specs.Levels.{reads, rooms}
use Rattle.rbs_grammar.specs.Parse.{parse}
use Rattle.rbs_grammar.proofs.Acts.{sample}

-- A row unfolds this, and with it all that is computed.
computed : Unit {0}
unfolding constants class_name interface_name alias_name module_words module_name a_type a_function type_args absolute_words relative_words named group tuple field record_type singleton base proc opt inter union param first_params optional_params trailing_params keyword_params params param_list result block function variables method_type a_declaration ref attribute_name defined_name overloads method shown_method bracketed_variable visible mixin alias variable member interface_member type_param type_params superclass class_decl self_types module_decl interface_decl alias_decl constant_decl global_decl declaration file reads parse rooms sample method_name_value
computed = tt

-- ---- tokens and trees of one byte's name, all at the place from 0 to 0

-- a word of this byte
abbrev spelled : Kind → ℕ → Token
spelled kind byte = record { kind = kind; text = byte ∷ []; at = record { start = 0; end = 0 }; begins_line = false }

-- a token that begins a line
abbrev below : Kind → Token
below kind = record { kind = kind; text = []; at = record { start = 0; end = 0 }; begins_line = true }

abbrev A : Token
A = spelled k.Constant 65

abbrev B : Token
B = spelled k.Constant 66

abbrev C : Token
C = spelled k.Constant 67

abbrev D : Token
D = spelled k.Constant 68

abbrev name : ℕ → TypeName
name byte = record { absolute = false; path = (byte ∷ []) ∷ []; at = record { start = 0; end = 0 } }

abbrev of_class : ℕ → Ty
of_class byte = t.Instance (name byte) []

abbrev unnamed : ℕ → Param
unnamed byte = record { ty = of_class byte; name = None }

-- `type t =`, behind which the tokens come
abbrev type_t : List Token → List Token
type_t ts = sample k.Type ∷ spelled k.Word 116 ∷ sample k.Equals ∷ ts

-- the tree of `type t = ..`
abbrev t_is : Ty → List Decl
t_is ty = d.Alias (name 116) [] ty ∷ []

-- `class A`, behind which the tokens come
abbrev in_class : List Token → List Token
in_class ts = sample k.Class ∷ A ∷ ts

abbrev class_a : List Member → List Decl
class_a members = d.Class (name 65) [] None members ∷ []

-- a method type without variables is its function
bare : (ps : Parameters) (end : Option BlockType × Ty) → with_variables [] (function_of ps end) ≡ function_of ps end
bare ps end = ap (λ f. roll-MethodType (record {
  vars = [];
  required = f.required;
  optional = f.optional;
  rest = f.rest;
  trailing = f.trailing;
  keywords = f.keywords;
  rest_keywords = f.rest_keywords;
  block = f.block;
  result = f.result;
})) (out-roll-MethodType _)

-- ---- declarations and types

-- class A end
pub row_class : parse (rooms 128 128) (in_class (sample k.End ∷ [])) ≡ Ok (class_a [])
unfolding computed
row_class = refl

-- type t = A | B?
pub row_union : parse (rooms 128 128) (type_t (A ∷ sample k.Bar ∷ B ∷ sample k.Question ∷ [])) ≡ Ok (t_is (t.Union (of_class 65 ∷ t.Optional (of_class 66) ∷ [])))
unfolding computed
row_union = refl

-- type t = ^() -> A?: the `?` is the result's
pub row_optional_result : parse (rooms 128 128) (type_t (sample k.Caret ∷ sample k.LeftParen ∷ sample k.RightParen ∷ sample k.Arrow ∷ A ∷ sample k.Question ∷ [])) ≡ Ok (t_is (t.ProcOf (roll-MethodType (record { vars = []; required = []; optional = []; rest = None; trailing = []; keywords = []; rest_keywords = None; block = None; result = t.Optional (of_class 65) }))))
unfolding computed
row_optional_result = refl

-- type t = ^() -> A??: nothing goes on with the second `?`
pub row_two_questions : parse (rooms 128 128) (type_t (sample k.Caret ∷ sample k.LeftParen ∷ sample k.RightParen ∷ sample k.Arrow ∷ A ∷ sample k.Question ∷ sample k.Question ∷ [])) ≡ Err (syntax, sample k.Question ∷ [])
unfolding computed
row_two_questions = refl

-- ---- parameters

-- class A def m: (?A, B) -> D end: B is behind an optional one
pub row_trailing : parse (rooms 128 128) (in_class (sample k.Def ∷ spelled k.Word 109 ∷ sample k.Colon ∷ sample k.LeftParen ∷ sample k.Question ∷ A ∷ sample k.Comma ∷ B ∷ sample k.RightParen ∷ sample k.Arrow ∷ D ∷ sample k.End ∷ [])) ≡ Ok (class_a (m.Def (109 ∷ []) (record { start = 0; end = 0 }) side.Instance None (roll-MethodType (record { vars = []; required = []; optional = unnamed 65 ∷ []; rest = None; trailing = unnamed 66 ∷ []; keywords = []; rest_keywords = None; block = None; result = of_class 68 }) ∷ []) false ∷ []))
unfolding computed
row_trailing = ap (λ f. Ok (class_a (m.Def (109 ∷ []) (record { start = 0; end = 0 }) side.Instance None (f ∷ []) false ∷ []))) (bare (parameters_of (optional_one (unnamed 65) ∷ trailing (unnamed 66) ∷ [])) (None, of_class 68))

-- type t = ^(A, *B, C) -> D
pub row_rest : parse (rooms 128 128) (type_t (sample k.Caret ∷ sample k.LeftParen ∷ A ∷ sample k.Comma ∷ sample k.Star ∷ B ∷ sample k.Comma ∷ C ∷ sample k.RightParen ∷ sample k.Arrow ∷ D ∷ [])) ≡ Ok (t_is (t.ProcOf (roll-MethodType (record { vars = []; required = unnamed 65 ∷ []; optional = []; rest = Some (unnamed 66); trailing = unnamed 67 ∷ []; keywords = []; rest_keywords = None; block = None; result = of_class 68 }))))
unfolding computed
row_rest = refl

-- type t = ^(A: B, ?a: C) -> D: a word before `:` is a key
pub row_keys : parse (rooms 128 128) (type_t (sample k.Caret ∷ sample k.LeftParen ∷ A ∷ sample k.Colon ∷ B ∷ sample k.Comma ∷ sample k.Question ∷ spelled k.Word 97 ∷ sample k.Colon ∷ C ∷ sample k.RightParen ∷ sample k.Arrow ∷ D ∷ [])) ≡ Ok (t_is (t.ProcOf (roll-MethodType (record { vars = []; required = []; optional = []; rest = None; trailing = []; keywords = record { key = 65 ∷ []; required = true; ty = of_class 66 } ∷ record { key = 97 ∷ []; required = false; ty = of_class 67 } ∷ []; rest_keywords = None; block = None; result = of_class 68 }))))
unfolding computed
row_keys = refl

-- ---- members

-- class A alias self.a self.b end
pub row_alias : parse (rooms 128 128) (in_class (sample k.Alias ∷ sample k.SelfWord ∷ sample k.Dot ∷ spelled k.Word 97 ∷ sample k.SelfWord ∷ sample k.Dot ∷ spelled k.Word 98 ∷ sample k.End ∷ [])) ≡ Ok (class_a (m.AliasOf (97 ∷ []) (record { start = 0; end = 0 }) (98 ∷ []) side.Singleton ∷ []))
unfolding computed
row_alias = refl

-- class A alias self a end: `self` is a name
pub row_alias_of_self : parse (rooms 128 128) (in_class (sample k.Alias ∷ spelled k.SelfWord 115 ∷ spelled k.Word 97 ∷ sample k.End ∷ [])) ≡ Ok (class_a (m.AliasOf (115 ∷ []) (record { start = 0; end = 0 }) (97 ∷ []) side.Instance ∷ []))
unfolding computed
row_alias_of_self = refl

-- class A public def m: -> D end, on one line
pub row_public : parse (rooms 128 128) (in_class (sample k.Public ∷ sample k.Def ∷ spelled k.Word 109 ∷ sample k.Colon ∷ sample k.Arrow ∷ D ∷ sample k.End ∷ [])) ≡ Ok (class_a (m.Def (109 ∷ []) (record { start = 0; end = 0 }) side.Instance (Some true) (roll-MethodType (record { vars = []; required = []; optional = []; rest = None; trailing = []; keywords = []; rest_keywords = None; block = None; result = of_class 68 }) ∷ []) false ∷ []))
unfolding computed
row_public = ap (λ f. Ok (class_a (m.Def (109 ∷ []) (record { start = 0; end = 0 }) side.Instance (Some true) (f ∷ []) false ∷ []))) (bare no_params (None, of_class 68))

-- the same with a line's end between `public` and `def`
pub row_public_below : parse (rooms 128 128) (in_class (sample k.Public ∷ below k.Def ∷ spelled k.Word 109 ∷ sample k.Colon ∷ sample k.Arrow ∷ D ∷ sample k.End ∷ [])) ≡ Ok (class_a (m.Public ∷ m.Def (109 ∷ []) (record { start = 0; end = 0 }) side.Instance None (roll-MethodType (record { vars = []; required = []; optional = []; rest = None; trailing = []; keywords = []; rest_keywords = None; block = None; result = of_class 68 }) ∷ []) false ∷ []))
unfolding computed
row_public_below = ap (λ f. Ok (class_a (m.Public ∷ m.Def (109 ∷ []) (record { start = 0; end = 0 }) side.Instance None (f ∷ []) false ∷ []))) (bare no_params (None, of_class 68))

-- ---- so many rules open

-- so many times these tokens, and then the others
abbrev repeated : ℕ → List Token → List Token → List Token
repeated zero these ts = ts
repeated (suc n) these ts = these ++ repeated n these ts

-- so many tuples of one element
abbrev tuples : ℕ → Ty → Ty
tuples zero ty = ty
tuples (suc n) ty = t.TupleOf (tuples n ty ∷ [])

-- so many functions whose result is the next
abbrev functions : ℕ → Ty → Ty
functions zero ty = ty
functions (suc n) ty = t.ProcOf (function_of no_params (None, functions n ty))

-- type t = [[ .. [A] .. ]] with 126 `[`: with the declaration 128 are open
pub row_deepest_type : parse (rooms 128 128) (type_t (repeated 126 (sample k.LeftBracket ∷ []) (A ∷ repeated 126 (sample k.RightBracket ∷ []) []))) ≡ Ok (t_is (tuples 126 (of_class 65)))
unfolding computed
row_deepest_type = refl

-- the same with 127: the type A is one too many
pub row_too_deep_type : parse (rooms 128 128) (type_t (repeated 127 (sample k.LeftBracket ∷ []) (A ∷ repeated 127 (sample k.RightBracket ∷ []) []))) ≡ Err (deep, A ∷ repeated 127 (sample k.RightBracket ∷ []) [])
unfolding computed
row_too_deep_type = refl

-- type t = ^ -> ^ -> .. A with 128 functions
pub row_deepest_function : parse (rooms 128 128) (type_t (repeated 128 (sample k.Caret ∷ sample k.Arrow ∷ []) (A ∷ []))) ≡ Ok (t_is (functions 128 (of_class 65)))
unfolding computed
row_deepest_function = refl

-- the same with 129: one too many begins at the last `->`
pub row_too_deep_function : parse (rooms 128 128) (type_t (repeated 129 (sample k.Caret ∷ sample k.Arrow ∷ []) (A ∷ []))) ≡ Err (deep, sample k.Arrow ∷ A ∷ [])
unfolding computed
row_too_deep_function = refl
