-- What is computed once for each rule.
use Rattle.std.proofs.Common.{◌≡◌, true, false, List, [], ◌∷◌, Ok, None, refl}
use Rattle.rbs_lexer.specs.Tokens.{Token}
use Rattle.rbs_lexer.specs.declared.kind.Kind.TheVariants as k
use Rattle.rbs_tree.specs.declared.names.TypeName.{TypeName}
use Rattle.rbs_tree.specs.declared.types.Ty.{Ty}
use Rattle.rbs_tree.specs.declared.types.Ty.TheVariants as t
use Rattle.rbs_tree.specs.declared.decls.Decl.TheVariants as d
use Rattle.rbs_grammar.specs.Rules.{Rule, Value, start, after, bar}
use Rattle.rbs_grammar.specs.Grammar.{empty, first, more, barred, lead, fine, covers}
use Rattle.rbs_grammar.specs.Names.{constants, class_name, interface_name, alias_name, module_words, module_name}
use Rattle.rbs_grammar.specs.Types.{a_type, a_function, type_args, absolute_words, relative_words, named, group, tuple, field, record_type, singleton, base, proc, opt, inter, union}
use Rattle.rbs_grammar.specs.Functions.{no_params, function_of, param, first_params, optional_params, trailing_params, keyword_params, params, param_list, result, block, function, variables, method_type}
use Rattle.rbs_grammar.specs.Members.{a_declaration, ref, attribute_name, defined_name, overloads, method, shown_method, bracketed_variable, visible, mixin, alias, variable, member, interface_member}
use Rattle.rbs_grammar.specs.Declarations.{body, type_param, type_params, superclass, class_decl, self_types, module_decl, interface_decl, alias_decl, constant_decl, global_decl, declaration, file}
use Rattle.rbs_grammar.specs.Levels.{Room, full, room, reads}
use Rattle.rbs_grammar.proofs.Acts.{sample, Led}

pub body_fine : (r : Rule) → fine (body r) ≡ true
unfolding constants class_name interface_name alias_name module_words module_name a_type a_function type_args absolute_words relative_words named group tuple field record_type singleton base proc opt inter union param first_params optional_params trailing_params keyword_params params param_list result block function variables method_type a_declaration ref attribute_name defined_name overloads method shown_method bracketed_variable visible mixin alias variable member interface_member type_param type_params superclass class_decl self_types module_decl interface_decl alias_decl constant_decl global_decl declaration file
body_fine Rule.declaration = refl
body_fine Rule.ty = refl
body_fine Rule.function = refl

pub body_full : (r : Rule) → empty (body r) ≡ false
unfolding constants class_name interface_name alias_name module_words module_name a_type a_function type_args absolute_words relative_words named group tuple field record_type singleton base proc opt inter union param first_params optional_params trailing_params keyword_params params param_list result block function variables method_type a_declaration ref attribute_name defined_name overloads method shown_method bracketed_variable visible mixin alias variable member interface_member type_param type_params superclass class_decl self_types module_decl interface_decl alias_decl constant_decl global_decl declaration file
body_full Rule.declaration = refl
body_full Rule.ty = refl
body_full Rule.function = refl

pub body_start : (r : Rule) → covers (first (body r)) (start r) ≡ true
unfolding constants class_name interface_name alias_name module_words module_name a_type a_function type_args absolute_words relative_words named group tuple field record_type singleton base proc opt inter union param first_params optional_params trailing_params keyword_params params param_list result block function variables method_type a_declaration ref attribute_name defined_name overloads method shown_method bracketed_variable visible mixin alias variable member interface_member type_param type_params superclass class_decl self_types module_decl interface_decl alias_decl constant_decl global_decl declaration file
body_start Rule.declaration = refl
body_start Rule.ty = refl
body_start Rule.function = refl

pub body_starts : (r : Rule) → covers (start r) (first (body r)) ≡ true
unfolding constants class_name interface_name alias_name module_words module_name a_type a_function type_args absolute_words relative_words named group tuple field record_type singleton base proc opt inter union param first_params optional_params trailing_params keyword_params params param_list result block function variables method_type a_declaration ref attribute_name defined_name overloads method shown_method bracketed_variable visible mixin alias variable member interface_member type_param type_params superclass class_decl self_types module_decl interface_decl alias_decl constant_decl global_decl declaration file
body_starts Rule.declaration = refl
body_starts Rule.ty = refl
body_starts Rule.function = refl

pub body_after : (r : Rule) → covers (more (body r)) (after r) ≡ true
unfolding constants class_name interface_name alias_name module_words module_name a_type a_function type_args absolute_words relative_words named group tuple field record_type singleton base proc opt inter union param first_params optional_params trailing_params keyword_params params param_list result block function variables method_type a_declaration ref attribute_name defined_name overloads method shown_method bracketed_variable visible mixin alias variable member interface_member type_param type_params superclass class_decl self_types module_decl interface_decl alias_decl constant_decl global_decl declaration file
body_after Rule.declaration = refl
body_after Rule.ty = refl
body_after Rule.function = refl

pub body_bar : (r : Rule) → covers (barred (body r)) (bar r) ≡ true
unfolding constants class_name interface_name alias_name module_words module_name a_type a_function type_args absolute_words relative_words named group tuple field record_type singleton base proc opt inter union param first_params optional_params trailing_params keyword_params params param_list result block function variables method_type a_declaration ref attribute_name defined_name overloads method shown_method bracketed_variable visible mixin alias variable member interface_member type_param type_params superclass class_decl self_types module_decl interface_decl alias_decl constant_decl global_decl declaration file
body_bar Rule.declaration = refl
body_bar Rule.ty = refl
body_bar Rule.function = refl

pub body_lead : (r : Rule) → covers (lead (body r)) (start r) ≡ true
unfolding constants class_name interface_name alias_name module_words module_name a_type a_function type_args absolute_words relative_words named group tuple field record_type singleton base proc opt inter union param first_params optional_params trailing_params keyword_params params param_list result block function variables method_type a_declaration ref attribute_name defined_name overloads method shown_method bracketed_variable visible mixin alias variable member interface_member type_param type_params superclass class_decl self_types module_decl interface_decl alias_decl constant_decl global_decl declaration file
body_lead Rule.declaration = refl
body_lead Rule.ty = refl
body_lead Rule.function = refl

pub file_fine : fine file ≡ true
unfolding constants class_name interface_name alias_name module_words module_name a_type a_function type_args absolute_words relative_words named group tuple field record_type singleton base proc opt inter union param first_params optional_params trailing_params keyword_params params param_list result block function variables method_type a_declaration ref attribute_name defined_name overloads method shown_method bracketed_variable visible mixin alias variable member interface_member type_param type_params superclass class_decl self_types module_decl interface_decl alias_decl constant_decl global_decl declaration file
file_fine = refl

-- the room that is left behind the opening of a sample
abbrev pub least : Room
least = room full full

-- Of each rule a list of tokens that spells a tree where this room is left.
abbrev pub word : (r : Rule) → List Token
word Rule.declaration = sample k.Class ∷ sample k.Constant ∷ sample k.End ∷ []
word Rule.ty = sample k.Constant ∷ []
word Rule.function = sample k.Arrow ∷ sample k.Constant ∷ []

-- a name of one word
abbrev pub one_word : TypeName
one_word = record { absolute = false; path = [] ∷ []; at = record { start = 0; end = 0 } }

-- a type of one name
abbrev pub one_name : Ty
one_name = t.Instance one_word []

abbrev pub word_tree : (r : Rule) → Value r
word_tree Rule.declaration = d.Class one_word [] None []
word_tree Rule.ty = one_name
word_tree Rule.function = function_of no_params (None, one_name)

pub any_tree : (r : Rule) → Value r
any_tree r = word_tree r

pub word_led : (r : Rule) → Led (start r) (word r)
unfolding sample
word_led Rule.declaration = refl
word_led Rule.ty = refl
word_led Rule.function = refl

pub word_some : (r : Rule) → word r ≡ [] → false ≡ true
word_some Rule.declaration z = cc
word_some Rule.ty z = cc
word_some Rule.function z = cc

pub word_reads : (r : Rule) → reads least r (word r) ≡ Ok (word_tree r, [])
unfolding constants class_name interface_name alias_name module_words module_name a_type a_function type_args absolute_words relative_words named group tuple field record_type singleton base proc opt inter union param first_params optional_params trailing_params keyword_params params param_list result block function variables method_type a_declaration ref attribute_name defined_name overloads method shown_method bracketed_variable visible mixin alias variable member interface_member type_param type_params superclass class_decl self_types module_decl interface_decl alias_decl constant_decl global_decl declaration file reads sample
word_reads Rule.declaration = refl
word_reads Rule.ty = refl
word_reads Rule.function = refl
