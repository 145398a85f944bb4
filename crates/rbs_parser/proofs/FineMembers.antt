-- The next token says how the lists of members and declarations go on.
use Rattle.std.proofs.Common.{◌≡◌, Bool, true, false, List, refl}
use Rattle.rbs_lexer.specs.declared.kind.Kind.TheVariants as k
use Rattle.rbs_lexer.specs.Tokens.{Token}
use Rattle.rbs_grammar.specs.Rules.{Rule, start}
use Rattle.rbs_grammar.specs.declared.stage.Stage.{Stage}
use Rattle.rbs_grammar.specs.Grammar.{fine, empty, first, begins}
use Rattle.rbs_grammar.specs.Parts.{behind}
use Rattle.rbs_grammar.specs.Names.{constants, class_name, interface_name, alias_name, module_words, module_name}
use Rattle.rbs_grammar.specs.Types.{a_type, a_function, type_args}
use Rattle.rbs_grammar.specs.Functions.{variables, method_type}
use Rattle.rbs_grammar.specs.Members.{a_declaration, ref, attribute_name, defined_name, overloads, next_overload, method, shown_method, bracketed_variable, visible, mixin, alias, variable, member, interface_member}
use Rattle.rbs_grammar.specs.Declarations.{type_param}

pub fine_method_types : fine (behind k.Bar method_type) ≡ true
unfolding a_function variables method_type
fine_method_types = refl

pub fine_overload : (s : Stage) → fine (next_overload s) ≡ true
unfolding a_function variables method_type
fine_overload s = refl

pub some_overload : (s : Stage) → empty (next_overload s) ≡ false
some_overload s = refl

pub fine_type_params : fine (behind k.Comma type_param) ≡ true
unfolding type_param
fine_type_params = refl

pub fine_references : fine (behind k.Comma ref) ≡ true
unfolding module_words module_name a_type type_args ref
fine_references = refl

pub fine_interface_member : fine interface_member ≡ true
unfolding constants class_name interface_name alias_name module_words module_name a_type a_function type_args variables method_type a_declaration ref attribute_name defined_name overloads method shown_method bracketed_variable visible mixin alias variable member interface_member
fine_interface_member = refl

pub some_interface_member : empty interface_member ≡ false
unfolding interface_member
some_interface_member = refl

pub fine_member : fine member ≡ true
unfolding constants class_name interface_name alias_name module_words module_name a_type a_function type_args variables method_type a_declaration ref attribute_name defined_name overloads method shown_method bracketed_variable visible mixin alias variable member interface_member
fine_member = refl

pub some_member : empty member ≡ false
unfolding constants class_name interface_name alias_name module_words module_name a_type a_function type_args variables method_type a_declaration ref attribute_name defined_name overloads method shown_method bracketed_variable visible mixin alias variable member interface_member
some_member = refl

pub fine_declaration : fine a_declaration ≡ true
unfolding a_declaration
fine_declaration = refl

pub some_declaration : empty a_declaration ≡ false
unfolding a_declaration
some_declaration = refl

pub first_declaration : {b : Bool} (ts : List Token) → b ≡ begins (start Rule.declaration) ts → b ≡ begins (first a_declaration) ts
unfolding a_declaration
first_declaration ts h = h
