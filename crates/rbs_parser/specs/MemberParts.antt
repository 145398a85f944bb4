-- Parts of the rules of members and declarations that functions of their own read, and methods and attributes before their visibility is known.
use Rattle.std.specs.Prelude.{ℕ, Bool, true, ◌||◌, List, [], ◌∷◌, ◌++◌, Option, Some, None}
use Rattle.rbs_lexer.specs.Tokens.{Token}
use Rattle.rbs_lexer.specs.declared.kind.Kind.TheVariants as k
use Rattle.rbs_tree.specs.declared.types.Ty.{Ty}
use Rattle.rbs_tree.specs.declared.types.MethodType.{MethodType}
use Rattle.rbs_tree.specs.declared.decls.TypeParam.{TypeParam}
use Rattle.rbs_tree.specs.declared.decls.Ref.{Ref}
use Rattle.rbs_tree.specs.declared.decls.Decl.{Decl}
use Rattle.rbs_tree.specs.declared.decls.Member.{Member}
use Rattle.rbs_tree.specs.declared.decls.Member.TheVariants as m
use Rattle.rbs_tree.specs.declared.decls.Side.{Side}
use Rattle.rbs_tree.specs.declared.decls.Side.TheVariants as side
use Rattle.rbs_tree.specs.declared.decls.AttrVar.{AttrVar}
use Rattle.rbs_grammar.specs.declared.parts.Overloads.{Overloads}
use Rattle.rbs_grammar.specs.Rules.{is, is_other_name, is_attribute, on_the_line}
use Rattle.rbs_grammar.specs.Grammar.{Grammar, eps, tok, seq, alt, prefer}
use Rattle.rbs_grammar.specs.Parts.{same, token, both, behind, map_value, optional, given, any_of, each, separated}
use Rattle.rbs_grammar.specs.Names.{text_of, class_name, module_name, interface_name}
use Rattle.rbs_grammar.specs.Types.{a_type, type_args, somes}
use Rattle.rbs_grammar.specs.Functions.{method_type}
use Rattle.rbs_grammar.specs.Members as members
use Rattle.rbs_grammar.specs.Members.{Visible, a_name, ref_of}
use Rattle.rbs_grammar.specs.Declarations as decls
use Rattle.rbs_grammar.specs.Declarations.{is_variance}
use Rattle.rbs_parser.specs.declared.members.Visible.{Visible as Made}
use Rattle.rbs_parser.specs.declared.members.Visible.TheVariants as made

-- the member of a method or an attribute, by its visibility
abbrev pub visible : Made → Visible
visible (made.Method name at whose overloads) public = m.Def name at whose public overloads.methods overloads.more
visible (made.Attribute name at whose reads writes variable ty) public = m.Attr name at whose public reads writes variable ty

-- type_args?
unfoldable pub some_type_args : Grammar (List Ty)
some_type_args = any_of type_args

-- what `ref` is
unfoldable pub reference : Grammar Ref
reference = seq ref_of module_name some_type_args

-- "self?", or another name but `self`
unfoldable pub name_but_self : Grammar Token
name_but_self = alt (token k.SelfQuestion) (tok is_other_name k.Word same)

-- "self" "." MN "self" "." MN | "self" MN
unfoldable pub alias_of_self : Grammar Member
alias_of_self = seq members.self_alias (token k.SelfWord)
    (alt (behind k.Dot (seq members.of_self a_name (behind k.SelfWord (behind k.Dot a_name)))) (map_value members.of_instances a_name))

-- MN MN, of which the first is not `self`
unfoldable pub alias_of_other : Grammar Member
alias_of_other = seq (members.alias_of side.Instance) name_but_self a_name

-- "self" ("." MN)?
unfoldable pub name_of_self : Grammar (Side × Token)
name_of_self = members.name_of_self

-- "self?" ("." MN)?
unfoldable pub name_of_both : Grammar (Side × Token)
name_of_both = members.name_of_both

-- ("(" "@w"? ")")?
unfoldable pub attribute_variable : Grammar AttrVar
attribute_variable = map_value members.attribute_variable (optional members.bracketed_variable)

-- what stands behind the word of an attribute
unfoldable pub attribute_parts : Grammar ((Side × Token) × (AttrVar × Ty))
attribute_parts = both members.attribute_name (both attribute_variable (behind k.Colon a_type))

-- an attribute
unfoldable pub attribute : Grammar Visible
attribute = members.attribute is_attribute

-- an attribute whose word stands on the line of the token before it
unfoldable pub shown_attribute : Grammar Visible
shown_attribute = members.attribute (on_the_line is_attribute)

-- a method or an attribute behind a word of visibility on its line
unfoldable pub shown : Grammar Visible
shown = alt members.shown_method shown_attribute

-- the same, if it stands there
unfoldable pub shown_member : Grammar (Option Visible)
shown_member = prefer (map_value Some shown) (eps None)

-- a member that is no declaration
unfoldable pub plain_member : Grammar Member
plain_member = alt (map_value members.unmarked members.method) (alt (map_value members.unmarked attribute)
    (alt members.mixin (alt members.alias (alt members.visible members.variable))))

-- "@w"?
unfoldable pub variable_name : Grammar (Option (List ℕ))
variable_name = optional (tok (is k.InstanceVariable) k.InstanceVariable text_of)

-- method_type ("|" method_type)*
unfoldable pub method_types : Grammar (List MethodType)
method_types = separated k.Bar method_type

-- a method of an interface
unfoldable pub interface_method : Grammar Member
interface_method = behind k.Def (seq members.plain_method a_name (behind k.Colon method_types))

-- the name of an interface with its arguments
unfoldable pub interface_reference : Grammar Ref
interface_reference = seq ref_of interface_name some_type_args

-- the name of a class with its arguments
unfoldable pub class_reference : Grammar Ref
class_reference = seq ref_of class_name some_type_args

-- a mixin of an interface
unfoldable pub interface_mixin : Grammar Member
interface_mixin = behind k.Include (map_value m.Include interface_reference)

-- an alias of an interface
unfoldable pub interface_alias : Grammar Member
interface_alias = behind k.Alias (seq members.plain_alias a_name a_name)

-- "unchecked"?
unfoldable pub unchecked : Grammar Bool
unchecked = given (token k.Unchecked)

-- ("in" | "out")?
unfoldable pub variance : Grammar (Option Token)
variance = optional (tok is_variance k.Out same)

-- type_param ("," type_param)*
unfoldable pub type_param_list : Grammar (List TypeParam)
type_param_list = separated k.Comma decls.type_param

-- ref ("," ref)*
unfoldable pub references : Grammar (List Ref)
references = separated k.Comma members.ref

-- member*
unfoldable pub class_members : Grammar (List Member)
class_members = each members.member

-- interface_member*
unfoldable pub interface_members : Grammar (List Member)
interface_members = each members.interface_member

-- a declaration without members, or an interface
unfoldable pub flat_declaration : Grammar Decl
flat_declaration = alt decls.interface_decl (alt decls.alias_decl (alt decls.constant_decl decls.global_decl))

-- what is found of the overloads, with one item more
abbrev pub one_overload : Overloads → Option MethodType → Overloads
one_overload found None = record { methods = found.methods; more = true }
one_overload found (Some f) = record { methods = found.methods ++ f ∷ []; more = found.more }

-- what is found, with all items that follow
abbrev pub with_overloads : Overloads → List (Option MethodType) → Overloads
with_overloads found xs = record { methods = found.methods ++ somes xs; more = found.more || members.has_more xs }
