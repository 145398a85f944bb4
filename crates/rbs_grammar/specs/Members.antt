-- The grammar of members of classes, modules and interfaces.
use Rattle.std.specs.Prelude.{ℕ, Bool, true, false, List, [], ◌∷◌, Option, Some, None}
use Rattle.rbs_lexer.specs.Tokens.{Token}
use Rattle.rbs_lexer.specs.declared.kind.Kind.{Kind}
use Rattle.rbs_lexer.specs.declared.kind.Kind.TheVariants as k
use Rattle.rbs_tree.specs.declared.names.TypeName.{TypeName}
use Rattle.rbs_tree.specs.declared.types.Ty.{Ty}
use Rattle.rbs_tree.specs.declared.types.MethodType.{MethodType}
use Rattle.rbs_tree.specs.declared.decls.Ref.{Ref}
use Rattle.rbs_tree.specs.declared.decls.Decl.{Decl}
use Rattle.rbs_tree.specs.declared.decls.Member.{Member}
use Rattle.rbs_tree.specs.declared.decls.Member.TheVariants as m
use Rattle.rbs_tree.specs.declared.decls.Side.{Side}
use Rattle.rbs_tree.specs.declared.decls.Side.TheVariants as side
use Rattle.rbs_tree.specs.declared.decls.AttrVar.{AttrVar}
use Rattle.rbs_tree.specs.declared.decls.AttrVar.TheVariants as var
use Rattle.rbs_tree.specs.declared.decls.VarScope.{VarScope}
use Rattle.rbs_tree.specs.declared.decls.VarScope.TheVariants as scope
use Rattle.rbs_grammar.specs.declared.parts.Overloads.{Overloads}
use Rattle.rbs_grammar.specs.declared.stage.Stage.{Stage}
use Rattle.rbs_grammar.specs.declared.stage.Stage.TheVariants as at
use Rattle.rbs_grammar.specs.Rules.{Rule, Kinds, is, no_kind, is_name, is_other_name, is_attribute, is_visibility, is_mixin, on_the_line}
use Rattle.rbs_grammar.specs.Grammar.{Grammar, eps, tok, seq, alt, prefer, chain, call}
use Rattle.rbs_grammar.specs.Parts.{same, token, both, behind, before, map_value, optional, any_of, separated}
use Rattle.rbs_grammar.specs.Values.{method_name_value}
use Rattle.rbs_grammar.specs.Names.{text_of, module_name, interface_name}
use Rattle.rbs_grammar.specs.Types.{a_type, type_args, somes}
use Rattle.rbs_grammar.specs.Functions.{method_type}

-- a declaration inside another
unfoldable pub a_declaration : Grammar Decl
a_declaration = call Rule.declaration same

abbrev pub ref_of : TypeName → List Ty → Ref
ref_of name args = record { name = name; args = args }

-- ref = (name | iname) type_args?
unfoldable pub ref : Grammar Ref
ref = seq ref_of module_name (any_of type_args)

-- ---- names of methods

-- MN
abbrev pub a_name : Grammar Token
a_name = tok is_name k.Word same

-- a token that names a method, and whose method it is
abbrev pub named_for : Side → Token → Side × Token
named_for s t = (s, t)

-- the name behind `self.` or `self?.`, or the word `self` or `self?` itself as a name
abbrev pub self_named : Side → Token → Option Token → Side × Token
self_named s word None = (side.Instance, word)
self_named s word (Some name) = (s, name)

-- "self" ("." MN)?
abbrev pub name_of_self : Grammar (Side × Token)
name_of_self = seq (self_named side.Singleton) (token k.SelfWord) (optional (behind k.Dot a_name))

-- "self."? MN
unfoldable pub attribute_name : Grammar (Side × Token)
attribute_name = alt name_of_self (map_value (named_for side.Instance) (alt (token k.SelfQuestion) (tok is_other_name k.Word same)))

-- "self?" ("." MN)?
abbrev pub name_of_both : Grammar (Side × Token)
name_of_both = seq (self_named side.Both) (token k.SelfQuestion) (optional (behind k.Dot a_name))

-- "self."? MN | "self?." MN
unfoldable pub defined_name : Grammar (Side × Token)
defined_name = alt name_of_self (alt name_of_both (map_value (named_for side.Instance) (tok is_other_name k.Word same)))

-- ---- methods

-- a method type, behind which a list of overloads goes on
abbrev pub an_overload : MethodType → Option MethodType × Stage
an_overload f = (Some f, at.Open)

-- `...`, behind which it ends
abbrev pub more_overloads : Token → Option MethodType × Stage
more_overloads t = (None, at.Done)

abbrev pub overloads_lead : Stage → Kinds
overloads_lead at.Open = is k.Bar
overloads_lead _ = no_kind

-- "|" and a method type or "..."
abbrev pub next_overload : Stage → Grammar (Option MethodType × Stage)
next_overload _ = behind k.Bar (alt (map_value an_overload method_type) (tok (is k.Ellipsis) k.Ellipsis more_overloads))

-- whether `...` stands among them
abbrev pub has_more : List (Option MethodType) → Bool
has_more [] = false
has_more (None ∷ fs) = true
has_more (Some f ∷ fs) = has_more fs

abbrev pub overloads_of : List (Option MethodType) → Overloads
overloads_of fs = record { methods = somes fs; more = has_more fs }

-- method_type ("|" method_type)* ("|" "...")?
unfoldable pub overloads : Grammar Overloads
overloads = chain overloads_of (map_value an_overload method_type) overloads_lead next_overload

-- a member, by the visibility word before it, if one stands there
abbrev pub Visible : Type 0
Visible = Option Bool → Member

abbrev pub visible_method : Side × Token → Overloads → Visible
visible_method name fs public = m.Def (method_name_value name.1.text) name.1.at name.0 public fs.methods fs.more

abbrev pub behind_word : Token → Visible → Visible
behind_word t member = member

-- method = "def" ("self."? MN | "self?." MN) ":" overloads
unfoldable pub method : Grammar Visible
method = behind k.Def (seq visible_method defined_name (behind k.Colon overloads))

-- the same behind "public" or "private" on one line, where no "self?." may stand
unfoldable pub shown_method : Grammar Visible
shown_method = seq behind_word (tok (on_the_line (is k.Def)) k.Def same) (seq visible_method attribute_name (behind k.Colon overloads))

-- ---- attributes

-- "(" "@w"? ")"
unfoldable pub bracketed_variable : Grammar (Option (List ℕ))
bracketed_variable = behind k.LeftParen (before (optional (tok (is k.InstanceVariable) k.InstanceVariable text_of)) k.RightParen)

abbrev pub attribute_variable : Option (Option (List ℕ)) → AttrVar
attribute_variable None = var.Same
attribute_variable (Some None) = var.Absent
attribute_variable (Some (Some name)) = var.Named name

abbrev pub reads : Kind → Bool
reads k.AttrWriter = false
reads _ = true

abbrev pub writes : Kind → Bool
writes k.AttrReader = false
writes _ = true

abbrev pub attribute_of : Token → (Side × Token) × (AttrVar × Ty) → Visible
attribute_of word a public = m.Attr (method_name_value a.0.1.text) a.0.1.at a.0.0 public (reads word.kind) (writes word.kind) a.1.0 a.1.1

-- attribute = attr "self."? MN ("(" "@w"? ")")? ":" type, its first word among these tokens
abbrev pub attribute : Kinds → Grammar Visible
attribute here = seq attribute_of (tok here k.AttrReader same) (both attribute_name (both (map_value attribute_variable (optional bracketed_variable)) (behind k.Colon a_type)))

-- ---- visibility

abbrev pub is_public : Kind → Bool
is_public k.Public = true
is_public _ = false

abbrev pub visibility_member : Kind → Member
visibility_member k.Public = m.Public
visibility_member _ = m.Private

-- the member that a visibility word stands before, or the word as a member of its own
abbrev pub visible_of : Token → Option Visible → Member
visible_of word None = visibility_member word.kind
visible_of word (Some member) = member (Some (is_public word.kind))

-- ("public" | "private") and a method or an attribute on the same line, or the word alone
unfoldable pub visible : Grammar Member
visible = seq visible_of (tok is_visibility k.Public same)
    (prefer (map_value Some (alt shown_method (attribute (on_the_line is_attribute)))) (eps None))

-- ---- mixins, aliases and variables

abbrev pub mixin_of : Token → Ref → Member
mixin_of word r = by_kind word.kind r
  where
    by_kind : Kind → Ref → Member
    by_kind k.Include r = m.Include r
    by_kind k.Extend r = m.Extend r
    by_kind _ r = m.Prepend r

-- ("include" | "extend" | "prepend") ref
unfoldable pub mixin : Grammar Member
mixin = seq mixin_of (tok is_mixin k.Include same) ref

abbrev pub alias_of : Side → Token → Token → Member
alias_of s new old = m.AliasOf (method_name_value new.text) new.at (method_name_value old.text) s

-- what stands behind the `self` of an alias: two names of a singleton's methods, or the old name of a method of instances
pub data AliasRest : Type 0 where
  of_self : Token → Token → AliasRest
  of_instances : Token → AliasRest

abbrev pub self_alias : Token → AliasRest → Member
self_alias word (of_self new old) = alias_of side.Singleton new old
self_alias word (of_instances old) = alias_of side.Instance word old

-- "alias" MN MN | "alias" "self." MN "self." MN
unfoldable pub alias : Grammar Member
alias = behind k.Alias (alt
    (seq self_alias (token k.SelfWord) (alt (behind k.Dot (seq of_self a_name (behind k.SelfWord (behind k.Dot a_name)))) (map_value of_instances a_name)))
    (seq (alias_of side.Instance) (alt (token k.SelfQuestion) (tok is_other_name k.Word same)) a_name))

abbrev pub variable_of : VarScope → Token → Ty → Member
variable_of where_it_is name ty = m.Variable name.text name.at where_it_is ty

-- "@w" ":" type | "self" "." "@w" ":" type | "@@w" ":" type
unfoldable pub variable : Grammar Member
variable = alt (seq (variable_of scope.Instance) (token k.InstanceVariable) (behind k.Colon a_type))
    (alt (behind k.SelfWord (behind k.Dot (seq (variable_of scope.Singleton) (token k.InstanceVariable) (behind k.Colon a_type))))
    (seq (variable_of scope.Class) (token k.ClassVariable) (behind k.Colon a_type)))

abbrev pub unmarked : Visible → Member
unmarked member = member None

-- member = declaration | method | attribute | mixin | alias | visibility | variable
unfoldable pub member : Grammar Member
member = alt (map_value m.Nested a_declaration) (alt (map_value unmarked method) (alt (map_value unmarked (attribute is_attribute))
    (alt mixin (alt alias (alt visible variable)))))

-- ---- members of interfaces

abbrev pub plain_method : Token → List MethodType → Member
plain_method name fs = m.Def (method_name_value name.text) name.at side.Instance None fs false

abbrev pub plain_alias : Token → Token → Member
plain_alias new old = alias_of side.Instance new old

-- interface_member = "def" MN ":" method_type ("|" method_type)* | "include" iname type_args? | "alias" MN MN
unfoldable pub interface_member : Grammar Member
interface_member = alt (behind k.Def (seq plain_method a_name (behind k.Colon (separated k.Bar method_type))))
    (alt (behind k.Include (map_value m.Include (seq ref_of interface_name (any_of type_args)))) (behind k.Alias (seq plain_alias a_name a_name)))
