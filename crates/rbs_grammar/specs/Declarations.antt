-- The grammar of declarations, and of a whole text.
use Rattle.std.specs.Prelude.{Bool, true, false, List, Option, Some, None}
use Rattle.rbs_lexer.specs.Tokens.{Token}
use Rattle.rbs_lexer.specs.declared.kind.Kind.{Kind}
use Rattle.rbs_lexer.specs.declared.kind.Kind.TheVariants as k
use Rattle.rbs_tree.specs.declared.names.TypeName.{TypeName}
use Rattle.rbs_tree.specs.declared.types.Ty.{Ty}
use Rattle.rbs_tree.specs.declared.decls.TypeParam.{TypeParam}
use Rattle.rbs_tree.specs.declared.decls.Sign.{Sign}
use Rattle.rbs_tree.specs.declared.decls.Sign.TheVariants as sign
use Rattle.rbs_tree.specs.declared.decls.Ref.{Ref}
use Rattle.rbs_tree.specs.declared.decls.Decl.{Decl}
use Rattle.rbs_tree.specs.declared.decls.Decl.TheVariants as d
use Rattle.rbs_tree.specs.declared.decls.Member.{Member}
use Rattle.rbs_grammar.specs.Rules.{Rule, Value, Kinds}
use Rattle.rbs_grammar.specs.Grammar.{Grammar, tok, seq, alt}
use Rattle.rbs_grammar.specs.Parts.{same, token, both, behind, before, optional, given, any_of, each, separated}
use Rattle.rbs_grammar.specs.Names.{class_name, interface_name, alias_name}
use Rattle.rbs_grammar.specs.Types.{a_type, type_args, union}
use Rattle.rbs_grammar.specs.Functions.{function}
use Rattle.rbs_grammar.specs.Members.{ref, ref_of, a_declaration, member, interface_member}

-- ---- type parameters

abbrev pub is_variance : Kinds
is_variance k.In _ = true
is_variance k.Out _ = true
is_variance _ _ = false

abbrev pub sign_of : Option Token → Sign
sign_of None = sign.Unmarked
sign_of (Some word) = by_kind word.kind
  where
    by_kind : Kind → Sign
    by_kind k.Out = sign.Covariant
    by_kind _ = sign.Contravariant

abbrev pub type_param_of : Bool → Option Token × Token → TypeParam
type_param_of unchecked p = record { name = p.1.text; at = p.1.at; unchecked = unchecked; sign = sign_of p.0; bound = None }

-- type_param = "unchecked"? ("in" | "out")? CN
unfoldable pub type_param : Grammar TypeParam
type_param = seq type_param_of (given (token k.Unchecked)) (both (optional (tok is_variance k.Out same)) (token k.Constant))

-- type_params = ("[" type_param ("," type_param)* "]")?
unfoldable pub type_params : Grammar (List TypeParam)
type_params = any_of (behind k.LeftBracket (before (separated k.Comma type_param) k.RightBracket))

-- ---- declarations

-- ("<" name type_args?)?
unfoldable pub superclass : Grammar (Option Ref)
superclass = optional (behind k.Less (seq ref_of class_name (any_of type_args)))

abbrev pub class_of : TypeName × List TypeParam → Option Ref × List Member → Decl
class_of head body = d.Class head.0 head.1 body.0 body.1

-- class = "class" class_name type_params superclass member* "end"
unfoldable pub class_decl : Grammar Decl
class_decl = behind k.Class (seq class_of (both class_name type_params) (both superclass (before (each member) k.End)))

-- (":" ref ("," ref)*)?
unfoldable pub self_types : Grammar (List Ref)
self_types = any_of (behind k.Colon (separated k.Comma ref))

abbrev pub module_of : TypeName × List TypeParam → List Ref × List Member → Decl
module_of head body = d.Module head.0 head.1 body.0 body.1

-- module = "module" class_name type_params self_types member* "end"
unfoldable pub module_decl : Grammar Decl
module_decl = behind k.Module (seq module_of (both class_name type_params) (both self_types (before (each member) k.End)))

abbrev pub interface_of : TypeName × List TypeParam → List Member → Decl
interface_of head members = d.Interface head.0 head.1 members

-- interface = "interface" interface_name type_params interface_member* "end"
unfoldable pub interface_decl : Grammar Decl
interface_decl = behind k.Interface (seq interface_of (both interface_name type_params) (before (each interface_member) k.End))

abbrev pub alias_decl_of : TypeName × List TypeParam → Ty → Decl
alias_decl_of head ty = d.Alias head.0 head.1 ty

-- alias = "type" alias_name type_params "=" type
unfoldable pub alias_decl : Grammar Decl
alias_decl = behind k.Type (seq alias_decl_of (both alias_name type_params) (behind k.Equals a_type))

abbrev pub global_of : Token → Ty → Decl
global_of name ty = d.Global name.text name.at ty

-- constant = class_name ":" type
unfoldable pub constant_decl : Grammar Decl
constant_decl = seq d.Constant class_name (behind k.Colon a_type)

-- global = "$w" ":" type
unfoldable pub global_decl : Grammar Decl
global_decl = seq global_of (token k.Global) (behind k.Colon a_type)

-- declaration = class | module | interface | alias | constant | global
unfoldable pub declaration : Grammar Decl
declaration = alt class_decl (alt module_decl (alt interface_decl (alt alias_decl (alt constant_decl global_decl))))

-- file = declaration*
unfoldable pub file : Grammar (List Decl)
file = each a_declaration

-- the rules by their names
abbrev pub body : (r : Rule) → Grammar (Value r)
body Rule.declaration = declaration
body Rule.ty = union
body Rule.function = function
