-- Definitions of methods, classes and modules.
use Rattle.std.specs.Prelude.{[], ◌∷◌}
use Rattle.ruby_lexer.specs.declared.kind.RubyKind.TheVariants as k
use Rattle.ruby_lexer.specs.declared.kind.Keyword.TheVariants as w
use Rattle.ruby_lexer.specs.declared.kind.Sign.TheVariants as s
use Rattle.ruby_grammar.specs.declared.part.Part.{Part}
use Rattle.ruby_exprs.specs.declared.labels.Label.TheVariants as label
use Rattle.ruby_exprs.specs.declared.names.Name.TheVariants as n
use Rattle.ruby_exprs.specs.declared.names.Sort.{Sort}
use Rattle.ruby_exprs.specs.Words.{◌then◌, ◌or◌, kind, kinds, word, sign, prefix, adjacent, call, opened, opened_word, many, maybe, named}
use Rattle.ruby_exprs.specs.Names.{list_of}
use Rattle.ruby_exprs.specs.Parameters.{bracketed_params}
use Rattle.ruby_exprs.specs.Statements.{line_end}

-- name_set:((NamedWord / NamedConstant / NamedSelf) (no blank "="))
unfoldable pub setter_name : Part
setter_name = named label.NameSet (kinds (k.NamedWord ∷ k.NamedConstant ∷ k.NamedSelf ∷ []) then adjacent s.Equals)

-- setter_name / name_of:name
unfoldable pub def_name_rule : Part
def_name_rule = setter_name or call n.Mname

-- self:(NamedSelf ".")?
unfoldable pub singleton_of : Part
singleton_of = maybe (named label.SelfForm (kind k.NamedSelf then sign s.Dot))

-- "def" self:(NamedSelf ".")? def_name
unfoldable pub def_head_rule : Part
def_head_rule = word w.Def then singleton_of then call n.DefName

-- cpath:("::"ᵖ? Constant ("::" NamedConstant)*)
unfoldable pub cpath_rule : Part
cpath_rule = named label.Cpath (maybe (prefix s.ColonColon) then kind k.Constant then many (sign s.ColonColon then kind k.NamedConstant))

-- short_def:(def_head bracketed_params? "=" arg°)
unfoldable pub short_def : Sort → Part
short_def sort = named label.ShortDef (call n.DefHead then maybe bracketed_params then sign s.Equals then opened (n.Arg sort))

-- def:(def_head (bracketed_params / params T) body "end")
unfoldable pub def_form : Sort → Part
def_form sort = named label.DefForm (call n.DefHead then (bracketed_params or call (n.Params (list_of sort)) then line_end) then call n.Body
    then word w.End)

-- singleton_class:("class" "<<"ᵖ "self" T body "end")
unfoldable pub singleton_class : Part
singleton_class = named label.SingletonClass (word w.Class then prefix s.LessLess then word w.SelfWord then line_end then call n.Body
    then word w.End)

-- superclass:("<" expr°°)?
unfoldable pub superclass : Sort → Part
superclass sort = named label.Superclass (maybe (sign s.Less then opened_word (n.Expr sort)))

-- class:("class" cpath superclass T body "end")
unfoldable pub class_form : Sort → Part
class_form sort = named label.ClassForm (word w.Class then call n.Cpath then superclass sort then line_end then call n.Body then word w.End)

-- module:("module" cpath T body "end")
unfoldable pub module_form : Part
module_form = named label.ModuleForm (word w.Module then call n.Cpath then line_end then call n.Body then word w.End)

-- short_def / def / singleton_class / class / module
unfoldable pub definition : Sort → Part
definition sort = short_def sort or def_form sort or singleton_class or class_form sort or module_form
