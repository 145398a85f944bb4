-- Assignments.
use Rattle.std.specs.Prelude.{[], ◌∷◌}
use Rattle.ruby_lexer.specs.declared.kind.RubyKind.TheVariants as k
use Rattle.ruby_lexer.specs.declared.kind.Sign.TheVariants as s
use Rattle.ruby_grammar.specs.declared.part.Part.{Part}
use Rattle.ruby_exprs.specs.declared.labels.Label.TheVariants as label
use Rattle.ruby_exprs.specs.declared.names.Name.TheVariants as n
use Rattle.ruby_exprs.specs.declared.names.Sort.{Sort}
use Rattle.ruby_exprs.specs.Words.{◌then◌, ◌or◌, kind, kinds, sign, prefix, call, opened, maybe, several, named, ended}

-- post:(post_parts ended in {name variable const top_const const_link name_link index})
unfoldable pub lhs_rule : Sort → Part
lhs_rule sort = named label.Post (ended (label.Name ∷ label.Variable ∷ label.Const ∷ label.TopConst ∷ label.ConstLink ∷ label.NameLink ∷
    label.Index ∷ []) (call (n.PostParts sort)))

-- mlhs:("*"ᵖ? (Identifier / InstanceVariable))
unfoldable pub mlhs_rule : Part
mlhs_rule = named label.Mlhs (maybe (prefix s.Star) then kinds (k.Identifier ∷ k.InstanceVariable ∷ []))

-- arg° ("," arg°) ("," arg°)*
unfoldable pub several_values : Sort → Part
several_values sort = several (opened (n.Arg sort))

-- masgn:(mlhs ("," mlhs) ("," mlhs)* "=" values:(several_values / arg°))
unfoldable pub masgn_rule : Sort → Part
masgn_rule sort = named label.Masgn (several (call n.Mlhs) then sign s.Equals then named label.Values (several_values sort or opened (n.Arg sort)))

-- asgn:(lhs "=" (command / values:several_values))
unfoldable pub sasgn_rule : Sort → Part
sasgn_rule sort = named label.Asgn (call (n.Lhs sort) then sign s.Equals then (call (n.Command sort) or named label.Values (several_values sort)))

-- asgn:(lhs "=" arg°)
unfoldable pub asgn : Sort → Part
asgn sort = named label.Asgn (call (n.Lhs sort) then sign s.Equals then opened (n.Arg sort))

-- opasgn:(lhs Assigning arg°)
unfoldable pub opasgn : Sort → Part
opasgn sort = named label.Opasgn (call (n.Lhs sort) then kind k.Assigning then opened (n.Arg sort))

-- asgn / opasgn / tern
unfoldable pub arg_rule : Sort → Part
arg_rule sort = asgn sort or opasgn sort or call (n.Tern sort)
