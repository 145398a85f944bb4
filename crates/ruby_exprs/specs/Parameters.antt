-- Parameters of methods, lambdas and blocks.
use Rattle.std.specs.Prelude.{[], ◌∷◌}
use Rattle.ruby_lexer.specs.declared.kind.RubyKind.TheVariants as k
use Rattle.ruby_lexer.specs.declared.kind.Sign.TheVariants as s
use Rattle.ruby_grammar.specs.declared.part.Part.{Part}
use Rattle.ruby_exprs.specs.declared.labels.Label.TheVariants as label
use Rattle.ruby_exprs.specs.declared.names.Name.TheVariants as n
use Rattle.ruby_exprs.specs.declared.names.Sort.{Sort}
use Rattle.ruby_exprs.specs.declared.names.ParamList.{ParamList}
use Rattle.ruby_exprs.specs.declared.names.ParamList.TheVariants as list
use Rattle.ruby_exprs.specs.Words.{◌then◌, ◌or◌, kind, sign, prefix, call, opened, many, maybe, several, named, ended}
use Rattle.ruby_exprs.specs.Statements.{newlines}

-- opt:(Identifier "=" arg°)
unfoldable pub opt_param : Sort → Part
opt_param sort = named label.Opt (kind k.Identifier then sign s.Equals then opened (n.Arg sort))

-- rest:("*"ᵖ Identifier?)
unfoldable pub rest_param : Part
rest_param = named label.Rest (prefix s.Star then maybe (kind k.Identifier))

-- key:(Label arg°?)
unfoldable pub key_param : Sort → Part
key_param sort = named label.Key (kind k.Label then maybe (opened (n.Arg sort)))

-- keyrest:("**"ᵖ Identifier?)
unfoldable pub keyrest_param : Part
keyrest_param = named label.Keyrest (prefix s.StarStar then maybe (kind k.Identifier))

-- blockarg:("&"ᵖ Identifier?)
unfoldable pub block_arg : Part
block_arg = named label.Blockarg (prefix s.Ampersand then maybe (kind k.Identifier))

-- opt / req:Identifier / rest / key / keyrest / blockarg
unfoldable pub any_param : Sort → Part
any_param sort = opt_param sort or named label.Req (kind k.Identifier) or rest_param or key_param sort or keyrest_param or block_arg

-- group:("(" Identifier ("," Identifier) ("," Identifier)* ")")
unfoldable pub param_group : Part
param_group = named label.Group (sign s.LeftParen then several (kind k.Identifier) then sign s.RightParen)

-- group / param
unfoldable pub block_param : Part
block_param = param_group or call (n.Param list.Plain)

-- ("," param ended in {blockarg})?
unfoldable pub behind_keyrest_rule : ParamList → Part
behind_keyrest_rule list = maybe (sign s.Comma then ended (label.Blockarg ∷ []) (call (n.Param list)))

-- ("," param ended in {key})* ("," param ended in {keyrest})? behind_keyrest
unfoldable pub behind_keyword_rule : ParamList → Part
behind_keyword_rule list = many (sign s.Comma then ended (label.Key ∷ []) (call (n.Param list))) then maybe (sign s.Comma
    then ended (label.Keyrest ∷ []) (call (n.Param list))) then call (n.BehindKeyrest list)

-- ("," post:(param ended in {req group}))* behind_keyword
unfoldable pub behind_rest_rule : ParamList → Part
behind_rest_rule list = many (sign s.Comma then named label.Post (ended (label.Req ∷ label.Group ∷ []) (call (n.Param list))))
    then call (n.BehindKeyword list)

-- ("," param ended in {opt})* ("," param ended in {rest})? behind_rest
unfoldable pub behind_optional_rule : ParamList → Part
behind_optional_rule list = many (sign s.Comma then ended (label.Opt ∷ []) (call (n.Param list))) then maybe (sign s.Comma
    then ended (label.Rest ∷ []) (call (n.Param list))) then call (n.BehindRest list)

-- ("," param ended in {req group})* behind_optional
unfoldable pub behind_required_rule : ParamList → Part
behind_required_rule list = many (sign s.Comma then ended (label.Req ∷ label.Group ∷ []) (call (n.Param list))) then call (n.BehindOptional list)

-- param ended in {req group} behind_required / param ended in {opt} behind_optional / param ended in {rest} behind_rest
unfoldable pub from_required : ParamList → Part
from_required list = ended (label.Req ∷ label.Group ∷ []) (call (n.Param list)) then call (n.BehindRequired list)
    or ended (label.Opt ∷ []) (call (n.Param list)) then call (n.BehindOptional list) or ended (label.Rest ∷ []) (call (n.Param list))
    then call (n.BehindRest list)

-- (param ended in {key} behind_keyword / param ended in {keyrest} behind_keyrest / param ended in {blockarg})?
unfoldable pub from_keyword : ParamList → Part
from_keyword list = maybe (ended (label.Key ∷ []) (call (n.Param list)) then call (n.BehindKeyword list)
    or ended (label.Keyrest ∷ []) (call (n.Param list)) then call (n.BehindKeyrest list) or ended (label.Blockarg ∷ []) (call (n.Param list)))

-- params:(from_required / from_keyword)
unfoldable pub params_rule : ParamList → Part
params_rule list = named label.Params (from_required list or from_keyword list)

-- "|" block_params "|"
unfoldable pub bpar_rule : Part
bpar_rule = sign s.Bar then call (n.Params list.OfBlock) then sign s.Bar

-- "(" params Newline* ")"
unfoldable pub bracketed_params : Part
bracketed_params = sign s.LeftParen then call (n.Params list.Plain) then newlines then sign s.RightParen
