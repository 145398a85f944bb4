-- Parameters.
use Rattle.std.specs.Prelude.{ℕ, Bool, true, false, if◌then◌else◌, List, [], ◌∷◌, slice_get, Option, Some, None}
use Rattle.std.specs.List.{flat_map}
use Rattle.ruby_lexer.specs.declared.kind.RubyKind.{RubyKind}
use Rattle.ruby_lexer.specs.declared.token.RubyToken.{RubyToken}
use Rattle.ruby_items.specs.declared.parameters.Takes.{Takes}
use Rattle.ruby_values.specs.declared.value.Value.{Value}
use Rattle.ruby_tree.specs.declared.names.Local.{Local}
use Rattle.ruby_tree.specs.declared.nodes.Node.{Node}
use Rattle.ruby_tree.specs.declared.nodes.NodeKind.{NodeKind}
use Rattle.ruby_tree.specs.declared.parts.Arm.{Arm}
use Rattle.ruby_tree.specs.declared.parts.Item.{Item}
use Rattle.ruby_tree.specs.declared.parts.Param.{Param}
use Rattle.ruby_tree.specs.declared.parts.Part.{Part}
use Rattle.ruby_tree.specs.declared.parts.Rescue.{Rescue}
use Rattle.ruby_tree.specs.declared.parts.Target.{Target}
use Rattle.ruby_tree.specs.declared.parts.When.{When}
use Rattle.ruby_lexer.specs.declared.kind.RubyKind.TheVariants as tok
use Rattle.ruby_values.specs.declared.value.Value.TheVariants as value
use Rattle.ruby_tree.specs.declared.parts.Param.TheVariants as param
use Rattle.ruby_items.specs.declared.parameters.Takes.TheVariants as takes
use Rattle.ruby_tree.specs.declared.nodes.NodeKind.TheViews.{out-Param}
use Rattle.ruby_tree.specs.declared.nodes.NodeKind.TheOpen.{Param-F}
use Rattle.ruby_items.specs.Items.{without_colon}
use Rattle.ruby_values.specs.Lists.{front}
use Rattle.ruby_values.specs.Places.{kind_at, span_at, text_at}

abbrev pub param_among : Value → List Param
param_among (value.Param p) = p ∷ []
param_among other = []

-- the parameters among values
abbrev pub params_among : List Value → List Param
params_among = flat_map param_among

-- a local variable where its word stands
abbrev pub local_at : List RubyToken → ℕ → Local
local_at tokens place = record { name = text_at tokens place; at = span_at tokens place }

-- a local variable where a label stands for it
abbrev pub local_of_label : List RubyToken → ℕ → Local
local_of_label tokens place = record { name = text_at tokens place; at = without_colon (span_at tokens place) }

abbrev pub local_or_none : List RubyToken → Option ℕ → Option Local
local_or_none tokens None = None
local_or_none tokens (Some place) = Some (local_at tokens place)

-- the local variable behind a sign, if one stands there
abbrev pub local_behind_sign : List RubyToken → List ℕ → Option Local
local_behind_sign tokens leaves = local_or_none tokens (slice_get leaves 1)

-- `a`
abbrev pub required : List RubyToken → ℕ → Param
required tokens place = param.Required (local_at tokens place)

-- `a = b`
abbrev pub optional : List RubyToken → ℕ → Node → Param
optional tokens place n = param.Optional (local_at tokens place) n

abbrev pub keyword_with : Local → Option Node → Param
keyword_with local None = param.Keyword local
keyword_with local (Some n) = param.OptionalKeyword local n

-- `a:` and `a: b`
abbrev pub keyword_param : List RubyToken → ℕ → List Node → Param
keyword_param tokens place ns = keyword_with (local_of_label tokens place) (front ns)

-- `*a`, `**a` and `&a`
abbrev pub taking_of : Takes → Option Local → Param
taking_of takes.Rest local = param.Rest local
taking_of takes.RestKeywords local = param.RestKeywords local
taking_of takes.Block local = param.Block local

abbrev pub taking : List RubyToken → Takes → List ℕ → Param
taking tokens what leaves = taking_of what (local_behind_sign tokens leaves)

abbrev pub is_identifier : RubyKind → Bool
is_identifier tok.Identifier = true
is_identifier other = false

abbrev pub local_among : List RubyToken → ℕ → List Local
local_among tokens place = if is_identifier (kind_at tokens place) then local_at tokens place ∷ [] else []

-- `(a, b)`
abbrev pub group : List RubyToken → List ℕ → Param
group tokens leaves = param.Group (flat_map (local_among tokens) leaves)

-- a required parameter behind an optional one or the rest; a group stays one
abbrev pub trailing : Param → Param
trailing p = layer (out-Param p)
  where
    layer : Param-F NodeKind Item Param Part Target Node Arm Rescue When → Param
    layer (Param-F.Required local) = param.Trailing local
    layer other = p
