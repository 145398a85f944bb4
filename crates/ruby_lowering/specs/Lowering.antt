-- What a concrete tree stands for.
use Rattle.std.specs.Prelude.{ℕ, Bool, true, false, if◌then◌else◌, List, [], ◌∷◌, ◌++◌, slice_get, Option, Some, None}
use Rattle.ruby_exprs.specs.declared.labels.Label.{Label}
use Rattle.ruby_grammar.specs.declared.tree.Tree.{Tree}
use Rattle.ruby_tree.specs.declared.nodes.Node.{Node}
use Rattle.ruby_lexer.specs.declared.token.RubyToken.{RubyToken}
use Rattle.ruby_lowering.specs.declared.combining.Place.{Place}
use Rattle.ruby_values.specs.declared.value.Value.{Value}
use Rattle.ruby_values.specs.declared.value.Value.TheVariants as value
use Rattle.ruby_exprs.specs.declared.labels.Label.TheVariants as label
use Rattle.ruby_grammar.specs.declared.tree.Tree.TheOpen.{Tree-F}
use Rattle.ruby_grammar.specs.declared.tree.Tree.TheFolds.{fold-Tree}
use Rattle.ruby_lowering.specs.Combining.{combined}
use Rattle.ruby_values.specs.Making.{missing}
use Rattle.ruby_values.specs.Places.{span_between}
use Rattle.ruby_exprs.specs.Labels.{labels}

-- the names of the nodes whose first part is read twice
abbrev pub is_changed : Option Label → Bool
is_changed (Some label.Opasgn) = true
is_changed other = false

abbrev pub first_again : List Value → List Value
first_again [] = []
first_again (v ∷ vs) = (v ∷ vs) ++ v ∷ []

-- what a node's trees stand for; the left side of `a += b` once more behind the others
abbrev pub wanted : ℕ → List Value → List Value
wanted number values = if is_changed (slice_get labels number) then first_again values else values

abbrev pub named_value : List RubyToken → Option Label → Place → List Value → Value
named_value tokens None p values = value.Nothing
named_value tokens (Some l) p values = combined tokens l p values

abbrev pub named : List RubyToken → ℕ → ℕ → ℕ → List Value → Value
named tokens number first behind values = named_value tokens (slice_get labels number) (record { first = first; behind = behind; at = span_between tokens first behind }) values

abbrev pub lowered_step : List RubyToken → Tree-F Value → Value
lowered_step tokens (Tree-F.Leaf place) = value.Leaf place
lowered_step tokens (Tree-F.Node number first behind values) = named tokens number first behind (wanted number values)

-- what a concrete tree stands for
abbrev pub lowered : List RubyToken → Tree → Value
lowered tokens = fold-Tree Value (lowered_step tokens)

abbrev pub node_or_missing : Value → Node
node_or_missing (value.Node n) = n
node_or_missing other = missing

-- the node that a concrete tree stands for
abbrev pub root_of : List RubyToken → Tree → Node
root_of tokens tree = node_or_missing (lowered tokens tree)
