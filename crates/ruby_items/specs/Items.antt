-- Items of arguments, arrays and hashes.
use Rattle.std.specs.Prelude.{ℕ, ◌-◌, Bool, true, false, if◌then◌else◌, List, [], ◌∷◌, ◌++◌, map, Option, Some, None}
use Rattle.std.specs.List.{flat_map, fold}
use Rattle.ruby_lexer.specs.declared.token.RubyToken.{RubyToken}
use Rattle.ruby_items.specs.declared.items.Before.{Before}
use Rattle.ruby_items.specs.declared.items.Sorting.{Sorting}
use Rattle.ruby_values.specs.declared.value.Placed.{Placed}
use Rattle.ruby_values.specs.declared.value.Value.{Value}
use Rattle.ruby_tree.specs.declared.nodes.Node.{Node}
use Rattle.ruby_tree.specs.declared.nodes.NodeKind.{NodeKind}
use Rattle.ruby_tree.specs.declared.parts.Arm.{Arm}
use Rattle.ruby_tree.specs.declared.parts.Item.{Item}
use Rattle.ruby_tree.specs.declared.parts.Param.{Param}
use Rattle.ruby_tree.specs.declared.parts.Part.{Part}
use Rattle.ruby_tree.specs.declared.parts.Rescue.{Rescue}
use Rattle.ruby_tree.specs.declared.parts.Target.{Target}
use Rattle.ruby_tree.specs.declared.parts.When.{When}
use Rattle.src_text.specs.declared.span.Span.{Span}
use Rattle.ruby_tree.specs.declared.nodes.NodeKind.TheVariants as kind
use Rattle.ruby_values.specs.declared.value.Value.TheVariants as value
use Rattle.ruby_tree.specs.declared.parts.Item.TheVariants as item
use Rattle.ruby_items.specs.declared.items.Before.TheVariants as before
use Rattle.ruby_tree.specs.declared.nodes.NodeKind.TheViews.{out-Node, out-Item}
use Rattle.ruby_tree.specs.declared.nodes.NodeKind.TheOpen.{Item-F}
use Rattle.ruby_values.specs.Lists.{front, listed}
use Rattle.ruby_values.specs.Making.{first, node, second}
use Rattle.ruby_values.specs.Places.{span_at, text_at}
use Rattle.ruby_lexer.specs.Characters.{is_upper}

-- a bare value as an item
abbrev pub bare_item : Node → Placed
bare_item n = record { item = item.Value n; at = (out-Node n).span }

abbrev pub item_among : Value → List Placed
item_among (value.Node n) = bare_item n ∷ []
item_among (value.Item placed) = placed ∷ []
item_among other = []

-- the items among values
abbrev pub items_among : List Value → List Placed
items_among = flat_map item_among

abbrev pub plain_item : Placed → Item
plain_item placed = placed.item

-- items without their places
abbrev pub plain_items : List Placed → List Item
plain_items = map plain_item

abbrev pub optional_items : Option (List Placed) → List Item
optional_items None = []
optional_items (Some items) = plain_items items

abbrev pub placed : Item → Span → Value
placed it at = value.Item (record { item = it; at = at })

-- `*a`, `**a` and `&a`
abbrev pub signed_item : Span → Before → Node → Value
signed_item at before.Star n = placed (item.Splat n) at
signed_item at before.StarStar n = placed (item.DoubleSplat n) at
signed_item at before.Ampersand n = value.Node (node at (kind.BlockPass n))

-- `a => b`
abbrev pub pair : Span → List Node → Value
pair at ns = placed (item.Pair (first ns) (second ns)) at

abbrev pub begins_with_upper : List ℕ → Bool
begins_with_upper [] = false
begins_with_upper (b ∷ bs) = is_upper b

-- the span of a label without its `:`
abbrev pub without_colon : Span → Span
without_colon at = record { start = at.start; end = at.end - 1 }

-- what the word of a label means, where no value stands behind it: a constant, or a word
abbrev pub meant_by_label : List RubyToken → ℕ → Node
meant_by_label tokens place = node (without_colon (span_at tokens place))
    (if begins_with_upper (text_at tokens place) then kind.Const None (record { absolute = false; words = text_at tokens place ∷ [] }) else kind.Name (text_at tokens place))

abbrev pub or_meant : List RubyToken → ℕ → Option Node → Node
or_meant tokens place None = meant_by_label tokens place
or_meant tokens place (Some n) = n

-- `a: b` and `a:`
abbrev pub label_item : List RubyToken → Span → ℕ → List Node → Value
label_item tokens at place ns = placed (item.Label (text_at tokens place) (span_at tokens place) (or_meant tokens place (front ns))) at

-- labels, pairs and `**`
abbrev pub is_keyed : Item → Bool
is_keyed it = layer (out-Item it)
  where
    layer : Item-F NodeKind Item Param Part Target Node Arm Rescue When → Bool
    layer (Item-F.Label key at given) = true
    layer (Item-F.Pair key given) = true
    layer (Item-F.DoubleSplat n) = true
    layer other = false

abbrev pub unsorted : Sorting
unsorted = record { before = []; keyed = []; behind = []; at = record { start = 0; end = 0 } }

abbrev pub is_none : {T : Type 0} → List T → Bool
is_none [] = true
is_none (x ∷ xs) = false

-- from the first one's start to the last one's end
abbrev pub joined_span : Bool → Span → Span → Span
joined_span true before at = at
joined_span false before at = record { start = before.start; end = at.end }

-- an item among those before the first keyed one, the keyed ones, or those behind it that aren't keyed
abbrev pub sort : Sorting → Placed → Sorting
sort s p = if is_keyed p.item then record s { keyed = s.keyed ++ p.item ∷ []; at = joined_span (is_none s.keyed) s.at p.at }
    else (if is_none s.keyed then record s { before = s.before ++ p.item ∷ [] } else record s { behind = s.behind ++ p.item ∷ [] })

abbrev pub sorted : List Placed → Sorting
sorted = fold sort unsorted

-- one hash of what is keyed, at the place of the first
abbrev pub joined_elements : Sorting → List Item
joined_elements s = if is_none s.keyed then s.before else s.before ++ item.Value (node s.at (kind.HashOf s.keyed)) ∷ s.behind

-- items whose labels, pairs and `**` are one hash at the place of the first
abbrev pub elements : Option (List Placed) → List Item
elements items = joined_elements (sorted (listed items))

abbrev pub array : Span → Option (List Placed) → Node
array at items = node at (kind.ArrayOf (elements items))

abbrev pub hash : Span → Option (List Placed) → Node
hash at items = node at (kind.HashOf (optional_items items))

-- the items of brackets
abbrev pub passed_items : Option (List Placed) → Value
passed_items items = value.Items (listed items)
