-- Strings and other texts with parts.
use Rattle.std.specs.Prelude.{ℕ, ◌-◌, ◌==◌, Bool, true, false, if◌then◌else◌, List, [], ◌∷◌, ◌++◌, length, slice_get, Option, Some, None}
use Rattle.std.specs.List.{flat_map, fold}
use Rattle.ruby_lexer.specs.declared.kind.RubyKind.{RubyKind}
use Rattle.ruby_lexer.specs.declared.token.RubyToken.{RubyToken}
use Rattle.ruby_lexer.specs.declared.token.RubyValue.{RubyValue}
use Rattle.ruby_items.specs.declared.texts.Joining.{Joining}
use Rattle.ruby_values.specs.declared.value.Value.{Value}
use Rattle.ruby_tree.specs.declared.nodes.Node.{Node}
use Rattle.ruby_tree.specs.declared.nodes.NodeKind.{NodeKind}
use Rattle.ruby_tree.specs.declared.parts.Arm.{Arm}
use Rattle.ruby_tree.specs.declared.parts.Item.{Item}
use Rattle.ruby_tree.specs.declared.parts.Param.{Param}
use Rattle.ruby_tree.specs.declared.parts.Part.{Part}
use Rattle.ruby_tree.specs.declared.parts.Rescue.{Rescue}
use Rattle.ruby_tree.specs.declared.parts.Target.{Target}
use Rattle.ruby_tree.specs.declared.parts.When.{When}
use Rattle.ruby_tree.specs.declared.parts.WordKind.{WordKind}
use Rattle.src_text.specs.declared.span.Span.{Span}
use Rattle.ruby_tree.specs.declared.nodes.NodeKind.TheVariants as kind
use Rattle.ruby_lexer.specs.declared.kind.RubyKind.TheVariants as tok
use Rattle.ruby_lexer.specs.declared.token.RubyValue.TheVariants as carried
use Rattle.ruby_lexer.specs.declared.token.WordsOf.TheVariants as words
use Rattle.ruby_values.specs.declared.value.Value.TheVariants as value
use Rattle.ruby_tree.specs.declared.parts.Part.TheVariants as piece
use Rattle.ruby_tree.specs.declared.parts.WordKind.TheVariants as listing
use Rattle.ruby_tree.specs.declared.nodes.NodeKind.TheViews.{out-Part}
use Rattle.ruby_tree.specs.declared.nodes.NodeKind.TheOpen.{Part-F}
use Rattle.ruby_items.specs.Items.{is_none}
use Rattle.ruby_values.specs.Making.{node}
use Rattle.ruby_values.specs.Places.{kind_at, span_at, text_at}

abbrev pub is_part : RubyKind → Bool
is_part tok.Part = true
is_part other = false

abbrev pub text_part : List RubyToken → ℕ → List Part
text_part tokens place = if is_part (kind_at tokens place) then piece.Text (text_at tokens place) ∷ [] else []

abbrev pub parts_of : List RubyToken → Value → List Part
parts_of tokens (value.Leaf place) = text_part tokens place
parts_of tokens (value.Node n) = piece.Code n ∷ []
parts_of tokens (value.Texts parts) = parts
parts_of tokens other = []

-- the parts among values, as they are written
abbrev pub parts_among : List RubyToken → List Value → List Part
parts_among tokens = flat_map (parts_of tokens)

-- the text that goes on is done, unless it is empty
abbrev pub end_run : Joining → Joining
end_run j = if is_none j.run then j else record { done = j.done ++ piece.Text j.run ∷ []; run = [] }

abbrev pub join : Joining → Part → Joining
join j p = layer (out-Part p)
  where
    layer : Part-F NodeKind Item Param Part Target Node Arm Rescue When → Joining
    layer (Part-F.Text text) = record { done = j.done; run = j.run ++ text }
    layer (Part-F.Code n) = record { done = (end_run j).done ++ piece.Code n ∷ []; run = (end_run j).run }

-- texts beside each other are one, and empty ones aren't there
abbrev pub joined_parts : List Part → List Part
joined_parts parts = (end_run (fold join (record { done = []; run = [] }) parts)).done

abbrev pub only_text : Part → Option (List ℕ)
only_text p = layer (out-Part p)
  where
    layer : Part-F NodeKind Item Param Part Target Node Arm Rescue When → Option (List ℕ)
    layer (Part-F.Text text) = Some text
    layer (Part-F.Code n) = None

-- the text that parts are, where no code stands in them
abbrev pub plain_text : List Part → Option (List ℕ)
plain_text [] = Some []
plain_text (p ∷ []) = only_text p
plain_text (p ∷ q ∷ more) = None

abbrev pub str_or_parts : Option (List ℕ) → List Part → NodeKind
str_or_parts (Some text) parts = kind.Str text
str_or_parts None parts = kind.StrParts parts

-- strings beside each other: one without code is a `Str`
abbrev pub strings : List RubyToken → Span → List Value → Node
strings tokens at values = let parts = joined_parts (parts_among tokens values) in
    node at (if length values == 1 then str_or_parts (plain_text parts) parts else kind.StrParts parts)

abbrev pub sym_or_parts : Option (List ℕ) → List Part → NodeKind
sym_or_parts (Some text) parts = kind.Sym text
sym_or_parts None parts = kind.SymParts parts

-- a symbol in quotes
abbrev pub quoted_symbol : List RubyToken → Span → List Value → Node
quoted_symbol tokens at values = let parts = joined_parts (parts_among tokens values) in node at (sym_or_parts (plain_text parts) parts)

-- a heredoc, at its opening
abbrev pub heredoc : List RubyToken → ℕ → List Value → Node
heredoc tokens place values = node (span_at tokens place) (kind.StrParts (joined_parts (parts_among tokens values)))

-- a regexp, whose flags its last token carries
abbrev pub regexp : List RubyToken → Span → ℕ → List Value → Node
regexp tokens at behind values = node at (kind.Regexp (joined_parts (parts_among tokens values)) (text_at tokens (behind - 1)))

abbrev pub is_word : RubyKind → Bool
is_word tok.Word = true
is_word other = false

abbrev pub word_at : List RubyToken → ℕ → List (List ℕ)
word_at tokens place = if is_word (kind_at tokens place) then text_at tokens place ∷ [] else []

abbrev pub words_among : List RubyToken → List ℕ → List (List ℕ)
words_among tokens = flat_map (word_at tokens)

abbrev pub kind_of_words : RubyValue → WordKind
kind_of_words (carried.Words words.Symbols) = listing.Symbols
kind_of_words other = listing.Strings

abbrev pub words_kind_of : Option RubyToken → WordKind
words_kind_of None = listing.Strings
words_kind_of (Some t) = kind_of_words t.value

-- a word list
abbrev pub word_list : List RubyToken → Span → ℕ → List ℕ → Node
word_list tokens at place leaves = node at (kind.Words (words_kind_of (slice_get tokens place)) (words_among tokens leaves))
