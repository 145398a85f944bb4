-- Names of methods, classes and modules.
use Rattle.std.specs.Prelude.{ℕ, Bool, true, false, if◌then◌else◌, List, [], ◌∷◌, ◌++◌, codes}
use Rattle.std.specs.List.{flat_map}
use Rattle.ruby_lexer.specs.declared.kind.RubyKind.{RubyKind}
use Rattle.ruby_lexer.specs.declared.token.RubyToken.{RubyToken}
use Rattle.ruby_values.specs.declared.value.PlacedPath.{PlacedPath}
use Rattle.ruby_tree.specs.declared.names.MethodName.{MethodName}
use Rattle.src_text.specs.declared.span.Span.{Span}
use Rattle.ruby_lexer.specs.declared.kind.RubyKind.TheVariants as tok
use Rattle.ruby_lexer.specs.declared.kind.Sign.TheVariants as sign
use Rattle.ruby_values.specs.Places.{kind_at, leaf, text_at}

-- the texts of tokens, one behind the other
abbrev pub texts_of : List RubyToken → List ℕ → List ℕ
texts_of tokens = flat_map (text_at tokens)

-- a method's name; of a symbol it has the characters, and the span of all of it
abbrev pub name_at : List RubyToken → Span → List ℕ → MethodName
name_at tokens at leaves = record { name = texts_of tokens leaves; at = at }

-- the name of the method that sets what a method gives
abbrev pub setter : MethodName → MethodName
setter m = record { name = m.name ++ codes "="; at = m.at }

abbrev pub setter_name : List RubyToken → Span → List ℕ → MethodName
setter_name tokens at leaves = setter (name_at tokens at leaves)

abbrev pub is_constant : RubyKind → Bool
is_constant tok.Constant = true
is_constant tok.NamedConstant = true
is_constant other = false

abbrev pub constant_at : List RubyToken → ℕ → List (List ℕ)
constant_at tokens place = if is_constant (kind_at tokens place) then text_at tokens place ∷ [] else []

abbrev pub begins_absolute : RubyKind → Bool
begins_absolute (tok.Prefix sign.ColonColon) = true
begins_absolute other = false

-- the name of a class or a module
abbrev pub path_of : List RubyToken → Span → List ℕ → PlacedPath
path_of tokens at leaves = record { path = record { absolute = begins_absolute (kind_at tokens (leaf leaves 0)); words = flat_map (constant_at tokens) leaves }; at = at }
