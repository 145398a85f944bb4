-- The words in which the grammar is written.
use Rattle.std.specs.Prelude.{ℕ, List, [], ◌∷◌, map}
use Rattle.ruby_lexer.specs.declared.kind.RubyKind.{RubyKind}
use Rattle.ruby_lexer.specs.declared.kind.RubyKind.TheVariants as k
use Rattle.ruby_lexer.specs.declared.kind.Keyword.{Keyword}
use Rattle.ruby_lexer.specs.declared.kind.Sign.{Sign}
use Rattle.ruby_lexer.specs.declared.kind.Sign.TheVariants as s
use Rattle.ruby_grammar.specs.declared.room.Budget.TheVariants as budget
use Rattle.ruby_grammar.specs.declared.part.Part.{Part}
use Rattle.ruby_grammar.specs.declared.part.Part.TheVariants as part
use Rattle.ruby_grammar.specs.declared.set.Blank.TheVariants as blank
use Rattle.ruby_grammar.specs.Sets.{table_of, tokens_of, tokens_but}
use Rattle.ruby_exprs.specs.declared.labels.Label.{Label}
use Rattle.ruby_exprs.specs.declared.names.Name.{Name}
use Rattle.ruby_exprs.specs.Labels.{label_number}
use Rattle.ruby_exprs.specs.Kinds.{keyword_number, sign_number, kind_number}
use Rattle.ruby_exprs.specs.Names.{rule_number}

infixl 40 ◌then◌
infixl 30 ◌or◌
-- ---- tokens

-- a token of one of these kinds
unfoldable pub kinds : List RubyKind → Part
kinds all = part.Token (tokens_of (map kind_number all) blank.Any)

-- one of these keywords
unfoldable pub words : List Keyword → Part
words all = part.Token (tokens_of (map keyword_number all) blank.Any)

-- one of these signs, of those with two forms that between two values
unfoldable pub signs : List Sign → Part
signs all = part.Token (tokens_of (map sign_number all) blank.Any)

unfoldable pub kind : RubyKind → Part
kind one = kinds (one ∷ [])

unfoldable pub word : Keyword → Part
word one = words (one ∷ [])

unfoldable pub sign : Sign → Part
sign one = signs (one ∷ [])

-- the form of a sign that stands before a value
unfoldable pub prefix : Sign → Part
prefix one = kinds (k.Prefix one ∷ [])

-- a sign without a blank before it
unfoldable pub adjacent : Sign → Part
adjacent one = part.Token (tokens_of (sign_number one ∷ []) blank.Without)

-- a token with a blank before it, of none of these kinds
unfoldable pub blank_and_none_of : List RubyKind → Part
blank_and_none_of all = part.Token (tokens_but (map kind_number all) blank.With)

-- ---- rules

-- what a rule derives
unfoldable pub call : Name → Part
call name = part.Call (rule_number name)

-- what a rule derives, which is counted among the rules that are open
unfoldable pub opened : Name → Part
opened name = part.Open budget.Rules (rule_number name)

-- what a rule derives, which is counted among the words that are open
unfoldable pub opened_word : Name → Part
opened_word name = part.Open budget.Words (rule_number name)

-- ---- one after the other, one or the other

-- one after the other
abbrev pub ◌then◌ : Part → Part → Part
p then q = part.Both p q

-- the first that derives
abbrev pub ◌or◌ : Part → Part → Part
p or q = part.Either p q

-- this or no token
unfoldable pub maybe : Part → Part
maybe p = p or part.Empty

-- as many as derive
unfoldable pub many : Part → Part
many p = part.Many p

-- as many as derive, and at least one
unfoldable pub some : Part → Part
some p = p then part.Many p

-- as many as derive, and at least one, with commas between
unfoldable pub listed : Part → Part
listed p = p then part.Many (sign s.Comma then p)

-- as many as derive, and at least two, with commas between
unfoldable pub several : Part → Part
several p = p then (sign s.Comma then p) then part.Many (sign s.Comma then p)

-- no token, where this doesn't derive
unfoldable pub absent : Part → Part
absent p = part.Not p

-- no token, where this derives
unfoldable pub ahead : Part → Part
ahead p = part.Not (part.Not p)

-- as many links as derive, 128 at most, each of which begins with one of these kinds
unfoldable pub chain : List RubyKind → Part → Part
chain heads link = part.Chain (tokens_of (map kind_number heads) blank.Any) link

-- ---- nodes

-- a node with this name
unfoldable pub named : Label → Part → Part
named name p = part.Label (label_number name) p

-- a node with this name, but where the part gives one tree alone that tree
unfoldable pub chained : Label → Part → Part
chained name p = part.Chained (label_number name) p

-- the part, where the name of a node that ended last in it is one of these
unfoldable pub ended : List Label → Part → Part
ended names p = part.Ended (table_of (map label_number names)) p

-- a rule, and as many of these signs with the rule behind them as derive
unfoldable pub operators : Label → Name → List Sign → Part
operators name operand all = chained name (call operand then part.Chain (tokens_of (map sign_number all) blank.Any) (signs all then call operand))
