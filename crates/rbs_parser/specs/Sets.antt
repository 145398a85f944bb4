-- The sets of tokens that the rules ask for.
use Rattle.rbs_parser.specs.declared.sets.Set.{Set}
use Rattle.rbs_parser.specs.declared.sets.Set.TheVariants as set
use Rattle.rbs_grammar.specs.Rules as rules
use Rattle.rbs_grammar.specs.Types as types
use Rattle.rbs_grammar.specs.Declarations as decls

-- the tokens of a set
abbrev pub tokens_of : Set → rules.Kinds
tokens_of (set.One kind) = rules.is kind
tokens_of set.Small = rules.is_small
tokens_of set.Word = rules.is_word
tokens_of set.Name = rules.is_name
tokens_of set.OtherName = rules.is_other_name
tokens_of set.Attribute = rules.is_attribute
tokens_of set.Visibility = rules.is_visibility
tokens_of set.Mixin = rules.is_mixin
tokens_of set.Single = types.is_single
tokens_of set.Variance = decls.is_variance
