-- What a node of a concrete tree stands for, by what its trees stand for.
use Rattle.std.specs.Prelude.{ℕ, ◌+◌, Bool, true, false, if◌then◌else◌, List, [], Option, Some, None, codes}
use Rattle.ruby_exprs.specs.declared.labels.Label.{Label}
use Rattle.ruby_lexer.specs.declared.kind.RubyKind.{RubyKind}
use Rattle.ruby_lexer.specs.declared.token.RubyToken.{RubyToken}
use Rattle.ruby_lowering.specs.declared.combining.Place.{Place}
use Rattle.ruby_lowering.specs.declared.parts.Parts.{Parts}
use Rattle.ruby_lowering.specs.declared.sorts.Sort.{Sort}
use Rattle.ruby_values.specs.declared.value.Value.{Value}
use Rattle.ruby_tree.specs.declared.nodes.Node.{Node}
use Rattle.ruby_tree.specs.declared.parts.Param.{Param}
use Rattle.src_text.specs.declared.span.Span.{Span}
use Rattle.ruby_tree.specs.declared.nodes.NodeKind.TheVariants as kind
use Rattle.ruby_lexer.specs.declared.kind.RubyKind.TheVariants as tok
use Rattle.ruby_lexer.specs.declared.kind.Keyword.TheVariants as word
use Rattle.ruby_values.specs.declared.value.Value.TheVariants as value
use Rattle.ruby_tree.specs.declared.parts.Dot.TheVariants as dot
use Rattle.ruby_exprs.specs.declared.labels.Label.TheVariants as label
use Rattle.ruby_lowering.specs.declared.sorts.Sort.TheVariants as sort
use Rattle.ruby_items.specs.declared.items.Before.TheVariants as before
use Rattle.ruby_items.specs.declared.parameters.Takes.TheVariants as takes
use Rattle.ruby_lowering.specs.Assignments.{assignment, changed, list_assignment, list_target}
use Rattle.ruby_lowering.specs.Bodies.{begin_form, block, body, class_form, definition, lambda, module_form, rescue_of, singleton_form, value_body}
use Rattle.ruby_lowering.specs.Branches.{arm_in, if_form, returned, unless_form, when_of, while_form}
use Rattle.ruby_lowering.specs.Calls.{call, command, constant, dot_of, linked, word_name, yielded}
use Rattle.ruby_items.specs.Items.{array, hash, items_among, label_item, pair, passed_items, signed_item}
use Rattle.ruby_values.specs.Lists.{front}
use Rattle.ruby_values.specs.Literals.{integer, keyword, name, symbol, variable_at}
use Rattle.ruby_values.specs.Making.{first, node}
use Rattle.ruby_values.specs.Names.{name_at, path_of, setter_name}
use Rattle.ruby_values.specs.Operators.{choice, operators, prefixed, range, sign_name}
use Rattle.ruby_items.specs.Parameters.{group, keyword_param, optional, params_among, required, taking, trailing}
use Rattle.ruby_lowering.specs.Parts.{gathered}
use Rattle.ruby_values.specs.Places.{kind_at, leaf, span_at}
use Rattle.ruby_lowering.specs.Sorts.{sort_of}
use Rattle.ruby_values.specs.Statements.{alias, modified, modifier_word, nodes_among, placed_at, statements}
use Rattle.ruby_items.specs.Texts.{heredoc, parts_among, quoted_symbol, regexp, strings, word_list}

-- ---- lists

abbrev pub list_of : List RubyToken → Label → Place → List Value → Value
list_of tokens label.Stmts p values = statements tokens p.first values
list_of tokens label.Values p values = value.Nodes (nodes_among values)
list_of tokens label.Classes p values = value.Nodes (nodes_among values)
list_of tokens label.Args p values = value.Items (items_among values)
list_of tokens label.Cargs p values = value.Items (items_among values)
list_of tokens label.Items p values = value.Items (items_among values)
list_of tokens label.Params p values = value.Params (params_among values)
list_of tokens label.ReturnForm p values = value.Node (returned p.at (kind_at tokens p.first) (nodes_among values))
list_of tokens other p values = value.Nothing

-- ---- texts

abbrev pub text_in : List RubyToken → Label → Place → List Value → Value
text_in tokens label.Str p values = value.Texts (parts_among tokens values)
text_in tokens label.Strs p values = value.Node (strings tokens p.at values)
text_in tokens label.Dsym p values = value.Node (quoted_symbol tokens p.at values)
text_in tokens label.Regexp p values = value.Node (regexp tokens p.at p.behind values)
text_in tokens label.Heredoc p values = value.Node (heredoc tokens p.first values)
text_in tokens other p values = value.Nothing

-- ---- expressions

-- the kind of a node's own first token
abbrev pub sign_of : List RubyToken → Parts → RubyKind
sign_of tokens ps = kind_at tokens (leaf ps.leaves 0)

abbrev pub prefixed_in : List RubyToken → Place → Parts → Node
prefixed_in tokens p ps = prefixed p.at (kind_at tokens p.first) (span_at tokens p.first) (first ps.nodes)

abbrev pub expression : List RubyToken → Label → Place → Parts → Value
expression tokens label.NotForm p ps = value.Node (prefixed_in tokens p ps)
expression tokens label.Minus p ps = value.Node (prefixed_in tokens p ps)
expression tokens label.Unary p ps = value.Node (prefixed_in tokens p ps)
expression tokens label.DefinedForm p ps = value.Node (node p.at (kind.Defined (first ps.nodes)))
expression tokens label.Tern p ps = value.Node (choice p.at ps.nodes)
expression tokens label.Range p ps = value.Node (range p.at (sign_of tokens ps) (Some (first ps.nodes)) ps.maybe)
expression tokens label.Beginless p ps = value.Node (range p.at (sign_of tokens ps) None (Some (first ps.nodes)))
expression tokens label.Asgn p ps = value.Node (assignment p.at ps.nodes ps.list)
expression tokens label.Opasgn p ps = value.Node (changed tokens p.at (leaf ps.leaves 0) ps.nodes)
expression tokens label.Masgn p ps = value.Node (list_assignment p.at ps.targets ps.list)
expression tokens other p ps = value.Nothing

-- ---- calls

-- a value with its links, or a parameter behind the rest
abbrev pub linked_or_param : Option Param → List Node → Value
linked_or_param None ns = value.Node (linked ns)
linked_or_param (Some p) ns = value.Param (trailing p)

-- a call behind a dot
abbrev pub link : List RubyToken → Place → Parts → Node
link tokens p ps = call p.at (dot_of (kind_at tokens p.first)) (front ps.names) ps.items (front ps.nodes)

-- a call without a receiver
abbrev pub word_call : List RubyToken → Place → Parts → Node
word_call tokens p ps = call p.at dot.Plain (Some (word_name tokens p.first)) ps.items (front ps.nodes)

abbrev pub called : List RubyToken → Label → Place → Parts → Value
called tokens label.Post p ps = linked_or_param ps.param ps.nodes
called tokens label.CallLink p ps = value.Node (link tokens p ps)
called tokens label.NameLink p ps = value.Node (link tokens p ps)
called tokens label.CallOfCall p ps = value.Node (call p.at (dot_of (kind_at tokens p.first)) (Some (sign_name (codes "call") (span_at tokens (p.first + 1)))) ps.items (front ps.nodes))
called tokens label.ConstLink p ps = value.Node (constant tokens p.at false (leaf ps.leaves 1))
called tokens label.Index p ps = value.Node (call p.at dot.Plain (Some (sign_name (codes "[]") (span_at tokens p.first))) ps.items None)
called tokens label.Call p ps = value.Node (word_call tokens p ps)
called tokens label.ConstCall p ps = value.Node (word_call tokens p ps)
called tokens label.Command p ps = value.Node (command p.at ps.nodes ps.items)
called tokens label.YieldForm p ps = value.Node (yielded p.at (kind_at tokens p.first) ps.items (front ps.nodes))
called tokens other p ps = value.Nothing

-- ---- what its tokens alone tell

abbrev pub of_tokens : List RubyToken → Label → Place → List ℕ → Value
of_tokens tokens label.Int p leaves = value.Node (integer tokens p.at p.first)
of_tokens tokens label.Sym p leaves = value.Node (symbol tokens p.at p.first)
of_tokens tokens label.Words p leaves = value.Node (word_list tokens p.at p.first leaves)
of_tokens tokens label.Word p leaves = value.Node (node p.at (keyword (kind_at tokens p.first)))
of_tokens tokens label.Variable p leaves = variable_at tokens p.at p.first
of_tokens tokens label.TopConst p leaves = value.Node (constant tokens p.at true (leaf leaves 1))
of_tokens tokens label.Const p leaves = value.Node (constant tokens p.at false p.first)
of_tokens tokens label.Name p leaves = value.Node (name tokens p.at p.first)
of_tokens tokens label.NameOf p leaves = value.Name (name_at tokens p.at leaves)
of_tokens tokens label.NameSet p leaves = value.Name (setter_name tokens p.at leaves)
of_tokens tokens label.SymbolName p leaves = value.Name (name_at tokens p.at leaves)
of_tokens tokens label.Cpath p leaves = value.Path (path_of tokens p.at leaves)
of_tokens tokens label.Mlhs p leaves = value.Target (list_target tokens leaves)
of_tokens tokens other p leaves = value.Nothing

-- ---- items

abbrev pub item_of : List RubyToken → Label → Place → Parts → Value
item_of tokens label.Splat p ps = signed_item p.at before.Star (first ps.nodes)
item_of tokens label.DoubleSplat p ps = signed_item p.at before.StarStar (first ps.nodes)
item_of tokens label.BlockPass p ps = signed_item p.at before.Ampersand (first ps.nodes)
item_of tokens label.LabelItem p ps = label_item tokens p.at p.first ps.nodes
item_of tokens label.Pair p ps = pair p.at ps.nodes
item_of tokens label.Pargs p ps = passed_items ps.items
item_of tokens label.Array p ps = value.Node (array p.at ps.items)
item_of tokens label.Hash p ps = value.Node (hash p.at ps.items)
item_of tokens other p ps = value.Nothing

-- ---- parameters

abbrev pub parameter : List RubyToken → Label → Place → Parts → Value
parameter tokens label.Opt p ps = value.Param (optional tokens p.first (first ps.nodes))
parameter tokens label.Req p ps = value.Param (required tokens p.first)
parameter tokens label.Rest p ps = value.Param (taking tokens takes.Rest ps.leaves)
parameter tokens label.Key p ps = value.Param (keyword_param tokens p.first ps.nodes)
parameter tokens label.Keyrest p ps = value.Param (taking tokens takes.RestKeywords ps.leaves)
parameter tokens label.Blockarg p ps = value.Param (taking tokens takes.Block ps.leaves)
parameter tokens label.Group p ps = value.Param (group tokens ps.leaves)
parameter tokens other p ps = value.Nothing

-- ---- forms

abbrev pub is_unless : RubyKind → Bool
is_unless (tok.Keyword word.Unless) = true
is_unless other = false

-- `if` and `unless`
abbrev pub condition : List RubyToken → Place → Parts → Node
condition tokens p ps = if is_unless (kind_at tokens p.first) then unless_form p.at ps.nodes ps.arms ps.arms_start ps.otherwise else if_form p.at ps.nodes ps.arms ps.otherwise

abbrev pub form_of : List RubyToken → Label → Place → Parts → Value
form_of tokens label.IfForm p ps = value.Node (condition tokens p ps)
form_of tokens label.CaseForm p ps = value.Node (node p.at (kind.Case ps.maybe ps.whens ps.otherwise))
form_of tokens label.WhileForm p ps = value.Node (while_form p.at (kind_at tokens p.first) ps.nodes)
form_of tokens label.BeginForm p ps = value.Node (begin_form p.at (first ps.nodes))
form_of tokens label.Lambda p ps = value.Node (lambda p.at ps.params (first ps.nodes))
form_of tokens label.Block p ps = value.Node (block p.at ps.params (first ps.nodes))
form_of tokens label.ShortDef p ps = value.Node (definition p.at ps.singleton (front ps.names) ps.params (value_body (first ps.nodes)))
form_of tokens label.DefForm p ps = value.Node (definition p.at ps.singleton (front ps.names) ps.params (first ps.nodes))
form_of tokens label.SingletonClass p ps = value.Node (singleton_form p.at (first ps.nodes))
form_of tokens label.ClassForm p ps = value.Node (class_form p.at ps.path ps.maybe (first ps.nodes))
form_of tokens label.ModuleForm p ps = value.Node (module_form p.at ps.path (first ps.nodes))
form_of tokens label.AliasForm p ps = alias p.at ps.names
form_of tokens other p ps = value.Nothing

-- ---- parts of forms, and statements

abbrev pub from_start : Span → Span
from_start at = record { start = 0; end = at.end }

abbrev pub part_of : List RubyToken → Label → Place → Parts → Value
part_of tokens label.ElseForm p ps = value.Otherwise (first ps.nodes)
part_of tokens label.Body p ps = value.Node (body tokens p.behind (first ps.nodes) ps.rescues ps.otherwise ps.ensure)
part_of tokens label.RescueForm p ps = value.Rescue (rescue_of ps.list ps.local (first ps.nodes))
part_of tokens label.EnsureForm p ps = value.Ensure (first ps.nodes)
part_of tokens label.SelfForm p ps = value.Singleton
part_of tokens label.Code p ps = value.Node (placed_at p.at (first ps.nodes))
part_of tokens label.GroupOf p ps = value.Node (placed_at p.at (first ps.nodes))
part_of tokens label.ElsifForm p ps = value.Arm (record { arm = arm_in ps.nodes; start = p.at.start })
part_of tokens label.Subject p ps = value.Maybe (front ps.nodes)
part_of tokens label.WhenForm p ps = value.When (when_of ps.items (first ps.nodes))
part_of tokens label.Superclass p ps = value.Maybe (front ps.nodes)
part_of tokens label.EndForm p ps = value.Maybe (front ps.nodes)
part_of tokens label.Program p ps = value.Node (placed_at (from_start p.at) (first ps.nodes))
part_of tokens label.Stmt p ps = value.Node (modified (first ps.nodes) ps.modifiers)
part_of tokens label.Modifier p ps = value.Modifier (record { word = modifier_word (kind_at tokens p.first); other = first ps.nodes })
part_of tokens other p ps = value.Nothing

-- ---- all

abbrev pub of_parts : List RubyToken → Sort → Label → Place → Parts → Value
of_parts tokens sort.Operators l p ps = value.Node (operators tokens ps.leaves ps.nodes)
of_parts tokens sort.Expression l p ps = expression tokens l p ps
of_parts tokens sort.Call l p ps = called tokens l p ps
of_parts tokens sort.Tokens l p ps = of_tokens tokens l p ps.leaves
of_parts tokens sort.Item l p ps = item_of tokens l p ps
of_parts tokens sort.Parameter l p ps = parameter tokens l p ps
of_parts tokens sort.Form l p ps = form_of tokens l p ps
of_parts tokens sort.Part l p ps = part_of tokens l p ps
of_parts tokens other l p ps = value.Nothing

abbrev pub of_sort : List RubyToken → Sort → Label → Place → List Value → Value
of_sort tokens sort.List l p values = list_of tokens l p values
of_sort tokens sort.Text l p values = text_in tokens l p values
of_sort tokens other l p values = of_parts tokens other l p (gathered values)

-- what a node with a name stands for, at its place
abbrev pub combined : List RubyToken → Label → Place → List Value → Value
combined tokens l p values = of_sort tokens (sort_of l) l p values
