-- Values that no operator joins.
use Rattle.std.specs.Prelude.{[], ◌∷◌}
use Rattle.ruby_lexer.specs.declared.kind.RubyKind.TheVariants as k
use Rattle.ruby_lexer.specs.declared.kind.Keyword.TheVariants as w
use Rattle.ruby_lexer.specs.declared.kind.Sign.TheVariants as s
use Rattle.ruby_grammar.specs.declared.part.Part.{Part}
use Rattle.ruby_exprs.specs.declared.labels.Label.TheVariants as label
use Rattle.ruby_exprs.specs.declared.names.Name.TheVariants as n
use Rattle.ruby_exprs.specs.declared.names.Sort.{Sort}
use Rattle.ruby_exprs.specs.declared.names.ParamList.TheVariants as list
use Rattle.ruby_exprs.specs.Words.{◌then◌, ◌or◌, kind, kinds, word, words, sign, prefix, call, some, maybe, named}
use Rattle.ruby_exprs.specs.Names.{list_of}
use Rattle.ruby_exprs.specs.Definitions.{definition}
use Rattle.ruby_exprs.specs.Forms.{branching, leaving}
use Rattle.ruby_exprs.specs.Statements.{newlines}
use Rattle.ruby_exprs.specs.Texts.{dsym, heredoc, regexp, word_list}

-- strs:(str str*)
unfoldable pub strs : Part
strs = named label.Strs (some (call n.Str))

-- int:Integer / strs / sym:Symbol / dsym / regexp / words / heredoc
unfoldable pub literal : Part
literal = named label.Int (kind k.Integer) or strs or named label.Sym (kind k.Symbol) or dsym or regexp or word_list or heredoc

-- word:("nil" / "true" / "false" / "self" / "__FILE__")
unfoldable pub value_word : Part
value_word = named label.Word (words (w.Nil ∷ w.True ∷ w.False ∷ w.SelfWord ∷ w.File ∷ []))

-- variable:(InstanceVariable / ClassVariable / GlobalVariable)
unfoldable pub variable : Part
variable = named label.Variable (kinds (k.InstanceVariable ∷ k.ClassVariable ∷ k.GlobalVariable ∷ []))

-- top_const:("::"ᵖ Constant)
unfoldable pub top_const : Part
top_const = named label.TopConst (prefix s.ColonColon then kind k.Constant)

-- const_call:(Constant pargs block?)
unfoldable pub const_call : Sort → Part
const_call sort = named label.ConstCall (kind k.Constant then call n.Pargs then maybe (call (n.Block sort)))

-- word / variable / top_const / const_call / const:Constant
unfoldable pub named_value : Sort → Part
named_value sort = value_word or variable or top_const or const_call sort or named label.Const (kind k.Constant)

-- group_of:("(" stmts ")")
unfoldable pub group_of : Part
group_of = named label.GroupOf (sign s.LeftParen then call n.Stmts then sign s.RightParen)

-- array:("["ᵖ args Newline* "]")
unfoldable pub array : Part
array = named label.Array (prefix s.LeftBracket then call n.Args then newlines then sign s.RightBracket)

-- hash:("{"ᵖ brace_args Newline* "}")
unfoldable pub hash : Part
hash = named label.Hash (prefix s.LeftBrace then call n.BraceArgs then newlines then sign s.RightBrace)

-- "(" params ")" / params
unfoldable pub lambda_params : Sort → Part
lambda_params sort = sign s.LeftParen then call (n.Params list.Plain) then sign s.RightParen or call (n.Params (list_of sort))

-- ("{" / "{"ᵖ) stmts "}" / "do" body "end"
unfoldable pub lambda_body : Part
lambda_body = kinds (k.Sign s.LeftBrace ∷ k.Prefix s.LeftBrace ∷ []) then call n.Stmts then sign s.RightBrace or word w.Do then call n.Body
    then word w.End

-- lambda:("->" lambda_params lambda_body)
unfoldable pub lambda : Sort → Part
lambda sort = named label.Lambda (sign s.Arrow then lambda_params sort then lambda_body)

-- group_of / array / hash / lambda
unfoldable pub bracketed : Sort → Part
bracketed sort = group_of or array or hash or lambda sort

-- call:(Identifier pargs block?)
unfoldable pub call_of_name : Sort → Part
call_of_name sort = named label.Call (kind k.Identifier then call n.Pargs then maybe (call (n.Block sort)))

-- call:(Identifier block)
unfoldable pub call_with_block : Sort → Part
call_with_block sort = named label.Call (kind k.Identifier then call (n.Block sort))

-- call:(Identifier pargs block?) / call:(Identifier block) / name:Identifier
unfoldable pub name_or_call : Sort → Part
name_or_call sort = call_of_name sort or call_with_block sort or named label.Name (kind k.Identifier)

-- literal / named_value / bracketed / branching / leaving / definition / name_or_call, nested in halves so that none is far down
unfoldable pub prim_rule : Sort → Part
prim_rule sort = ((literal or named_value sort) or (bracketed sort or branching sort)) or ((leaving sort or definition sort) or name_or_call sort)
