-- Arguments, blocks and links.
use Rattle.std.specs.Prelude.{[], ◌∷◌}
use Rattle.ruby_lexer.specs.declared.kind.RubyKind.TheVariants as k
use Rattle.ruby_lexer.specs.declared.kind.Keyword.TheVariants as w
use Rattle.ruby_lexer.specs.declared.kind.Sign.TheVariants as s
use Rattle.ruby_grammar.specs.declared.part.Part.{Part}
use Rattle.ruby_exprs.specs.declared.labels.Label.TheVariants as label
use Rattle.ruby_exprs.specs.declared.names.Name.TheVariants as n
use Rattle.ruby_exprs.specs.declared.names.Sort.{Sort}
use Rattle.ruby_exprs.specs.declared.names.Sort.TheVariants as sort
use Rattle.ruby_exprs.specs.Words.{
  ◌then◌,
  ◌or◌,
  kind,
  kinds,
  word,
  sign,
  signs,
  prefix,
  adjacent,
  blank_and_none_of,
  call,
  opened,
  maybe,
  listed,
  absent,
  ahead,
  named,
  chained,
  ended,
  chain,
}
use Rattle.ruby_exprs.specs.Statements.{newlines}

-- splat:("*"ᵖ arg°)
unfoldable pub splat : Sort → Part
splat sort = named label.Splat (prefix s.Star then opened (n.Arg sort))

-- double_splat:("**"ᵖ arg°)
unfoldable pub double_splat : Sort → Part
double_splat sort = named label.DoubleSplat (prefix s.StarStar then opened (n.Arg sort))

-- block_pass:("&"ᵖ arg°)
unfoldable pub block_pass : Sort → Part
block_pass sort = named label.BlockPass (prefix s.Ampersand then opened (n.Arg sort))

-- label:(Label arg°?)
unfoldable pub labelled : Sort → Part
labelled sort = named label.LabelItem (kind k.Label then maybe (opened (n.Arg sort)))

-- pair:(arg° "=>" arg°)
unfoldable pub pair : Sort → Part
pair sort = named label.Pair (opened (n.Arg sort) then sign s.Rocket then opened (n.Arg sort))

-- splat / double_splat / block_pass / label / pair / arg°
unfoldable pub item_rule : Sort → Part
item_rule sort = splat sort or double_splat sort or block_pass sort or labelled sort or pair sort or opened (n.Arg sort)

-- cargs:(!!(a blank before any token but ("if" / "unless" / "while" / "until" / ".." / "...")) item⁻ ("," item⁻)*)
unfoldable pub cargs_rule : Part
cargs_rule = named label.Cargs (ahead (blank_and_none_of (k.Keyword w.If ∷ k.Keyword w.Unless ∷ k.Keyword w.While ∷ k.Keyword w.Until ∷ k.Sign
    s.DotDot ∷ k.Sign s.DotDotDot ∷ [])) then listed (call (n.Item sort.WithoutDo)))

-- args:(item ("," item)* ","?)?
unfoldable pub args_rule : Part
args_rule = named label.Args (maybe (listed (call (n.Item sort.WithDo)) then maybe (sign s.Comma)))

-- pargs:((no blank "(") args Newline* ")")
unfoldable pub pargs_rule : Part
pargs_rule = named label.Pargs (adjacent s.LeftParen then call n.Args then newlines then sign s.RightParen)

-- item ended in {label pair double_splat}
unfoldable pub brace_item : Part
brace_item = ended (label.LabelItem ∷ label.Pair ∷ label.DoubleSplat ∷ []) (call (n.Item sort.WithDo))

-- args:(brace_item ("," brace_item)* ","?)?
unfoldable pub brace_args_rule : Part
brace_args_rule = named label.Args (maybe (listed brace_item then maybe (sign s.Comma)))

-- block:("do" bpar? body "end")
unfoldable pub doblock_rule : Part
doblock_rule = named label.Block (word w.Do then maybe (call n.Bpar) then call n.Body then word w.End)

-- block:("{" bpar? stmts "}")
unfoldable pub brace_block_rule : Part
brace_block_rule = named label.Block (sign s.LeftBrace then maybe (call n.Bpar) then call n.Stmts then sign s.RightBrace)

-- brace_block / doblock; without do brace_block alone
unfoldable pub block_rule : Sort → Part
block_rule sort.WithDo = call n.BraceBlock or call n.Doblock
block_rule sort.WithoutDo = call n.BraceBlock

-- name_of:(NamedWord / NamedConstant / NamedSelf / NamedOperator)
unfoldable pub mname_rule : Part
mname_rule = named label.NameOf (kinds (k.NamedWord ∷ k.NamedConstant ∷ k.NamedSelf ∷ k.NamedOperator ∷ []))

-- call_link:(("." / "&.") mname pargs block?)
unfoldable pub dot_call : Sort → Part
dot_call sort = named label.CallLink (signs (s.Dot ∷ s.SafeDot ∷ []) then call n.Mname then call n.Pargs then maybe (call (n.Block sort)))

-- call_link:(("." / "&.") mname block)
unfoldable pub dot_block_call : Sort → Part
dot_block_call sort = named label.CallLink (signs (s.Dot ∷ s.SafeDot ∷ []) then call n.Mname then call (n.Block sort))

-- name_link:(("." / "&.") mname)
unfoldable pub dot_name : Part
dot_name = named label.NameLink (signs (s.Dot ∷ s.SafeDot ∷ []) then call n.Mname)

-- call_link:("::" mname pargs block?)
unfoldable pub scope_call : Sort → Part
scope_call sort = named label.CallLink (sign s.ColonColon then call n.Mname then call n.Pargs then maybe (call (n.Block sort)))

-- call_link:("::" mname block)
unfoldable pub scope_block_call : Sort → Part
scope_block_call sort = named label.CallLink (sign s.ColonColon then call n.Mname then call (n.Block sort))

-- name_link:("::" mname)
unfoldable pub scope_name : Part
scope_name = named label.NameLink (sign s.ColonColon then call n.Mname)

-- call_of_call:(("." / "&.") pargs block?)
unfoldable pub call_of_call : Sort → Part
call_of_call sort = named label.CallOfCall (signs (s.Dot ∷ s.SafeDot ∷ []) then call n.Pargs then maybe (call (n.Block sort)))

-- const_link:("::" NamedConstant !pargs)
unfoldable pub const_link : Part
const_link = named label.ConstLink (sign s.ColonColon then kind k.NamedConstant then absent (call n.Pargs))

-- index:("[" args Newline* "]")
unfoldable pub index_link : Part
index_link = named label.Index (sign s.LeftBracket then call n.Args then newlines then sign s.RightBracket)

-- call_link:(("." / "&.") mname pargs block?) / call_link:(("." / "&.") mname block) / name_link:(("." / "&.") mname) / call_of_call
unfoldable pub dot_link : Sort → Part
dot_link sort = dot_call sort or dot_block_call sort or dot_name or call_of_call sort

-- const_link / call_link:("::" mname pargs block?) / call_link:("::" mname block) / name_link:("::" mname)
unfoldable pub scope_link : Sort → Part
scope_link sort = const_link or scope_call sort or scope_block_call sort or scope_name

-- dot_link / scope_link / index
unfoldable pub link_rule : Sort → Part
link_rule sort = dot_link sort or scope_link sort or index_link

-- prim chain["." / "&." / "::" / "["]link
unfoldable pub post_parts_rule : Sort → Part
post_parts_rule sort = call (n.Prim sort)
    then chain (k.Sign s.Dot ∷ k.Sign s.SafeDot ∷ k.Sign s.ColonColon ∷ k.Sign s.LeftBracket ∷ []) (call (n.Link sort))

-- post~post_parts
unfoldable pub post_rule : Sort → Part
post_rule sort = chained label.Post (call (n.PostParts sort))

-- post:(post_parts ended in {name name_link}) cargs
unfoldable pub command_head : Sort → Part
command_head sort = named label.Post (ended (label.Name ∷ label.NameLink ∷ []) (call (n.PostParts sort))) then call n.Cargs

-- command:(command_head doblock?); without do no doblock
unfoldable pub command_rule : Sort → Part
command_rule sort.WithDo = named label.Command (command_head sort.WithDo then maybe (call n.Doblock))
command_rule sort.WithoutDo = named label.Command (command_head sort.WithoutDo)
