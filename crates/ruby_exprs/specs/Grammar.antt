-- The whole grammar: its rules, each at its number.
use Rattle.std.specs.Prelude.{Bool, true, false, List, [], ◌∷◌, map}
use Rattle.ruby_grammar.specs.declared.part.Part.{Part}
use Rattle.ruby_grammar.specs.declared.part.Rule.{Rule}
use Rattle.ruby_grammar.specs.declared.part.Grammar.{Grammar}
use Rattle.ruby_exprs.specs.declared.names.Sort.TheVariants as sort
use Rattle.ruby_exprs.specs.declared.names.ParamList.{ParamList}
use Rattle.ruby_exprs.specs.declared.names.ParamList.TheVariants as list
use Rattle.ruby_exprs.specs.declared.names.Name.{Name}
use Rattle.ruby_exprs.specs.declared.names.Name.TheVariants as n
use Rattle.ruby_exprs.specs.Names.{rule_number}
use Rattle.ruby_exprs.specs.Assignments.{arg_rule, lhs_rule, masgn_rule, mlhs_rule, sasgn_rule}
use Rattle.ruby_exprs.specs.Calls.{args_rule, block_rule, brace_args_rule, brace_block_rule, cargs_rule, command_rule, doblock_rule, item_rule, link_rule, mname_rule, pargs_rule, post_parts_rule, post_rule}
use Rattle.ruby_exprs.specs.Definitions.{cpath_rule, def_head_rule, def_name_rule}
use Rattle.ruby_exprs.specs.Operators.{add_rule, and_rule, band_rule, bor_rule, cmp_rule, dfn_rule, eq_rule, expr_rule, min_rule, mul_rule, not_rule, or_rule, pow_rule, range_rule, shf_rule, tern_rule, una_rule}
use Rattle.ruby_exprs.specs.Parameters.{any_param, behind_keyrest_rule, behind_keyword_rule, behind_optional_rule, behind_required_rule, behind_rest_rule, block_param, bpar_rule, params_rule}
use Rattle.ruby_exprs.specs.Primaries.{prim_rule}
use Rattle.ruby_exprs.specs.Statements.{alias_name_rule, body_rule, else_rule, program_rule, stmt_rule, stmts_rule, then_rule}
use Rattle.ruby_exprs.specs.Texts.{parts_rule, str_rule}

-- a parameter of a list
abbrev pub param_rule : ParamList → Part
param_rule list.Plain = any_param sort.WithDo
param_rule list.PlainWithoutDo = any_param sort.WithoutDo
param_rule list.OfBlock = block_param

-- what a rule reads
unfoldable pub part_of : Name → Part
part_of (n.Item sort) = item_rule sort
part_of n.Cargs = cargs_rule
part_of n.Stmts = stmts_rule
part_of n.Else = else_rule
part_of n.Then = then_rule
part_of n.Body = body_rule
part_of n.Mname = mname_rule
part_of n.DefName = def_name_rule
part_of n.DefHead = def_head_rule
part_of n.Cpath = cpath_rule
part_of n.Parts = parts_rule
part_of n.Str = str_rule
part_of n.Args = args_rule
part_of n.BraceArgs = brace_args_rule
part_of n.Pargs = pargs_rule
part_of n.AliasName = alias_name_rule
part_of n.Mlhs = mlhs_rule
part_of (n.Param list) = param_rule list
part_of (n.BehindKeyrest list) = behind_keyrest_rule list
part_of (n.BehindKeyword list) = behind_keyword_rule list
part_of (n.BehindRest list) = behind_rest_rule list
part_of (n.BehindOptional list) = behind_optional_rule list
part_of (n.BehindRequired list) = behind_required_rule list
part_of (n.Params list) = params_rule list
part_of n.Bpar = bpar_rule
part_of n.Doblock = doblock_rule
part_of n.BraceBlock = brace_block_rule
part_of (n.Block sort) = block_rule sort
part_of (n.Link sort) = link_rule sort
part_of (n.Prim sort) = prim_rule sort
part_of (n.PostParts sort) = post_parts_rule sort
part_of (n.Command sort) = command_rule sort
part_of (n.Lhs sort) = lhs_rule sort
part_of (n.Masgn sort) = masgn_rule sort
part_of (n.Sasgn sort) = sasgn_rule sort
part_of (n.Post sort) = post_rule sort
part_of (n.Una sort) = una_rule sort
part_of (n.Pow sort) = pow_rule sort
part_of (n.Min sort) = min_rule sort
part_of (n.Mul sort) = mul_rule sort
part_of (n.Add sort) = add_rule sort
part_of (n.Shf sort) = shf_rule sort
part_of (n.Band sort) = band_rule sort
part_of (n.Bor sort) = bor_rule sort
part_of (n.Cmp sort) = cmp_rule sort
part_of (n.Eq sort) = eq_rule sort
part_of (n.Dfn sort) = dfn_rule sort
part_of (n.And sort) = and_rule sort
part_of (n.Or sort) = or_rule sort
part_of (n.Range sort) = range_rule sort
part_of (n.Tern sort) = tern_rule sort
part_of (n.Arg sort) = arg_rule sort
part_of (n.Not sort) = not_rule sort
part_of (n.Expr sort) = expr_rule sort
part_of n.Stmt = stmt_rule
part_of n.Program = program_rule

-- Whether what a rule derives at a place is kept: of the values, which are read again for each form that begins with one, and of the lists in
-- brackets and the parameters, which are long.
unfoldable pub is_kept : Name → Bool
is_kept n.Stmt = true
is_kept (n.Arg sort) = true
is_kept (n.Not sort) = true
is_kept (n.Command sort) = true
is_kept (n.PostParts sort) = true
is_kept n.Pargs = true
is_kept (n.Param list) = true
is_kept other = false

abbrev pub rule_of : Name → Rule
rule_of name = record { part = part_of name; kept = is_kept name }

-- all rules in the order of their numbers
unfoldable pub names : List Name
names = n.Item sort.WithDo ∷ n.Item sort.WithoutDo ∷ n.Cargs ∷ n.Stmts ∷ n.Else ∷ n.Then ∷ n.Body ∷ n.Mname ∷ n.DefName ∷ n.DefHead ∷ n.Cpath ∷
    n.Parts ∷ n.Str ∷ n.Args ∷ n.BraceArgs ∷ n.Pargs ∷ n.AliasName ∷ n.Mlhs ∷ n.Param list.Plain ∷ n.BehindKeyrest list.Plain ∷
    n.BehindKeyword list.Plain ∷ n.BehindRest list.Plain ∷ n.BehindOptional list.Plain ∷ n.BehindRequired list.Plain ∷ n.Params list.Plain ∷
    n.Param list.PlainWithoutDo ∷ n.BehindKeyrest list.PlainWithoutDo ∷ n.BehindKeyword list.PlainWithoutDo ∷ n.BehindRest list.PlainWithoutDo ∷
    n.BehindOptional list.PlainWithoutDo ∷ n.BehindRequired list.PlainWithoutDo ∷ n.Params list.PlainWithoutDo ∷ n.Param list.OfBlock ∷
    n.BehindKeyrest list.OfBlock ∷ n.BehindKeyword list.OfBlock ∷ n.BehindRest list.OfBlock ∷ n.BehindOptional list.OfBlock ∷
    n.BehindRequired list.OfBlock ∷ n.Params list.OfBlock ∷ n.Bpar ∷ n.Doblock ∷ n.BraceBlock ∷ n.Block sort.WithDo ∷ n.Link sort.WithDo ∷
    n.Prim sort.WithDo ∷ n.PostParts sort.WithDo ∷ n.Command sort.WithDo ∷ n.Lhs sort.WithDo ∷ n.Masgn sort.WithDo ∷ n.Sasgn sort.WithDo ∷
    n.Post sort.WithDo ∷ n.Una sort.WithDo ∷ n.Pow sort.WithDo ∷ n.Min sort.WithDo ∷ n.Mul sort.WithDo ∷ n.Add sort.WithDo ∷ n.Shf sort.WithDo ∷
    n.Band sort.WithDo ∷ n.Bor sort.WithDo ∷ n.Cmp sort.WithDo ∷ n.Eq sort.WithDo ∷ n.Dfn sort.WithDo ∷ n.And sort.WithDo ∷ n.Or sort.WithDo ∷
    n.Range sort.WithDo ∷ n.Tern sort.WithDo ∷ n.Arg sort.WithDo ∷ n.Not sort.WithDo ∷ n.Expr sort.WithDo ∷ n.Block sort.WithoutDo ∷
    n.Link sort.WithoutDo ∷ n.Prim sort.WithoutDo ∷ n.PostParts sort.WithoutDo ∷ n.Command sort.WithoutDo ∷ n.Lhs sort.WithoutDo ∷
    n.Masgn sort.WithoutDo ∷ n.Sasgn sort.WithoutDo ∷ n.Post sort.WithoutDo ∷ n.Una sort.WithoutDo ∷ n.Pow sort.WithoutDo ∷ n.Min sort.WithoutDo ∷
    n.Mul sort.WithoutDo ∷ n.Add sort.WithoutDo ∷ n.Shf sort.WithoutDo ∷ n.Band sort.WithoutDo ∷ n.Bor sort.WithoutDo ∷ n.Cmp sort.WithoutDo ∷
    n.Eq sort.WithoutDo ∷ n.Dfn sort.WithoutDo ∷ n.And sort.WithoutDo ∷ n.Or sort.WithoutDo ∷ n.Range sort.WithoutDo ∷ n.Tern sort.WithoutDo ∷
    n.Arg sort.WithoutDo ∷ n.Not sort.WithoutDo ∷ n.Expr sort.WithoutDo ∷ n.Stmt ∷ n.Program ∷ []

-- The grammar of Ruby programs.
unfoldable pub ruby_grammar : Grammar
ruby_grammar = record { rules = map rule_of names; start = rule_number n.Program }
