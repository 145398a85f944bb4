-- The rules of the grammar, by their names, and their order.
use Rattle.std.specs.Prelude.{ℕ, ◌+◌}
use Rattle.ruby_exprs.specs.declared.names.Sort.{Sort}
use Rattle.ruby_exprs.specs.declared.names.Sort.TheVariants as sort
use Rattle.ruby_exprs.specs.declared.names.ParamList.{ParamList}
use Rattle.ruby_exprs.specs.declared.names.ParamList.TheVariants as list
use Rattle.ruby_exprs.specs.declared.names.Name.{Name}
use Rattle.ruby_exprs.specs.declared.names.Name.TheVariants as n

-- the lists of parameters of a method or a lambda where blocks are of a sort
abbrev pub list_of : Sort → ParamList
list_of sort.WithDo = list.Plain
list_of sort.WithoutDo = list.PlainWithoutDo

-- ---- numbers: a rule calls rules of lower numbers

abbrev pub item_number : Sort → ℕ
item_number sort.WithDo = 0
item_number sort.WithoutDo = 1

-- of the first rule of a list's parameters
abbrev pub first_of_list : ParamList → ℕ
first_of_list list.Plain = 18
first_of_list list.PlainWithoutDo = 25
first_of_list list.OfBlock = 32

-- of the first rule of a sort
abbrev pub first_of_sort : Sort → ℕ
first_of_sort sort.WithDo = 42
first_of_sort sort.WithoutDo = 69

-- Of a rule.
unfoldable pub rule_number : Name → ℕ
rule_number (n.Item sort) = item_number sort
rule_number n.Cargs = 2
rule_number n.Stmts = 3
rule_number n.Else = 4
rule_number n.Then = 5
rule_number n.Body = 6
rule_number n.Mname = 7
rule_number n.DefName = 8
rule_number n.DefHead = 9
rule_number n.Cpath = 10
rule_number n.Parts = 11
rule_number n.Str = 12
rule_number n.Args = 13
rule_number n.BraceArgs = 14
rule_number n.Pargs = 15
rule_number n.AliasName = 16
rule_number n.Mlhs = 17
rule_number (n.Param list) = first_of_list list
rule_number (n.BehindKeyrest list) = first_of_list list + 1
rule_number (n.BehindKeyword list) = first_of_list list + 2
rule_number (n.BehindRest list) = first_of_list list + 3
rule_number (n.BehindOptional list) = first_of_list list + 4
rule_number (n.BehindRequired list) = first_of_list list + 5
rule_number (n.Params list) = first_of_list list + 6
rule_number n.Bpar = 39
rule_number n.Doblock = 40
rule_number n.BraceBlock = 41
rule_number (n.Block sort) = first_of_sort sort
rule_number (n.Link sort) = first_of_sort sort + 1
rule_number (n.Prim sort) = first_of_sort sort + 2
rule_number (n.PostParts sort) = first_of_sort sort + 3
rule_number (n.Command sort) = first_of_sort sort + 4
rule_number (n.Lhs sort) = first_of_sort sort + 5
rule_number (n.Masgn sort) = first_of_sort sort + 6
rule_number (n.Sasgn sort) = first_of_sort sort + 7
rule_number (n.Post sort) = first_of_sort sort + 8
rule_number (n.Una sort) = first_of_sort sort + 9
rule_number (n.Pow sort) = first_of_sort sort + 10
rule_number (n.Min sort) = first_of_sort sort + 11
rule_number (n.Mul sort) = first_of_sort sort + 12
rule_number (n.Add sort) = first_of_sort sort + 13
rule_number (n.Shf sort) = first_of_sort sort + 14
rule_number (n.Band sort) = first_of_sort sort + 15
rule_number (n.Bor sort) = first_of_sort sort + 16
rule_number (n.Cmp sort) = first_of_sort sort + 17
rule_number (n.Eq sort) = first_of_sort sort + 18
rule_number (n.Dfn sort) = first_of_sort sort + 19
rule_number (n.And sort) = first_of_sort sort + 20
rule_number (n.Or sort) = first_of_sort sort + 21
rule_number (n.Range sort) = first_of_sort sort + 22
rule_number (n.Tern sort) = first_of_sort sort + 23
rule_number (n.Arg sort) = first_of_sort sort + 24
rule_number (n.Not sort) = first_of_sort sort + 25
rule_number (n.Expr sort) = first_of_sort sort + 26
rule_number n.Stmt = 96
rule_number n.Program = 97
