-- The names of the nodes, by their numbers.
use Rattle.std.specs.Prelude.{ℕ, List, [], ◌∷◌}
use Rattle.ruby_exprs.specs.declared.labels.Label.{Label}
use Rattle.ruby_exprs.specs.declared.labels.Label.TheVariants as label

-- the number of a name
abbrev pub label_number : Label → ℕ
label_number label.Splat = 0
label_number label.DoubleSplat = 1
label_number label.BlockPass = 2
label_number label.LabelItem = 3
label_number label.Pair = 4
label_number label.Cargs = 5
label_number label.Stmts = 6
label_number label.ElseForm = 7
label_number label.Body = 8
label_number label.RescueForm = 9
label_number label.Classes = 10
label_number label.Variable = 11
label_number label.EnsureForm = 12
label_number label.Opt = 13
label_number label.Req = 14
label_number label.Rest = 15
label_number label.Key = 16
label_number label.Keyrest = 17
label_number label.Blockarg = 18
label_number label.Group = 19
label_number label.Post = 20
label_number label.Params = 21
label_number label.Block = 22
label_number label.Args = 23
label_number label.NameOf = 24
label_number label.Pargs = 25
label_number label.CallLink = 26
label_number label.NameLink = 27
label_number label.CallOfCall = 28
label_number label.ConstLink = 29
label_number label.Index = 30
label_number label.Cpath = 31
label_number label.NameSet = 32
label_number label.SelfForm = 33
label_number label.Code = 34
label_number label.Str = 35
label_number label.Int = 36
label_number label.Strs = 37
label_number label.Sym = 38
label_number label.Dsym = 39
label_number label.Regexp = 40
label_number label.Words = 41
label_number label.Heredoc = 42
label_number label.Word = 43
label_number label.TopConst = 44
label_number label.ConstCall = 45
label_number label.Const = 46
label_number label.GroupOf = 47
label_number label.Array = 48
label_number label.Hash = 49
label_number label.Lambda = 50
label_number label.IfForm = 51
label_number label.ElsifForm = 52
label_number label.CaseForm = 53
label_number label.Subject = 54
label_number label.WhenForm = 55
label_number label.Items = 56
label_number label.WhileForm = 57
label_number label.BeginForm = 58
label_number label.YieldForm = 59
label_number label.ReturnForm = 60
label_number label.ShortDef = 61
label_number label.DefForm = 62
label_number label.SingletonClass = 63
label_number label.ClassForm = 64
label_number label.Superclass = 65
label_number label.ModuleForm = 66
label_number label.Call = 67
label_number label.Name = 68
label_number label.Command = 69
label_number label.Mlhs = 70
label_number label.Masgn = 71
label_number label.Values = 72
label_number label.Asgn = 73
label_number label.NotForm = 74
label_number label.Expr = 75
label_number label.Unary = 76
label_number label.Pow = 77
label_number label.Minus = 78
label_number label.Mul = 79
label_number label.Add = 80
label_number label.Shf = 81
label_number label.Band = 82
label_number label.Bor = 83
label_number label.Cmp = 84
label_number label.Eq = 85
label_number label.DefinedForm = 86
label_number label.AndForm = 87
label_number label.OrForm = 88
label_number label.Range = 89
label_number label.EndForm = 90
label_number label.Beginless = 91
label_number label.Tern = 92
label_number label.Opasgn = 93
label_number label.Program = 94
label_number label.SymbolName = 95
label_number label.Stmt = 96
label_number label.AliasForm = 97
label_number label.Modifier = 98

-- all names, each at its number
unfoldable pub labels : List Label
labels = label.Splat ∷ label.DoubleSplat ∷ label.BlockPass ∷ label.LabelItem ∷ label.Pair ∷ label.Cargs ∷ label.Stmts ∷ label.ElseForm ∷
    label.Body ∷ label.RescueForm ∷ label.Classes ∷ label.Variable ∷ label.EnsureForm ∷ label.Opt ∷ label.Req ∷ label.Rest ∷ label.Key ∷
    label.Keyrest ∷ label.Blockarg ∷ label.Group ∷ label.Post ∷ label.Params ∷ label.Block ∷ label.Args ∷ label.NameOf ∷ label.Pargs ∷
    label.CallLink ∷ label.NameLink ∷ label.CallOfCall ∷ label.ConstLink ∷ label.Index ∷ label.Cpath ∷ label.NameSet ∷ label.SelfForm ∷
    label.Code ∷ label.Str ∷ label.Int ∷ label.Strs ∷ label.Sym ∷ label.Dsym ∷ label.Regexp ∷ label.Words ∷ label.Heredoc ∷ label.Word ∷
    label.TopConst ∷ label.ConstCall ∷ label.Const ∷ label.GroupOf ∷ label.Array ∷ label.Hash ∷ label.Lambda ∷ label.IfForm ∷ label.ElsifForm ∷
    label.CaseForm ∷ label.Subject ∷ label.WhenForm ∷ label.Items ∷ label.WhileForm ∷ label.BeginForm ∷ label.YieldForm ∷ label.ReturnForm ∷
    label.ShortDef ∷ label.DefForm ∷ label.SingletonClass ∷ label.ClassForm ∷ label.Superclass ∷ label.ModuleForm ∷ label.Call ∷ label.Name ∷
    label.Command ∷ label.Mlhs ∷ label.Masgn ∷ label.Values ∷ label.Asgn ∷ label.NotForm ∷ label.Expr ∷ label.Unary ∷ label.Pow ∷ label.Minus ∷
    label.Mul ∷ label.Add ∷ label.Shf ∷ label.Band ∷ label.Bor ∷ label.Cmp ∷ label.Eq ∷ label.DefinedForm ∷ label.AndForm ∷ label.OrForm ∷
    label.Range ∷ label.EndForm ∷ label.Beginless ∷ label.Tern ∷ label.Opasgn ∷ label.Program ∷ label.SymbolName ∷ label.Stmt ∷ label.AliasForm ∷
    label.Modifier ∷ []
