-- Operators.
use Rattle.std.specs.Prelude.{[], ◌∷◌}
use Rattle.ruby_lexer.specs.declared.kind.RubyKind.TheVariants as k
use Rattle.ruby_lexer.specs.declared.kind.Keyword.TheVariants as w
use Rattle.ruby_lexer.specs.declared.kind.Sign.TheVariants as s
use Rattle.ruby_grammar.specs.declared.part.Part.{Part}
use Rattle.ruby_exprs.specs.declared.labels.Label.TheVariants as label
use Rattle.ruby_exprs.specs.declared.names.Name.TheVariants as n
use Rattle.ruby_exprs.specs.declared.names.Sort.{Sort}
use Rattle.ruby_exprs.specs.Words.{◌then◌, ◌or◌, kinds, word, words, sign, signs, prefix, call, opened, maybe, named, chained, chain, operators}
use Rattle.ruby_exprs.specs.Statements.{newlines}

-- expr~(not chain["and" / "or"](("and" / "or") Newline* not))
unfoldable pub expr_rule : Sort → Part
expr_rule sort = chained label.Expr (call (n.Not sort) then chain (k.Keyword w.And ∷ k.Keyword w.Or ∷ []) (words (w.And ∷ w.Or ∷ [])
    then newlines then call (n.Not sort)))

-- not:("not" not°)
unfoldable pub not_form : Sort → Part
not_form sort = named label.NotForm (word w.Not then opened (n.Not sort))

-- not_form / masgn / sasgn / command / arg°
unfoldable pub not_rule : Sort → Part
not_rule sort = not_form sort or call (n.Masgn sort) or call (n.Sasgn sort) or call (n.Command sort) or opened (n.Arg sort)

-- ("?" arg° Newline* ":" arg°)?
unfoldable pub choice : Sort → Part
choice sort = maybe (sign s.Question then opened (n.Arg sort) then newlines then sign s.Colon then opened (n.Arg sort))

-- tern~(range choice)
unfoldable pub tern_rule : Sort → Part
tern_rule sort = chained label.Tern (call (n.Range sort) then choice sort)

-- ((".." / "...") end:or?)?
unfoldable pub range_end : Sort → Part
range_end sort = maybe (signs (s.DotDot ∷ s.DotDotDot ∷ []) then named label.EndForm (maybe (call (n.Or sort))))

-- beginless:((".." / "...") or)
unfoldable pub beginless : Sort → Part
beginless sort = named label.Beginless (signs (s.DotDot ∷ s.DotDotDot ∷ []) then call (n.Or sort))

-- range~(or range_end) / beginless
unfoldable pub range_rule : Sort → Part
range_rule sort = chained label.Range (call (n.Or sort) then range_end sort) or beginless sort

-- or~(and chain["||"]("||" and))
unfoldable pub or_rule : Sort → Part
or_rule sort = operators label.OrForm (n.And sort) (s.BarBar ∷ [])

-- and~(dfn chain["&&"]("&&" dfn))
unfoldable pub and_rule : Sort → Part
and_rule sort = operators label.AndForm (n.Dfn sort) (s.AmpersandAmpersand ∷ [])

-- defined:("defined?" dfn°) / eq
unfoldable pub dfn_rule : Sort → Part
dfn_rule sort = named label.DefinedForm (word w.Defined then opened (n.Dfn sort)) or call (n.Eq sort)

-- eq~(cmp (("==" / "!=" / "===" / "=~" / "!~" / "<=>") cmp)?)
unfoldable pub eq_rule : Sort → Part
eq_rule sort = chained label.Eq (call (n.Cmp sort)
    then maybe (signs (s.EqualsEquals ∷ s.BangEquals ∷ s.EqualsEqualsEquals ∷ s.EqualsTilde ∷ s.BangTilde ∷ s.Spaceship ∷ [])
    then call (n.Cmp sort)))

-- cmp~(bor chain["<" / "<=" / ">" / ">="](("<" / "<=" / ">" / ">=") bor))
unfoldable pub cmp_rule : Sort → Part
cmp_rule sort = operators label.Cmp (n.Bor sort) (s.Less ∷ s.LessEquals ∷ s.Greater ∷ s.GreaterEquals ∷ [])

-- bor~(band chain["|" / "^"](("|" / "^") band))
unfoldable pub bor_rule : Sort → Part
bor_rule sort = operators label.Bor (n.Band sort) (s.Bar ∷ s.Caret ∷ [])

-- band~(shf chain["&"]("&" shf))
unfoldable pub band_rule : Sort → Part
band_rule sort = operators label.Band (n.Shf sort) (s.Ampersand ∷ [])

-- shf~(add chain["<<" / ">>"](("<<" / ">>") add))
unfoldable pub shf_rule : Sort → Part
shf_rule sort = operators label.Shf (n.Add sort) (s.LessLess ∷ s.GreaterGreater ∷ [])

-- add~(mul chain["+" / "-"](("+" / "-") mul))
unfoldable pub add_rule : Sort → Part
add_rule sort = operators label.Add (n.Mul sort) (s.Plus ∷ s.Minus ∷ [])

-- mul~(min chain["*" / "/" / "%"](("*" / "/" / "%") min))
unfoldable pub mul_rule : Sort → Part
mul_rule sort = operators label.Mul (n.Min sort) (s.Star ∷ s.Slash ∷ s.Percent ∷ [])

-- minus:("-"ᵖ min°) / pow
unfoldable pub min_rule : Sort → Part
min_rule sort = named label.Minus (prefix s.Minus then opened (n.Min sort)) or call (n.Pow sort)

-- pow~(una ("**" min°)?)
unfoldable pub pow_rule : Sort → Part
pow_rule sort = chained label.Pow (call (n.Una sort) then maybe (sign s.StarStar then opened (n.Min sort)))

-- unary:(("!" / "~" / "+"ᵖ) una°) / post
unfoldable pub una_rule : Sort → Part
una_rule sort = named label.Unary (kinds (k.Sign s.Bang ∷ k.Sign s.Tilde ∷ k.Prefix s.Plus ∷ []) then opened (n.Una sort)) or call (n.Post sort)
