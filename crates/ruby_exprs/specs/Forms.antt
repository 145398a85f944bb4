-- Forms that begin with a keyword.
use Rattle.std.specs.Prelude.{[], ◌∷◌}
use Rattle.ruby_lexer.specs.declared.kind.Keyword.TheVariants as w
use Rattle.ruby_grammar.specs.declared.part.Part.{Part}
use Rattle.ruby_exprs.specs.declared.labels.Label.TheVariants as label
use Rattle.ruby_exprs.specs.declared.names.Name.TheVariants as n
use Rattle.ruby_exprs.specs.declared.names.Sort.{Sort}
use Rattle.ruby_exprs.specs.declared.names.Sort.TheVariants as sort
use Rattle.ruby_exprs.specs.Words.{◌then◌, ◌or◌, word, words, call, opened, opened_word, many, some, maybe, listed, absent, named}
use Rattle.ruby_exprs.specs.Statements.{line_end}

-- elsif:("elsif" expr°° then stmts)
unfoldable pub elsif_form : Sort → Part
elsif_form sort = named label.ElsifForm (word w.Elsif then opened_word (n.Expr sort) then call n.Then then call n.Stmts)

-- if:(("if" / "unless") expr°° then stmts elsif* else "end")
unfoldable pub if_form : Sort → Part
if_form sort = named label.IfForm (words (w.If ∷ w.Unless ∷ []) then opened_word (n.Expr sort) then call n.Then then call n.Stmts
    then many (elsif_form sort) then call n.Else then word w.End)

-- when:("when" items:(item ("," item)*) then stmts)
unfoldable pub when_form : Sort → Part
when_form sort = named label.WhenForm (word w.When then named label.Items (listed (call (n.Item sort))) then call n.Then then call n.Stmts)

-- case:("case" subject:(expr°°?) T* when when* else "end")
unfoldable pub case_form : Sort → Part
case_form sort = named label.CaseForm (word w.Case then named label.Subject (maybe (opened_word (n.Expr sort))) then many line_end
    then some (when_form sort) then call n.Else then word w.End)

-- while:(("while" / "until") expr⁻°° ("do" / T) stmts "end")
unfoldable pub while_form : Part
while_form = named label.WhileForm (words (w.While ∷ w.Until ∷ []) then opened_word (n.Expr sort.WithoutDo) then (word w.Do or line_end)
    then call n.Stmts then word w.End)

-- begin:("begin" body "end")
unfoldable pub begin_form : Part
begin_form = named label.BeginForm (word w.Begin then call n.Body then word w.End)

-- yield:(("yield" / "super") (pargs / cargs)? block?)
unfoldable pub yield_form : Sort → Part
yield_form sort = named label.YieldForm (words (w.Yield ∷ w.Super ∷ []) then maybe (call n.Pargs or call n.Cargs) then maybe (call (n.Block sort)))

-- (!("if" / "unless" / "while" / "until") (command°° / arg° ("," arg°)*))?
unfoldable pub returned : Sort → Part
returned sort = maybe (absent (words (w.If ∷ w.Unless ∷ w.While ∷ w.Until ∷ [])) then (opened_word (n.Command sort)
    or listed (opened (n.Arg sort))))

-- return:(("return" / "break" / "next") returned)
unfoldable pub return_form : Sort → Part
return_form sort = named label.ReturnForm (words (w.Return ∷ w.Break ∷ w.Next ∷ []) then returned sort)

-- if / case / while / begin
unfoldable pub branching : Sort → Part
branching sort = if_form sort or case_form sort or while_form or begin_form

-- yield / return
unfoldable pub leaving : Sort → Part
leaving sort = yield_form sort or return_form sort
