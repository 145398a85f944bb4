-- Statements, bodies and their branches.
use Rattle.std.specs.Prelude.{[], ◌∷◌}
use Rattle.ruby_lexer.specs.declared.kind.RubyKind.TheVariants as k
use Rattle.ruby_lexer.specs.declared.kind.Keyword.TheVariants as w
use Rattle.ruby_lexer.specs.declared.kind.Sign.TheVariants as s
use Rattle.ruby_grammar.specs.declared.part.Part.{Part}
use Rattle.ruby_exprs.specs.declared.labels.Label.TheVariants as label
use Rattle.ruby_exprs.specs.declared.names.Name.TheVariants as n
use Rattle.ruby_exprs.specs.declared.names.Sort.TheVariants as sort
use Rattle.ruby_exprs.specs.Words.{◌then◌, ◌or◌, kind, kinds, word, words, sign, call, opened, many, some, maybe, listed, named, chained, chain}

-- Newline / ";"
unfoldable pub line_end : Part
line_end = kinds (k.Newline ∷ k.Sign s.Semicolon ∷ [])

-- Newline*
unfoldable pub newlines : Part
newlines = many (kind k.Newline)

-- program:(stmts End)
unfoldable pub program_rule : Part
program_rule = named label.Program (call n.Stmts then kind k.End)

-- (T T* stmt°)*
unfoldable pub more_statements : Part
more_statements = many (some line_end then opened n.Stmt)

-- stmts:(T* (stmt° (T T* stmt°)*)? T*)
unfoldable pub stmts_rule : Part
stmts_rule = named label.Stmts (many line_end then maybe (opened n.Stmt then more_statements) then many line_end)

-- symbol_name:Symbol
unfoldable pub short_alias : Part
short_alias = named label.SymbolName (kind k.Symbol)

-- symbol_name:(SymbolOpen Part* SymbolClose)
unfoldable pub quoted_alias : Part
quoted_alias = named label.SymbolName (kind k.SymbolOpen then many (kind k.Part) then kind k.SymbolClose)

-- symbol_name:Symbol / symbol_name:(SymbolOpen Part* SymbolClose) / name_of:name
unfoldable pub alias_name_rule : Part
alias_name_rule = short_alias or quoted_alias or call n.Mname

-- alias:("alias" alias_name alias_name)
unfoldable pub alias_form : Part
alias_form = named label.AliasForm (word w.Alias then call n.AliasName then call n.AliasName)

-- modifier:(("if" / "unless" / "rescue") expr / ("while" / "until") expr⁻)
unfoldable pub modifier : Part
modifier = named label.Modifier (words (w.If ∷ w.Unless ∷ w.Rescue ∷ []) then call (n.Expr sort.WithDo) or words (w.While ∷ w.Until ∷ [])
    then call (n.Expr sort.WithoutDo))

-- stmt~((alias / expr) chain["if" / "unless" / "while" / "until" / "rescue"]modifier)
unfoldable pub stmt_rule : Part
stmt_rule = chained label.Stmt ((alias_form or call (n.Expr sort.WithDo))
    then chain (k.Keyword w.If ∷ k.Keyword w.Unless ∷ k.Keyword w.While ∷ k.Keyword w.Until ∷ k.Keyword w.Rescue ∷ []) modifier)

-- "then" / T T* "then"?
unfoldable pub then_rule : Part
then_rule = word w.Then or some line_end then maybe (word w.Then)

-- else:("else" stmts)?
unfoldable pub else_rule : Part
else_rule = maybe (named label.ElseForm (word w.Else then call n.Stmts))

-- classes:(arg° ("," arg°)*)?
unfoldable pub rescued_classes : Part
rescued_classes = named label.Classes (maybe (listed (opened (n.Arg sort.WithDo))))

-- ("=>" variable:Identifier)?
unfoldable pub rescued_variable : Part
rescued_variable = maybe (sign s.Rocket then named label.Variable (kind k.Identifier))

-- rescue:("rescue" classes variable then stmts)
unfoldable pub rescue_form : Part
rescue_form = named label.RescueForm (word w.Rescue then rescued_classes then rescued_variable then call n.Then then call n.Stmts)

-- ensure:("ensure" stmts)?
unfoldable pub ensure_form : Part
ensure_form = maybe (named label.EnsureForm (word w.Ensure then call n.Stmts))

-- body:(stmts rescue* else ensure)
unfoldable pub body_rule : Part
body_rule = named label.Body (call n.Stmts then many rescue_form then call n.Else then ensure_form)
