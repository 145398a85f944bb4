-- Strings, symbols in quotes, regexps, word lists and heredocs.
use Rattle.ruby_lexer.specs.declared.kind.RubyKind.TheVariants as k
use Rattle.ruby_grammar.specs.declared.part.Part.{Part}
use Rattle.ruby_exprs.specs.declared.labels.Label.TheVariants as label
use Rattle.ruby_exprs.specs.declared.names.Name.TheVariants as n
use Rattle.ruby_exprs.specs.Words.{◌then◌, ◌or◌, kind, call, many, named}

-- code:(CodeOpen stmts CodeClose)
unfoldable pub code : Part
code = named label.Code (kind k.CodeOpen then call n.Stmts then kind k.CodeClose)

-- (Part / code)*
unfoldable pub parts_rule : Part
parts_rule = many (kind k.Part or code)

-- str:(StringOpen parts StringClose)
unfoldable pub str_rule : Part
str_rule = named label.Str (kind k.StringOpen then call n.Parts then kind k.StringClose)

-- dsym:(SymbolOpen parts SymbolClose)
unfoldable pub dsym : Part
dsym = named label.Dsym (kind k.SymbolOpen then call n.Parts then kind k.SymbolClose)

-- regexp:(RegexpOpen parts RegexpClose)
unfoldable pub regexp : Part
regexp = named label.Regexp (kind k.RegexpOpen then call n.Parts then kind k.RegexpClose)

-- words:(WordsOpen Word* WordsClose)
unfoldable pub word_list : Part
word_list = named label.Words (kind k.WordsOpen then many (kind k.Word) then kind k.WordsClose)

-- heredoc:(HeredocOpen parts HeredocClose)
unfoldable pub heredoc : Part
heredoc = named label.Heredoc (kind k.HeredocOpen then call n.Parts then kind k.HeredocClose)
