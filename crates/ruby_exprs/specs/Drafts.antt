-- Parts that are put together.
use Rattle.std.specs.Prelude.{◌≡◌, IfOk}
use Rattle.ruby_grammar.specs.declared.part.Part.{Part}
use Rattle.ruby_exprs.specs.declared.draft.Draft.{Draft}

-- It is this part, where there was memory for it.
unfoldable pub Makes : Draft → Part → Type 0
Makes draft part = IfOk draft.part (λ p. p ≡ part)
