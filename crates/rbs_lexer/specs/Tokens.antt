-- A token, as contracts see it.
use Rattle.std.specs.Prelude.{ℕ, Bool, List}
use Rattle.src_text.specs.declared.span.Span.{Span}
use Rattle.rbs_lexer.specs.declared.kind.Kind.{Kind}

pub record Token : Type 0 where
  pub kind : Kind
  -- the bytes, as written
  pub text : List ℕ
  pub at : Span
  -- whether a line ends between the token before it, or the text's start, and the token
  pub begins_line : Bool
