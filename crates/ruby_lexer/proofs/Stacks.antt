-- What is open, the outermost first.
use Rattle.std.proofs.Common.{◌≡◌, List, [], ◌∷◌, ◌++◌, reverse, ap}
use Rattle.std.proofs.lemmas.List.{reverse-append}
use Rattle.ruby_lexer.specs.declared.state.Opened.{Opened}
use Rattle.ruby_lexer.specs.Machine.{opening_of, or_else, innermost}

-- by the innermost, or else by what is around it
pub innermost_more : (outer : List Opened) (inner : Opened) → innermost (reverse (outer ++ inner ∷ [])) ≡ or_else (opening_of inner) (innermost (reverse outer))
innermost_more outer inner = ap innermost (reverse-append outer (inner ∷ []))
