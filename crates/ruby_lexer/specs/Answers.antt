-- What functions with memory answer.
use Rattle.std.specs.Prelude.{◌≡◌, ℕ, ◌++◌, List, Result, Ok, Err}
use Rattle.ruby_lexer.specs.declared.refusal.RubyAt.{RubyAt}
use Rattle.ruby_lexer.specs.declared.refusal.RubyAt.TheVariants as at
use Rattle.ruby_lexer.specs.declared.machine.Machine.{Machine}
use Rattle.ruby_lexer.specs.declared.strings.Passed.{Passed}
use Rattle.ruby_lexer.specs.Strings.{Piece}

-- What is answered is this, unless there is no memory.
abbrev pub Gives : {T : Type 0} → Result T RubyAt → Result T RubyAt → Type 0
Gives (Ok x) this = this ≡ Ok x
Gives (Err (at.Syntax span)) this = this ≡ Err (at.Syntax span)
Gives (Err (at.TooDeep span)) this = this ≡ Err (at.TooDeep span)
Gives (Err (at.Unsupported span form)) this = this ≡ Err (at.Unsupported span form)
Gives (Err at.NoMemory) this = Unit {0}

-- The machine has become what a step gives, or what is refused is answered, unless there is no memory.
abbrev pub Steps : {U : Type 0} → Result Machine RubyAt → Result U RubyAt → Machine → Type 0
Steps this (Ok x) new = this ≡ Ok new
Steps this (Err (at.Syntax span)) new = this ≡ Err (at.Syntax span)
Steps this (Err (at.TooDeep span)) new = this ≡ Err (at.TooDeep span)
Steps this (Err (at.Unsupported span form)) new = this ≡ Err (at.Unsupported span form)
Steps this (Err at.NoMemory) new = Unit {0}

-- The value of a piece is appended, and it is told how far it goes, unless there is no memory.
abbrev pub Reads : Piece → Result Passed RubyAt → List ℕ → List ℕ → Type 0
Reads piece (Ok passed) old new = (new ≡ old ++ piece.value) × ((passed.len ≡ piece.len) × (passed.ends_line ≡ piece.ends_line))
Reads piece (Err at.NoMemory) old new = Unit {0}
Reads piece (Err other) old new = ⊥
