use Rattle.std.proofs.Common.{◌≡◌, ◌++◌, take}
use Rattle.ruby_lexer.proofs.strings.append.Given as goal

abbrev pub invariant-loop-byte : goal.invariant-loop-byte
invariant-loop-byte l = l.part ≡ l.fn.part ++ take l.byte-index l.bytes
