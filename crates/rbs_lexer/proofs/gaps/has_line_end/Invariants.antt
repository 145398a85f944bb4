use Rattle.std.proofs.Common.{◌≡◌, drop}
use Rattle.rbs_lexer.specs.Bytes as bytes
use Rattle.rbs_lexer.proofs.gaps.has_line_end.Given as goal

abbrev pub invariant-loop-byte : goal.invariant-loop-byte
invariant-loop-byte l = bytes.has_line_end (drop l.byte-index l.text) ≡ bytes.has_line_end l.text
