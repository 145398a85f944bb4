-- What a number stands for it stands for on, where cells are only added.
use Rattle.std.proofs.Common.{◌≡◌, ◌++◌, ◌∙◌, List, sym}
use Rattle.std.proofs.lemmas.Option.{same_Some}
use Rattle.ruby_grammar.specs.declared.tree.Tree.{Tree}
use Rattle.ruby_grammar.specs.declared.row.Row.{Row}
use Rattle.ruby_grammar.specs.Rows.{At, Extends, Grows, Holds, IsRow}

pub extends_same : (lists : List (List Tree)) → Extends lists lists
unfolding Extends
extends_same lists k ts is = is

pub extends_then : (a b c : List (List Tree)) → Extends a b → Extends b c → Extends a c
unfolding Extends
extends_then a b c first then k ts is = then k ts (first k ts is)

pub at_kept : (old new : List (List Tree)) (row : Row) (ts : List Tree) → Extends old new → At old row ts → At new row ts
unfolding Extends
at_kept old new row ts more at = (more row.last ts at.0, at.1)

pub is_row_kept : (old new : List (List Tree)) (row : Row) → Extends old new → IsRow old row → IsRow new row
is_row_kept old new row more is = (is.0, at_kept old new row is.0 more is.1)

pub holds_kept : (old new : List (List Tree)) (base row : Row) (ts : List Tree) → Extends old new → Holds old base row ts → Holds new base row ts
holds_kept old new base row ts more holds = (holds.0, at_kept old new base holds.0 more holds.1, at_kept old new row (holds.0 ++ ts) more holds.2)

-- a row stands for one list of trees
pub at_same : (lists : List (List Tree)) (row : Row) (ts us : List Tree) → At lists row ts → At lists row us → ts ≡ us
at_same lists row ts us at other = same_Some ts us (sym at.0 ∙ other.0)

-- what grows on stands for trees
pub grows_row : (lists more : List (List Tree)) (old new : Row) (ts : List Tree) → Grows lists old more new ts → IsRow lists old → IsRow more new
grows_row lists more old new ts grows is = (is.0 ++ ts, grows is.0 is.1)
