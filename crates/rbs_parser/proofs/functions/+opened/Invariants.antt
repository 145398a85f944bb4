use Rattle.std.proofs.Common.{◌+◌}
use Rattle.rbs_parser.proofs.functions.+opened.Given as goal

abbrev pub decreases-ty : goal.decreases-ty
decreases-ty l = l.marked + l.functions

abbrev pub decreases-function : goal.decreases-function
decreases-function l = l.marked + l.functions
