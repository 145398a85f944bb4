use Rattle.std.proofs.Common.{rules, ◌≡◌, false, Ok}
use Rattle.ruby_lexer.specs.Kinds.{is_so, is_end}
use Rattle.ruby_lexer.specs.Machine as spec
use Rattle.ruby_lexer.proofs.Runs as runs
use Rattle.ruby_lexer.proofs.lexer.run.Goals as goal

-- the run begins
pub steps-init : goal.steps-init
steps-init c = runs.begins c.args.text.now c.at_start-machine.result c.at_start-machine.ensures

-- a step leaves less to read
pub steps-smaller : goal.steps-smaller
steps-smaller c =
    let goes : is_so is_end c.steps.machine.state.last ≡ false = search rules in
    let is : c.step.result ≡ Ok c.in_ok-step.field-0 = search rules in
    (runs.goes_on c.args.text.now c.steps.machine c.step.new.machine c.steps.invariant goes
    (runs.given (spec.step c.args.text.now c.steps.machine) c.step.result c.step.new.machine c.in_ok-step.field-0 c.step.ensures is)).1

-- and changes no answer
pub steps-preserved : goal.steps-preserved
steps-preserved c =
    let goes : is_so is_end c.steps.machine.state.last ≡ false = search rules in
    let is : c.step.result ≡ Ok c.in_ok-step.field-0 = search rules in
    (runs.goes_on c.args.text.now c.steps.machine c.step.new.machine c.steps.invariant goes
    (runs.given (spec.step c.args.text.now c.steps.machine) c.step.result c.step.new.machine c.in_ok-step.field-0 c.step.ensures is)).0
