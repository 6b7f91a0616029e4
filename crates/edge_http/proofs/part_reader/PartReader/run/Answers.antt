use Rattle.std.proofs.Common.{Bool, subst, Ok}
use Rattle.edge_http.specs.Steps.{StepIs}
use Rattle.edge_http.proofs.Moving.{moves-still, moves-on, stops-on}
use Rattle.edge_http.proofs.part_reader.PartReader.run.Goals as goal

pub steps-init : goal.steps-init
steps-init c = moves-still c.args.self.now

pub returns-in-Err : goal.returns-in-Err
returns-in-Err c = stops-on c.args.self.now c.steps.self c.step.new.self c.in-Err.why c.steps.invariant c.in-Err.ensures

pub returns-in-Ok-false : goal.returns-in-Ok-false
returns-in-Ok-false c =
    let x = subst (λ (b : Bool). StepIs c.steps.self c.step.new.self (Ok b)) c.in-Ok-false.field-0-test c.in-Ok-false.ensures in
    (moves-on c.args.self.now c.steps.self c.step.new.self c.steps.invariant x.0, x.1)

pub steps-preserved : goal.steps-preserved
steps-preserved c =
    let x = subst (λ (b : Bool). StepIs c.steps.self c.step.new.self (Ok b)) c.in-Ok-true.field-0-test c.in-Ok-true.ensures in
    moves-on c.args.self.now c.steps.self c.step.new.self c.steps.invariant x.0
