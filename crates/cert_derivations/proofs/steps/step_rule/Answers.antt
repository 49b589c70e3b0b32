use Rattle.std.proofs.Common.{subst, sym}
use Rattle.cert_derivations.specs.Steps.{BreaksStep}
use Rattle.cert_derivations.proofs.StepLemmas.{taken, breaks}
use Rattle.cert_derivations.proofs.steps.step_rule.Goals as goal

pub returns-in-Ok : goal.returns-in-Ok
returns-in-Ok c =
    taken c.args.checker.now c.args.step.now c.requires c.step-outcome.result c.step-outcome.ensures.bad_hint c.step-outcome.ensures.no_conflict c.in-Ok.field-0 c.step-outcome.new.self c.in-Ok.is c.in-Ok.ensures.ok

pub returns-in-Err : goal.returns-in-Err
returns-in-Err c =
    subst (BreaksStep c.args.checker.now.vars c.args.checker.now.clauses c.args.step.now) (sym c.fault_rule.ensures)
    (breaks c.args.checker.now c.args.step.now c.requires c.step-outcome.result c.step-outcome.ensures.bad_hint c.step-outcome.ensures.no_conflict c.in-Err.fault c.in-Err.is)
