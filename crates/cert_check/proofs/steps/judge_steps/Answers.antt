use Rattle.std.proofs.Common.{◌≡◌, ◌∙◌, ◌+◌, Some, [], ◌∷◌, ◌++◌, length, sym, ap, subst, arith}
use Rattle.std.specs.Prelude.{slice_get}
use Rattle.cert_check.specs.QuestionMatter.{asked}
use Rattle.cert_laws.specs.Certificate.{steps_in}
use Rattle.cert_laws.specs.Sites.{step_sites}
use Rattle.cert_laws.specs.Acceptance.{givens, known_at}
use Rattle.cert_derivations.specs.Steps.{FindsStep}
use Rattle.cert_check.specs.Parts.{part_of}
use Rattle.cert_check.proofs.Loops.{goes_itself, step_goes_on, step_ends, steps_over}
use Rattle.cert_check.proofs.StepLaws.{taken_is_kept, step_is_broken, known_more}
use Rattle.cert_check.proofs.steps.judge_steps.Goals as goal

pub loop-i-init : goal.loop-i-init
loop-i-init c =
    let a = asked c.args.q.now in
    let part = part_of c.args.part in
    record { rest = goes_itself a (step_sites part 0 (steps_in a.certificate part)); vars = c.requires.vars; clauses = c.requires.clauses }

pub returns-in-Some-clause-found : goal.returns-in-Some-clause-found
returns-in-Some-clause-found c =
    let a = asked c.args.q.now in
    let part = part_of c.args.part in
    let steps = steps_in a.certificate part in
    let there : slice_get steps c.loop-i.i ≡ Some c.in_ok-step.step = sym (ap (λ xs. slice_get xs c.loop-i.i) c.steps_of-steps.ensures) ∙ c.in_ok-step.ensures in
    step_ends a part c.loop-i.i steps c.in_ok-step.step (step_sites part 0 steps) (c.args.line + c.loop-i.i) c.in-Some.rule there c.loop-i.invariant.rest (ap (λ n. n + c.loop-i.i) (sym c.requires.line))
    (step_is_broken a part c.loop-i.i c.in_ok-step.step c.loop-i.checker.vars c.loop-i.checker.clauses c.loop-i.invariant.vars c.loop-i.invariant.clauses c.take_step.new.checker c.in-Some.rule
    (subst (FindsStep c.loop-i.checker.vars c.loop-i.checker.clauses c.in_ok-step.step c.take_step.new.checker) c.in-Some.is c.in_ok-rule.ensures))

pub returns-in-Some-clause-known : goal.returns-in-Some-clause-known
returns-in-Some-clause-known c e = cc

pub loop-i-preserved : goal.loop-i-preserved
loop-i-preserved c =
    let a = asked c.args.q.now in
    let part = part_of c.args.part in
    let steps = steps_in a.certificate part in
    let there : slice_get steps c.loop-i.i ≡ Some c.in_ok-step.step = sym (ap (λ xs. slice_get xs c.loop-i.i) c.steps_of-steps.ensures) ∙ c.in_ok-step.ensures in
    let taken = subst (FindsStep c.loop-i.checker.vars c.loop-i.checker.clauses c.in_ok-step.step c.take_step.new.checker) c.in_default.is c.in_ok-rule.ensures in
    record {
      rest = step_goes_on a part c.loop-i.i steps c.in_ok-step.step (step_sites part 0 steps) there c.loop-i.invariant.rest
          (taken_is_kept a part c.loop-i.i c.in_ok-step.step c.loop-i.checker.vars c.loop-i.checker.clauses c.loop-i.invariant.vars c.loop-i.invariant.clauses c.take_step.new.checker taken);
      vars = taken.vars ∙ c.loop-i.invariant.vars;
      clauses = taken.clauses ∙ (ap (λ ks. ks ++ c.in_ok-step.step.clause ∷ []) c.loop-i.invariant.clauses ∙ sym (known_more (givens a.subject a.certificate part) steps c.loop-i.i c.in_ok-step.step there));
    }

pub returns-clause-found : goal.returns-clause-found
returns-clause-found c =
    let a = asked c.args.q.now in
    let part = part_of c.args.part in
    let steps = steps_in a.certificate part in
    let many : c.len-i-end.result ≡ length steps = c.len-i-end.ensures ∙ ap length c.steps_of-steps.ensures in
    steps_over a part c.loop-i.i steps (step_sites part 0 steps) (omega (arith, many)) c.loop-i.invariant.rest

pub returns-clause-known : goal.returns-clause-known
returns-clause-known c e =
    let a = asked c.args.q.now in
    let part = part_of c.args.part in
    let steps = steps_in a.certificate part in
    let many : c.len-i-end.result ≡ length steps = c.len-i-end.ensures ∙ ap length c.steps_of-steps.ensures in
    let over : c.loop-i.i ≡ length steps = omega (arith, many) in
    c.loop-i.invariant.clauses ∙ ap (known_at a.subject a.certificate part) over

pub overflow_add-result : goal.overflow_add-result
overflow_add-result c =
    let many = c.len-i-end.ensures ∙ ap length c.steps_of-steps.ensures in
    let room = c.requires.room in
    omega (arith, many, room)
