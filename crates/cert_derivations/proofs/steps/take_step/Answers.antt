use Rattle.std.proofs.Common.{◌≡◌, IsTrue, false, arith}
use Rattle.std.proofs.lemmas.Bool.{both_ways}
use Rattle.cert_derivations.proofs.StepLemmas.{other_literals, with_room}
use Rattle.cert_derivations.proofs.steps.take_step.Goals as goal

pub returns-then-not-has_its_literals : goal.returns-then-not-has_its_literals
returns-then-not-has_its_literals c =
    let is_not : c.has_its_literals.result ≡ false = grind arith in
    other_literals c.args.checker.now.vars c.reserve.new.self.vars c.args.checker.now.clauses c.args.step.now c.lits-lits.result.now c.reserve.ensures.vars c.lits-lits.ensures
    (λ h. both_ways _ is_not (c.has_its_literals.ensures.1 h))

pub step_rule-requires : goal.step_rule-requires
step_rule-requires c =
    let is : IsTrue c.has_its_literals.result = grind arith in
    with_room c.reserve.new.self c.args.step.now.clause c.lits-lits.result.now c.lits-lits.ensures c.in_ok-reserve.ensures.spare_clauses c.in_ok-reserve.ensures.spare_lits (c.has_its_literals.ensures.0 is)
