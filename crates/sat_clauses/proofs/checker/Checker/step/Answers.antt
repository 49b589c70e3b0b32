use Rattle.std.proofs.Common.{IsOk, ap, ◌∙◌, arith}
use Rattle.sat_clauses.specs.Assignment.{all_free}
use Rattle.sat_clauses.specs.Derivation.{Derivation}
use Rattle.sat_clauses.specs.Hints.{made_false, assumed_false, EndsFalse}
use Rattle.sat_clauses.proofs.FaultLemmas.{OnOk-from}
use Rattle.sat_clauses.proofs.DeriveModelLemmas.{FollowsFrom-EndsFalse}
use Rattle.sat_clauses.proofs.checker.Checker.step.Goals as goal

pub returns-then-is_ok-clause-bad_hint : goal.returns-then-is_ok-clause-bad_hint
returns-then-is_ok-clause-bad_hint c = λ i.
    let start = ap (λ a. made_false a c.args.step.now.clause) (c.self.invariant.free ∙ ap (λ (d : Derivation). all_free d.vars) c.self.view_is) in
    let list = ap (λ (d : Derivation). d.clauses) c.self.view_is in
    rw (← list, ← start) (c.follow-outcome.ensures.bad_hint i)

pub returns-else-is_ok-clause-bad_hint : goal.returns-else-is_ok-clause-bad_hint
returns-else-is_ok-clause-bad_hint c = λ i.
    let start = ap (λ a. made_false a c.args.step.now.clause) (c.self.invariant.free ∙ ap (λ (d : Derivation). all_free d.vars) c.self.view_is) in
    let list = ap (λ (d : Derivation). d.clauses) c.self.view_is in
    rw (← list, ← start) (c.follow-outcome.ensures.bad_hint i)

pub returns-then-is_ok-clause-keeps_models : goal.returns-then-is_ok-clause-keeps_models
returns-then-is_ok-clause-keeps_models c =
    let start = ap (λ a. made_false a c.args.step.now.clause) (c.self.invariant.free ∙ ap (λ (d : Derivation). all_free d.vars) c.self.view_is) in
    let list = ap (λ (d : Derivation). d.clauses) c.self.view_is in
    let ok : IsOk c.follow-outcome.result = grind arith in
    let ends : EndsFalse c.args.self.now.clauses (assumed_false c.args.self.now.vars c.args.step.now.clause) c.args.step.now.hints =
    rw (← list, ← start) (c.follow-outcome.ensures.accepted.0 ok) in
    OnOk-from c.follow-outcome.result (FollowsFrom-EndsFalse c.args.self.now.vars c.args.self.now.clauses c.args.step.now.clause c.args.step.now.hints ends)
