use Rattle.std.proofs.Common.{IsTrue, IsOk, subst, arith}
use Rattle.sat_clauses.specs.Derivation.{IsUpTo}
use Rattle.sat_clauses.specs.Assignment.{Assignment}
use Rattle.sat_clauses.specs.Hints.{made_false, EndsFalse, HasNoOpposites}
use Rattle.std.proofs.Common.{All}
use Rattle.sat_solver.proofs.proposed.is_step.Goals as goal

pub follow-requires-clause-no_opposites : goal.follow-requires-clause-no_opposites
follow-requires-clause-no_opposites c =
    let is : IsTrue c.has_no_opposites.result = grind arith in
    subst HasNoOpposites c.lits-lits.ensures (c.has_no_opposites.ensures.0 is)

pub returns-clause-step : goal.returns-clause-step
returns-clause-step c = λ e.
    let up_to : IsTrue c.are_up_to.result = grind arith in
    let apart : IsTrue c.has_no_opposites.result = grind arith in
    let ok : IsOk c.follow.result = grind arith in
    record {
      ends = subst (λ (a : Assignment). EndsFalse c.args.clauses.now.clauses (made_false a c.args.step.now.clause) c.args.step.now.hints) c.requires.free (c.follow.ensures.accepted.0 ok);
      in_range = subst (All (IsUpTo c.args.vars)) c.lits-lits.ensures (c.are_up_to.ensures.0 up_to);
      no_opposites = subst HasNoOpposites c.lits-lits.ensures (c.has_no_opposites.ensures.0 apart);
    }
