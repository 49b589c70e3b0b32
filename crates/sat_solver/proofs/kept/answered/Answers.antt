use Rattle.std.proofs.Common.{ℕ, ◌<◌, ◌^◌, All, IfSome, Option, sym, ◌∙◌, subst}
use Rattle.sat_clauses.specs.Derivation.{IsUpTo}
use Rattle.sat_solver.specs.declared.solve.Verdict.{Verdict}
use Rattle.sat_solver.specs.LearnedClauses.{IsAnswer, added_of}
use Rattle.sat_solver.specs.Proposals.{IsRight}
use Rattle.sat_solver.specs.Search.{Grows}
use Rattle.sat_solver.specs.Trail.{IsIdle}
use Rattle.sat_solver.proofs.SearchLemmas.{grows_more}
use Rattle.sat_solver.proofs.ProposedLemmas.{grown_in_range, right_from_answer}
use Rattle.sat_solver.proofs.kept.answered.Goals as goal

pub returns-in-Some-clause-answered : goal.returns-in-Some-clause-answered
returns-in-Some-clause-answered g c =
    let s = c.args.store.now in
    record {
      right = subst (λ (o : Option Verdict). IfSome o (IsRight c.args.question.cores s.vars (added_of s.clauses c.args.proposer.marks.now) s.clauses c.proposed.new.store.clauses c.args.question.assumptions.now)) c.in-Some.is c.in_ok-told.ensures.right;
      grows = c.in_ok-told.ensures.grows;
      vars = c.proposed.ensures.vars;
      trail = c.proposed.ensures.trail ∙ c.requires.empty;
      idle = c.requires.idle;
    }

pub solve_on-requires-clause-can_solve : goal.solve_on-requires-clause-can_solve
solve_on-requires-clause-can_solve g c =
    let vars = c.proposed.ensures.vars in
    record {
      vars = subst (λ (n : ℕ). n < 2 ^ 62) (sym vars) c.requires.can_solve.vars;
      clauses_in_range = subst (λ (n : ℕ). All (All (IsUpTo n)) c.proposed.new.store.clauses) (sym vars)
          (grown_in_range c.args.store.now.vars c.args.store.now.clauses c.proposed.new.store.clauses (g.R.Recorder.kept c.args.recorder.now) (g.R.Recorder.kept c.proposed.new.recorder) c.in_ok-told.ensures.grows c.requires.can_solve.clauses_in_range);
      assumptions_in_range = subst (λ (n : ℕ). All (IsUpTo n) c.args.question.assumptions.now) (sym vars) c.requires.can_solve.assumptions_in_range;
      apart = c.requires.can_solve.apart;
    }

pub returns-clause-answered : goal.returns-clause-answered
returns-clause-answered g c =
    let s = c.args.store.now in
    let u = c.proposed.new.store in
    let v = c.solve_on.new.store in
    let k0 = g.R.Recorder.kept c.args.recorder.now in
    let k1 = g.R.Recorder.kept c.proposed.new.recorder in
    let k2 = g.R.Recorder.kept c.solve_on.new.recorder in
    let vars = c.proposed.ensures.vars in
    let found = c.in_ok-found.ensures.found in
    record {
      right = right_from_answer c.args.question.cores s.vars s.clauses u.clauses v.clauses c.args.proposer.marks.now k0 k1 c.args.question.assumptions.now c.in_ok-found.found c.in_ok-told.ensures.grows
          (subst (λ (n : ℕ). IsAnswer c.args.question.cores n u.clauses v.clauses c.args.question.assumptions.now c.in_ok-found.found) vars found.answer);
      grows = grows_more s.vars s.clauses u.clauses v.clauses k0 k1 k2 c.in_ok-told.ensures.grows (subst (λ (n : ℕ). Grows n u.clauses k1 v.clauses k2) vars found.grows);
      vars = c.in_ok-found.ensures.vars ∙ vars;
      trail = c.solve_on.ensures.trail;
      idle = subst (λ (n : ℕ). IsIdle n c.solve_on.new.trail) vars found.idle;
    }
