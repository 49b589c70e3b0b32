use Rattle.sat_solver.proofs.VerdictLemmas.{verdict_of, among}
use Rattle.sat_solver.proofs.solve.solve_in.Goals as goal

pub returns-clause-verdict : goal.returns-clause-verdict
returns-clause-verdict g c =
    let s = g.S.Store.held c.args.store.now in
    verdict_of s.vars s.clauses (g.S.Store.held c.solve_on.new.store).clauses c.args.assumptions.now (g.R.Recorder.kept c.args.recorder.now) (g.R.Recorder.kept c.solve_on.new.recorder) c.in_ok-verdict.verdict
    c.in_ok-verdict.ensures.found.grows c.in_ok-verdict.ensures.found.answer

pub returns-clause-listed : goal.returns-clause-listed
returns-clause-listed g c =
    let s = g.S.Store.held c.args.store.now in
    among s.vars s.clauses (g.S.Store.held c.solve_on.new.store).clauses c.args.assumptions.now c.in_ok-verdict.verdict c.in_ok-verdict.ensures.found.answer
