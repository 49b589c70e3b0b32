use Rattle.std.proofs.Common.{◌≡◌, ◌+◌, ◌≤◌}
use Rattle.sat_solver.specs.Search.{Grows}
use Rattle.sat_solver.specs.SearchSteps.{IsRunning}
use Rattle.sat_solver.specs.Score.{left}
use Rattle.sat_solver.proofs.solve.search.Given as goal

-- the search is running, what was learned follows, and no more than 64 restarts are left
abbrev pub invariant-search : goal.invariant-search
invariant-search g l = record {
  ready : l.panel.vars ≡ l.initial.panel.vars;
  restarts : l.panel.rotated + l.restarts ≤ l.initial.panel.rotated + 64;
  vars : (g.S.Store.held l.store).vars ≡ (g.S.Store.held l.initial.store).vars;
  running : IsRunning l.question.assumptions.now (g.S.Store.held l.store) l.trail;
  grows : Grows (g.S.Store.held l.initial.store).vars (g.S.Store.held l.initial.store).clauses (g.R.Recorder.kept l.initial.recorder) (g.S.Store.held l.store).clauses (g.R.Recorder.kept l.recorder);
}

abbrev pub decreases-search : goal.decreases-search
decreases-search g l = left ((g.S.Store.held l.initial.store).vars + 1) l.restarts l.trail.entries
