use Rattle.std.proofs.Common.{◌≡◌}
use Rattle.sat_clauses.specs.Assignment.{all_free}
use Rattle.sat_solver.specs.Search.{Grows}
use Rattle.sat_solver.proofs.proposed.keep_steps.Given as goal

-- what was kept so far follows, and nothing else has changed
abbrev pub invariant-loop-step : goal.invariant-loop-step
invariant-loop-step g l = record {
  vars : l.store.vars ≡ l.initial.store.vars;
  trail : l.store.trail ≡ l.initial.store.trail;
  free : l.judge ≡ all_free l.initial.store.vars;
  grows : Grows l.initial.store.vars l.initial.store.clauses (g.R.Recorder.kept l.initial.recorder) l.store.clauses (g.R.Recorder.kept l.recorder);
}
