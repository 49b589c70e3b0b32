use Rattle.std.proofs.Common.{◌≡◌, take}
use Rattle.sat_clauses.proofs.recorder.StepsList.copy.Given as goal

-- the steps so far are copied
abbrev pub invariant-loop-step : goal.invariant-loop-step
invariant-loop-step l = l.list ≡ take l.step-index l.step-items
