use Rattle.std.proofs.Common.{◌≡◌, take}
use Rattle.cut_frames.proofs.steps.StepList.copy.Given as goal

-- the moments so far are copied
abbrev pub invariant-loop-step : goal.invariant-loop-step
invariant-loop-step l = l.list ≡ take l.step-index l.step-items
