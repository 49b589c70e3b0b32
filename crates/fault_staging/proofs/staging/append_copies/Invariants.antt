use Rattle.std.proofs.Common.{◌≡◌, ◌++◌, take}
use Rattle.fault_staging.proofs.staging.append_copies.Given as goal

abbrev pub invariant-loop-event : goal.invariant-loop-event
invariant-loop-event l = l.events ≡ l.fn.events ++ take l.event-index l.more
