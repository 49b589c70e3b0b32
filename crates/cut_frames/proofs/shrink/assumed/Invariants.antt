use Rattle.std.proofs.Common.{◌≡◌, take}
use Rattle.cut_frames.specs.Minimal.{given_up}
use Rattle.cut_frames.proofs.shrink.assumed.Given as goal
use Rattle.sat_clauses.specs.Models.{values_of}

abbrev pub invariant-loop-lit : goal.invariant-loop-lit
invariant-loop-lit l = l.all.items ≡ given_up (values_of l.values) (take l.lit-index l.history)
