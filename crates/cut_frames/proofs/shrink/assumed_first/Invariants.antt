use Rattle.std.proofs.Common.{map}
use Rattle.sat_clauses.specs.Literal.{opposite}
use Rattle.cut_frames.specs.Parts.{IsPart}
use Rattle.cut_frames.proofs.shrink.assumed_first.Given as goal

abbrev pub invariant-loop-lit : goal.invariant-loop-lit
invariant-loop-lit l = IsPart l.all.items (map opposite l.history)
