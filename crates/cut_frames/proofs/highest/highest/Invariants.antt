use Rattle.std.proofs.Common.{◌<◌, ◌^◌, All, take}
use Rattle.sat_clauses.specs.Derivation.{IsUpTo}
use Rattle.cut_frames.proofs.highest.highest.Given as goal

abbrev pub invariant-loop-clause : goal.invariant-loop-clause
invariant-loop-clause l = record {
  up_to : All (All (IsUpTo l.most)) (take l.clause-index l.clause-items);
  low : l.most < 2 ^ 32;
}
