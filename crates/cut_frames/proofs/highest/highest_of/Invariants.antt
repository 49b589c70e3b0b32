use Rattle.std.proofs.Common.{◌<◌, ◌^◌, All, take}
use Rattle.sat_clauses.specs.Derivation.{IsUpTo}
use Rattle.cut_frames.proofs.highest.highest_of.Given as goal

abbrev pub invariant-loop-lit : goal.invariant-loop-lit
invariant-loop-lit l = record {
  up_to : All (IsUpTo l.most) (take l.lit-index l.lits);
  low : l.most < 2 ^ 32;
}
