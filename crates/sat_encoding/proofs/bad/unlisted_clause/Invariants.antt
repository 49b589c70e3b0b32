use Rattle.std.proofs.Common.{◌≡◌, ◌++◌, drop}
use Rattle.sat_encoding_laws.specs.Lists.{unlisted_clause}
use Rattle.sat_encoding.proofs.bad.unlisted_clause.Given as goal

abbrev pub invariant-loop-n : goal.invariant-loop-n
invariant-loop-n l = l.lits ++ unlisted_clause l.history (drop l.n-index l.set) ≡ unlisted_clause l.history l.set
