use Rattle.std.proofs.Common.{◌≡◌, ◌++◌, drop, map}
use Rattle.sat_encoding_laws.specs.Lists.{unlisted_clause}
use Rattle.sat_encoding.proofs.bad.unlisted.Given as goal

abbrev pub invariant-loop-set : goal.invariant-loop-set
invariant-loop-set l = l.all ++ map (unlisted_clause l.history) (drop l.set-index l.listed) ≡ l.fn.clauses ++ map (unlisted_clause l.history) l.listed
