use Rattle.std.proofs.Common.{◌≡◌, ◌++◌, map, take}
use Rattle.sat_circuits.proofs.gates.Gates.define.Given as goal

abbrev pub invariant-loop-clause : goal.invariant-loop-clause
invariant-loop-clause l =
    l.self ≡ record l.fn.self { clauses = l.fn.self.clauses ++ map (λ c. c.now) (take l.clause-index l.clauses) }
