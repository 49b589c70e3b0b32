-- The links so far from their other ends, with the rows that are left, are all.
use Rattle.std.proofs.Common.{◌≡◌, ℕ, [], length, map, drop, replicate}
use Rattle.std.specs.Prelude.{Vec}
use Rattle.std.specs.declared.alloc.Global.{Global}
use Rattle.smv_scope.specs.Links.{rows, turned_from}
use Rattle.smv_scope.proofs.links.Links.turned.Given as goal

abbrev pub invariant-loop-from : goal.invariant-loop-from
invariant-loop-from l =
    turned_from (rows l.back) l.from (map (λ (v : Vec ℕ Global). v.items) (drop l.from l.self.of.items)) ≡ turned_from (replicate (length l.self.of.items) []) 0 (rows l.self)
