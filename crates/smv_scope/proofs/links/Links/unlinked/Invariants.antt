-- A row without links for each turn.
use Rattle.std.proofs.Common.{◌≡◌, [], map, replicate, ℕ}
use Rattle.std.specs.Prelude.{Vec}
use Rattle.std.specs.declared.alloc.Global.{Global}
use Rattle.smv_scope.proofs.links.Links.unlinked.Given as goal

abbrev pub invariant-loop-each : goal.invariant-loop-each
invariant-loop-each l = map (λ (v : Vec ℕ Global). v.items) l.of.items ≡ replicate l._each []
