-- the set is apart from those so far
use Rattle.std.proofs.Common.{◌≡◌, true, take}
use Rattle.std.specs.List.{list_all}
use Rattle.cut_sets.specs.Tests.{are_apart}
use Rattle.cert_check.proofs.sets.is_apart.Given as goal

abbrev pub invariant-loop-j : goal.invariant-loop-j
invariant-loop-j l = list_all (λ other. are_apart other l.set) (take l.j l.sets) ≡ true
