use Rattle.std.proofs.Common.{◌≡◌, take}
use Rattle.base_values.proofs.items.Items+Items+T.copy.Given as goal

abbrev pub invariant-loop-list : goal.invariant-loop-list
invariant-loop-list g l = l.lists ≡ take l.list-index l.self
