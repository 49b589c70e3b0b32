use Rattle.std.proofs.Common.{◌≡◌, take}
use Rattle.cut_model_search.proofs.making.copied.Given as goal

-- the sets so far are copied
abbrev pub invariant-loop-set : goal.invariant-loop-set
invariant-loop-set l = l.copy ≡ take l.set-index l.sets
