-- The model so far has the bits of the faults so far.
use Rattle.std.proofs.Common.{◌≡◌, map, take}
use Rattle.smv_language.specs.ModelTree.{model_tree}
use Rattle.smv_flat_laws.specs.FaultModes.{mode_of}
use Rattle.smv_flat_laws.specs.History.{with_history}
use Rattle.smv_flat.proofs.history.with_history.Given as goal

abbrev pub invariant-loop-k : goal.invariant-loop-k
invariant-loop-k l = model_tree l.made ≡ with_history (model_tree l.m) (map mode_of (take l.k l.faults))
