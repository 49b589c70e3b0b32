-- What is made so far is what was read so far.
use Rattle.std.proofs.Common.{◌≡◌, take}
use Rattle.smv_language.proofs.copy_model.copy_instances.Given as goal

abbrev pub invariant-loop-instance : goal.invariant-loop-instance
invariant-loop-instance l = l.made ≡ take l.instance-index l.instances
