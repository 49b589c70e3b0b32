use Rattle.std.proofs.Common.{◌≡◌, ◌≤◌, Some, take, length}
use Rattle.fault_rules.specs.Steps.{AreSteps, IsBeginning, walk}
use Rattle.fault_rules.proofs.texts.reached.Given as goal

abbrev pub invariant-loop-byte : goal.invariant-loop-byte
invariant-loop-byte l = record {
  steps_are : AreSteps l.steps.keys;
  begins : IsBeginning l.initial.steps.keys l.steps.keys;
  leads : walk l.steps.keys l.initial.at (take l.byte-index l.text) ≡ Some l.at;
  within : l.at ≤ length l.steps.keys;
}
