use Rattle.std.proofs.Common.{◌≡◌, drop}
use Rattle.fault_rules.specs.Steps.{walk_on}
use Rattle.fault_rules.proofs.texts.found.Given as goal

abbrev pub invariant-loop-byte : goal.invariant-loop-byte
invariant-loop-byte l = walk_on l.steps.keys l.at (drop l.byte-index l.text) ≡ walk_on l.steps.keys l.initial.at l.text
