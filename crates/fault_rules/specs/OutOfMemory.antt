-- Want of memory, as it is told.
use Rattle.std.specs.Prelude.{◌≡◌}
use Rattle.fault_rules.specs.declared.fault.InstructionRule.TheVariants.{OutOfMemory}
use Rattle.fault_rules.specs.declared.fault.RuleFault.{RuleFault}

-- the fault says that memory was wanting
abbrev pub IsWant : RuleFault → Type 0
IsWant fault = fault.rule ≡ OutOfMemory
