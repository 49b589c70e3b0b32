-- Faults inside faults.
use Rattle.smv_expression_reader.specs.declared.fault.GrowFault.{GrowFault}
use Rattle.smv_expression_reader.specs.declared.fault.GrowFault.TheVariants as grow
use Rattle.smv_expression_reader.specs.declared.fault.BuildFault.{BuildFault}
use Rattle.smv_expression_reader.specs.declared.fault.BuildFault.TheVariants as stop

-- what a fault of one node is as a fault of the second pass
abbrev pub build_fault : GrowFault → BuildFault
build_fault grow.TooDeep = stop.TooDeep
build_fault grow.OutOfMemory = stop.OutOfMemory
