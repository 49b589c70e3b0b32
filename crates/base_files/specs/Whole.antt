-- Faults of a whole read.
use Rattle.base_files.specs.declared.desk.ReadStop.{ReadStop}
use Rattle.base_files.specs.declared.desk.ReadStop.TheVariants as stop
use Rattle.base_files.specs.declared.whole.DeskFault.{DeskFault}
use Rattle.base_files.specs.declared.whole.DeskFault.TheVariants as fault

-- the fault that a refused read becomes
abbrev pub fault_of : ReadStop → DeskFault
fault_of stop.Failed = fault.Failed
fault_of stop.Absent = fault.Absent
fault_of stop.OutOfMemory = fault.OutOfMemory
