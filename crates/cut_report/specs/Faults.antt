-- What a fault of a text tells.
use Rattle.std.specs.Prelude.{ℕ, List}
use Rattle.smv_language.specs.Flat.{FlatModel}
use Rattle.cut_text_laws.specs.TraceFaults.{bad_line, unknown_name, outside, twice, wrong_line, missing_value, IsFirstFault, IsLeast}
use Rattle.cut_text_laws.specs.Lines.{Line}
use Rattle.cut_report.specs.declared.fault.TraceFault.{TraceFault}
use Rattle.cut_report.specs.declared.fault.TraceFault.TheVariants as fault
use Rattle.cut_report.specs.declared.fault.LineCause.{LineCause}
use Rattle.cut_report.specs.declared.fault.LineCause.TheVariants as cause

-- the fault of a line of this number
abbrev pub fault_at : LineCause → ℕ → TraceFault
fault_at cause.BadLine n = fault.BadLine n
fault_at cause.UnknownName n = fault.UnknownName n
fault_at cause.Outside n = fault.Outside n
fault_at cause.Twice n = fault.Twice n
fault_at cause.OutOfMemory n = fault.OutOfMemory

-- what is wrong with a line, unless memory was wanting
abbrev pub IsCauseOf : FlatModel → List Line → Line → LineCause → Type 0
IsCauseOf m before line cause.BadLine = IsLeast m before line bad_line
IsCauseOf m before line cause.UnknownName = IsLeast m before line unknown_name
IsCauseOf m before line cause.Outside = IsLeast m before line outside
IsCauseOf m before line cause.Twice = IsLeast m before line twice
IsCauseOf m before line cause.OutOfMemory = Unit {0}

-- what is wrong first with the bytes, unless memory was wanting
abbrev pub IsFaultOf : FlatModel → List ℕ → TraceFault → Type 0
IsFaultOf m bytes (fault.BadLine n) = IsFirstFault m bytes (wrong_line bad_line n)
IsFaultOf m bytes (fault.UnknownName n) = IsFirstFault m bytes (wrong_line unknown_name n)
IsFaultOf m bytes (fault.Outside n) = IsFirstFault m bytes (wrong_line outside n)
IsFaultOf m bytes (fault.MissingValue k) = IsFirstFault m bytes (missing_value k)
IsFaultOf m bytes (fault.Twice n) = IsFirstFault m bytes (wrong_line twice n)
IsFaultOf m bytes fault.OutOfMemory = Unit {0}
