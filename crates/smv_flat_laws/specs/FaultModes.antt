-- The mode of a fault: which variable has which symbol while it stands.
use Rattle.smv_language.specs.declared.model.Fault.{Fault}
use Rattle.smv_flat_laws.specs.History.{Mode}

-- the mode of a fault
abbrev pub mode_of : Fault → Mode
mode_of f = record { variable = f.variable; symbol = f.symbol }
