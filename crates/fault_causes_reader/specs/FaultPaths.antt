-- The names of faults.
use Rattle.std.specs.Prelude.{List, map}
use Rattle.smv_language.specs.Language.{Path, name_of_fault}
use Rattle.smv_language.specs.declared.model.Fault.{Fault}

-- the names of faults
abbrev pub paths_of : List Fault → List Path
paths_of faults = map name_of_fault faults
