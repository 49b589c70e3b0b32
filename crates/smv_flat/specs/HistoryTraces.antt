-- The traces of a model with history bits.
use Rattle.std.specs.Prelude.{List, map}
use Rattle.smv_language.specs.Language.{Each, model_tree}
use Rattle.smv_language.specs.declared.model.FlatModel.{FlatModel}
use Rattle.smv_language.specs.declared.model.Fault.{Fault}
use Rattle.smv_flat_laws.specs.FaultModes.{mode_of}
use Rattle.smv_flat_laws.specs.FlatTrace.{NamesOwn, IsModeOf, TellsHistory}

-- for a model that reads its own variables and faults that are its own, the traces of the made one are
-- those of the model, each with the bits of its history
abbrev pub HasHistory : FlatModel → List Fault → FlatModel → Type 0
HasHistory m faults made =
    NamesOwn (model_tree m) → Each (IsModeOf (model_tree m)) (map mode_of faults) →
    TellsHistory (model_tree m) (map mode_of faults) (model_tree made)
