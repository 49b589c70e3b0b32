-- When the flat model of an extension, with its faults and a top event, can be searched.
use Rattle.std.specs.Prelude.{◌≤◌, ◌<◌, ◌^◌, List, length}
use Rattle.smv_language.specs.Language.{Tree, Formula, ProgramTree, IsWritableProgram, FlatLeaf, FlatModel}
use Rattle.smv_flat_laws.specs.History.{Mode, with_history}
use Rattle.fault_instructions.specs.Instructions.{InstructionTree}
use Rattle.fault_weave.specs.Faults.{Fault}
use Rattle.fault_weave.specs.WovenProgram.{woven}
use Rattle.smv_type_laws.specs.Costs.{cost_of}
use Rattle.smv_type_laws.specs.Models.{IsTyped}
use Rattle.sat_encoding_laws.specs.Encodable.{IsFitTop}
use Rattle.cut_search_laws.specs.Searchable.{IsSearchable}
use Rattle.cert_laws.specs.ExtendedTraces.{IsExtensionModel}
use Rattle.sat_encoding_laws.specs.Variables.{most_asked_cost}

-- The woven program can be written, its model is typed with history and without, and the top event fits: then the model, its
-- faults and the event can be searched. Symbols are fewer than 2 ^ 31.
abbrev pub ExtensionsAreSearchable : Type 0
ExtensionsAreSearchable =
    (p : ProgramTree) (i : InstructionTree) (faults : List Fault) (top : Formula) (m : FlatModel) (fs : List Mode)
    (flat_top : Tree FlatLeaf) → IsExtensionModel p i faults top m fs flat_top →
    IsWritableProgram (woven p i) → length m.symbols < 2 ^ 31 → IsTyped m → IsTyped (with_history m fs) →
    IsFitTop (with_history m fs) flat_top → cost_of flat_top ≤ most_asked_cost → IsSearchable m fs flat_top
