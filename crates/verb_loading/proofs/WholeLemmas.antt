-- The flat model of an extension with the bits of its faults, as the code makes it.
use Rattle.std.proofs.Common.{◌≡◌, ℕ, List, [], ◌∷◌, ◌++◌, map, Option, Some, None, refl, ap, ◌∙◌}
use Rattle.std.specs.Prelude.{reverse}
use Rattle.std.proofs.lemmas.List.{reverse-append}
use Rattle.smv_language.specs.Language.{Text, Path, ProgramTree, place_in, name_in, variable_tree, model_tree, place_of, EachBoth}
use Rattle.smv_flat_laws.specs.History.{with_history}
use Rattle.smv_flat_laws.specs.Model.{IsVariableNumber}
use Rattle.smv_language.specs.declared.model.FlatModel.{FlatModel}
use Rattle.smv_language.specs.declared.model.Fault.{Fault}
use Rattle.smv_flat_laws.specs.FaultModes.{mode_of}
use Rattle.fault_instructions.specs.AddedNames.{mode_variable}
use Rattle.fault_extend.specs.declared.faults.WovenFault.{WovenFault}
use Rattle.fault_extend.specs.WovenFaults.{fault_tree}
use Rattle.fault_extend.specs.NumberedFaults.{parts_of, HasPath, AreNumbered}
use Rattle.verb_loading.specs.Models.{IsModelOf}
use Rattle.verb_loading.specs.Wholes.{IsWhole}
use Rattle.smv_language.proofs.ListLaws.{get_map}
use Rattle.cert_laws.specs.ExtendedTraces.{IsModeOfFault}

-- the path of a name at an instance, turned
pub turned : (path : Option Path) (x : Text) → reverse (parts_of path ++ x ∷ []) ≡ x ∷ place_of path
turned None x = refl
turned (Some path) x = reverse-append path (x ∷ [])

numbered_variable : (m : FlatModel) (path : Option Path) (x : Text) (i : ℕ) → HasPath m.variables i (parts_of path ++ x ∷ []) → IsVariableNumber (model_tree m) (place_of path) x i
numbered_variable m path x i has =
    let back : reverse has.variable.path ≡ x ∷ place_of path = ap reverse has.same ∙ turned path x in
    record {
      variable = variable_tree has.variable;
      is = get_map variable_tree m.variables i has.variable has.is;
      same_place = ap place_in back;
      same_name = ap name_in back;
    }

pub numbered_modes : (m : FlatModel) (ws : List WovenFault) (fs : List Fault) → AreNumbered m ws fs → EachBoth (IsModeOfFault (model_tree m)) (map fault_tree ws) (map mode_of fs)
numbered_modes m [] [] h = tt
numbered_modes m [] (f ∷ fs) h = absurd h
numbered_modes m (w ∷ ws) [] h = absurd h
numbered_modes m (w ∷ ws) (f ∷ fs) h =
    (record { variable = numbered_variable m w.path (mode_variable w.slice) f.variable h.0.variable; symbol = h.0.is_symbol }, numbered_modes m ws fs h.1)

-- the model that is typed last is the whole of the extension
pub is_whole : (extension : ProgramTree) (m full : FlatModel) (ws : List WovenFault) (fs : List Fault) → IsModelOf extension (model_tree m) → AreNumbered m ws fs →
    model_tree full ≡ with_history (model_tree m) (map mode_of fs) → IsWhole extension (map fault_tree ws) (model_tree full)
is_whole extension m full ws fs model numbered made =
    record { flat = model_tree m; modes = map mode_of fs; model = model; are_modes = numbered_modes m ws fs numbered; is = made }
