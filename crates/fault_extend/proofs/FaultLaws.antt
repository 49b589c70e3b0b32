-- What is left of a list of faults, one extension on.
use Rattle.std.proofs.Common.{◌≡◌, ℕ, ◌+◌, ◌<◌, List, [], ◌∷◌, ◌++◌, length, get_or, drop, map, append_assoc, append-nil, refl, sym, ◌∙◌, ap}
use Rattle.std.specs.Prelude.{flat_map}
use Rattle.std.proofs.lemmas.List.{drop_more}
use Rattle.std.proofs.lemmas.Grind.{flat_map-append}
use Rattle.smv_language.specs.Language.{Text, ProgramTree, Each, place_of}
use Rattle.smv_language.specs.declared.model.Instance.{Instance}
use Rattle.fault_weave.specs.Faults.{Fault, slice_faults, module_slices, slices_at, place_faults, HasFaults}
use Rattle.fault_extend.specs.WovenFaults.{faults_at, IsOfModule, places_of, AreInstancesOf}
use Rattle.fault_instructions.specs.declared.instructions.Extension.{Extension}
use Rattle.fault_instructions.specs.Instructions.{SliceTree, InstructionTree, extension_tree, slices_from, slices_of}
use Rattle.fault_weave.specs.WovenProgram.{own_slices}
use Rattle.fault_weave.proofs.SliceLaws.{own_first}

pub extensions_more : {A : Type 0} (f : SliceTree → List A) (m : Text) (xs : List Extension) (i : ℕ) (d : Extension) → i < length xs →
    flat_map f (slices_from (map extension_tree (drop i xs)) m)
    ≡ flat_map f (own_slices (extension_tree (get_or xs i d)) m) ++ flat_map f (slices_from (map extension_tree (drop (i + 1) xs)) m)
extensions_more f m xs i d h =
    ap (λ ys. flat_map f (slices_from (map extension_tree ys) m)) (drop_more xs i d h)
    ∙ ap (flat_map f) (own_first (extension_tree (get_or xs i d)) (map extension_tree (drop (i + 1) xs)) m)
    ∙ flat_map-append f (own_slices (extension_tree (get_or xs i d)) m) (slices_from (map extension_tree (drop (i + 1) xs)) m)

-- the faults at the program's instances are the program's
module _ (p : ProgramTree) (i : InstructionTree) where
  faults_there : (instances : List Instance) → Each (IsOfModule p) instances → faults_at i instances ≡ flat_map (place_faults p i) (places_of instances)
  faults_there [] h = refl
  faults_there (at ∷ more) h =
      let here : slices_of i at.«module» ≡ slices_at p i (place_of at.path) = sym (ap (module_slices i) h.0.1 ∙ ap (slices_of i) h.0.2) in
      (λ j. flat_map (slice_faults (place_of at.path)) (here j) ++ faults_there more h.1 j)

  pub faults_are : (instances : List Instance) (faults : List Fault) → faults ≡ faults_at i instances → AreInstancesOf p instances → HasFaults p i faults
  faults_are instances faults e are = (places_of instances, are.places, e ∙ faults_there instances are.modules)

pub ruleset fault_rules = (append_assoc, append-nil, extensions_more)
