-- What the reading of an input file comes to.
use Rattle.std.proofs.Common.{◌≡◌, ◌∙◌, ap, subst, sym, refl, ℕ, List, [], ◌∷◌, map, Option, Some, None, IfSome}
use Rattle.smv_language.specs.Language.{Text, ProgramTree, FlatInstance, FlatModel as ModelTree, instance_tree, model_tree}
use Rattle.smv_flat_laws.specs.Model.{IsFlatOf}
use Rattle.fault_instructions.specs.Instructions.{InstructionTree}
use Rattle.fault_extend_laws.specs.Expressions.{AllUsesKept}
use Rattle.smv_language.specs.declared.model.FlatModel.{FlatModel}
use Rattle.smv_language.specs.declared.model.Instance.{Instance}
use Rattle.fault_extend.specs.FirstRefusal.{modules_in}
use Rattle.base_files.specs.declared.files.NamedFile.{NamedFile}
use Rattle.verb_loading.specs.declared.status.InputFault.{InputFault}
use Rattle.verb_loading.specs.declared.status.Refusal.{Refusal}
use Rattle.verb_loading.specs.declared.loaded.LoadedCase.{LoadedCase}
use Rattle.verb_loading.specs.LoadedCases.{IsLoaded, IsLoadedFrom, HoldsLoaded}
use Rattle.verb_loading.specs.declared.status.Refusal.TheVariants as refusal
use Rattle.verb_loading.specs.declared.wrong.Wrong.{Wrong}
use Rattle.verb_loading.specs.declared.wrong.Wrong.TheVariants as wrong
use Rattle.verb_loading.specs.declared.input.Input.TheVariants as input
use Rattle.verb_loading.specs.declared.input.Stop.TheVariants as stop
use Rattle.verb_loading.specs.Wrongs.{IfRefused}
use Rattle.verb_loading.specs.Models.{IsLawful, IsWrongModel}
use Rattle.verb_loading.specs.Inputs.{refusal_at, stop_at, IsRefusedFile, HasBytes, RefusesModel, model_file, model_bytes, IsWrongFaults, RefusesFaults, faults_file, faults_bytes}
use Rattle.smv_flat_laws.specs.Items.{modules_of_instances}

-- a stop at the one refusal is a stop at no other
pub same_refusal : {x r : Refusal} → stop.Refused x ≡ stop.Refused r → r ≡ x
same_refusal e = cc

-- a refused file, as the refusal of the model
pub refuses_model_file : (told : Option (List NamedFile)) (name : Text) (r : Refusal) (fault : InputFault) → r ≡ refusal_at input.Model fault →
    IfSome told (λ files. IsRefusedFile files name fault) → IfSome told (λ files. RefusesModel files name r)
refuses_model_file None name r fault is refused = tt
refuses_model_file (Some files) name r fault is refused = model_file fault is refused

-- bytes that are wrong, as the refusal of the model
pub refuses_model_bytes : (told : Option (List NamedFile)) (name : Text) (bytes : List ℕ) (w : Wrong) (r : Refusal) → stop.Refused r ≡ stop_at input.Model w →
    IfSome told (λ files. HasBytes files name bytes) → IfRefused (IsWrongModel bytes) w → IfSome told (λ files. RefusesModel files name r)
refuses_model_bytes None name bytes w r is has bad = tt
refuses_model_bytes (Some files) name bytes (wrong.Refused fault) r is has bad = let same : r ≡ refusal.Model fault = cc in model_bytes bytes fault same has bad
refuses_model_bytes (Some files) name bytes wrong.Memory r is has bad = cc

pub refuses_faults_file : (told : Option (List NamedFile)) (name : Text) (p : ProgramTree) (r : Refusal) (fault : InputFault) → r ≡ refusal_at input.Faults fault →
    IfSome told (λ files. IsRefusedFile files name fault) → IfSome told (λ files. RefusesFaults files name p r)
refuses_faults_file None name p r fault is refused = tt
refuses_faults_file (Some files) name p r fault is refused = faults_file fault is refused

pub refuses_faults_bytes : (told : Option (List NamedFile)) (name : Text) (p : ProgramTree) (bytes : List ℕ) (w : Wrong) (r : Refusal) → stop.Refused r ≡ stop_at input.Faults w →
    IfSome told (λ files. HasBytes files name bytes) → IfRefused (IsWrongFaults p bytes) w → IfSome told (λ files. RefusesFaults files name p r)
refuses_faults_bytes None name p bytes w r is has bad = tt
refuses_faults_bytes (Some files) name p bytes (wrong.Refused fault) r is has bad = let same : r ≡ refusal.Faults fault = cc in faults_bytes bytes fault same has bad
refuses_faults_bytes (Some files) name p bytes wrong.Memory r is has bad = cc

-- the modules of a model's instances are those of the program's
pub modules_are : (p : ProgramTree) (m : FlatModel) → IsFlatOf p (model_tree m) → modules_in m.instances ≡ modules_of_instances p
modules_are p m is = twice m.instances ∙ ap (map (λ (at : FlatInstance). at.module_name)) is.instances
  where
    twice : (xs : List Instance) → modules_in xs ≡ map (λ (at : FlatInstance). at.module_name) (map instance_tree xs)
    twice [] = refl
    twice (x ∷ xs) = ap (λ rest. x.«module» ∷ rest) (twice xs)

-- what is so of the modes over a lawful program's flat model is so over each of its flat models, since it has one
pub all_uses : (p : ProgramTree) (m : ModelTree) (i : InstructionTree) → IsLawful p m → AllUsesKept p m i → (n : ModelTree) → IsFlatOf p n → AllUsesKept p n i
all_uses p m i lawful kept n is = subst (λ o. AllUsesKept p o i) (sym (lawful.model.only n is)) kept

-- bytes that are taken, as the extension in memory
pub holds_loaded : (told : Option (List NamedFile)) (name : Text) (p : ProgramTree) (bytes : List ℕ) (l : LoadedCase) → IfSome told (λ files. HasBytes files name bytes) → IsLoadedFrom bytes l → IsLoaded p l →
    IfSome told (λ files. HoldsLoaded files name p l)
holds_loaded None name p bytes l has text loaded = tt
holds_loaded (Some files) name p bytes l has text loaded = record { bytes = bytes; has = has; is_text = text; is_case = loaded.is_case }
