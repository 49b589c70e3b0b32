-- The faults of a program of stages: one a stage.
use Rattle.std.proofs.Common.{◌≡◌, ℕ, zero, suc, ◌+◌, ◌≤◌, arith, List, [], ◌∷◌, ◌++◌, length, Option, Some, None, refl, sym, ◌∙◌, ap, subst, append-nil}
use Rattle.std.specs.Prelude.{codes, flat_map}
use Rattle.smv_language.specs.Language.{ModuleTree, ProgramTree, Place, module_at}
use Rattle.fault_weave.specs.Faults.{Fault, instance_names_in, joined, each_joined, below, instances_in, slice_faults, module_slices, place_faults, HasFaults}
use Rattle.fault_generator.specs.Generator.{stage_name, relay_module, generated_instructions}
use Rattle.fault_generator_laws.specs.Laws.{GeneratedFaultsAreStages}
use Rattle.fault_generator_laws.proofs.Stages.{relay_sections, stages_from, program_of, AreStages, generated_of_stages}
use Rattle.fault_generator_laws.proofs.Meanings.{stage_there, relay_there}
use Rattle.std.proofs.lemmas.Option.{none-some as never_some}

-- the places of stages
abbrev stage_places : ℕ → List (Option ℕ) → List Place
stage_places i [] = []
stage_places i (f ∷ fs) = (stage_name i ∷ []) ∷ stage_places (suc i) fs

one_list : {A : Type 0} (xs ys : List A) → Some xs ≡ Some ys → xs ≡ ys
one_list xs ys e = cc

module _ (fs : List (Option ℕ)) (last_a last_b : Option ℕ) (are : AreStages fs last_a last_b) where
  abbrev p : ProgramTree
  p = program_of fs last_a last_b

  relay_at : (i : ℕ) → 1 ≤ i → i ≤ length fs → module_at p (stage_name i ∷ []) ≡ Some relay_module
  relay_at i h k = relay_there relay_sections fs last_a last_b are refl (stage_name i) (stage_there relay_sections fs last_a last_b are refl i h k)

  one_place : (n i : ℕ) → 1 ≤ i → i ≤ length fs → instances_in (suc n) p (stage_name i ∷ []) ≡ Some ((stage_name i ∷ []) ∷ [])
  one_place n i h k = ap (below (instances_in n p) (stage_name i ∷ [])) (relay_at i h k)

  places_found : (n i : ℕ) (gs : List (Option ℕ)) → 1 ≤ i → i + length gs ≤ suc (length fs) →
      each_joined (λ x. instances_in (suc n) p (x ∷ [])) (instance_names_in (stages_from i gs)) ≡ Some (stage_places i gs)
  places_found n i [] h k = refl
  places_found n i (f ∷ gs) h k =
      ap (λ o. joined o (each_joined (λ x. instances_in (suc n) p (x ∷ [])) (instance_names_in (stages_from (suc i) gs)))) (one_place n i h (omega (arith, k)))
      ∙ ap (joined (Some ((stage_name i ∷ []) ∷ []))) (places_found n (suc i) gs (omega arith) (omega (arith, k)))

  places_are : (n i : ℕ) (gs : List (Option ℕ)) (places : List Place) → 1 ≤ i → i + length gs ≤ suc (length fs) →
      each_joined (λ x. instances_in n p (x ∷ [])) (instance_names_in (stages_from i gs)) ≡ Some places → places ≡ stage_places i gs
  places_are zero i [] places h k e = one_list places [] (sym e)
  places_are zero i (f ∷ gs) places h k e = absurd (never_some places e)
  places_are (suc n) i gs places h k e = one_list places (stage_places i gs) (sym e ∙ places_found n i gs h k)

  -- `main` comes before those of its stages
  joined_after : (o : Option (List Place)) (places : List Place) → joined (Some ([] ∷ [])) o ≡ Some places → (more : List Place) × (o ≡ Some more) × (places ≡ [] ∷ more)
  joined_after None places e = absurd (never_some places e)
  joined_after (Some more) places e = (more, refl, one_list places ([] ∷ more) (sym e))

  all_places : (n : ℕ) (places : List Place) → instances_in n p [] ≡ Some places → places ≡ [] ∷ stage_places 1 fs
  all_places zero places e = absurd (never_some places e)
  all_places (suc n) places e =
      let names = append-nil (instance_names_in (stages_from 1 fs)) in
      let parts = joined_after (each_joined (λ x. instances_in n p (x ∷ [])) (instance_names_in (stages_from 1 fs))) places
      (sym (ap (λ xs. joined (Some ([] ∷ [])) (each_joined (λ x. instances_in n p (x ∷ [])) xs)) names) ∙ e) in
      parts.2 ∙ ap (λ more. [] ∷ more) (places_are n 1 fs parts.0 (omega arith) (omega arith) parts.1)

  one_fault : (i : ℕ) → 1 ≤ i → i ≤ length fs → place_faults p generated_instructions (stage_name i ∷ []) ≡ record { place = stage_name i ∷ []; slice = codes "R"; mode = codes "off" } ∷ []
  one_fault i h k = ap (λ (o : Option ModuleTree). flat_map (slice_faults (stage_name i ∷ [])) (module_slices generated_instructions o)) (relay_at i h k)

  faults_counted : (i : ℕ) (gs : List (Option ℕ)) → 1 ≤ i → i + length gs ≤ suc (length fs) → length (flat_map (place_faults p generated_instructions) (stage_places i gs)) ≡ length gs
  faults_counted i [] h k = refl
  faults_counted i (f ∷ gs) h k =
      ap (λ faults. length (faults ++ flat_map (place_faults p generated_instructions) (stage_places (suc i) gs))) (one_fault i h (omega (arith, k)))
      ∙ ap suc (faults_counted (suc i) gs (omega arith) (omega (arith, k)))

  pub faults_are_stages : (faults : List Fault) → HasFaults p generated_instructions faults → length faults ≡ length fs
  faults_are_stages faults h =
      ap (λ fs. length fs) (h.2 ∙ ap (flat_map (place_faults p generated_instructions)) (all_places h.1.0 h.0 h.1.1)) ∙ faults_counted 1 fs (omega arith) (omega arith)

pub generated_faults_are_stages : GeneratedFaultsAreStages
generated_faults_are_stages number stages few faults h =
    let of = generated_of_stages number stages few in
    faults_are_stages of.fs of.last_a of.last_b of.are faults (subst (λ p. HasFaults p generated_instructions faults) (sym of.same) h) ∙ of.count
