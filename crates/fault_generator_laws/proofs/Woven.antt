-- The extension of a program of stages has three variables a stage, and so passes no limit of numbers.
use Rattle.std.proofs.Common.{◌≡◌, ℕ, suc, ◌+◌, ◌<◌, ◌≤◌, arith, List, [], ◌∷◌, ◌++◌, length, Option, refl, sym, ◌∙◌, ap, subst}
use Rattle.std.specs.Prelude.{codes, map, flat_map}
use Rattle.base_values.specs.declared.limits.TheConstants.{MOST_INSTANCES, MOST_VARIABLES}
use Rattle.smv_language.specs.Language.{Text, DeclaredTree, boolean, SectionTree, ProgramTree, state, Each, FlatInstance}
use Rattle.smv_flat_laws.specs.Items.{Item, NumberedItem, NumberedModule, numbered_items, numbered_from, items_named, modules_of, Visit, walk_items, walk, visits, instances_of_visit, instances_of}
use Rattle.smv_flat_laws.specs.Rules.{too_many, a_header, an_item, a_visit, a_use, instances_before, variables_before, visit_sites, module_sites, use_sites, sites, Breaks, IsWithin}
use Rattle.smv_flat_laws.proofs.Reaches.{each_right}
use Rattle.smv_flat_laws.proofs.Conditions.{each_join, each_flat}
use Rattle.fault_instructions.specs.AddedNames.{own_name, mode_variable}
use Rattle.fault_weave.specs.WovenProgram.{mode_type, woven_module, woven}
use Rattle.fault_generator.specs.Generator.{stage_name, relay_module, relay_slice, generated_instructions, generated_model}
use Rattle.fault_generator_laws.specs.Laws.{WovenIsWithinNumbers, WovenBreaksNoNumber}
use Rattle.fault_generator_laws.proofs.Stages.{program_with, generated_of_stages}
use Rattle.fault_generator_laws.proofs.Items.{items_from, item_stage}
use Rattle.fault_generator_laws.proofs.Accepted.{stage_visit, instances_and}
use Rattle.fault_generator_laws.proofs.Roots.{stage_instances, instances_with}
use Rattle.smv_flat_laws.proofs.VariableCounts.{variables_and}

-- the sections of the woven module of relays
abbrev pub woven_sections : List SectionTree
woven_sections = (woven_module generated_instructions relay_module).sections

abbrev pub woven_of : List (Option ℕ) → Option ℕ → Option ℕ → ProgramTree
woven_of fs last_a last_b = program_with woven_sections fs last_a last_b

-- the walk comes to each stage, and inside it to its output, its own value and the state of its slice
abbrev pub inner_visit : ℕ → ℕ → Text → DeclaredTree → Visit
inner_visit i n x what = record { place = stage_name i ∷ []; on_path = codes "Relay" ∷ codes "main" ∷ []; number = n; role = state; decl = record { name = x; what = what } }

abbrev pub out_inside : ℕ → Visit
out_inside i = inner_visit i 2 (codes "out") boolean

abbrev pub own_inside : ℕ → Visit
own_inside i = inner_visit i 4 (own_name (codes "out")) boolean

abbrev pub mode_inside : ℕ → Visit
mode_inside i = inner_visit i 5 (mode_variable (codes "R")) (mode_type relay_slice)

abbrev pub woven_visits : ℕ → ℕ → List (Option ℕ) → List Visit
woven_visits k i [] = []
woven_visits k i (f ∷ fs) = stage_visit k i f ∷ out_inside i ∷ own_inside i ∷ mode_inside i ∷ woven_visits (suc k) (suc i) fs

-- Numbers so far.
record AreWithin (i : ℕ) (before : List Visit) : Type 0 where
  instances : instances_before before ≡ i
  variables : 3 + variables_before before ≡ i + i + i

within_more : (k i : ℕ) (f : Option ℕ) (before : List Visit) → AreWithin i before →
    AreWithin (suc i) ((((before ++ stage_visit k i f ∷ []) ++ out_inside i ∷ []) ++ own_inside i ∷ []) ++ mode_inside i ∷ [])
within_more k i f before are =
    let b1 : List Visit = before ++ stage_visit k i f ∷ [] in
    let b2 : List Visit = b1 ++ out_inside i ∷ [] in
    let b3 : List Visit = b2 ++ own_inside i ∷ [] in
    record {
      instances = omega (arith, instances_and b3 (mode_inside i), instances_and b2 (own_inside i), instances_and b1 (out_inside i), instances_and before (stage_visit k i f), are.instances);
      variables = omega (arith, variables_and b3 (mode_inside i), variables_and b2 (own_inside i), variables_and b1 (out_inside i), variables_and before (stage_visit k i f), are.variables);
    }

header_within : (p : ProgramTree) (m : NumberedModule) → IsWithin p (a_header m)
header_within p m b = b

items_within : (p : ProgramTree) (m : NumberedModule) (is : List NumberedItem) → Each (IsWithin p) (map (an_item m) is)
items_within p m [] = tt
items_within p m (i ∷ is) = (λ b. b, items_within p m is)

uses_within : (p : ProgramTree) (at : FlatInstance) (is : List NumberedItem) → Each (IsWithin p) (map (a_use at) is)
uses_within p at [] = tt
uses_within p at (i ∷ is) = (λ b. b, uses_within p at is)

modules_within : (p : ProgramTree) → Each (IsWithin p) (module_sites p)
modules_within p = (each_flat (IsWithin p) (λ (m : NumberedModule). a_header m ∷ map (an_item m) (numbered_items m)) (modules_of p)).1 (all (modules_of p))
  where
    all : (ms : List NumberedModule) → Each (λ (m : NumberedModule). Each (IsWithin p) (a_header m ∷ map (an_item m) (numbered_items m))) ms
    all [] = tt
    all (m ∷ ms) = ((header_within p m, items_within p m (numbered_items m)), all ms)

all_uses_within : (p : ProgramTree) → Each (IsWithin p) (use_sites p)
all_uses_within p = (each_flat (IsWithin p) (λ (at : FlatInstance). map (a_use at) (items_named p at.module_name)) (instances_of p)).1 (all (instances_of p))
  where
    all : (xs : List FlatInstance) → Each (λ (at : FlatInstance). Each (IsWithin p) (map (a_use at) (items_named p at.module_name))) xs
    all [] = tt
    all (at ∷ xs) = (uses_within p at (items_named p at.module_name), all xs)

-- an instance after fewer than `MOST_INSTANCES`, and a variable after fewer than `MOST_VARIABLES`
stage_within : (p : ProgramTree) (k i : ℕ) (f : Option ℕ) (before : List Visit) → instances_before before < MOST_INSTANCES → IsWithin p (a_visit before (stage_visit k i f))
stage_within p k i f before h b = omega (arith, b, h)

out_within : (p : ProgramTree) (i : ℕ) (before : List Visit) → variables_before before < MOST_VARIABLES → IsWithin p (a_visit before (out_inside i))
out_within p i before h b = omega (arith, b, h)

own_within : (p : ProgramTree) (i : ℕ) (before : List Visit) → variables_before before < MOST_VARIABLES → IsWithin p (a_visit before (own_inside i))
own_within p i before h b = omega (arith, b, h)

mode_within : (p : ProgramTree) (i : ℕ) (before : List Visit) → variables_before before < MOST_VARIABLES → IsWithin p (a_visit before (mode_inside i))
mode_within p i before h b = omega (arith, b, h)

visits_within : (p : ProgramTree) (k i : ℕ) (before : List Visit) (gs : List (Option ℕ)) → AreWithin i before → i + length gs ≤ 600 → Each (IsWithin p) (visit_sites before (woven_visits k i gs))
visits_within p k i before [] are h = tt
visits_within p k i before (f ∷ gs) are h =
    let b1 : List Visit = before ++ stage_visit k i f ∷ [] in
    let b2 : List Visit = b1 ++ out_inside i ∷ [] in
    let b3 : List Visit = b2 ++ own_inside i ∷ [] in (
      stage_within p k i f before (omega (arith, are.instances, h)),
      (
        out_within p i b1 (omega (arith, are.variables, variables_and before (stage_visit k i f), h)),
        (
          own_within p i b2 (omega (arith, are.variables, variables_and b1 (out_inside i), variables_and before (stage_visit k i f), h)),
          (
            mode_within p i b3 (omega (arith, are.variables, variables_and b2 (own_inside i), variables_and b1 (out_inside i), variables_and before (stage_visit k i f), h)),
            visits_within p (suc k) (suc i) (b3 ++ mode_inside i ∷ []) gs (within_more k i f before are) (omega (arith, h)),
          ),
        ),
      ),
    )

module _ (fs : List (Option ℕ)) (last_a last_b : Option ℕ) where
  abbrev w : ProgramTree
  w = woven_of fs last_a last_b

  woven_walk : (k i : ℕ) (before : List Item) (gs : List (Option ℕ)) →
      walk_items (walk 1 w (codes "main" ∷ [])) (codes "main" ∷ []) [] (numbered_from k before (items_from last_a last_b i gs)) ≡ woven_visits k i gs
  woven_walk k i before [] = refl
  woven_walk k i before (f ∷ gs) =
      ap (λ vs. stage_visit k i f ∷ out_inside i ∷ own_inside i ∷ mode_inside i ∷ vs) (woven_walk (suc k) (suc i) (before ++ item_stage i f ∷ []) gs)

  pub woven_visits_are : visits w ≡ woven_visits 10 1 fs
  woven_visits_are = woven_walk 10 1 [] fs

  pub woven_instances_are : instances_of w ≡ instances_with fs
  woven_instances_are =
      ap (λ vs. record { place = []; module_name = codes "main" } ∷ flat_map instances_of_visit vs) woven_visits_are
      ∙ ap (λ (xs : List FlatInstance). record { place = []; module_name = codes "main" } ∷ xs) (stages_are 10 1 fs)
    where
      stages_are : (k i : ℕ) (gs : List (Option ℕ)) → flat_map instances_of_visit (woven_visits k i gs) ≡ stage_instances i gs
      stages_are k i [] = refl
      stages_are k i (f ∷ gs) = ap (λ xs. record { place = stage_name i ∷ []; module_name = codes "Relay" } ∷ xs) (stages_are (suc k) (suc i) gs)

  pub woven_within : length fs ≤ 500 → Each (IsWithin w) (sites w)
  woven_within few = (
    λ b. b,
    each_join (IsWithin w) (module_sites w) (visit_sites [] (visits w) ++ use_sites w) (modules_within w)
        (each_join (IsWithin w) (visit_sites [] (visits w)) (use_sites w)
        (subst (λ vs. Each (IsWithin w) (visit_sites [] vs)) (sym woven_visits_are) (visits_within w 10 1 [] fs (record { instances = refl; variables = refl }) (omega (arith, few)))) (all_uses_within w)),
  )

pub generated_within_numbers : WovenIsWithinNumbers
generated_within_numbers number stages few =
    let of = generated_of_stages number stages (omega (arith, few)) in
    subst (λ p. Each (λ site. Breaks (woven p generated_instructions) too_many site → ⊥) (sites (woven p generated_instructions))) of.same (woven_within of.fs of.last_a of.last_b (omega (arith, of.count, few)))

pub generated_breaks_no_number : WovenBreaksNoNumber
generated_breaks_no_number number stages few item first =
    let w : ProgramTree = woven (generated_model number stages) generated_instructions in
    (each_right (IsWithin w) first.before (first.site ∷ first.after) (subst (Each (IsWithin w)) first.in_order (generated_within_numbers number stages few))).0 first.broken
