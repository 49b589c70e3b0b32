-- A program of stages breaks no rule at any site: the sites in their order.
use Rattle.std.proofs.Common.{◌≡◌, ℕ, suc, ◌+◌, ◌<◌, ◌≤◌, arith, List, [], ◌∷◌, ◌++◌, length, Option, refl, sym, ◌∙◌, ap, subst, length-append}
use Rattle.std.specs.Prelude.{codes, map, flat_map}
use Rattle.base_values.specs.declared.limits.TheConstants.{MOST_INSTANCES, MOST_VARIABLES}
use Rattle.smv_language.specs.Language.{boolean, ProgramTree, state, Each, FlatInstance}
use Rattle.smv_flat_laws.specs.Items.{Item, numbered_from, items_named, Visit, walk_items, walk, visits, instance_declared, instances_of_visit}
use Rattle.smv_flat_laws.specs.Rules.{no_such_module, wrong_count, module_loop, too_many, a_visit, an_item, a_use, instances_before, variables_before, visit_sites, module_sites, use_sites, IsKept, IsAccepted}
use Rattle.smv_flat_laws.proofs.Conditions.{each_join}
use Rattle.fault_generator_laws.specs.Laws.{GeneratedIsAccepted}
use Rattle.fault_generator.specs.Generator.{stage_name, stage}
use Rattle.fault_generator_laws.proofs.Stages.{relay_sections, IsStageBefore, program_of, AreStages, generated_of_stages}
use Rattle.fault_generator_laws.proofs.Meanings.{stage_there}
use Rattle.fault_generator_laws.proofs.Items.{item_stage, items_from, AreEarlier, one_earlier, main_numbered, main_is, program_kept, relay_kept, main_kept, out_kept, follows_kept, stage_kept, dead_kept, stage_used, dead_used, out_used, follows_used}
use Rattle.smv_flat_laws.proofs.VariableCounts.{variables_and}
use Rattle.smv_language.proofs.ListLaws.{flat_end}

-- the walk comes to each stage, and inside it to its output
abbrev pub stage_visit : ℕ → ℕ → Option ℕ → Visit
stage_visit k i f = record { place = []; on_path = codes "main" ∷ []; number = k; role = state; decl = stage i f }

abbrev pub out_visit : ℕ → Visit
out_visit i = record { place = stage_name i ∷ []; on_path = codes "Relay" ∷ codes "main" ∷ []; number = 2; role = state; decl = record { name = codes "out"; what = boolean } }

abbrev pub visits_from : ℕ → ℕ → List (Option ℕ) → List Visit
visits_from k i [] = []
visits_from k i (f ∷ fs) = stage_visit k i f ∷ out_visit i ∷ visits_from (suc k) (suc i) fs

-- Numbers of instances and of variables so far.
count_end : {A B : Type 0} (g : A → List B) (xs : List A) (x : A) → length (flat_map g (xs ++ x ∷ [])) ≡ length (flat_map g xs) + length (g x)
count_end g xs x = ap (λ ys. length ys) (flat_end g xs x) ∙ length-append (flat_map g xs) (g x)

record AreCounted (i : ℕ) (before : List Visit) : Type 0 where
  instances : instances_before before ≡ i
  variables : suc (variables_before before) ≡ i

pub instances_and : (before : List Visit) (v : Visit) → instances_before (before ++ v ∷ []) ≡ instances_before before + length (instance_declared v.place v.decl.what)
instances_and before v = omega (arith, count_end (λ (v : Visit). instance_declared v.place v.decl.what) before v)

counted_more : (k i : ℕ) (f : Option ℕ) (before : List Visit) → AreCounted i before → AreCounted (suc i) ((before ++ stage_visit k i f ∷ []) ++ out_visit i ∷ [])
counted_more k i f before are = record {
  instances = omega (arith, instances_and (before ++ stage_visit k i f ∷ []) (out_visit i), instances_and before (stage_visit k i f), are.instances);
  variables = omega (arith, variables_and (before ++ stage_visit k i f ∷ []) (out_visit i), variables_and before (stage_visit k i f), are.variables);
}

module _ (fs : List (Option ℕ)) (last_a last_b : Option ℕ) (are : AreStages fs last_a last_b) where
  abbrev p : ProgramTree
  p = program_of fs last_a last_b

  walk_from : (k i : ℕ) (before : List Item) (gs : List (Option ℕ)) → walk_items (walk 1 p (codes "main" ∷ [])) (codes "main" ∷ []) [] (numbered_from k before (items_from last_a last_b i gs)) ≡ visits_from k i gs
  walk_from k i before [] = refl
  walk_from k i before (f ∷ gs) = ap (λ vs. stage_visit k i f ∷ out_visit i ∷ vs) (walk_from (suc k) (suc i) (before ++ item_stage i f ∷ []) gs)

  pub visits_are : visits p ≡ visits_from 5 1 fs
  visits_are = walk_from 5 1 [] fs

  -- Modules by items.
  items_kept : (k i : ℕ) (before : List Item) (gs : List (Option ℕ)) → AreEarlier i before → i + length gs ≤ MOST_INSTANCES →
      Each (IsKept p) (map (an_item (main_numbered fs last_a last_b are)) (numbered_from k before (items_from last_a last_b i gs)))
  items_kept k i before [] earlier h = (dead_kept fs last_a last_b are k i before earlier, tt)
  items_kept k i before (f ∷ gs) earlier h = (
    stage_kept fs last_a last_b are k i f before (omega (arith, h)) earlier,
    items_kept (suc k) (suc i) (before ++ item_stage i f ∷ []) gs (one_earlier i f before earlier) (omega (arith, h)),
  )

  modules_kept : Each (IsKept p) (module_sites p)
  modules_kept = (
    relay_kept fs last_a last_b are,
    (
      out_kept fs last_a last_b are,
      (
        follows_kept fs last_a last_b are,
        (
          main_kept fs last_a last_b are,
          each_join (IsKept p) (map (an_item (main_numbered fs last_a last_b are)) (numbered_from 5 [] (items_from last_a last_b 1 fs))) []
              (items_kept 5 1 [] fs (record { stages = λ j h k. refl; dead = refl }) (omega (arith, are.few))) tt,
        ),
      ),
    ),
  )

  -- The walk.
  stage_visited : (k i : ℕ) (f : Option ℕ) (before : List Visit) → AreCounted i before → i < MOST_INSTANCES → IsKept p (a_visit before (stage_visit k i f))
  stage_visited k i f before counted h no_such_module b = cc
  stage_visited k i f before counted h wrong_count b = cc
  stage_visited k i f before counted h module_loop b = cc
  stage_visited k i f before counted h too_many b = omega (arith, b, counted.instances, h)
  stage_visited k i f before counted h other b = b

  out_visited : (i : ℕ) (before : List Visit) → variables_before before < MOST_VARIABLES → IsKept p (a_visit before (out_visit i))
  out_visited i before h no_such_module b = cc
  out_visited i before h wrong_count b = cc
  out_visited i before h module_loop b = cc
  out_visited i before h too_many b = omega (arith, b, h)
  out_visited i before h other b = b

  visits_kept : (k i : ℕ) (before : List Visit) (gs : List (Option ℕ)) → AreCounted i before → i + length gs ≤ MOST_INSTANCES → Each (IsKept p) (visit_sites before (visits_from k i gs))
  visits_kept k i before [] counted h = tt
  visits_kept k i before (f ∷ gs) counted h = (
    stage_visited k i f before counted (omega (arith, h)),
    (
      out_visited i (before ++ stage_visit k i f ∷ []) (omega (arith, h, counted.variables, variables_and before (stage_visit k i f))),
      visits_kept (suc k) (suc i) ((before ++ stage_visit k i f ∷ []) ++ out_visit i ∷ []) gs (counted_more k i f before counted) (omega (arith, h)),
    ),
  )

  -- Instances by items.
  main_used : (k i : ℕ) (before : List Item) (gs : List (Option ℕ)) → 1 ≤ i → i + length gs ≤ suc (length fs) → Each (IsStageBefore (suc (length fs))) gs →
      Each (IsKept p) (map (a_use (main_is fs last_a last_b are)) (numbered_from k before (items_from last_a last_b i gs)))
  main_used k i before [] h l fed = (dead_used fs last_a last_b are k before, tt)
  main_used k i before (f ∷ gs) h l fed = (
    stage_used fs last_a last_b are k i f before (stage_there relay_sections fs last_a last_b are refl i h (omega (arith, l))) fed.0,
    main_used (suc k) (suc i) (before ++ item_stage i f ∷ []) gs (omega arith) (omega (arith, l)) fed.1,
  )

  stages_used : (k i : ℕ) (gs : List (Option ℕ)) → 1 ≤ i → i + length gs ≤ suc (length fs) →
      Each (IsKept p) (flat_map (λ (at : FlatInstance). map (a_use at) (items_named p at.module_name)) (flat_map instances_of_visit (visits_from k i gs)))
  stages_used k i [] h l = tt
  stages_used k i (f ∷ gs) h l = (
    out_used fs last_a last_b are i,
    (follows_used fs last_a last_b are i (stage_there relay_sections fs last_a last_b are refl i h (omega (arith, l))), stages_used (suc k) (suc i) gs (omega arith) (omega (arith, l))),
  )

  uses_kept : Each (IsKept p) (use_sites p)
  uses_kept =
      each_join (IsKept p) (map (a_use (main_is fs last_a last_b are)) (items_named p (codes "main")))
      (flat_map (λ (at : FlatInstance). map (a_use at) (items_named p at.module_name)) (flat_map instances_of_visit (visits p)))
      (main_used 5 1 [] fs (omega arith) (omega arith) are.fed)
      (subst (λ vs. Each (IsKept p) (flat_map (λ (at : FlatInstance). map (a_use at) (items_named p at.module_name)) (flat_map instances_of_visit vs))) (sym visits_are) (stages_used 5 1 fs (omega arith) (omega arith)))

  pub accepted : IsAccepted p
  accepted = (
    program_kept fs last_a last_b are,
    each_join (IsKept p) (module_sites p) (visit_sites [] (visits p) ++ use_sites p) modules_kept
        (each_join (IsKept p) (visit_sites [] (visits p)) (use_sites p)
        (subst (λ vs. Each (IsKept p) (visit_sites [] vs)) (sym visits_are) (visits_kept 5 1 [] fs (record { instances = refl; variables = refl }) (omega (arith, are.few)))) uses_kept),
  )

pub generated_accepted : GeneratedIsAccepted
generated_accepted number stages few =
    let of = generated_of_stages number stages few in subst IsAccepted of.same (accepted of.fs of.last_a of.last_b of.are)
