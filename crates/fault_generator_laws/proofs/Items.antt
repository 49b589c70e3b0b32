-- No item of a program of stages breaks a rule, in its module or at an instance.
use Rattle.std.proofs.Common.{◌≡◌, ℕ, suc, ◌<◌, ◌≤◌, ◌^◌, arith, true, false, List, [], ◌∷◌, ◌++◌, length, Option, Some, None, refl, sym, ◌∙◌, ap, inl, inr}
use Rattle.std.specs.Prelude.{map, codes, flat_map}
use Rattle.smv_language.specs.Language.{leaf, Text, boolean, ModuleTree, ProgramTree, is_among, kind_at, state, FlatInstance}
use Rattle.smv_language.specs.declared.program.Moment.TheVariants.{Always}
use Rattle.smv_flat_laws.specs.NameResolution.{has_next}
use Rattle.smv_flat_laws.specs.Items.{Item, a_declaration, a_definition, an_assignment, NumberedModule}
use Rattle.smv_flat_laws.specs.Rules.{no_main, main_has_parameters, double_module, double_name, no_such_name, not_a_target, double_assign, define_loop, next_here, input_here, the_program, a_header, an_item, a_use, names_of_item, HasNoValue, is_target, may_be_assigned, IsKept}
use Rattle.fault_generator.specs.Generator.{stage_name, stage, output_of, relay_module, dead_formula}
use Rattle.fault_generator_laws.proofs.Stages.{stages_from, relay_sections, IsStageBefore, main_of, program_of, AreStages, names_differ}
use Rattle.fault_generator_laws.proofs.Meanings.{IsStage, stage_there, relay_there, none_dead, output_has_value, output_means_something, feed_has_value, dead_is_no_loop, no_actual_loops, feed_gives_no_input}
use Rattle.smv_language.proofs.ListLaws.{flat_end}
use Rattle.smv_language.proofs.AmongLaws.{among_none}

-- the items of both modules
abbrev pub item_out : Item
item_out = a_declaration state (record { name = codes "out"; what = boolean })

abbrev pub item_follows : Item
item_follows = an_assignment (record { when = Always; target = codes "out" ∷ []; value = leaf (codes "feed" ∷ []) })

abbrev pub item_stage : ℕ → Option ℕ → Item
item_stage i f = a_declaration state (stage i f)

abbrev pub item_dead : Option ℕ → Option ℕ → Item
item_dead last_a last_b = a_definition (record { name = codes "dead"; value = dead_formula last_a last_b })

-- the items of `main`, from the stage of this number on
abbrev pub items_from : Option ℕ → Option ℕ → ℕ → List (Option ℕ) → List Item
items_from last_a last_b i fs = map (a_declaration state) (stages_from i fs) ++ item_dead last_a last_b ∷ []

names_more : (before : List Item) (item : Item) (x : Text) → is_among (flat_map names_of_item before) x ≡ false → is_among (names_of_item item) x ≡ false →
    is_among (flat_map names_of_item (before ++ item ∷ [])) x ≡ false
names_more before item x h k = ap (λ names. is_among names x) (flat_end names_of_item before item) ∙ among_none (flat_map names_of_item before) (names_of_item item) x h k

-- no name of the items before is that of a stage from this number on, or `dead`
pub record AreEarlier (i : ℕ) (before : List Item) : Type 0 where
  pub stages : (j : ℕ) → i ≤ j → j < 2 ^ 64 → is_among (flat_map names_of_item before) (stage_name j) ≡ false
  pub dead : is_among (flat_map names_of_item before) (codes "dead") ≡ false

pub one_earlier : (i : ℕ) (f : Option ℕ) (before : List Item) → AreEarlier i before → AreEarlier (suc i) (before ++ item_stage i f ∷ [])
one_earlier i f before are = record {
  stages = λ j h k. names_more before (item_stage i f) (stage_name j) (are.stages j (omega (arith, h)) k) (rw (names_differ i j h k) refl);
  dead = names_more before (item_stage i f) (codes "dead") are.dead refl;
}

module _ (fs : List (Option ℕ)) (last_a last_b : Option ℕ) (are : AreStages fs last_a last_b) where
  abbrev p : ProgramTree
  p = program_of fs last_a last_b

  abbrev pub relay_numbered : NumberedModule
  relay_numbered = record { number = 1; before = []; tree = relay_module }

  abbrev pub main_numbered : NumberedModule
  main_numbered = record { number = 4; before = relay_module ∷ []; tree = main_of fs last_a last_b }

  abbrev pub main_is : FlatInstance
  main_is = record { place = []; module_name = codes "main" }

  abbrev pub stage_is : ℕ → FlatInstance
  stage_is i = record { place = stage_name i ∷ []; module_name = codes "Relay" }

  pub program_kept : IsKept p the_program
  program_kept no_main b = cc
  program_kept other b = b

  pub relay_kept : IsKept p (a_header relay_numbered)
  relay_kept main_has_parameters b = cc
  relay_kept double_module b = cc
  relay_kept double_name b = cc
  relay_kept other b = b

  pub main_kept : IsKept p (a_header main_numbered)
  main_kept main_has_parameters b = cc
  main_kept double_module b = cc
  main_kept double_name b = cc
  main_kept other b = b

  pub out_kept : IsKept p (an_item relay_numbered (record { number = 2; before = []; item = item_out }))
  out_kept double_name b = cc
  out_kept other b = b

  pub follows_kept : IsKept p (an_item relay_numbered (record { number = 3; before = item_out ∷ []; item = item_follows }))
  follows_kept double_name b = cc
  follows_kept other b = b

  pub stage_kept : (k i : ℕ) (f : Option ℕ) (before : List Item) → i < 2 ^ 64 → AreEarlier i before → IsKept p (an_item main_numbered (record { number = k; before = before; item = item_stage i f }))
  stage_kept k i f before h earlier double_name b = let fresh : is_among (flat_map names_of_item before) (stage_name i) ≡ false = earlier.stages i (omega arith) h in cc
  stage_kept k i f before h earlier other b = b

  pub dead_kept : (k i : ℕ) (before : List Item) → AreEarlier i before → IsKept p (an_item main_numbered (record { number = k; before = before; item = item_dead last_a last_b }))
  dead_kept k i before earlier double_name b = let fresh : is_among (flat_map names_of_item before) (codes "dead") ≡ false = earlier.dead in cc
  dead_kept k i before earlier other b = b

  -- At instances.
  no_next_output : (f : Option ℕ) → has_next (output_of f) ≡ false
  no_next_output None = refl
  no_next_output (Some j) = refl

  pub stage_used : (k i : ℕ) (f : Option ℕ) (before : List Item) → IsStage relay_sections fs last_a last_b are refl (stage_name i) → IsStageBefore (suc (length fs)) f →
      IsKept p (a_use main_is (record { number = k; before = before; item = item_stage i f }))
  stage_used k i None before s h no_such_name (inl b) = b
  stage_used k i (Some j) before s h no_such_name (inl b) = output_means_something relay_sections fs last_a last_b are refl j (stage_there relay_sections fs last_a last_b are refl j h.0 (omega (arith, h.1))) b
  stage_used k i f before s h no_such_name (inr b) = b
  stage_used k i f before s h define_loop b = no_actual_loops relay_sections fs last_a last_b are refl (stage_name i) s f b
  stage_used k i f before s h next_here b = let none : has_next (output_of f) ≡ false = no_next_output f in cc
  stage_used k i f before s h other b = b

  pub dead_used : (k : ℕ) (before : List Item) → IsKept p (a_use main_is (record { number = k; before = before; item = item_dead last_a last_b }))
  dead_used k before no_such_name b = none_dead relay_sections fs last_a last_b are refl (HasNoValue p []) (output_has_value relay_sections fs last_a last_b are refl) b
  dead_used k before define_loop b = dead_is_no_loop relay_sections fs last_a last_b are refl b
  dead_used k before next_here b =
      let none_a : has_next (output_of last_a) ≡ false = no_next_output last_a in let none_b : has_next (output_of last_b) ≡ false = no_next_output last_b in cc
  dead_used k before other b = b

  pub out_used : (i : ℕ) → IsKept p (a_use (stage_is i) (record { number = 2; before = []; item = item_out }))
  out_used i next_here b = cc
  out_used i other b = b

  pub follows_used : (i : ℕ) → IsStage relay_sections fs last_a last_b are refl (stage_name i) → IsKept p (a_use (stage_is i) (record { number = 3; before = item_out ∷ []; item = item_follows }))
  follows_used i s no_such_name (inl b) = feed_has_value relay_sections fs last_a last_b are refl (stage_name i) s b
  follows_used i s no_such_name (inr b) = b
  follows_used i s not_a_target b =
      let is : is_target p (stage_name i ∷ []) Always (codes "out" ∷ []) ≡ true = ap (λ (m : Option ModuleTree). may_be_assigned Always (kind_at m (codes "out"))) (relay_there relay_sections fs last_a last_b are refl (stage_name i) s) in
      let bad : true ≡ false = sym is ∙ b in cc
  follows_used i s double_assign (inl b) = b
  follows_used i s double_assign (inr b) = b
  follows_used i s next_here b = cc
  follows_used i s input_here (inl b) = feed_gives_no_input relay_sections fs last_a last_b are refl (stage_name i) s b
  follows_used i s input_here (inr b) = b
  follows_used i s other b = b
