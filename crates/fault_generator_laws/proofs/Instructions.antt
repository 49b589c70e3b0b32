-- The generator's instructions break no rule of a weave over a program of stages.
use Rattle.std.proofs.Common.{◌≡◌, ℕ, suc, ◌+◌, ◌*◌, ◌≤◌, arith, Bool, true, false, ◌||◌, List, [], ◌∷◌, length, Option, Some, None, refl, ◌∙◌, ap, subst, inl, inr, le-ltb}
use Rattle.std.specs.Prelude.{codes, map, flat_map}
use Rattle.std.specs.List.{list_any}
use Rattle.base_values.specs.declared.limits.TheConstants.{MOST_FAULTS}
use Rattle.smv_language.specs.Language.{Text, DeclaredTree, DeclTree, ProgramTree, same_text, Place, is_symbol_of_type, Each, FlatInstance, FlatModel}
use Rattle.smv_flat_laws.specs.Items.{instances_of_visit, instances_of, modules_of_instances}
use Rattle.smv_flat_laws.proofs.Conditions.{each_flat}
use Rattle.fault_instructions.specs.AddedNames.{own_name, mode_variable, mode_symbol}
use Rattle.fault_instructions.specs.KindTypes.{type_of_kind}
use Rattle.fault_rules.specs.Sites.{OwnedSlice, owned, a_slice, a_mode, item_sites}
use Rattle.fault_rules.specs.Rules.{is_program_name, target_kind, broken_at}
use Rattle.fault_rules.specs.CountLimits.{instances_of as count_of, count_broken_at}
use Rattle.fault_rules.specs.FirstBroken.{AllKept}
use Rattle.fault_extend_laws.specs.Uses.{Use, uses_at}
use Rattle.fault_extend_laws.specs.Expressions.{KeepsNames, KeepsUse}
use Rattle.fault_generator_laws.specs.Laws.{GeneratedItemsAreKept, GeneratedFaultsAreFew, GeneratedUsesAreKept}
use Rattle.fault_generator.specs.Generator.{stage_name, off_mode, relay_slice, generated_instructions}
use Rattle.fault_generator_laws.proofs.Stages.{stages_from, program_of, AreStages, generated_of_stages}
use Rattle.fault_generator_laws.proofs.Accepted.{visits_from, visits_are}

-- no stage has the name
no_stage_named : (i : ℕ) (fs : List (Option ℕ)) (x : Text) → ((j : ℕ) → same_text (stage_name j) x ≡ false) → list_any (λ (d : DeclTree). same_text d.name x || is_symbol_of_type d.what x) (stages_from i fs) ≡ false
no_stage_named i [] x other = refl
no_stage_named i (f ∷ fs) x other = rw (other i, no_stage_named (suc i) fs x other) refl

abbrev relay_owned : OwnedSlice
relay_owned = owned (codes "Relay") relay_slice

module _ (fs : List (Option ℕ)) (last_a last_b : Option ℕ) where
  abbrev p : ProgramTree
  p = program_of fs last_a last_b

  own_free : is_program_name p (own_name (codes "out")) ≡ false
  own_free = rw (no_stage_named 1 fs (own_name (codes "out")) (λ j. refl)) refl

  switch_free : is_program_name p (mode_variable (codes "R")) ≡ false
  switch_free = rw (no_stage_named 1 fs (mode_variable (codes "R")) (λ j. refl)) refl

  nominal_free : is_program_name p (mode_symbol (codes "R") None) ≡ false
  nominal_free = rw (no_stage_named 1 fs (mode_symbol (codes "R") None) (λ j. refl)) refl

  off_free : is_program_name p (mode_symbol (codes "R") (Some (codes "off"))) ≡ false
  off_free = rw (no_stage_named 1 fs (mode_symbol (codes "R") (Some (codes "off"))) (λ j. refl)) refl

  slice_kept : broken_at p (a_slice [] relay_owned) ≡ None
  slice_kept = rw (own_free, switch_free, nominal_free) refl

  mode_kept : broken_at p (a_mode [] relay_owned [] off_mode) ≡ None
  mode_kept = rw off_free refl

  pub items_kept : AllKept (broken_at p) (item_sites generated_instructions)
  items_kept = (refl, (slice_kept, (mode_kept, tt)))

-- Faults: one at each stage.
counted_stages : (k i : ℕ) (fs : List (Option ℕ)) → count_of (map (λ (at : FlatInstance). at.module_name) (flat_map instances_of_visit (visits_from k i fs))) (codes "Relay") ≡ length fs
counted_stages k i [] = refl
counted_stages k i (f ∷ fs) = ap suc (counted_stages (suc k) (suc i) fs)

few_faults : (names : List Text) → count_of names (codes "Relay") ≤ 256 → AllKept (count_broken_at names) (item_sites generated_instructions)
few_faults names few = (refl, (refl, (rw (le-ltb MOST_FAULTS (0 + (1 * count_of names (codes "Relay"))) (omega (arith, few))) refl, tt)))

module _ (fs : List (Option ℕ)) (last_a last_b : Option ℕ) (are : AreStages fs last_a last_b) where
  stages_counted : count_of (modules_of_instances (program_of fs last_a last_b)) (codes "Relay") ≡ length fs
  stages_counted =
      ap (λ vs. count_of (map (λ (at : FlatInstance). at.module_name) (record { place = []; module_name = codes "main" } ∷ flat_map instances_of_visit vs)) (codes "Relay")) (visits_are fs last_a last_b are)
      ∙ counted_stages 5 1 fs

  pub counts_kept : length fs ≤ 256 → AllKept (count_broken_at (modules_of_instances (program_of fs last_a last_b))) (item_sites generated_instructions)
  counts_kept few = few_faults (modules_of_instances (program_of fs last_a last_b)) (omega (arith, stages_counted, few))

-- No mode has a guard or follows anything.
abbrev off_use : Place → DeclaredTree → Use
off_use at type = record { place = at; item = 3; type = type; mode = off_mode }

off_keeps_names : (p : ProgramTree) (at : Place) (type : DeclaredTree) → KeepsNames p (off_use at type)
off_keeps_names p at type r (inl b) = b
off_keeps_names p at type r (inr b) = b

off_kept : (p : ProgramTree) (m : FlatModel) (at : Place) (type : DeclaredTree) → KeepsUse p m (off_use at type)
off_kept p m at type = record {
  names = off_keeps_names p at type;
  forms = record { follows_as = None; guard_as = None; is_followed = refl; is_guard = refl };
  kinds = refl;
}

uses_kept_at : (p : ProgramTree) (m : FlatModel) (at : FlatInstance) → Each (KeepsUse p m) (uses_at p generated_instructions at)
uses_kept_at p m at = by_name (same_text (codes "Relay") at.module_name) refl
  where
    by_name : (b : Bool) → same_text (codes "Relay") at.module_name ≡ b → Each (KeepsUse p m) (uses_at p generated_instructions at)
    by_name true e = rw e (off_kept p m at.place (type_of_kind (target_kind p (owned (codes "Relay") relay_slice))), tt)
    by_name false e = rw e tt

pub generated_uses_kept : GeneratedUsesAreKept
generated_uses_kept p m = (each_flat (KeepsUse p m) (uses_at p generated_instructions) (instances_of p)).1 (each_all (instances_of p))
  where
    each_all : (xs : List FlatInstance) → Each (λ at. Each (KeepsUse p m) (uses_at p generated_instructions at)) xs
    each_all [] = tt
    each_all (at ∷ xs) = (uses_kept_at p m at, each_all xs)

pub generated_items_kept : GeneratedItemsAreKept
generated_items_kept number stages few =
    let of = generated_of_stages number stages few in subst (λ p. AllKept (broken_at p) (item_sites generated_instructions)) of.same (items_kept of.fs of.last_a of.last_b)

pub generated_faults_few : GeneratedFaultsAreFew
generated_faults_few number stages few =
    let of = generated_of_stages number stages (omega (arith, few)) in
    subst (λ p. AllKept (count_broken_at (modules_of_instances p)) (item_sites generated_instructions)) of.same (counts_kept of.fs of.last_a of.last_b of.are (omega (arith, of.count, few)))
