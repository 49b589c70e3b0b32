-- An extension that passes no limit with all bits passes none without them.
use Rattle.std.proofs.Common.{arith, ◌≡◌, ◌≤◌, ℕ, false, List, ◌++◌, ap, subst, ◌∙◌}
use Rattle.std.specs.Prelude.{nat_lt, ◌||◌, sum_by, length}
use Rattle.std.proofs.lemmas.List.Sums.{sum_by-append}
use Rattle.std.proofs.lemmas.Bool.{ltb-false, le-ltb, or_parts as neither}
use Rattle.base_values.specs.declared.limits.TheConstants.{MOST_BITS, MOST_COST}
use Rattle.smv_language.specs.Language.{ProgramTree, FlatVariable, FlatFormula, FlatModel}
use Rattle.fault_instructions.specs.Instructions.{InstructionTree}
use Rattle.smv_flat_laws.specs.History.{Mode, with_history, bit_variables, bits_at_first, bits_at_step}
use Rattle.smv_type_laws.specs.Costs.{cost_of, declared_cost, model_cost, role_width, declared_width, state_bits}
use Rattle.smv_type_laws.specs.Models.{is_too_large, IsTyped}
use Rattle.smv_type_laws.proofs.Typed.{typed_has_none}
use Rattle.fault_woven_laws.proofs.WovenLaws.{woven_none}
use Rattle.fault_weave.specs.Faults.{Fault, HasFaults}
use Rattle.fault_weave.specs.WovenProgram.{woven}
use Rattle.verb_loading.specs.declared.status.InputFault.{InputFault}
use Rattle.verb_loading.specs.Models.{IsLawful, IsModelOf}
use Rattle.verb_loading.specs.Wholes.{IsWrongWhole, IsWithinLimits}
use Rattle.verb_loading.specs.Inputs.{AreTaken}
use Rattle.verb_loading.specs.LoadedCases.{IsWrongLimited, whole_is_wrong, flat_is_wrong}
use Rattle.verb_loading.proofs.LimitLaws.{are_woven}

more_joined : {A : Type 0} (f : A → ℕ) (xs ys : List A) → sum_by f xs ≤ sum_by f (xs ++ ys)
more_joined f xs ys = let joined = sum_by-append f xs ys in omega (arith, joined)

not_above : (a b : ℕ) → nat_lt a b ≡ false → b ≤ a
not_above a b e = ltb-false a b e

not_below : (a b : ℕ) → b ≤ a → nat_lt a b ≡ false
not_below a b e = le-ltb a b e

module _ (m : FlatModel) (fs : List Mode) where
  costs_more : model_cost m ≤ model_cost (with_history m fs)
  costs_more =
      let variables = more_joined (λ (x : FlatVariable). declared_cost x.declared) m.variables (bit_variables 0 fs) in
      let first = more_joined (λ (f : FlatFormula). cost_of f.value) m.at_first (bits_at_first (length m.variables) fs) in
      let step = more_joined (λ (f : FlatFormula). cost_of f.value) m.at_step (bits_at_step (length m.variables) fs) in
      omega (arith, variables, first, step)

  has_more_bits : state_bits m ≤ state_bits (with_history m fs)
  has_more_bits = more_joined (λ (x : FlatVariable). role_width x.role (declared_width m.symbols x.declared)) m.variables (bit_variables 0 fs)

  -- a model is small where it is with history
  small_without : is_too_large (with_history m fs) ≡ false → is_too_large m ≡ false
  small_without small =
      let both = neither (nat_lt MOST_COST (model_cost (with_history m fs))) (nat_lt MOST_BITS (state_bits (with_history m fs))) small in
      let cost : model_cost m ≤ MOST_COST = omega (arith, costs_more, not_above MOST_COST (model_cost (with_history m fs)) both.0) in
      let bits : state_bits m ≤ MOST_BITS = omega (arith, has_more_bits, not_above MOST_BITS (state_bits (with_history m fs)) both.1) in
      ap (λ b. b || nat_lt MOST_BITS (state_bits m)) (not_below MOST_COST (model_cost m) cost) ∙ not_below MOST_BITS (state_bits m) bits

module _ (p : ProgramTree) (m : FlatModel) (i : InstructionTree) (faults : List Fault) (lawful : IsLawful p m) (taken : AreTaken p i) (has : HasFaults p i faults) where
  -- the flat model of an extension that passes no limit with all bits breaks no rule of kinds
  pub flat_typed : (flat : FlatModel) → IsModelOf (woven p i) flat → IsWithinLimits (woven p i) faults → IsTyped flat
  flat_typed flat model within =
      let whole = within.is_whole in
      let same : whole.flat ≡ flat = model.only whole.flat whole.model.is in
      subst IsTyped same
      (record {
        kept = woven_none p m i whole.flat (are_woven p m i faults lawful taken has within.whole whole within.accepted);
        small = small_without whole.flat whole.modes (subst (λ w. is_too_large w ≡ false) whole.is within.typed.small);
      })

  -- so what is wrong with it is wrong with the whole
  pub whole_wrong : (told : InputFault) → IsWrongLimited (woven p i) faults told → IsWrongWhole (woven p i) faults told
  whole_wrong told (whole_is_wrong bad) = bad
  whole_wrong told (flat_is_wrong flat model within bad) = absurd (typed_has_none flat bad.rule bad.item (flat_typed flat model within) bad.broken)
