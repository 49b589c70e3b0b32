-- The flat model of the extension of a program of stages, with a history bit for each fault, is not too large.
use Rattle.std.proofs.Common.{◌≡◌, ℕ, suc, ◌+◌, ◌*◌, ◌≤◌, arith, false, List, [], ◌∷◌, ◌++◌, length, Option, Some, None, refl, sym, ◌∙◌, ap, subst, le-ltb, sum_by, suc-mul}
use Rattle.std.specs.Prelude.{codes, map, flat_map, slice_get}
use Rattle.std.proofs.lemmas.List.{length-map}
use Rattle.std.proofs.lemmas.List.Sums.{sum_by-cons, sum_by-append}
use Rattle.base_values.specs.declared.limits.TheConstants.{MOST_BITS, MOST_COST}
use Rattle.smv_language.specs.Language.{Text, DeclaredTree, boolean, ProgramTree, Role, state, input, frozen_role, undeclared, formal_from, kind_in_decls, kind_in_sections, kind_in, FlatInstance, FlatVariable, FlatFormula, FlatModel, EachBoth}
use Rattle.smv_flat_laws.specs.NameResolution.{Definition}
use Rattle.smv_flat_laws.specs.History.{Mode, bit_variable, bit_variables, bit_at_first, bits_at_first, bit_at_step, bits_at_step, with_history}
use Rattle.smv_flat_laws.specs.Items.{Item, items_named, Visit, variable_declared, variables_of}
use Rattle.smv_flat_laws.specs.Model.{Condition, Written, written_at, conditions, first_conditions, each_conditions, step_conditions, kept_conditions, IsVariableOf, first_appearances, symbols_of_item, symbols_of, IsDefinitionOf, IsFlatOf}
use Rattle.smv_flat_laws.proofs.Conditions.{each_from}
use Rattle.smv_flat_laws.proofs.Variables.{both_at_second}
use Rattle.smv_type_laws.specs.Costs.{cost_of, declared_cost, formulas_cost, model_cost, digits_in, role_width, declared_width, state_bits}
use Rattle.smv_type_laws.specs.Models.{is_too_large}
use Rattle.fault_instructions.specs.AddedNames.{own_name, mode_variable, mode_symbol}
use Rattle.fault_weave.specs.WovenProgram.{mode_type, woven}
use Rattle.fault_generator.specs.Generator.{stage_name, relay_slice, generated_instructions}
use Rattle.fault_generator_laws.specs.Laws.{WovenIsSmall}
use Rattle.fault_generator_laws.proofs.Stages.{relay_with, AreStages, generated_of_stages}
use Rattle.fault_generator_laws.proofs.Items.{items_from, item_stage, item_dead}
use Rattle.fault_generator_laws.proofs.Truths.{sum_most}
use Rattle.fault_generator_laws.proofs.Expressions.{IsLogicKind, variables_logic, formals_logic, expression_logic}
use Rattle.fault_generator_laws.proofs.Roots.{stage_instances, few_keys}
use Rattle.fault_generator_laws.proofs.Typed.{main_asks_none}
use Rattle.fault_generator_laws.proofs.Woven.{woven_sections, woven_of, out_inside, own_inside, mode_inside, woven_visits, woven_visits_are, woven_instances_are}
use Rattle.smv_type_laws.specs.Counted.{written_cost}
use Rattle.smv_type_laws.proofs.ResolvedCosts.{resolved_cost}
use Rattle.smv_type_laws.proofs.Counted.{all_cost, variables_sum}
use Rattle.smv_flat_laws.proofs.BothLaws.{both_long}

role_most : (r : Role) (n : ℕ) → role_width r n ≤ n
role_most state n = omega arith
role_most frozen_role n = omega arith
role_most input n = omega arith

bits_most : (symbols : List Text) (xs : List FlatVariable) →
    sum_by (λ (x : FlatVariable). role_width x.role (declared_width symbols x.declared)) xs ≤ sum_by (λ (x : FlatVariable). declared_width symbols x.declared) xs
bits_most symbols [] = omega arith
bits_most symbols (x ∷ xs) = omega (
  arith,
  sum_by-cons (λ (x : FlatVariable). role_width x.role (declared_width symbols x.declared)) x xs,
  sum_by-cons (λ (x : FlatVariable). declared_width symbols x.declared) x xs,
  role_most x.role (declared_width symbols x.declared),
  bits_most symbols xs,
)

-- History costs 14 a fault, and a bit.
history_variables : (i : ℕ) (fs : List Mode) → sum_by (λ (x : FlatVariable). declared_cost x.declared) (bit_variables i fs) ≡ 0
history_variables i [] = refl
history_variables i (f ∷ fs) = history_variables (suc i) fs

history_bits : (symbols : List Text) (i : ℕ) (fs : List Mode) → sum_by (λ (x : FlatVariable). role_width x.role (declared_width symbols x.declared)) (bit_variables i fs) ≡ length fs
history_bits symbols i [] = refl
history_bits symbols i (f ∷ fs) =
    omega (arith, sum_by-cons (λ (x : FlatVariable). role_width x.role (declared_width symbols x.declared)) (bit_variable (suc i)) (bit_variables (suc i) fs), history_bits symbols (suc i) fs)

history_first : (i : ℕ) (fs : List Mode) → formulas_cost (bits_at_first i fs) ≡ length fs * 5
history_first i [] = omega arith
history_first i (f ∷ fs) = omega (arith, sum_by-cons (λ (g : FlatFormula). cost_of g.value) (bit_at_first i f) (bits_at_first (suc i) fs), history_first (suc i) fs, suc-mul (length fs) 5)

history_step : (i : ℕ) (fs : List Mode) → formulas_cost (bits_at_step i fs) ≡ length fs * 9
history_step i [] = omega arith
history_step i (f ∷ fs) = omega (arith, sum_by-cons (λ (g : FlatFormula). cost_of g.value) (bit_at_step i f) (bits_at_step (suc i) fs), history_step (suc i) fs, suc-mul (length fs) 9)

-- The variables of stages.
abbrev woven_variables : ℕ → List (Option ℕ) → List Visit
woven_variables i [] = []
woven_variables i (f ∷ fs) = out_inside i ∷ own_inside i ∷ mode_inside i ∷ woven_variables (suc i) fs

variables_among : (k i : ℕ) (fs : List (Option ℕ)) → flat_map (λ (v : Visit). variable_declared v v.decl.what) (woven_visits k i fs) ≡ woven_variables i fs
variables_among k i [] = refl
variables_among k i (f ∷ fs) = ap (λ vs. out_inside i ∷ own_inside i ∷ mode_inside i ∷ vs) (variables_among (suc k) (suc i) fs)

three_each : (g : DeclaredTree → ℕ) (n i : ℕ) (fs : List (Option ℕ)) → g boolean + (g boolean + g (mode_type relay_slice)) ≤ n →
    sum_by (λ (v : Visit). g v.decl.what) (woven_variables i fs) ≤ length fs * n
three_each g n i [] h = omega arith
three_each g n i (f ∷ fs) h = omega (
  arith,
  h,
  sum_by-cons (λ (v : Visit). g v.decl.what) (out_inside i) (own_inside i ∷ mode_inside i ∷ woven_variables (suc i) fs),
  sum_by-cons (λ (v : Visit). g v.decl.what) (own_inside i) (mode_inside i ∷ woven_variables (suc i) fs),
  sum_by-cons (λ (v : Visit). g v.decl.what) (mode_inside i) (woven_variables (suc i) fs),
  three_each g n (suc i) fs h,
  suc-mul (length fs) n,
)

-- the symbols of the slice are numbered 0 and 1, so that its state has one bit
abbrev slice_symbols : List Text
slice_symbols = mode_symbol (codes "R") None ∷ mode_symbol (codes "R") (Some (codes "off")) ∷ []

mode_width : declared_width slice_symbols (mode_type relay_slice) ≡ 1
unfolding digits_in
mode_width = refl

woven_logic : (x : Text) → IsLogicKind (kind_in (relay_with woven_sections) x)
woven_logic x =
    formals_logic (formal_from 0 (codes "feed" ∷ []) x) (kind_in_sections woven_sections x)
    (variables_logic state (record { name = codes "out"; what = boolean } ∷ []) x
    (kind_in_decls state (record { name = own_name (codes "out"); what = boolean } ∷ record { name = mode_variable (codes "R"); what = mode_type relay_slice } ∷ []) x undeclared) (tt, tt)
    (variables_logic state (record { name = own_name (codes "out"); what = boolean } ∷ record { name = mode_variable (codes "R"); what = mode_type relay_slice } ∷ []) x undeclared (tt, (tt, tt)) tt))

module _ (fs : List (Option ℕ)) (last_a last_b : Option ℕ) (are : AreStages fs last_a last_b) where
  abbrev w : ProgramTree
  w = woven_of fs last_a last_b

  stages_symbols : (i : ℕ) (gs : List (Option ℕ)) → flat_map symbols_of_item (items_from last_a last_b i gs) ≡ []
  stages_symbols i [] = refl
  stages_symbols i (f ∷ gs) = stages_symbols (suc i) gs

  two_symbols : symbols_of w ≡ slice_symbols
  two_symbols = ap (λ xs. first_appearances [] (mode_symbol (codes "R") None ∷ mode_symbol (codes "R") (Some (codes "off")) ∷ (xs ++ []))) (stages_symbols 1 fs)

  variables_are : variables_of w ≡ woven_variables 1 fs
  variables_are = ap (λ vs. flat_map (λ (v : Visit). variable_declared v v.decl.what) vs) (woven_visits_are fs last_a last_b) ∙ variables_among 10 1 fs

  -- what the instances ask
  abbrev asked : (Item → List Condition) → FlatInstance → List Written
  asked what at = flat_map (written_at what at.place) (items_named w at.module_name)

  stages_cost : (what : Item → List Condition) (n : ℕ) → ((x : Text) → sum_by written_cost (asked what (record { place = x ∷ []; module_name = codes "Relay" })) ≤ n) → (i : ℕ) (gs : List (Option ℕ)) →
      sum_by written_cost (flat_map (asked what) (stage_instances i gs)) ≤ length gs * n
  stages_cost what n each i [] = omega arith
  stages_cost what n each i (f ∷ gs) = omega (
    arith,
    each (stage_name i),
    stages_cost what n each (suc i) gs,
    sum_by-append written_cost (asked what (record { place = stage_name i ∷ []; module_name = codes "Relay" })) (flat_map (asked what) (stage_instances (suc i) gs)),
    suc-mul (length gs) n,
  )

  asked_cost : (what : Item → List Condition) (n : ℕ) → ((i : ℕ) (f : Option ℕ) → what (item_stage i f) ≡ []) → what (item_dead last_a last_b) ≡ [] →
      ((x : Text) → sum_by written_cost (asked what (record { place = x ∷ []; module_name = codes "Relay" })) ≤ n) → sum_by written_cost (conditions what w) ≤ length fs * n
  asked_cost what n h d each =
      subst (λ ws. sum_by written_cost ws ≤ length fs * n)
      (sym (ap (flat_map (asked what)) (woven_instances_are fs last_a last_b) ∙ ap (λ ws. ws ++ flat_map (asked what) (stage_instances 1 fs)) (main_asks_none fs last_a last_b are what h d 10 1 [] fs)))
      (stages_cost what n each 1 fs)

  first_cost : sum_by written_cost (conditions first_conditions w) ≤ length fs * 3
  first_cost = asked_cost first_conditions 3 (λ i f. refl) refl (λ x. omega arith)

  each_cost : sum_by written_cost (conditions each_conditions w) ≤ length fs * 12
  each_cost = asked_cost each_conditions 12 (λ i f. refl) refl (λ x. omega arith)

  step_cost : sum_by written_cost (conditions step_conditions w) ≤ length fs * 18
  step_cost = asked_cost step_conditions 18 (λ i f. refl) refl (λ x. omega arith)

  kept_cost : sum_by written_cost (conditions kept_conditions w) ≤ length fs * 0
  kept_cost = asked_cost kept_conditions 0 (λ i f. refl) refl (λ x. omega arith)

  module _ (m : FlatModel) (is : IsFlatOf w m) where
    variables_both : EachBoth (IsVariableOf m) (woven_variables 1 fs) m.variables
    variables_both = subst (λ vs. EachBoth (IsVariableOf m) vs m.variables) variables_are is.variables

    variables_cost : sum_by (λ (x : FlatVariable). declared_cost x.declared) m.variables ≤ length fs * 2
    variables_cost = omega (arith, variables_sum m declared_cost (woven_variables 1 fs) m.variables variables_both, three_each declared_cost 2 1 fs (omega arith))

    symbols_are : m.symbols ≡ slice_symbols
    symbols_are = is.symbols ∙ two_symbols

    variables_bits : state_bits m ≤ length fs * 3
    variables_bits = omega (
      arith,
      bits_most m.symbols m.variables,
      variables_sum m (declared_width m.symbols) (woven_variables 1 fs) m.variables variables_both,
      three_each (declared_width m.symbols) 3 1 fs (omega (arith, ap (λ symbols. declared_width symbols (mode_type relay_slice)) symbols_are ∙ mode_width)),
    )

    definition_cost : (i : ℕ) (f : FlatFormula) → slice_get m.definitions i ≡ Some f → cost_of f.value ≤ 5
    definition_cost i f e =
        let d : (d : Definition) × (slice_get is.written i ≡ Some d) × IsDefinitionOf w m d f = both_at_second (IsDefinitionOf w m) is.written m.definitions i f is.placed e in
        let g = is.definitions i d.0 d.1 in
        let both : Some g.0 ≡ Some f = sym g.1 ∙ e in
        let same : g.0 ≡ f = cc in
        subst (λ (h : FlatFormula). cost_of h.value ≤ 5) same
        (omega (arith, resolved_cost (is.resolver d.0.place) d.0.written g.0.value g.2, (expression_logic woven_sections fs last_a last_b woven_logic d.0.key d.0.place d.0.written d.2.expression).1))

    few_definitions : length m.definitions ≤ suc (length fs)
    few_definitions = omega (
      arith,
      both_long (IsDefinitionOf w m) is.written m.definitions is.placed,
      few_keys woven_sections fs last_a last_b are refl (λ at. refl) (woven_instances_are fs last_a last_b) (map (λ (d : Definition). d.key) is.written) is.order,
      length-map is.written (λ (d : Definition). d.key),
    )

    definitions_cost : formulas_cost m.definitions ≤ length m.definitions * 5
    definitions_cost = sum_most (λ (f : FlatFormula). cost_of f.value) 5 m.definitions (each_from (λ (f : FlatFormula). cost_of f.value ≤ 5) m.definitions definition_cost)

    steps_cost : formulas_cost m.at_step ≤ length fs * 18 + length fs * 0
    steps_cost = omega (
      arith,
      all_cost m is.resolver (conditions step_conditions w ++ conditions kept_conditions w) m.at_step is.at_step,
      sum_by-append written_cost (conditions step_conditions w) (conditions kept_conditions w),
      step_cost,
      kept_cost,
    )

    module _ (modes : List Mode) (few : length modes ≤ length fs) (short : length fs ≤ 256) where
      whole_cost : model_cost (with_history m modes) ≤ MOST_COST
      whole_cost = omega (
        arith,
        sum_by-append (λ (x : FlatVariable). declared_cost x.declared) m.variables (bit_variables 0 modes),
        history_variables 0 modes,
        variables_cost,
        definitions_cost,
        few_definitions,
        sum_by-append (λ (f : FlatFormula). cost_of f.value) m.at_first (bits_at_first (length m.variables) modes),
        all_cost m is.resolver (conditions first_conditions w) m.at_first is.at_first,
        first_cost,
        history_first (length m.variables) modes,
        all_cost m is.resolver (conditions each_conditions w) m.at_each is.at_each,
        each_cost,
        sum_by-append (λ (f : FlatFormula). cost_of f.value) m.at_step (bits_at_step (length m.variables) modes),
        steps_cost,
        history_step (length m.variables) modes,
        few,
        short,
      )

      whole_bits : state_bits (with_history m modes) ≤ MOST_BITS
      whole_bits = omega (
        arith,
        sum_by-append (λ (x : FlatVariable). role_width x.role (declared_width m.symbols x.declared)) m.variables (bit_variables 0 modes),
        variables_bits,
        history_bits m.symbols 0 modes,
        few,
        short,
      )

      pub whole_small : is_too_large (with_history m modes) ≡ false
      whole_small = rw (le-ltb MOST_COST (model_cost (with_history m modes)) whole_cost, le-ltb MOST_BITS (state_bits (with_history m modes)) whole_bits) refl

pub generated_small : WovenIsSmall
generated_small number stages short m is modes few =
    let of = generated_of_stages number stages (omega (arith, short)) in
    whole_small of.fs of.last_a of.last_b of.are m (subst (λ p. IsFlatOf (woven p generated_instructions) m) (sym of.same) is) modes (omega (arith, few, of.count)) (omega (arith, short, of.count))
