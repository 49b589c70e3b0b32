-- History is an addition, and breaks no rule of kinds.
use Rattle.std.proofs.Common.{◌≡◌, ℕ, suc, ◌+◌, ◌<◌, ◌≤◌, false, true, List, [], ◌∷◌, ◌++◌, length, refl, sym, subst, arith}
use Rattle.std.proofs.lemmas.List.{append-nil}
use Rattle.std.proofs.lemmas.Option.{slice_get_within as within_of}
use Rattle.smv_language.specs.declared.expr.Op.TheVariants as op
use Rattle.smv_language.specs.Language.{leaf, next_of, binary, boolean, Each, flat_symbol, FlatVariable, FlatModel}
use Rattle.smv_flat_laws.specs.History.{Mode, stands_now, stands_next, bit_variables, bits_at_first, bits_at_step, with_history}
use Rattle.smv_flat_laws.specs.FlatTrace.{IsModeOf}
use Rattle.smv_flat_laws.proofs.Lists.{each_more}
use Rattle.smv_type_laws.specs.ExpressionKinds.{truth_class, symbol_class}
use Rattle.smv_type_laws.specs.DeclaredKinds.{judged_declared}
use Rattle.sat_encoding_laws.proofs.HistoryPlaces.{is_bit}
use Rattle.fault_woven_laws.specs.Modes.{HasSymbols}
use Rattle.fault_cause_laws.specs.Additions.{Addition, with_addition}
use Rattle.fault_cause_laws.specs.StagedModel.{value_of}
use Rattle.fault_cause_laws.specs.KindLaws.{AreOfKinds}
use Rattle.fault_cause_laws.proofs.AddedKinds.{IsRightFormula, IsRightModel, right_added, Grows, grows_added}
use Rattle.fault_cause_laws.proofs.RightTrees.{HasType, HasMode, mode_grown, as_formula, variable_right, mode_right, symbol_right, next_tree, or_tree, equal_tree, within_tree, stands_tree}

abbrev pub history_addition : FlatModel → List Mode → Addition
history_addition m fs =
    record {
      variables = bit_variables 0 fs;
      symbols = [];
      at_first = bits_at_first (length m.variables) fs;
      at_each = [];
      at_step = bits_at_step (length m.variables) fs;
    }

pub history_is : (m : FlatModel) (fs : List Mode) → with_addition m (history_addition m fs) ≡ with_history m fs
history_is m fs =
    let symbols : m.symbols ++ [] ≡ m.symbols = append-nil m.symbols in
    let each : m.at_each ++ [] ≡ m.at_each = append-nil m.at_each in
    (λ j. record {
      instances = m.instances;
      variables = m.variables ++ bit_variables 0 fs;
      definitions = m.definitions;
      symbols = symbols j;
      at_first = m.at_first ++ bits_at_first (length m.variables) fs;
      at_each = each j;
      at_step = m.at_step ++ bits_at_step (length m.variables) fs;
    })

-- the variable of each mode has symbols, and the mode is one of the model's
pub modes_of_kinds : (m : FlatModel) (fs : List Mode) → AreOfKinds m fs → Each (HasMode m) fs
modes_of_kinds m fs are = both fs are.modes are.symbols
  where
    both : (fs : List Mode) → Each (IsModeOf m) fs → Each (HasSymbols m) fs → Each (HasMode m) fs
    both [] modes symbols = tt
    both (f ∷ fs) modes symbols = (record { symbols = symbols.0; is_symbol = within_of m.symbols f.symbol modes.0.text modes.0.is_symbol }, both fs modes.1 symbols.1)

module _ (m : FlatModel) (all : List Mode) where
  abbrev made : FlatModel
  made = with_addition m (history_addition m all)

  bit_type : (j : ℕ) → j < length all → HasType made (length m.variables + j) boolean
  bit_type j h = let b = is_bit m all j h in record { variable = b.variable; is_variable = b.is_variable; declared = b.is_boolean }

  types_right : (k : ℕ) (fs : List Mode) → Each (λ (x : FlatVariable). (judged_declared x.declared).broken ≡ []) (bit_variables k fs)
  types_right k [] = tt
  types_right k (f ∷ fs) = (refl, types_right (suc k) fs)

  first_right : (fs : List Mode) (b j : ℕ) → b ≡ length m.variables + j → j + length fs ≤ length all → Each (HasMode made) fs → Each (IsRightFormula made) (bits_at_first b fs)
  first_right [] b j e h modes = tt
  first_right (f ∷ fs) b j e h modes =
      let v : HasType made b boolean = subst (λ k. HasType made k boolean) (sym e) (bit_type j (omega (arith, h))) in
      let bit = variable_right made false truth_class b boolean v refl in (
        as_formula made (binary op.Within (value_of b) (stands_now f)) (within_tree made false truth_class (value_of b) (stands_now f) bit (stands_tree made true f modes.0)),
        first_right fs (suc b) (suc j) (omega (arith, e)) (omega (arith, h)) modes.1,
      )

  step_right : (fs : List Mode) (b j : ℕ) → b ≡ length m.variables + j → j + length fs ≤ length all → Each (HasMode made) fs → Each (IsRightFormula made) (bits_at_step b fs)
  step_right [] b j e h modes = tt
  step_right (f ∷ fs) b j e h modes =
      let v : HasType made b boolean = subst (λ k. HasType made k boolean) (sym e) (bit_type j (omega (arith, h))) in
      let bit = variable_right made false truth_class b boolean v refl in
      let next = equal_tree made false symbol_class (next_of (value_of f.variable)) (leaf (flat_symbol f.symbol))
      (next_tree made false symbol_class (value_of f.variable) (mode_right made false f modes.0)) (symbol_right made false f.symbol modes.0.is_symbol) in
      let either = binary op.Or (value_of b) (stands_next f) in (
        as_formula made (binary op.Within (next_of (value_of b)) either)
            (within_tree made false truth_class (next_of (value_of b)) either (next_tree made false truth_class (value_of b) bit) (or_tree made true (value_of b) (stands_next f) bit next)),
        step_right fs (suc b) (suc j) (omega (arith, e)) (omega (arith, h)) modes.1,
      )

-- a model with the history of modes breaks no rule at an item where the model breaks none, and names what it has
pub right_history : (m : FlatModel) (fs : List Mode) → IsRightModel m → Each (HasMode m) fs → IsRightModel (with_history m fs)
right_history m fs is modes =
    let a : Addition = history_addition m fs in
    let grows : Grows m (with_addition m a) = grows_added m a in
    let kept = each_more (HasMode m) (HasMode (with_addition m a)) fs (mode_grown m (with_addition m a) grows) modes in
    subst IsRightModel (history_is m fs)
    (right_added m a is (record {
      types = types_right m fs 0 fs;
      at_first = first_right m fs fs (length m.variables) 0 (omega arith) (omega arith) kept;
      at_each = tt;
      at_step = step_right m fs fs (length m.variables) 0 (omega arith) (omega arith) kept;
    }))
