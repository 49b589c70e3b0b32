-- A model with a boolean that tells which of two came first keeps its clauses.
use Rattle.std.proofs.Common.{◌≡◌, ℕ, ◌+◌, ◌<◌, false, ◌||◌, [], ◌∷◌, ◌++◌, length, refl, sym, ◌∙◌, ap, subst, arith}
use Rattle.std.specs.Prelude.{sum_by}
use Rattle.std.proofs.lemmas.List.{append-nil}
use Rattle.std.proofs.lemmas.List.Sums.{sum_by-append, sum_by-cons}
use Rattle.smv_language.specs.Language.{Text, flat_variable, FlatFormula, FlatModel, Tree, FlatLeaf}
use Rattle.smv_flat_laws.proofs.Lists.{get_end as got_end}
use Rattle.smv_type_laws.specs.Laws.{IsClosed}
use Rattle.sat_encoding_laws.specs.Layout.{input_width, input_bits}
use Rattle.sat_encoding_laws.specs.Encodable.{is_input_name, IsStateBoolean, IsFitTop}
use Rattle.fault_orders.specs.Stage.{order_variable, order_at_first, order_at_step, with_order}
use Rattle.cut_reach_laws.proofs.Grown.{HasClauses, grown, AreOwnFormulas, clauses_grown}
use Rattle.cut_reach_laws.proofs.Fits.{bit_quiet, bit_within, fit_grown}
use Rattle.base_values.proofs.ListLaws.{get_left}

module _ (name : Text) (x y : ℕ) (m : FlatModel) where
  abbrev first : FlatFormula
  first = order_at_first (length m.variables) x y

  abbrev step : FlatFormula
  step = order_at_step (length m.variables) x y

  abbrev made : FlatModel
  made = grown m (order_variable name) first step

  pub is_grown : with_order name x y m ≡ made
  is_grown =
      let symbols : m.symbols ++ [] ≡ m.symbols = append-nil m.symbols in
      let each : m.at_each ++ [] ≡ m.at_each = append-nil m.at_each in
      (λ j. record {
        instances = m.instances;
        variables = m.variables ++ order_variable name ∷ [];
        definitions = m.definitions;
        symbols = symbols j;
        at_first = m.at_first ++ first ∷ [];
        at_each = each j;
        at_step = m.at_step ++ step ∷ [];
      })

  -- a boolean of the model is one of the made one, and so is the added one
  pub boolean_kept : (i : ℕ) → IsStateBoolean m i → IsStateBoolean (with_order name x y m) i
  boolean_kept i b =
      record {
        variable = b.variable;
        is_variable = get_left m.variables (order_variable name ∷ []) i b.variable b.is_variable;
        is_boolean = b.is_boolean;
        is_state = b.is_state;
      }

  pub boolean_added : IsStateBoolean (with_order name x y m) (length m.variables)
  boolean_added =
      record { variable = order_variable name; is_variable = got_end m.variables (order_variable name); is_boolean = refl; is_state = refl }

  quiet_in : (i : ℕ) → IsStateBoolean (with_order name x y m) i → is_input_name made (flat_variable i) ≡ false
  quiet_in i b = subst (λ n. is_input_name n (flat_variable i) ≡ false) is_grown (bit_quiet (with_order name x y m) i b)

  own_formulas : IsStateBoolean m x → IsStateBoolean m y → AreOwnFormulas made first step
  own_formulas one other =
      let bit : is_input_name made (flat_variable (length m.variables)) ≡ false = quiet_in (length m.variables) boolean_added in
      let of_one : is_input_name made (flat_variable x) ≡ false = quiet_in x (boolean_kept x one) in
      let of_other : is_input_name made (flat_variable y) ≡ false = quiet_in y (boolean_kept y other) in
      let at : length m.variables < length (m.variables ++ order_variable name ∷ []) = bit_within (with_order name x y m) (length m.variables) boolean_added in
      let at_one : x < length (m.variables ++ order_variable name ∷ []) = bit_within (with_order name x y m) x (boolean_kept x one) in
      let at_other : y < length (m.variables ++ order_variable name ∷ []) = bit_within (with_order name x y m) y (boolean_kept y other) in
      record {
        first_own = (at, (at_one, at_other));
        first_quiet = (λ j. bit j || (of_one j || (of_other j || false)));
        step_own = (at, (at, (at_one, at_other)));
        step_quiet = (λ j. bit j || (of_one j || (of_other j || false)));
      }

  pub clauses_kept : HasClauses m → IsStateBoolean m x → IsStateBoolean m y → HasClauses (with_order name x y m)
  clauses_kept is one other =
      subst HasClauses (sym is_grown) (clauses_grown m (order_variable name) first step is refl (own_formulas one other))

  pub fit_kept : IsClosed m → (e : Tree FlatLeaf) → IsFitTop m e → IsFitTop (with_order name x y m) e
  fit_kept closed e h = subst (λ n. IsFitTop n e) (sym is_grown) (fit_grown m (order_variable name) first step closed e h)

  pub no_more_inputs : input_bits (with_order name x y m) ≡ input_bits m
  no_more_inputs =
      let none : sum_by (input_width m.symbols) [] ≡ 0 = refl in
      let one : sum_by (input_width m.symbols) (order_variable name ∷ []) ≡ input_width m.symbols (order_variable name) + sum_by (input_width m.symbols) [] =
      sum_by-cons (input_width m.symbols) (order_variable name) [] in
      let all : sum_by (input_width m.symbols) (m.variables ++ order_variable name ∷ []) ≡ sum_by (input_width m.symbols) m.variables + sum_by (input_width m.symbols) (order_variable name ∷ []) =
      sum_by-append (input_width m.symbols) m.variables (order_variable name ∷ []) in
      ap input_bits is_grown ∙ (omega (arith, none, one, all))
