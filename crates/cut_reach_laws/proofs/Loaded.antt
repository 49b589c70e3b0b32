-- What is known of a model with history is known of the model: its modes are of the state, and its inputs as many.
use Rattle.std.proofs.Common.{◌≡◌, ℕ, suc, ◌≤◌, Bool, true, false, ◌||◌, List, [], ◌∷◌, ◌++◌, length, Some, refl, sym, ◌∙◌, ap, arith}
use Rattle.std.specs.Prelude.{slice_get}
use Rattle.smv_language.specs.Language.{Each, flat_variable, FlatModel}
use Rattle.smv_flat_laws.specs.FlatTrace.{IsModeOf}
use Rattle.smv_flat_laws.specs.History.{Mode, bit_variables, bits_at_first, with_history}
use Rattle.sat_encoding_laws.specs.Inputs.{is_input_variable, reads_input}
use Rattle.sat_encoding_laws.specs.Layout.{input_bits}
use Rattle.sat_encoding_laws.specs.Encodable.{IsEncodable, is_input_name}
use Rattle.sat_encoding_laws.specs.HistoryBits.{IsStateMode}
use Rattle.fault_cause_laws.specs.Causes.{CommonCause}
use Rattle.fault_cause_laws.specs.StagedModel.{with_cause, with_each_cause, with_own, with_owns, age_numbers, with_causes}
use Rattle.fault_staging.proofs.Counts.{cause_symbols, own_symbols}
use Rattle.cut_reach_laws.proofs.Carried.{same_inputs}
use Rattle.fault_cause_laws.proofs.HistoryKinds.{history_addition, history_is}
use Rattle.cut_reach_laws.proofs.Events.{bits_of_state}
use Rattle.std.proofs.lemmas.Option.{slice_get_within as got_below}
use Rattle.smv_flat_laws.proofs.Reaches.{each_right}
use Rattle.base_values.proofs.ListLaws.{get_left}

second : (a b c : Bool) → (a || (b || c)) ≡ false → b ≡ false
second true b c h = cc
second false true c h = cc
second false false c h = refl

-- ---- modes

module _ (m : FlatModel) (all : List Mode) where
  state_mode : (n : ℕ) (f : Mode) → IsModeOf m f → (is_input_name (with_history m all) (flat_variable n) || (is_input_name (with_history m all) (flat_variable f.variable) || false)) ≡ false → IsStateMode m f
  state_mode n f is quiet =
      let here : is_input_name (with_history m all) (flat_variable f.variable) ≡ false = second (is_input_name (with_history m all) (flat_variable n)) (is_input_name (with_history m all) (flat_variable f.variable)) false quiet in
      let there : slice_get (m.variables ++ bit_variables 0 all) f.variable ≡ Some is.variable = get_left m.variables (bit_variables 0 all) f.variable is.variable is.is_variable in
      record {
        variable = is.variable;
        is_variable = is.is_variable;
        is_state = sym (ap is_input_variable there) ∙ here;
        is_symbol = got_below m.symbols f.symbol is.text is.is_symbol;
      }

  modes_from : (n : ℕ) (fs : List Mode) → Each (IsModeOf m) fs → Each (λ f. reads_input (with_history m all) f.value ≡ false) (bits_at_first n fs) → Each (IsStateMode m) fs
  modes_from n [] is quiet = tt
  modes_from n (f ∷ fs) is quiet = (state_mode n f is.0 quiet.0, modes_from (suc n) fs is.1 quiet.1)

-- the modes of a model whose history is encodable are of the state
pub state_modes : (m : FlatModel) (fs : List Mode) → Each (IsModeOf m) fs → IsEncodable (with_history m fs) → Each (IsStateMode m) fs
state_modes m fs are is =
    modes_from m fs (length m.variables) fs are (each_right (λ f. reads_input (with_history m fs) f.value ≡ false) m.at_first (bits_at_first (length m.variables) fs) is.at_first)

-- ---- inputs

pub history_inputs : (m : FlatModel) (fs : List Mode) → IsEncodable m → input_bits (with_history m fs) ≡ input_bits m
history_inputs m fs is = sym (ap input_bits (history_is m fs)) ∙ same_inputs m (history_addition m fs) is.types (bits_of_state 0 fs)

-- ---- symbols

causes_more : (fs : List Mode) (cs : List CommonCause) (m : FlatModel) → length m.symbols ≤ length (with_each_cause fs m cs).symbols
causes_more fs [] m = omega arith
causes_more fs (c ∷ cs) m =
    let one : length (with_cause fs m c).symbols ≡ suc (suc (length m.symbols)) = cause_symbols fs c m in
    let rest = causes_more fs cs (with_cause fs m c) in
    omega (arith, one, rest)

owns_more : (fs : List Mode) (cs : List CommonCause) (ages : List ℕ) (more : List Mode) (i : ℕ) (m : FlatModel) → length m.symbols ≤ length (with_owns fs cs ages i more m).symbols
owns_more fs cs ages [] i m = omega arith
owns_more fs cs ages (f ∷ more) i m =
    let one : length (with_own fs cs ages i m).symbols ≡ suc (suc (length m.symbols)) = own_symbols fs cs ages i m in
    let rest = owns_more fs cs ages more (suc i) (with_own fs cs ages i m) in
    omega (arith, one, rest)

pub staged_symbols : (m : FlatModel) (fs : List Mode) (cs : List CommonCause) → length m.symbols ≤ length (with_causes m fs cs).symbols
staged_symbols m fs cs =
    let one = causes_more fs cs m in
    let two = owns_more fs cs (age_numbers (length m.variables) cs) fs 1 (with_each_cause fs m cs) in
    omega (arith, one, two)
