-- The bits of the state are those of state and frozen variables, and those of the inputs of input variables.
use Rattle.std.proofs.Common.{◌≡◌, true, false, List, [], ◌∷◌, ◌++◌, refl}
use Rattle.std.specs.Prelude.{if◌then◌else◌}
use Rattle.smv_language.specs.Language.{Text, Role, state, input, frozen_role, Value, FlatVariable}
use Rattle.smv_flat_laws.specs.FlatTrace.{AreInDomains}
use Rattle.smv_type_laws.specs.LeastValues.{by_role, with_inputs}
use Rattle.sat_encoding_laws.specs.Bits.{value_bits, bits_of}
use Rattle.sat_encoding_laws.specs.Inputs.{is_input}
use Rattle.sat_encoding_laws.specs.Laws.{BitsGoByRole}

states_by_role : (symbols : List Text) (xs : List FlatVariable) (v w : List Value) → AreInDomains xs v → AreInDomains xs w → bits_of symbols false xs (with_inputs xs v w) ≡ bits_of symbols false xs v
states_by_role symbols [] [] w h k = refl
states_by_role symbols [] (a ∷ v) w h k = absurd h
states_by_role symbols (x ∷ xs) [] w h k = absurd h
states_by_role symbols (x ∷ xs) (a ∷ v) [] h k = absurd k
states_by_role symbols (x ∷ xs) (a ∷ v) (b ∷ w) h k = (λ i. one x.role i ++ states_by_role symbols xs v w h.1 k.1 i)
  where
    one : (r : Role) → (if is_input r then [] else value_bits symbols x.declared (by_role r a b)) ≡ (if is_input r then [] else value_bits symbols x.declared a)
    one state = refl
    one frozen_role = refl
    one input = refl

inputs_by_role : (symbols : List Text) (xs : List FlatVariable) (v w : List Value) → AreInDomains xs v → AreInDomains xs w → bits_of symbols true xs (with_inputs xs v w) ≡ bits_of symbols true xs w
inputs_by_role symbols [] v [] h k = refl
inputs_by_role symbols [] v (b ∷ w) h k = absurd k
inputs_by_role symbols (x ∷ xs) [] w h k = absurd h
inputs_by_role symbols (x ∷ xs) (a ∷ v) [] h k = absurd k
inputs_by_role symbols (x ∷ xs) (a ∷ v) (b ∷ w) h k = (λ i. one x.role i ++ inputs_by_role symbols xs v w h.1 k.1 i)
  where
    one : (r : Role) → (if is_input r then value_bits symbols x.declared (by_role r a b) else []) ≡ (if is_input r then value_bits symbols x.declared b else [])
    one state = refl
    one frozen_role = refl
    one input = refl

pub bits_by_role : BitsGoByRole
bits_by_role m = record { state = states_by_role m.symbols m.variables; inputs = inputs_by_role m.symbols m.variables }
