-- What is read from an assignment that has the bits of a moment, or of a state.
use Rattle.std.proofs.Common.{◌≡◌, ℕ, ◌+◌, ◌^◌, ◌<◌, ◌≤◌, Bool, true, false, ◌&&◌, List, [], ◌∷◌, ◌++◌, length, set, take, drop, Some, append_assoc, refl, sym, ◌∙◌, ap, subst, arith}
use Rattle.std.specs.Prelude.{nat_lt, slice_get, if◌then◌else◌}
use Rattle.std.proofs.lemmas.List.{take_more_set}
use Rattle.smv_language.specs.Language.{Text, Value, model_tree, role_of, FlatModel}
use Rattle.smv_language.specs.declared.model.Variable.{Variable}
use Rattle.smv_types.specs.Types.{variable_domain}
use Rattle.sat_encoding_laws.specs.Inputs.{is_input}
use Rattle.std.proofs.lemmas.Bool.{ltb-false}
use Rattle.base_values.specs.declared.value.Value.{Value as AValue}
use Rattle.smv_language.specs.declared.model.FlatModel.{FlatModel as Model}
use Rattle.smv_type_laws.specs.Costs.{model_cost, state_bits, role_width}
use Rattle.smv_type_laws.specs.Models.{IsTyped}
use Rattle.sat_clauses.specs.Assignment.{Assignment}
use Rattle.smv_type_laws.specs.LeastValues.{with_inputs, least_values}
use Rattle.sat_encoding_laws.specs.Layout.{input_place, place_of, width_as_input}
use Rattle.sat_encoding_laws.specs.Encodable.{IsEncodable}
use Rattle.sat_encoding_laws.proofs.MomentMeans.{model_types}
use Rattle.sat_encoding_laws.proofs.StateBits.{bits_placed}
use Rattle.sat_encoding.specs.Domains.{capped, domain_interval, domain_width}
use Rattle.sat_encoding.specs.Values.{StandFor, HasState, HasMoment, least_in, domain_read, values_read}
use Rattle.sat_encoding.proofs.ValueLaws.{expected, values_stand}
use Rattle.smv_type_laws.proofs.SetRows.{or_false_second as second_false}
use Rattle.base_values.proofs.ListLaws.{drop_there}
use Rattle.base_values.specs.declared.limits.TheConstants.{MOST_BITS, MOST_COST}
use Rattle.sat_clauses.specs.Models.{values_of}

few_bits : (m : FlatModel) → IsTyped m → state_bits m ≤ MOST_BITS
few_bits m t = ltb-false MOST_BITS (state_bits m) (second_false (nat_lt MOST_COST (model_cost m)) (nat_lt MOST_BITS (state_bits m)) t.small)

module _ (m : Model) (is : IsEncodable (model_tree m)) (a : Assignment) (long : length a ≤ 2 ^ 62) (read : List AValue) where
  place : capped (input_place (model_tree m)) ≡ input_place (model_tree m)
  place = let few = few_bits (model_tree m) is.typed in omega (arith, few)

  pub moment_read : read ≡ values_read m.symbols false a 2 (input_place (model_tree m)) m.variables → (values : List Value) → HasMoment (model_tree m) a values → StandFor m.symbols read values
  moment_read e values has =
      let bits = bits_placed m.symbols is.symbols true (model_tree m).variables 2 (input_place (model_tree m)) values (values_of a) has.domains has.state (λ _. has.inputs) in
      let stand = values_stand m.symbols is.symbols a long false m.variables (model_types (model_tree m) is) 2 (input_place (model_tree m)) values has.domains bits in
      subst (λ (vs : List AValue). StandFor m.symbols vs values) (ap (λ q. values_read m.symbols false a 2 q m.variables) place ∙ sym e) stand

  pub state_read : read ≡ values_read m.symbols true a 2 (input_place (model_tree m)) m.variables → (values : List Value) → HasState (model_tree m) a values
      → StandFor m.symbols read (with_inputs (model_tree m).variables values (least_values (model_tree m).symbols (model_tree m).variables))
  state_read e values has =
      let bits = bits_placed m.symbols is.symbols false (model_tree m).variables 2 (input_place (model_tree m)) values (values_of a) has.domains has.state (λ q. cc) in
      let stand = values_stand m.symbols is.symbols a long true m.variables (model_types (model_tree m) is) 2 (input_place (model_tree m)) values has.domains bits in
      subst (λ (vs : List AValue). StandFor m.symbols vs (expected m.symbols is.symbols true m.variables values)) (ap (λ q. values_read m.symbols true a 2 q m.variables) place ∙ sym e) stand

-- ---- the loop

pub values_long : (symbols : List Text) (least : Bool) (a : Assignment) (p q : ℕ) (xs : List Variable) → length (values_read symbols least a p q xs) ≡ length xs
values_long symbols least a p q [] = refl
values_long symbols least a p q (x ∷ xs) =
    let w = domain_width (variable_domain symbols x) in
    let more = values_long symbols least a (capped (p + role_width (role_of x.role) w)) (capped (q + width_as_input (role_of x.role) w)) xs in omega (arith, more)

pub read_next : (symbols : List Text) (least : Bool) (a : Assignment) (xs : List Variable) (i : ℕ) (x : Variable) (into new : List AValue) (v : AValue) (p q p' q' : ℕ) (whole : List AValue)
    → slice_get xs i ≡ Some x → i < length into → new ≡ set into i v
    → v ≡ (if least && is_input (role_of x.role) then least_in (variable_domain symbols x) (domain_interval (variable_domain symbols x)) else domain_read (variable_domain symbols x) a (place_of (role_of x.role) p q))
    → p' ≡ capped (p + role_width (role_of x.role) (domain_width (variable_domain symbols x))) → q' ≡ capped (q + width_as_input (role_of x.role) (domain_width (variable_domain symbols x)))
    → take i into ++ values_read symbols least a p q (drop i xs) ≡ whole → take (i + 1) new ++ values_read symbols least a p' q' (drop (i + 1) xs) ≡ whole
read_next symbols least a xs i x into new v p q p' q' whole at low is value e f before =
    let rest = drop (i + 1) xs in
    let tail = values_read symbols least a (capped (p + role_width (role_of x.role) (domain_width (variable_domain symbols x)))) (capped (q + width_as_input (role_of x.role) (domain_width (variable_domain symbols x)))) rest in
    (λ j. take (i + 1) (is j) ++ values_read symbols least a (e j) (f j) rest)
    ∙ ap (λ l. l ++ tail) (take_more_set into i v low)
    ∙ append_assoc (take i into) (v ∷ []) tail
    ∙ ap (λ y. take i into ++ (y ∷ tail)) value
    ∙ sym (ap (λ l. take i into ++ values_read symbols least a p q l) (drop_there xs i x at))
    ∙ before
