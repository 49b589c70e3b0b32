-- The least values of an encodable model, and its valuations with the least inputs.
use Rattle.std.proofs.Common.{◌≡◌, ◌≤ℤ◌, List, [], ◌∷◌, Some, refl, sym, ap, subst, arith}
use Rattle.smv_language.specs.Language.{Text, DeclaredTree, boolean, range, members, instance, Each, opposite, FlatVariable}
use Rattle.smv_type_laws.specs.DeclaredKinds.{judged_declared}
use Rattle.smv_type_laws.specs.Intervals.{Interval}
use Rattle.smv_type_laws.specs.LeastValues.{HasValues, least_values}
use Rattle.smv_type_laws.proofs.LeastLaws.{least_values_lie, least_inputs_serve}
use Rattle.sat_encoding_laws.specs.Bits.{state_of, inputs_of}
use Rattle.sat_encoding_laws.specs.Encodable.{IsListedType}
use Rattle.sat_encoding_laws.proofs.ByRole.{bits_by_role}
use Rattle.sat_encoding_laws.proofs.MomentMeans.{model_types}
use Rattle.sat_encoding_laws.proofs.Readings.{IsRightType}
use Rattle.sat_encoding_laws.proofs.TypeMeans.{range_numbers}
use Rattle.cut_search_laws.specs.Searchable.{LeastValuesShow}
use Rattle.sat_encoding_laws.proofs.StateBits.{not_below}

one_interval : (i j : Interval) → Some i ≡ Some j → i ≡ j
one_interval i j e = cc

module _ (symbols : List Text) where
  has_values : (d : DeclaredTree) → (judged_declared d).broken ≡ [] → IsListedType symbols d → HasValues d
  has_values boolean e l = tt
  has_values (range lo hi) e l =
      let known = range_numbers symbols lo hi e in
      let order : lo ≤ℤ hi = subst (λ (i : Interval). i.lo ≤ℤ i.hi) (sym (one_interval (record { lo = lo; hi = hi }) known.interval known.is)) known.order in
      ap opposite (not_below lo hi order)
  has_values (members []) e l = absurd (l.0 refl)
  has_values (members (m ∷ ms)) e l = omega arith
  has_values (instance f actuals) e l = absurd l

  all_have : (xs : List FlatVariable) → Each (IsRightType symbols) xs → Each (λ x. HasValues x.declared) xs
  all_have [] h = tt
  all_have (x ∷ xs) h = (has_values x.declared h.0.0 h.0.1, all_have xs h.1)

pub least_values_show : LeastValuesShow
least_values_show m is =
    let values = all_have m.symbols m.variables (model_types m is) in
    let least = least_values_lie m.symbols m.variables values in (
      least,
      (λ v h.
          let served = least_inputs_serve m (state_of m) (inputs_of m) (bits_by_role m) values v h in
          record { domains = served.0; state = served.1; inputs = (bits_by_role m).inputs v (least_values m.symbols m.variables) h least }),
    )
