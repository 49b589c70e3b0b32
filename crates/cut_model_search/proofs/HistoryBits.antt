-- The history bits of the whole model are the last of its state.
use Rattle.std.proofs.Common.{◌≡◌, ◌≤◌, ℕ, ◌+◌, ◌-◌, List, length, sym, ap, ◌∙◌, arith}
use Rattle.smv_language.specs.Flat.{FlatModel}
use Rattle.smv_flat_laws.specs.History.{Mode, with_history}
use Rattle.smv_type_laws.specs.Costs.{state_bits}
use Rattle.sat_clauses.specs.Literal.{Literal}
use Rattle.sat_encoding_laws.specs.FlatTraces.{history_of}
use Rattle.sat_encoding_laws.specs.Layout.{literals_from}
use Rattle.sat_encoding_laws.specs.Lists.{history_literals}
use Rattle.sat_encoding_laws.proofs.HistoryPlaces.{history_last}

module _ (m : FlatModel) (fs : List Mode) (full : FlatModel) (e : full ≡ with_history m fs) (count : ℕ) (all : count ≡ length fs) where
  bits_more : state_bits full ≡ state_bits m + length fs
  bits_more = ap state_bits e ∙ (history_last m fs).1

  -- there are at least as many bits as faults
  pub bits_within : count ≤ state_bits full
  bits_within = let more = bits_more in omega (arith, more, all)

  -- and the literals of the last ones are those of history
  pub literals_last : (literals : List Literal) → literals ≡ literals_from count (state_bits full - count + 2) → literals ≡ history_literals (with_history m fs) (history_of m fs)
  literals_last literals exact =
      let more = bits_more in
      let place : state_bits full - count + 2 ≡ state_bits m + 2 = omega (arith, more, all) in
      exact ∙ ap (λ n. literals_from count n) place ∙ ap (λ k. literals_from k (state_bits m + 2)) all ∙ sym (history_last m fs).2
