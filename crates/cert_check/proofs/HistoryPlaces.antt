-- The bits of a model's history are its last variables.
use Rattle.std.proofs.Common.{Result, ◌≡◌, ℕ, ◌+◌, ◌-◌, ◌≤◌, List, length, sym, ap, subst, ◌∙◌, arith}
use Rattle.std.specs.List.{range_with_len}
use Rattle.std.proofs.lemmas.List.{length-append}
use Rattle.std.specs.Prelude.{IfOk}
use Rattle.smv_language.specs.Language.{Tree, FlatLeaf, FlatModel}
use Rattle.sat_clauses.specs.Literal.{Literal}
use Rattle.sat_encoding_laws.specs.Lists.{bad_list}
use Rattle.smv_flat_laws.specs.History.{Mode, with_history, bit_variables}
use Rattle.sat_encoding_laws.specs.FlatTraces.{history_of}
use Rattle.sat_encoding.specs.History.{last_numbers}
use Rattle.smv_flat_laws.proofs.HistoryLaws.{length_bits as one_each}

module _ (m : FlatModel) (fs : List Mode) where
  whole : length (with_history m fs).variables ≡ length m.variables + length fs
  whole = length-append m.variables (bit_variables 0 fs) ∙ ap (λ n. length m.variables + n) (one_each 0 fs)

  pub bits_within : length fs ≤ length (with_history m fs).variables
  bits_within = omega (arith, whole)

  pub bits_last : last_numbers (with_history m fs) (length fs) ≡ history_of m fs
  bits_last = ap (λ n. range_with_len n (length fs)) (rest (length (with_history m fs).variables) whole)
    where
      rest : (n : ℕ) → n ≡ length m.variables + length fs → n - length fs ≡ length m.variables
      rest n e = omega (arith, e)

-- The same of a model that is that one, and a number that is that of the faults.
module _ (m : FlatModel) (fs : List Mode) (full : FlatModel) (is : full ≡ with_history m fs) (n : ℕ) (same : n ≡ length fs) where
  pub bits_within_in : n ≤ length full.variables
  bits_within_in = subst (λ k. k ≤ length full.variables) (sym same) (subst (λ (x : FlatModel). length fs ≤ length x.variables) (sym is) (bits_within m fs))

  pub bits_last_in : last_numbers full n ≡ history_of m fs
  bits_last_in = ap (last_numbers full) same ∙ ap (λ (x : FlatModel). last_numbers x (length fs)) is ∙ bits_last m fs

  pub bad_is : (top : Tree FlatLeaf) (sets : List (List ℕ)) (size : ℕ) {E : Type 0} (r : Result (List (List Literal)) E) → IfOk r (λ list. list ≡ bad_list full top (last_numbers full n) sets size) → IfOk r (λ list. list ≡ bad_list full top (history_of m fs) sets size)
  bad_is top sets size r h = subst (λ history. IfOk r (λ list. list ≡ bad_list full top history sets size)) bits_last_in h
