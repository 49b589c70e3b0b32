-- The lists of the whole model are those that the search asks for.
use Rattle.std.proofs.Common.{◌≡◌, ⊎_elim, ℕ, ◌+◌, ◌-◌, ◌≤◌, min, List, length, sym, ap, ◌∙◌, subst, arith, All}
use Rattle.std.specs.List.{range_with_len}
use Rattle.std.proofs.lemmas.List.{length-map}
use Rattle.std.proofs.lemmas.Bool.{cases_lt}
use Rattle.std.proofs.Math.Nat.{min-le_right, min-eq_left, min-eq_right}
use Rattle.base_values.specs.declared.limits.TheConstants.{MOST_BITS}
use Rattle.smv_language.specs.Language.{Tree, model_tree, variable_tree, FlatLeaf, FlatModel}
use Rattle.smv_language.specs.declared.model.FlatModel.{FlatModel as CodeModel}
use Rattle.smv_flat_laws.specs.History.{Mode, with_history}
use Rattle.sat_clauses.specs.Literal.{Literal}
use Rattle.cut_frames.specs.Condition.{IsOverNow}
use Rattle.cut_search_laws.specs.FlatSearch.{IsBadFor}
use Rattle.sat_encoding_laws.specs.FlatTraces.{history_of}
use Rattle.sat_encoding_laws.specs.Lists.{system_of, bad_list}
use Rattle.sat_encoding.specs.History.{last_numbers}
use Rattle.cut_search_laws.proofs.Serves.{lists_serve}
use Rattle.cut_search_laws.proofs.Fitting.{few_faults, lists_fit}
use Rattle.cut_search_laws.proofs.Sizes.{larger_serve}
use Rattle.cut_model_search.specs.FaultyModels.{FaultyValue, flat_in, modes_in, event_in, whole_in, bad_in, problem_in, CanBeSearched}
use Rattle.smv_flat_laws.proofs.HistoryLaws.{all_variables as whole_long}

-- there are at least as many variables as faults
pub faults_within : (full : CodeModel) (m : FlatModel) (fs : List Mode) → model_tree full ≡ with_history m fs → length fs ≤ length full.variables
faults_within full m fs e =
    let same : length full.variables ≡ length m.variables + length fs = sym (length-map full.variables variable_tree) ∙ ap (λ (w : FlatModel). length w.variables) e ∙ whole_long m fs in
    omega (arith, same)

-- there are at most 4,096 faults
pub few : (v : FaultyValue) → CanBeSearched v → length (modes_in v) ≤ MOST_BITS
few v can = few_faults (flat_in v) (modes_in v) can.encodable.typed.small

-- the last variables are the bits of history
pub last_history : (m : FlatModel) (fs : List Mode) → last_numbers (with_history m fs) (length fs) ≡ history_of m fs
last_history m fs =
    let long = whole_long m fs in
    let first : length (with_history m fs).variables - length fs ≡ length m.variables = omega (arith, long) in
    ap (λ n. range_with_len n (length fs)) first

-- the exact list of the last so many variables is that of the history
pub bad_is : (v : FaultyValue) (full : FlatModel) (top : Tree FlatLeaf) (count : ℕ) → full ≡ whole_in v → top ≡ event_in v → count ≡ length (modes_in v) → (sets : List (List ℕ)) (size : ℕ) →
    bad_list full top (last_numbers full count) sets size ≡ bad_in v sets size
bad_is v full top count whole event all sets size =
    (λ j. bad_list (whole j) (event j) (last_numbers (whole j) (all j)) sets size)
    ∙ ap (λ history. bad_list (whole_in v) (event_in v) history sets size) (last_history (flat_in v) (modes_in v))

module _ (v : FaultyValue) (can : CanBeSearched v) (size count most : ℕ) (all : count ≡ length (modes_in v)) (least : most ≡ min size count) (sets : List (List ℕ)) (bad : List (List Literal)) (exact : bad ≡ bad_in v sets most) where
  small : most ≤ length (modes_in v)
  small = let below = min-le_right size count in omega (arith, least, all, below)

  pub over_now : All (All (IsOverNow (system_of (whole_in v)))) bad
  over_now = subst (All (All (IsOverNow (system_of (whole_in v))))) (sym exact) ((lists_fit (flat_in v) (modes_in v) (event_in v) can).1 sets most small)

  for_most : IsBadFor (problem_in v) most sets bad
  for_most = subst (IsBadFor (problem_in v) most sets) (sym exact) ((lists_serve (flat_in v) (modes_in v) (event_in v) can.own can.encodable).1 can.fits sets most)

  pub bad_for : IsBadFor (problem_in v) size sets bad
  bad_for =
      ⊎_elim
      (λ less. let here : most ≡ size = least ∙ min-eq_left (omega (arith, less)) in
      subst (λ n. IsBadFor (problem_in v) n sets bad) here for_most)
      (λ more. let here : most ≡ length (modes_in v) = least ∙ min-eq_right (omega (arith, more)) ∙ all in
      larger_serve (problem_in v) size (omega (arith, more, all)) sets bad
      (subst (λ n. IsBadFor (problem_in v) n sets bad) here for_most))
      (cases_lt size count)
