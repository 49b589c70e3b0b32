-- An accepted program has few variables, and so few bits of inputs.
use Rattle.std.proofs.Common.{◌≡◌, ℕ, ◌+◌, ◌^◌, ◌≤◌, List, [], ◌∷◌, ◌++◌, length, refl, sym, ap, ◌∙◌, subst, arith, ⊎_elim}
use Rattle.std.proofs.lemmas.List.{length-append, append_assoc, append-nil}
use Rattle.smv_language.specs.Language.{DeclaredTree, boolean, range, members, instance, ProgramTree, Each, FlatModel}
use Rattle.smv_flat_laws.specs.History.{Mode, with_history, bit_variables}
use Rattle.smv_flat_laws.specs.Items.{Visit, visits, variables_of, variable_declared}
use Rattle.smv_flat_laws.specs.Model.{IsVariableOf, IsFlatOf}
use Rattle.smv_flat_laws.specs.Rules.{too_many, a_visit, visit_sites, variables_before, PassesLimit, IsKept, IsAccepted}
use Rattle.smv_flat_laws.proofs.HistoryLaws.{length_bits}
use Rattle.smv_flat_laws.proofs.Walkable.{accepted_walkable}
use Rattle.sat_encoding_laws.specs.Layout.{input_bits}
use Rattle.sat_encoding_laws.proofs.SizeLists.{inputs_most}
use Rattle.std.proofs.lemmas.Bool.{cases_lt}
use Rattle.base_values.specs.declared.limits.TheConstants.{MOST_VARIABLES, MOST_BITS}
use Rattle.smv_flat_laws.proofs.VariableCounts.{variables_and}
use Rattle.smv_flat_laws.proofs.BothLaws.{both_size}

-- ---- variables

below_limit : (n one : ℕ) → (MOST_VARIABLES ≤ n → ⊥) → one ≤ 1 → n + one ≤ MOST_VARIABLES
below_limit n one none h = ⊎_elim (λ less. omega (arith, less, h)) (λ more. absurd (none more)) (cases_lt n MOST_VARIABLES)

module _ (p : ProgramTree) where
  -- one visit more: an instance is no variable, and a variable has fewer before it than the most
  room_for : (before : List Visit) (v : Visit) (d : DeclaredTree) → d ≡ v.decl.what → IsKept p (a_visit before v) → variables_before before ≤ MOST_VARIABLES → variables_before before + length (variable_declared v d) ≤ MOST_VARIABLES
  room_for before v (instance m actuals) e kept h = omega (arith, h)
  room_for before v boolean e kept h = below_limit (variables_before before) 1 (λ most. kept too_many (subst (PassesLimit before) e most)) (omega arith)
  room_for before v (range lo hi) e kept h = below_limit (variables_before before) 1 (λ most. kept too_many (subst (PassesLimit before) e most)) (omega arith)
  room_for before v (members ms) e kept h = below_limit (variables_before before) 1 (λ most. kept too_many (subst (PassesLimit before) e most)) (omega arith)

  few_after : (before vs : List Visit) → Each (IsKept p) (visit_sites before vs) → variables_before before ≤ MOST_VARIABLES → variables_before (before ++ vs) ≤ MOST_VARIABLES
  few_after before [] kept h = subst (λ xs. variables_before xs ≤ MOST_VARIABLES) (sym (append-nil before)) h
  few_after before (v ∷ vs) kept h =
      let here : variables_before (before ++ v ∷ []) ≤ MOST_VARIABLES = subst (λ n. n ≤ MOST_VARIABLES) (sym (variables_and before v)) (room_for before v v.decl.what refl kept.0 h) in
      subst (λ xs. variables_before xs ≤ MOST_VARIABLES) (append_assoc before (v ∷ []) vs) (few_after (before ++ v ∷ []) vs kept.1 here)

few_variables : (p : ProgramTree) (m : FlatModel) → IsAccepted p → IsFlatOf p m → length m.variables ≤ MOST_VARIABLES
few_variables p m accepted is =
    let few = few_after p [] (visits p) (accepted_walkable p accepted).visits (omega arith) in
    let same = both_size (IsVariableOf m) (variables_of p) m.variables is.variables in
    omega (arith, few, same)

-- ---- bits

-- with a bit for each of at most `MOST_BITS` faults
pub few_inputs : (p : ProgramTree) (m : FlatModel) (fs : List Mode) → IsAccepted p → IsFlatOf p m → length fs ≤ MOST_BITS → input_bits (with_history m fs) ≤ 2 ^ 30
few_inputs p m fs accepted is few =
    let own = few_variables p m accepted is in
    let long : length (with_history m fs).variables ≡ length m.variables + length fs = length-append m.variables (bit_variables 0 fs) ∙ ap (λ k. length m.variables + k) (length_bits 0 fs) in
    let most = inputs_most m.symbols (m.variables ++ bit_variables 0 fs) in
    omega (arith, own, long, most, few)
