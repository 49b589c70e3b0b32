-- The faults that moments have failed are those of a set, as it is tested.
use Rattle.std.proofs.Common.{◌≡◌, ℕ, zero, suc, ◌+◌, ◌-◌, ◌<◌, ◌≤◌, Bool, true, false, not, List, [], ◌∷◌, length, drop, get_or, Some, refl, sym, ap, subst, ◌∙◌, arith}
use Rattle.std.specs.Bool.{beq}
use Rattle.std.specs.Prelude.{◌&&◌, map, All, Contains, slice_get}
use Rattle.std.proofs.lemmas.List.{length-map, drop_more, drop_all}
use Rattle.std.proofs.lemmas.Option.{slice_get_within, get_or_from_slice_get, same_Some as some_same, none-some as none_some}
use Rattle.smv_language.specs.Language.{Each, Value, model_tree, variable_tree}
use Rattle.smv_flat_laws.specs.FaultModes.{mode_of}
use Rattle.smv_language.specs.declared.model.FlatModel.{FlatModel as Model}
use Rattle.smv_language.specs.declared.model.Fault.{Fault}
use Rattle.smv_flat_laws.specs.FlatTrace.{IsFlatTrace, IsModeOf, stands_in_some}
use Rattle.smv_flat_laws.specs.History.{Mode}
use Rattle.sat_encoding_laws.specs.FlatTraces.{ReachesTop, HasFailedNumber}
use Rattle.sat_encoding_laws.proofs.SetLaws.{has_contains, contains_has}
use Rattle.cut_right_laws.specs.Sets.{has_number}
use Rattle.smv_evaluation.specs.Stops.{Why, Stops, bad_first, bad_step, no_top, at_first, at_step, at_top}
use Rattle.smv_evaluation.proofs.StopLaws.{one_stop, reaching_does_not}
use Rattle.cert_check.specs.Matter.{Matter}
use Rattle.cert_check.specs.Moments.{FailsExactly, is_same, are_those_of}
use Rattle.cert_check.proofs.SetLaws.{each_in}
use Rattle.std.proofs.lemmas.Bool.{and_parts, and_from as and_both}
use Rattle.base_values.proofs.ListLaws.{all_from}

-- Two truth values that are the same.
same_then : (b c : Bool) → is_same b c ≡ true → b ≡ c
same_then true c e = sym e
same_then false true e = cc
same_then false false e = refl

same_where : (b c : Bool) → b ≡ c → is_same b c ≡ true
same_where true c e = sym e
same_where false c e = ap not (sym e)

module _ (test : Mode → Bool) (set : List ℕ) where
  add_none : (n : ℕ) → n ≡ n + 0
  add_none n = omega arith

  add_next : (n j : ℕ) → suc n + j ≡ n + suc j
  add_next n j = omega arith

  those_then : (n : ℕ) (fs : List Mode) → are_those_of test set n fs ≡ true → (j : ℕ) (f : Mode) → slice_get fs j ≡ Some f → test f ≡ has_number set (n + j)
  those_then n [] e j f at = absurd (none_some f at)
  those_then n (g ∷ fs) e zero f at =
      subst (λ h. test h ≡ has_number set (n + 0)) (some_same g f at)
      (same_then (test g) (has_number set n) (and_parts (is_same (test g) (has_number set n)) (are_those_of test set (suc n) fs) e).0 ∙ ap (has_number set) (add_none n))
  those_then n (g ∷ fs) e (suc j) f at =
      those_then (suc n) fs (and_parts (is_same (test g) (has_number set n)) (are_those_of test set (suc n) fs) e).1 j f at ∙ ap (has_number set) (add_next n j)

  those_where : (n : ℕ) (fs : List Mode) → ((j : ℕ) (f : Mode) → slice_get fs j ≡ Some f → test f ≡ has_number set (n + j)) → are_those_of test set n fs ≡ true
  those_where n [] h = refl
  those_where n (g ∷ fs) h =
      and_both (is_same (test g) (has_number set n)) (are_those_of test set (suc n) fs) (same_where (test g) (has_number set n) (h 0 g refl ∙ ap (has_number set) (sym (add_none n))))
      (those_where (suc n) fs (λ j f at. h (suc j) f at ∙ ap (has_number set) (sym (add_next n j))))

  -- One fault after the other.
  pub those_more : (fs : List Fault) (i : ℕ) (d : Fault) → i < length fs →
      are_those_of test set (i + 1) (map mode_of (drop i fs)) ≡ (is_same (test (mode_of (get_or fs i d))) (has_number set (i + 1)) && are_those_of test set (i + 1 + 1) (map mode_of (drop (i + 1) fs)))
  those_more fs i d l = ap (λ xs. are_those_of test set (i + 1) (map mode_of xs)) (drop_more fs i d l) ∙ ap (λ n. is_same (test (mode_of (get_or fs i d))) (has_number set (i + 1)) && are_those_of test set n (map mode_of (drop (i + 1) fs))) (next (i + 1))
    where
      next : (n : ℕ) → suc n ≡ n + 1
      next n = omega arith

  pub those_none : (fs : List Fault) (i : ℕ) → length fs ≤ i → are_those_of test set (i + 1) (map mode_of (drop i fs)) ≡ true
  those_none fs i l = ap (λ xs. are_those_of test set (i + 1) (map mode_of xs)) (drop_all i fs l)

-- What is tested is what is asked.
module _ (a : Matter) (set : List ℕ) (trace : List (List Value)) where
  abbrev fails : Mode → Bool
  fails f = stands_in_some a.model f trace

  abbrev IsNumber : ℕ → Type 0
  IsNumber i = (1 ≤ i) × (i ≤ length a.modes)

  from_one : (i : ℕ) → 0 < i → 1 + (i - 1) ≡ i
  from_one i h = omega (arith, h)

  mode_there : (fs : List Mode) (k : ℕ) → k < length fs → (f : Mode) × (slice_get fs k ≡ Some f)
  mode_there [] k l = absurd (omega (arith, l))
  mode_there (f ∷ fs) zero l = (f, refl)
  mode_there (f ∷ fs) (suc k) l = mode_there fs k (omega (arith, l))

  pub exactly_where : All IsNumber set → are_those_of fails set 1 a.modes ≡ true → FailsExactly a set trace
  exactly_where numbers those i = (
    λ failed. has_contains set i (ap (has_number set) (sym (from_one i failed.1)) ∙ sym (those_then fails set 1 a.modes those (i - 1) failed.0 failed.2) ∙ failed.3),
    λ inside. by_mode inside (each_in IsNumber set numbers i inside),
  )
    where
      before : (1 ≤ i) × (i ≤ length a.modes) → i - 1 < length a.modes
      before n = omega (arith, n.0, n.1)

      by_mode : Contains set i → IsNumber i → HasFailedNumber a.model a.modes trace i
      by_mode inside n =
          let f = mode_there a.modes (i - 1) (before n) in
          (f.0, n.0, f.1, those_then fails set 1 a.modes those (i - 1) f.0 f.1 ∙ ap (has_number set) (from_one i n.0) ∙ contains_has set i inside)

  pub numbers_from : FailsExactly a set trace → All IsNumber set
  numbers_from h = all_from IsNumber set (λ i inside. number i ((h i).1 inside))
    where
      number : (i : ℕ) → HasFailedNumber a.model a.modes trace i → IsNumber i
      number i failed = let within = slice_get_within a.modes (i - 1) failed.0 failed.2 in let some = failed.1 in (some, omega (arith, within, some))

  pub those_from : FailsExactly a set trace → are_those_of fails set 1 a.modes ≡ true
  those_from h = those_where fails set 1 a.modes (λ j f at. by_tests j f at (fails f) (has_number set (1 + j)) refl refl)
    where
      place : (j : ℕ) → 1 + j - 1 ≡ j
      place j = omega arith

      some : (j : ℕ) → 0 < 1 + j
      some j = omega arith

      failed : (j : ℕ) (f : Mode) → slice_get a.modes j ≡ Some f → fails f ≡ true → HasFailedNumber a.model a.modes trace (1 + j)
      failed j f at e = (f, some j, ap (slice_get a.modes) (place j) ∙ at, e)

      back : (j : ℕ) (f : Mode) → slice_get a.modes j ≡ Some f → HasFailedNumber a.model a.modes trace (1 + j) → fails f ≡ true
      back j f at g = ap fails (some_same f g.0 (sym at ∙ ap (slice_get a.modes) (sym (place j)) ∙ g.2)) ∙ g.3

      by_tests : (j : ℕ) (f : Mode) → slice_get a.modes j ≡ Some f → (b c : Bool) → fails f ≡ b → has_number set (1 + j) ≡ c → fails f ≡ has_number set (1 + j)
      by_tests j f at true c e g = e ∙ sym (contains_has set (1 + j) ((h (1 + j)).0 (failed j f at e)))
      by_tests j f at false true e g = back j f at ((h (1 + j)).1 (has_contains set (1 + j) g)) ∙ sym g
      by_tests j f at false false e g = e ∙ sym g

-- Faults are modes of the model.
each_at : (P : Mode → Type 0) (fs : List Fault) (i : ℕ) (f : Fault) → Each P (map mode_of fs) → slice_get fs i ≡ Some f → P (mode_of f)
each_at P [] i f h at = absurd (none_some f at)
each_at P (g ∷ fs) zero f h at = subst (λ x. P (mode_of x)) (some_same g f at) h.0
each_at P (g ∷ fs) (suc i) f h at = each_at P fs i f h.1 at

pub variable_in : (m : Model) (fs : List Fault) (i : ℕ) (f : Fault) → Each (IsModeOf (model_tree m)) (map mode_of fs) → slice_get fs i ≡ Some f → f.variable < length m.variables
variable_in m fs i f h at =
    let is = each_at (IsModeOf (model_tree m)) fs i f h at in
    subst (λ n. f.variable < n) (length-map m.variables variable_tree) (slice_get_within (map variable_tree m.variables) f.variable is.variable is.is_variable)

pub symbol_in : (m : Model) (fs : List Fault) (i : ℕ) (f : Fault) → Each (IsModeOf (model_tree m)) (map mode_of fs) → slice_get fs i ≡ Some f → f.symbol < length m.symbols
symbol_in m fs i f h at = let is = each_at (IsModeOf (model_tree m)) fs i f h at in slice_get_within m.symbols f.symbol is.text is.is_symbol

-- Moments that stop are no trace.
module _ (a : Matter) (trace : List (List Value)) (i : ℕ) where
  stops_apart : (why : Why) → (why ≡ at_top → ⊥) → Stops a.model a.top trace i why → IsFlatTrace a.model trace → ⊥
  stops_apart why other s is = other (one_stop a.model a.top trace i (length trace - 1) why at_top s (no_top is (λ r. reaching_does_not a.model a.top trace i why s (record { is_trace = is; reaches = r })))).1

  pub first_no_trace : Stops a.model a.top trace i at_first → IsFlatTrace a.model trace → ⊥
  first_no_trace s is = stops_apart at_first differ s is
    where
      differ : at_first ≡ at_top → ⊥
      differ e = cc

  pub step_no_trace : Stops a.model a.top trace i at_step → IsFlatTrace a.model trace → ⊥
  step_no_trace s is = stops_apart at_step differ s is
    where
      differ : at_step ≡ at_top → ⊥
      differ e = cc

pub top_parts : (a : Matter) (trace : List (List Value)) (i : ℕ) (why : Why) → Stops a.model a.top trace i why → why ≡ at_top → IsFlatTrace a.model trace × (ReachesTop a.model a.top trace → ⊥)
top_parts a trace i why (bad_first v more e f) p = cc
top_parts a trace i why (bad_step before v w after e t f) p = cc
top_parts a trace i why (no_top is f) p = (is, f)

-- One fault more.
module _ (test : Mode → Bool) (set : List ℕ) (fs : List Fault) (i : ℕ) (f : Fault) (at : slice_get fs i ≡ Some f) where
  those_step : are_those_of test set (i + 1) (map mode_of (drop i fs)) ≡ (is_same (test (mode_of f)) (has_number set (i + 1)) && are_those_of test set (i + 1 + 1) (map mode_of (drop (i + 1) fs)))
  those_step =
      those_more test set fs i f (slice_get_within fs i f at)
      ∙ ap (λ (g : Fault). is_same (test (mode_of g)) (has_number set (i + 1)) && are_those_of test set (i + 1 + 1) (map mode_of (drop (i + 1) fs))) (get_or_from_slice_get fs i f f at)

  pub those_here : test (mode_of f) ≡ has_number set (i + 1) → are_those_of test set (i + 1) (map mode_of (drop i fs)) ≡ are_those_of test set (i + 1 + 1) (map mode_of (drop (i + 1) fs))
  those_here e = those_step ∙ ap (λ b. b && are_those_of test set (i + 1 + 1) (map mode_of (drop (i + 1) fs))) (same_where (test (mode_of f)) (has_number set (i + 1)) e)

  pub those_not : (test (mode_of f) ≡ has_number set (i + 1) → ⊥) → are_those_of test set (i + 1) (map mode_of (drop i fs)) ≡ false
  those_not n = those_step ∙ by_test (is_same (test (mode_of f)) (has_number set (i + 1))) refl
    where
      by_test : (b : Bool) → is_same (test (mode_of f)) (has_number set (i + 1)) ≡ b → (b && are_those_of test set (i + 1 + 1) (map mode_of (drop (i + 1) fs))) ≡ false
      by_test true e = absurd (n (same_then (test (mode_of f)) (has_number set (i + 1)) e))
      by_test false e = refl

-- Two truth values, as they are compared.
pub differ_then : (b c : Bool) → not (beq b c) ≡ true → b ≡ c → ⊥
differ_then true true e p = cc
differ_then true false e p = cc
differ_then false true e p = cc
differ_then false false e p = cc

pub same_by : (b c : Bool) → not (beq b c) ≡ false → b ≡ c
same_by true true e = refl
same_by true false e = cc
same_by false true e = cc
same_by false false e = refl
