-- The formulas of the staged model break no rule of kinds.
use Rattle.std.proofs.Common.{◌≡◌, ℕ, suc, ◌+◌, ◌<◌, ◌≤◌, Bool, true, false, cond, int_lt, le-ltb, List, [], ◌∷◌, ◌++◌, length, Some, pos, ◌+ℤ◌, refl, ◌∙◌, ap, arith}
use Rattle.std.proofs.lemmas.Int.{ints}
use Rattle.std.specs.Prelude.{not}
use Rattle.base_values.specs.declared.limits.TheConstants.{LONGEST_WINDOW}
use Rattle.smv_language.specs.declared.expr.Op.TheVariants as op
use Rattle.smv_language.specs.Language.{Tree, leaf, not_of, next_of, binary, choice, range, FlatLeaf, flat_symbol, FlatModel}
use Rattle.cut_right_laws.specs.Sets.{has_number}
use Rattle.smv_type_laws.specs.Intervals.{Interval, just, sum_of, fits_number}
use Rattle.smv_type_laws.specs.ExpressionKinds.{truth_class, number_class, symbol_class, Kind, empty_range, too_wide, rule_if, wide, one_value, Judged, judged_number}
use Rattle.smv_type_laws.specs.DeclaredKinds.{judged_declared}
use Rattle.smv_type_laws.specs.Models.{judged_in}
use Rattle.fault_woven_laws.proofs.Rightly.{Rightly, choice_alone}
use Rattle.fault_woven_laws.proofs.Numbers.{numbers_in, numbers_right, sum_judged, both_fit}
use Rattle.fault_cause_laws.specs.Causes.{CommonCause}
use Rattle.fault_cause_laws.specs.StagedModel.{value_of, whole, only, zero_or_one, in_window, age_at_first, age_at_step, event_at_each, windows_on, joined_after, joined, own_at_first, own_at_step}
use Rattle.fault_cause_laws.proofs.AddedKinds.{IsRightFormula}
use Rattle.fault_cause_laws.proofs.RightTrees.{fits_small, HasType, IsRightTree, as_formula, variable_kind, variable_right, symbol_right, literal, number_right, not_tree, next_tree, and_tree, or_tree, least_tree, most_tree, equal_tree, within_tree, choice_tree, only_tree, two_numbers_tree}

-- numbers from 0 on
abbrev from_zero : ℕ → Interval
from_zero n = record { lo = pos 0; hi = pos n }

-- the type of an age breaks no rule
pub range_judged : (n : ℕ) → n ≤ 200 → judged_declared (range (pos 0) (pos n)) ≡ numbers_in (from_zero n)
range_judged n h =
    let exact = Some (from_zero n) in
    let ends : int_lt (pos n) (pos 0) ≡ false = le-ltb n 0 (omega arith) in
    ap (λ b. one_value (rule_if b empty_range ++ wide exact) number_class exact []) ends
    ∙ ap (λ b. one_value (rule_if (not b) too_wide) number_class exact []) (both_fit (pos 0) (pos n) (fits_small 0 (omega arith)) (fits_small n h))

module _ (n : FlatModel) (c : CommonCause) (short : c.to ≤ LONGEST_WINDOW) (age : ℕ) (is : HasType n age (range (pos 0) (pos (c.to + 2)))) where
  age_judged : (sets : Bool) → judged_in n sets (value_of age) ≡ numbers_in (from_zero (c.to + 2))
  age_judged sets =
      ap (λ (k : Kind). record { kind = k; is_set = false; broken = [] })
      (variable_kind n age (range (pos 0) (pos (c.to + 2))) is ∙ ap (λ (j : Judged). j.kind) (range_judged (c.to + 2) (omega (arith, short))))

  age_tree : (sets : Bool) → IsRightTree n sets number_class (value_of age)
  age_tree sets = variable_right n sets number_class age (range (pos 0) (pos (c.to + 2))) is refl

  -- one more than the age is a number of 32 bits
  next_judged : judged_in n false (binary op.Plus (value_of age) (whole 1)) ≡ numbers_in (sum_of (from_zero (c.to + 2)) (just (pos 1)))
  next_judged =
      let a = age_judged false in
      let b = literal n false 1 (omega arith) in
      let low : fits_number (pos 0 +ℤ pos 1) ≡ true = refl in
      let sum : pos (c.to + 2) +ℤ pos 1 ≡ pos (c.to + 3) = omega (arith, ints) in
      let high : fits_number (pos (c.to + 2) +ℤ pos 1) ≡ true = ap fits_number sum ∙ fits_small (c.to + 3) (omega (arith, short)) in
      (λ j. judged_number op.Plus (a j) (b j))
      ∙ sum_judged (from_zero (c.to + 2)) (just (pos 1)) (both_fit (pos 0 +ℤ pos 1) (pos (c.to + 2) +ℤ pos 1) low high)

  at_end : (k : ℕ) → k ≤ 200 → (sets : Bool) → IsRightTree n sets truth_class (binary op.Equal (value_of age) (whole k))
  at_end k h sets = equal_tree n sets number_class (value_of age) (whole k) (age_tree false) (number_right n false k h)

  abbrev going_on : Tree FlatLeaf
  going_on = choice (binary op.Equal (value_of age) (whole (c.to + 2))) (whole (c.to + 2)) (binary op.Plus (value_of age) (whole 1))

  on_tree : IsRightTree n false number_class going_on
  on_tree =
      let p = at_end (c.to + 2) (omega (arith, short)) false in
      let a = number_right n false (c.to + 2) (omega (arith, short)) in
      let next : Rightly number_class (judged_in n false (binary op.Plus (value_of age) (whole 1))) = numbers_right _ _ next_judged in
      record {
        own = (p.own, tt, ((age_tree false).own, tt));
        right = choice_alone number_class (judged_in n false (binary op.Equal (value_of age) (whole (c.to + 2)))) (judged_in n false (whole (c.to + 2))) (judged_in n false (binary op.Plus (value_of age) (whole 1)))
            p.right a.right next refl refl;
      }

  pub age_first : IsRightFormula n (age_at_first age)
  age_first = as_formula n (binary op.Within (value_of age) zero_or_one) (within_tree n false number_class (value_of age) zero_or_one (age_tree false) (two_numbers_tree n))

  pub age_step : IsRightFormula n (age_at_step c age)
  age_step =
      as_formula n (binary op.Within (next_of (value_of age)) (choice (binary op.Equal (value_of age) (whole 0)) zero_or_one (only going_on)))
      (within_tree n false number_class (next_of (value_of age)) (choice (binary op.Equal (value_of age) (whole 0)) zero_or_one (only going_on)) (next_tree n false number_class (value_of age) (age_tree false))
      (choice_tree n number_class (binary op.Equal (value_of age) (whole 0)) zero_or_one (only going_on) (at_end 0 (omega arith) false) (two_numbers_tree n) (only_tree n number_class going_on on_tree)))

  -- the window of a cause
  pub window_tree : c.from ≤ c.to → (sets : Bool) → IsRightTree n sets truth_class (in_window c age)
  window_tree small sets =
      and_tree n sets (binary op.AtLeast (value_of age) (whole (c.from + 1))) (binary op.AtMost (value_of age) (whole (c.to + 1)))
      (least_tree n false (value_of age) (whole (c.from + 1)) (age_tree false) (number_right n false (c.from + 1) (omega (arith, small, short))))
      (most_tree n false (value_of age) (whole (c.to + 1)) (age_tree false) (number_right n false (c.to + 1) (omega (arith, short))))

  pub ends_tree : (sets : Bool) → IsRightTree n sets truth_class (binary op.Equal (value_of age) (whole (c.to + 1)))
  ends_tree sets = at_end (c.to + 1) (omega (arith, short)) sets

  pub event_each : (event symbols : ℕ) → IsRightTree n false symbol_class (value_of event) → suc symbols < length n.symbols → IsRightFormula n (event_at_each event age symbols)
  event_each event symbols is_event there =
      let first = symbol_right n false (suc symbols) there in
      let second = symbol_right n false symbols (omega (arith, there)) in
      let chosen = choice (binary op.Equal (value_of age) (whole 1)) (only (leaf (flat_symbol (suc symbols)))) (only (leaf (flat_symbol symbols))) in
      as_formula n (binary op.Within (value_of event) chosen)
      (within_tree n false symbol_class (value_of event) chosen is_event
      (choice_tree n symbol_class (binary op.Equal (value_of age) (whole 1)) (only (leaf (flat_symbol (suc symbols)))) (only (leaf (flat_symbol symbols))) (at_end 1 (omega arith) false)
      (only_tree n symbol_class (leaf (flat_symbol (suc symbols))) first) (only_tree n symbol_class (leaf (flat_symbol symbols)) second)))

-- ---- windows

-- a cause that ends soon, and the number of its age
pub record HasAge (n : FlatModel) (c : CommonCause) (age : ℕ) : Type 0 where
  pub window : c.from ≤ c.to
  pub short : c.to ≤ LONGEST_WINDOW
  pub is_age : HasType n age (range (pos 0) (pos (c.to + 2)))

abbrev pub HaveAges : FlatModel → List CommonCause → List ℕ → Type 0
HaveAges n (c ∷ cs) (age ∷ ages) = HasAge n c age × HaveAges n cs ages
HaveAges n _ _ = Unit {0}

module _ (n : FlatModel) (i : ℕ) where
  one_window : (c : CommonCause) (age : ℕ) → HasAge n c age → IsRightTree n false truth_class (in_window c age)
  one_window c age is = window_tree n c is.short age is.is_age is.window false

  joined_tree : (cs : List CommonCause) (ages : List ℕ) → HaveAges n cs ages → (e : Tree FlatLeaf) → IsRightTree n false truth_class e → IsRightTree n false truth_class (joined_after e (windows_on i cs ages))
  joined_tree [] ages have e h = h
  joined_tree (c ∷ cs) [] have e h = h
  joined_tree (c ∷ cs) (age ∷ ages) have e h = by_strike (has_number c.strikes i) (joined_tree cs ages have.1)
    where
      by_strike : (b : Bool) → ((e : Tree FlatLeaf) → IsRightTree n false truth_class e → IsRightTree n false truth_class (joined_after e (windows_on i cs ages))) →
          IsRightTree n false truth_class (joined_after e (cond b (in_window c age ∷ windows_on i cs ages) (windows_on i cs ages)))
      by_strike false more = more e h
      by_strike true more = more (binary op.Or e (in_window c age)) (or_tree n false e (in_window c age) h (one_window c age have.0))

  pub windows_tree : (cs : List CommonCause) (ages : List ℕ) → HaveAges n cs ages → IsRightTree n false truth_class (joined (windows_on i cs ages))
  windows_tree [] ages have = record { own = tt; right = record { kept = refl; class = refl } }
  windows_tree (c ∷ cs) [] have = record { own = tt; right = record { kept = refl; class = refl } }
  windows_tree (c ∷ cs) (age ∷ ages) have = by_strike (has_number c.strikes i) (windows_tree cs ages have.1)
    where
      by_strike : (b : Bool) → IsRightTree n false truth_class (joined (windows_on i cs ages)) →
          IsRightTree n false truth_class (joined (cond b (in_window c age ∷ windows_on i cs ages) (windows_on i cs ages)))
      by_strike false more = more
      by_strike true more = joined_tree cs ages have.1 (in_window c age) (one_window c age have.0)

-- ---- own events

module _ (n : FlatModel) (stands windows : Tree FlatLeaf) (stand : IsRightTree n false truth_class stands) (cover : IsRightTree n false truth_class windows) (own symbols : ℕ)
    (is_own : IsRightTree n false symbol_class (value_of own)) (there : suc symbols < length n.symbols) where
  abbrev first : Tree FlatLeaf
  first = only (leaf (flat_symbol (suc symbols)))

  abbrev second : Tree FlatLeaf
  second = only (leaf (flat_symbol symbols))

  first_tree : IsRightTree n true symbol_class first
  first_tree = only_tree n symbol_class (leaf (flat_symbol (suc symbols))) (symbol_right n false (suc symbols) there)

  second_tree : IsRightTree n true symbol_class second
  second_tree = only_tree n symbol_class (leaf (flat_symbol symbols)) (symbol_right n false symbols (omega (arith, there)))

  pub own_first : IsRightFormula n (own_at_first stands windows own symbols)
  own_first =
      let begins = binary op.And stands (not_of windows) in
      as_formula n (binary op.Within (value_of own) (choice begins first second))
      (within_tree n false symbol_class (value_of own) (choice begins first second) is_own
      (choice_tree n symbol_class begins first second (and_tree n false stands (not_of windows) stand (not_tree n false windows cover)) first_tree second_tree))

  pub own_step : IsRightFormula n (own_at_step stands windows own symbols)
  own_step =
      let begins = binary op.And (next_of stands) (not_of stands) in
      let freely = binary op.And begins (not_of (next_of windows)) in
      as_formula n (binary op.Within (next_of (value_of own)) (choice freely first second))
      (within_tree n false symbol_class (next_of (value_of own)) (choice freely first second) (next_tree n false symbol_class (value_of own) is_own)
      (choice_tree n symbol_class freely first second
      (and_tree n false begins (not_of (next_of windows)) (and_tree n false (next_of stands) (not_of stands) (next_tree n false truth_class stands stand) (not_tree n false stands stand))
      (not_tree n false (next_of windows) (next_tree n false truth_class windows cover))) first_tree second_tree))
