-- The age of a cause, moment by moment, and its window.
use Rattle.std.proofs.Common.{◌≡◌, ◌≢◌, ℕ, zero, suc, ◌+◌, ◌-◌, ◌<◌, ◌≤◌, Bool, true, false, cond, ◌&&◌, ◌||◌, Option, Some, None, refl, ◌∙◌, sym, subst, arith, ◌⊎◌, inl, inr}
use Rattle.std.specs.Prelude.{pos, nat_lt, nat_le, nat_eq, min}
use Rattle.std.specs.Bool.{Decides}
use Rattle.std.proofs.lemmas.Bool.{cases_lt}
use Rattle.std.proofs.lemmas.Bool.Decides.{same_from_decides, Decides-and, Decides-like, nat_tests, leb_tells, eqb_tells}
use Rattle.smv_language.specs.Values.{at_most}
use Rattle.fault_cause_laws.specs.Causes.{CommonCause}
use Rattle.fault_cause_laws.specs.StagedValues.{age_at, is_in_window, some_up_to, is_hit}

-- a moment of the trace, or none
abbrev pub IsMomentOf : ℕ → Option ℕ → Type 0
IsMomentOf end None = Unit {0}
IsMomentOf end (Some t) = t < end

-- the age of a cause of moment t, whose window ends to steps after it
pub data AgeCase (to t k a : ℕ) : Type 0 where
  not_yet : k < t → a ≡ 0 → AgeCase to t k a
  going_on : t ≤ k → k - t + 1 ≤ to + 2 → a ≡ k - t + 1 → AgeCase to t k a
  over : t ≤ k → to + 2 ≤ k - t + 1 → a ≡ to + 2 → AgeCase to t k a

by_min : (x y : ℕ) → ((x ≤ y) × (min x y ≡ x)) ⊎ ((y ≤ x) × (min x y ≡ y))
by_min x y = elim (cases_lt x y) [ inl h ↦ inl (omega arith, omega arith) | inr h ↦ inr (h, omega arith) ]

pub age_case : (c : CommonCause) (t k : ℕ) → AgeCase c.to t k (age_at c (Some t) k)
age_case c t k = by_test (nat_lt k t) (leb_tells (suc k) t)
  where
    by_test : (b : Bool) → ((b ≡ true) × (suc k ≤ t)) ⊎ ((b ≡ false) × (t < suc k)) → AgeCase c.to t k (cond b 0 (min (k - t + 1) (c.to + 2)))
    by_test b (inl h) = rw h.0 (not_yet (omega arith) refl)
    by_test b (inr h) = rw h.0 (elim (by_min (k - t + 1) (c.to + 2)) [ inl g ↦ going_on (omega arith) g.0 g.1 | inr g ↦ over (omega arith) g.0 g.1 ])

-- numbers that are not negative
pub at_most_nat : (a b : ℕ) → at_most (pos a) (pos b) ≡ nat_le a b
at_most_nat a b = grind (arith, nat_tests)

pub decides_le : (a b : ℕ) → Decides (nat_le a b) (a ≤ b)
decides_le a b = elim (leb_tells a b) [ inl h ↦ ((λ e. h.1), (λ e. h.0)) | inr h ↦ ((λ e. let x : true ≡ false = sym e ∙ h.0 in cc), (λ e. absurd (omega arith))) ]

pub decides_at_most : (a b : ℕ) → Decides (at_most (pos a) (pos b)) (a ≤ b)
decides_at_most a b = subst (λ r. Decides r (a ≤ b)) (sym (at_most_nat a b)) (decides_le a b)

-- the window by ages is the window by moments
to_window : (from to t k a : ℕ) → AgeCase to t k a → (from + 1 ≤ a) × (a ≤ to + 1) → (t + from ≤ k) × (k ≤ t + to)
to_window from to t k a (not_yet h e) w = absurd (omega arith)
to_window from to t k a (going_on h l e) w = (omega arith, omega arith)
to_window from to t k a (over h l e) w = absurd (omega arith)

from_window : (from to t k a : ℕ) → from ≤ to → AgeCase to t k a → (t + from ≤ k) × (k ≤ t + to) → (from + 1 ≤ a) × (a ≤ to + 1)
from_window from to t k a small (not_yet h e) w = absurd (omega arith)
from_window from to t k a small (going_on h l e) w = (omega arith, omega arith)
from_window from to t k a small (over h l e) w = absurd (omega arith)

pub window_by_age : (c : CommonCause) → c.from ≤ c.to → (time : Option ℕ) (k : ℕ) →
    (at_most (pos (c.from + 1)) (pos (age_at c time k)) && at_most (pos (age_at c time k)) (pos (c.to + 1))) ≡ is_in_window c time k
window_by_age c small None k = rw (at_most_nat (c.from + 1) 0) (none (c.from + 1) (omega arith))
  where
    none : (n : ℕ) → 0 < n → (nat_le n 0 && at_most (pos 0) (pos (c.to + 1))) ≡ false
    none n h = elim (leb_tells n 0) [ inl g ↦ absurd (omega arith) | inr g ↦ rw g.0 refl ]
window_by_age c small (Some t) k =
    same_from_decides (at_most (pos (c.from + 1)) (pos (age_at c (Some t) k)) && at_most (pos (age_at c (Some t) k)) (pos (c.to + 1))) (nat_le (t + c.from) k && nat_le k (t + c.to))
    (Decides-like (at_most (pos (c.from + 1)) (pos (age_at c (Some t) k)) && at_most (pos (age_at c (Some t) k)) (pos (c.to + 1)))
    (to_window c.from c.to t k (age_at c (Some t) k) (age_case c t k)) (from_window c.from c.to t k (age_at c (Some t) k) small (age_case c t k))
    (Decides-and (at_most (pos (c.from + 1)) (pos (age_at c (Some t) k))) (at_most (pos (age_at c (Some t) k)) (pos (c.to + 1)))
    (decides_at_most (c.from + 1) (age_at c (Some t) k)) (decides_at_most (age_at c (Some t) k) (c.to + 1))))
    (Decides-and (nat_le (t + c.from) k) (nat_le k (t + c.to)) (decides_le (t + c.from) k) (decides_le k (t + c.to)))

pub decides_window : (c : CommonCause) (t k : ℕ) → Decides (is_in_window c (Some t) k) ((t + c.from ≤ k) × (k ≤ t + c.to))
decides_window c t k = Decides-and (nat_le (t + c.from) k) (nat_le k (t + c.to)) (decides_le (t + c.from) k) (decides_le k (t + c.to))

-- the age at the moment, before it, and after
pub age_before : (c : CommonCause) (t k : ℕ) → k < t → age_at c (Some t) k ≡ 0
age_before c t k h = by_case (age_at c (Some t) k) (age_case c t k)
  where
    by_case : (a : ℕ) → AgeCase c.to t k a → a ≡ 0
    by_case a (not_yet g e) = e
    by_case a (going_on g l e) = absurd (omega arith)
    by_case a (over g l e) = absurd (omega arith)

pub age_at_moment : (c : CommonCause) (t k : ℕ) → (age_at c (Some t) k ≡ 1 → t ≡ k) × (t ≡ k → age_at c (Some t) k ≡ 1)
age_at_moment c t k = (to_it (age_at c (Some t) k) (age_case c t k), from_it (age_at c (Some t) k) (age_case c t k))
  where
    to_it : (a : ℕ) → AgeCase c.to t k a → a ≡ 1 → t ≡ k
    to_it a (not_yet g e) h = absurd (omega arith)
    to_it a (going_on g l e) h = omega arith
    to_it a (over g l e) h = absurd (omega arith)

    from_it : (a : ℕ) → AgeCase c.to t k a → t ≡ k → a ≡ 1
    from_it a (not_yet g e) h = absurd (omega arith)
    from_it a (going_on g l e) h = omega arith
    from_it a (over g l e) h = absurd (omega arith)

pub age_positive : (c : CommonCause) (t k : ℕ) → t ≤ k → 0 < age_at c (Some t) k
age_positive c t k h = by_case (age_at c (Some t) k) (age_case c t k)
  where
    by_case : (a : ℕ) → AgeCase c.to t k a → 0 < a
    by_case a (not_yet g e) = absurd (omega arith)
    by_case a (going_on g l e) = omega arith
    by_case a (over g l e) = omega arith

pub age_small : (c : CommonCause) (time : Option ℕ) (k : ℕ) → age_at c time k ≤ c.to + 2
age_small c None k = omega arith
age_small c (Some t) k = by_case (age_at c (Some t) k) (age_case c t k)
  where
    by_case : (a : ℕ) → AgeCase c.to t k a → a ≤ c.to + 2
    by_case a (not_yet g e) = omega arith
    by_case a (going_on g l e) = omega arith
    by_case a (over g l e) = omega arith

pub age_lands : (c : CommonCause) (t k : ℕ) → (age_at c (Some t) k ≡ c.to + 1 → k ≡ t + c.to) × (k ≡ t + c.to → age_at c (Some t) k ≡ c.to + 1)
age_lands c t k = (to_it (age_at c (Some t) k) (age_case c t k), from_it (age_at c (Some t) k) (age_case c t k))
  where
    to_it : (a : ℕ) → AgeCase c.to t k a → a ≡ c.to + 1 → k ≡ t + c.to
    to_it a (not_yet g e) h = absurd (omega arith)
    to_it a (going_on g l e) h = omega arith
    to_it a (over g l e) h = absurd (omega arith)

    from_it : (a : ℕ) → AgeCase c.to t k a → k ≡ t + c.to → a ≡ c.to + 1
    from_it a (not_yet g e) h = absurd (omega arith)
    from_it a (going_on g l e) h = omega arith
    from_it a (over g l e) h = absurd (omega arith)

-- the next age, after the moment
abbrev pub next_age : ℕ → ℕ → ℕ
next_age to a = cond (nat_eq a (to + 2)) (to + 2) (a + 1)

pub age_next : (c : CommonCause) (t k : ℕ) → t ≤ k → age_at c (Some t) (suc k) ≡ next_age c.to (age_at c (Some t) k)
age_next c t k h = by_case (age_at c (Some t) k) (age_at c (Some t) (suc k)) (age_case c t k) (age_case c t (suc k)) (nat_eq (age_at c (Some t) k) (c.to + 2)) (eqb_tells (age_at c (Some t) k) (c.to + 2))
  where
    by_case : (a b : ℕ) → AgeCase c.to t k a → AgeCase c.to t (suc k) b → (e : Bool) → ((e ≡ true) × (a ≡ c.to + 2)) ⊎ ((e ≡ false) × (a ≢ c.to + 2)) → b ≡ cond e (c.to + 2) (a + 1)
    by_case a b (not_yet g x) d e test = absurd (omega arith)
    by_case a b p (not_yet g x) e test = absurd (omega arith)
    by_case a b (going_on g l x) (going_on g' l' x') e (inl test) = absurd (omega arith)
    by_case a b (going_on g l x) (going_on g' l' x') e (inr test) = rw test.0 (omega arith)
    by_case a b (going_on g l x) (over g' l' x') e (inl test) = rw test.0 x'
    by_case a b (going_on g l x) (over g' l' x') e (inr test) = rw test.0 (let n : a ≢ c.to + 2 = test.1 in omega arith)
    by_case a b (over g l x) (going_on g' l' x') e test = absurd (omega arith)
    by_case a b (over g l x) (over g' l' x') e (inl test) = rw test.0 x'
    by_case a b (over g l x) (over g' l' x') e (inr test) = absurd (test.1 x)

-- a test that passes up to a moment passes at one of them
pub some_means : (test : ℕ → Bool) (k : ℕ) → some_up_to test k ≡ true → (j : ℕ) × (j ≤ k) × (test j ≡ true)
some_means test zero h = (0, omega arith, h)
some_means test (suc k) h = by_or (some_up_to test k) (test (suc k)) h (λ e. let x : (j : ℕ) × (j ≤ k) × (test j ≡ true) = some_means test k e in (x.0, omega arith, x.2)) (λ e. (suc k, omega arith, e))
  where
    by_or : (a b : Bool) → (a || b) ≡ true → (a ≡ true → (j : ℕ) × (j ≤ suc k) × (test j ≡ true)) → (b ≡ true → (j : ℕ) × (j ≤ suc k) × (test j ≡ true)) → (j : ℕ) × (j ≤ suc k) × (test j ≡ true)
    by_or true b h f g = f refl
    by_or false b h f g = g h

pub some_from : (test : ℕ → Bool) (k j : ℕ) → j ≤ k → test j ≡ true → some_up_to test k ≡ true
some_from test zero j h e = let same : j ≡ 0 = omega arith in subst (λ x. test x ≡ true) same e
some_from test (suc k) j h e = elim (eqb_tells j (suc k)) [ inl g ↦ right (some_up_to test k) (test (suc k)) (subst (λ x. test x ≡ true) g.1 e) | inr g ↦ left (some_up_to test k) (test (suc k)) (some_from test k j (let n : j ≢ suc k = g.1 in omega arith) e) ]
  where
    right : (a b : Bool) → b ≡ true → (a || b) ≡ true
    right true b e = refl
    right false b e = e

    left : (a b : Bool) → a ≡ true → (a || b) ≡ true
    left a b e = rw e refl

-- A hit goes on while the window does.
pub hit_next : (stands : ℕ → ℕ → Bool) (c : CommonCause) (time : Option ℕ) (i k : ℕ) →
    (is_in_window c time (suc k) && (stands (suc k) i || is_hit stands c time i k)) ≡ is_hit stands c time i (suc k)
hit_next stands c None i k = refl
hit_next stands c (Some t) i k =
    by_case (is_in_window c (Some t) (suc k)) (is_in_window c (Some t) k) (some_up_to (λ j. is_in_window c (Some t) j && stands j i) k) (stands (suc k) i) convex
  where
    left_of : (a b : Bool) → (a && b) ≡ true → a ≡ true
    left_of true b h = refl
    left_of false b h = cc

    convex : is_in_window c (Some t) (suc k) ≡ true → some_up_to (λ j. is_in_window c (Some t) j && stands j i) k ≡ true → is_in_window c (Some t) k ≡ true
    convex w s =
        let j : (j : ℕ) × (j ≤ k) × ((is_in_window c (Some t) j && stands j i) ≡ true) = some_means (λ j. is_in_window c (Some t) j && stands j i) k s in
        let a : (t + c.from ≤ j.0) × (j.0 ≤ t + c.to) = (decides_window c t j.0).0 (left_of (is_in_window c (Some t) j.0) (stands j.0 i) j.2) in
        let b : (t + c.from ≤ suc k) × (suc k ≤ t + c.to) = (decides_window c t (suc k)).0 w in
        (decides_window c t k).1 (omega arith, omega arith)

    by_case : (w' w e s : Bool) → (w' ≡ true → e ≡ true → w ≡ true) → (w' && (s || (w && e))) ≡ (w' && (e || (w' && s)))
    by_case false w e s h = refl
    by_case true w true s h = let y : w ≡ true = h refl refl in rw y (both s)
      where
        both : (s : Bool) → (s || true) ≡ true
        both true = refl
        both false = refl
    by_case true true false s h = or_false s
      where
        or_false : (s : Bool) → (s || false) ≡ s
        or_false true = refl
        or_false false = refl
    by_case true false false s h = or_false s
      where
        or_false : (s : Bool) → (s || false) ≡ s
        or_false true = refl
        or_false false = refl

pub hit_first : (stands : ℕ → ℕ → Bool) (c : CommonCause) (time : Option ℕ) (i : ℕ) → (is_in_window c time 0 && stands 0 i) ≡ is_hit stands c time i 0
hit_first stands c time i = twice (is_in_window c time 0) (stands 0 i)
  where
    twice : (w s : Bool) → (w && s) ≡ (w && (w && s))
    twice true s = refl
    twice false s = refl
