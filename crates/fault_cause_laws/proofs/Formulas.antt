-- What the expressions of the staged model give over known values.
use Rattle.std.proofs.Common.{◌≡◌, ℕ, suc, ◌+◌, ◌≤◌, Bool, true, false, cond, ◌&&◌, ◌||◌, List, [], ◌∷◌, ◌++◌, length, Option, Some, refl, ap, ◌∙◌, sym, subst}
use Rattle.std.specs.Prelude.{pos, slice_get, IsTrue}
use Rattle.smv_language.specs.declared.expr.Op.TheVariants as op
use Rattle.smv_language.specs.Language.{Tree, binary, Text, Value, symbol, Values, one, either, no_value, at_most, has, same_text, Leaves, evaluate, gives_applied, FlatLeaf, flat_variable, flat_symbol}
use Rattle.smv_language.specs.Values.{truth, number}
use Rattle.smv_flat_laws.specs.History.{Mode}
use Rattle.cut_right_laws.specs.Sets.{has_number}
use Rattle.smv_flat_laws.proofs.Conditions.{MayBe, may_one}
use Rattle.fault_cause_laws.proofs.AddedReadings.{gives_and}
use Rattle.fault_cause_laws.specs.Causes.{CommonCause}
use Rattle.fault_cause_laws.specs.StagedModel.{in_window, stands_of, mode_of, windows_on, joined_after, joined}
use Rattle.fault_cause_laws.specs.StagedValues.{age_at, age_value, is_in_window, is_covered}
use Rattle.fault_cause_laws.proofs.Ages.{window_by_age}
use Rattle.smv_flat_laws.proofs.HistoryTraces.{applied_or as gives_or}
use Rattle.smv_language.proofs.BoolLaws.{or_false, or_assoc}

-- a window gives whether the moment lies in it
pub window_gives : (f g : Leaves FlatLeaf) (c : CommonCause) → c.from ≤ c.to → (age : ℕ) (time : Option ℕ) (k : ℕ) → f (flat_variable age) ≡ Some (one (age_value c time k)) →
    evaluate f g (in_window c age) ≡ Some (one (truth (is_in_window c time k)))
window_gives f g c small age time k e =
    gives_and (gives_applied op.AtLeast (f (flat_variable age)) (Some (one (number (pos (c.from + 1)))))) (gives_applied op.AtMost (f (flat_variable age)) (Some (one (number (pos (c.to + 1))))))
    (at_most (pos (c.from + 1)) (pos (age_at c time k))) (at_most (pos (age_at c time k)) (pos (c.to + 1)))
    (ap (λ o. gives_applied op.AtLeast o (Some (one (number (pos (c.from + 1)))))) e) (ap (λ o. gives_applied op.AtMost o (Some (one (number (pos (c.to + 1)))))) e)
    ∙ ap (λ b. Some (one (truth b))) (window_by_age c small time k)

-- a mode's expression gives whether it stands
pub stands_gives : (f g : Leaves FlatLeaf) (fs : List Mode) (i : ℕ) (text wanted : Text) → f (flat_variable (mode_of fs i).variable) ≡ Some (one (symbol text)) →
    f (flat_symbol (mode_of fs i).symbol) ≡ Some (one (symbol wanted)) → evaluate f g (stands_of fs i) ≡ Some (one (truth (same_text text wanted)))
stands_gives f g fs i text wanted e h = rw (e, h) refl

-- the causes' windows that strike a fault, where their ages are known
abbrev pub AgesRead : (ℕ → Option Values) → List CommonCause → List (Option ℕ) → List ℕ → ℕ → Type 0
AgesRead read [] times ages k = Unit {0}
AgesRead read (c ∷ cs) [] ages k = ⊥
AgesRead read (c ∷ cs) (time ∷ times) [] k = ⊥
AgesRead read (c ∷ cs) (time ∷ times) (age ∷ ages) k = (c.from ≤ c.to) × (read age ≡ Some (one (age_value c time k))) × AgesRead read cs times ages k

joined_gives : (f g : Leaves FlatLeaf) (i : ℕ) (cs : List CommonCause) (times : List (Option ℕ)) (ages : List ℕ) (k : ℕ) → AgesRead (λ n. f (flat_variable n)) cs times ages k →
    (e : Tree FlatLeaf) (b : Bool) → evaluate f g e ≡ Some (one (truth b)) → evaluate f g (joined_after e (windows_on i cs ages)) ≡ Some (one (truth (b || is_covered cs times i k)))
joined_gives f g i [] times ages k r e b is = is ∙ ap (λ x. Some (one (truth x))) (sym (or_false b))
joined_gives f g i (c ∷ cs) [] ages k r e b is = absurd r
joined_gives f g i (c ∷ cs) (time ∷ times) [] k r e b is = absurd r
joined_gives f g i (c ∷ cs) (time ∷ times) (age ∷ ages) k r e b is =
    by_strike (has_number c.strikes i) (joined_gives f g i cs times ages k r.2)
  where
    by_strike : (s : Bool) → ((e : Tree FlatLeaf) (b : Bool) → evaluate f g e ≡ Some (one (truth b)) → evaluate f g (joined_after e (windows_on i cs ages)) ≡ Some (one (truth (b || is_covered cs times i k)))) →
        evaluate f g (joined_after e (cond s (in_window c age ∷ windows_on i cs ages) (windows_on i cs ages))) ≡ Some (one (truth (b || ((s && is_in_window c time k) || is_covered cs times i k))))
    by_strike false more = more e b is
    by_strike true more =
        more (binary op.Or e (in_window c age)) (b || is_in_window c time k)
        (gives_or (evaluate f g e) (evaluate f g (in_window c age)) b (is_in_window c time k) is (window_gives f g c r.0 age time k r.1))
        ∙ ap (λ x. Some (one (truth x))) (or_assoc b (is_in_window c time k) (is_covered cs times i k))

-- an expression of windows gives whether the fault is covered
pub covered_gives : (f g : Leaves FlatLeaf) (i : ℕ) (cs : List CommonCause) (times : List (Option ℕ)) (ages : List ℕ) (k : ℕ) → AgesRead (λ n. f (flat_variable n)) cs times ages k →
    evaluate f g (joined (windows_on i cs ages)) ≡ Some (one (truth (is_covered cs times i k)))
covered_gives f g i [] times ages k r = refl
covered_gives f g i (c ∷ cs) [] ages k r = absurd r
covered_gives f g i (c ∷ cs) (time ∷ times) [] k r = absurd r
covered_gives f g i (c ∷ cs) (time ∷ times) (age ∷ ages) k r =
    by_strike (has_number c.strikes i) (covered_gives f g i cs times ages k r.2)
  where
    by_strike : (s : Bool) → evaluate f g (joined (windows_on i cs ages)) ≡ Some (one (truth (is_covered cs times i k))) → evaluate f g (joined (cond s (in_window c age ∷ windows_on i cs ages) (windows_on i cs ages))) ≡ Some (one (truth ((s && is_in_window c time k) || is_covered cs times i k)))
    by_strike false more = more
    by_strike true more = joined_gives f g i cs times ages k r.2 (in_window c age) (is_in_window c time k) (window_gives f g c r.0 age time k r.1)

-- a set of one value has that value alone
pub only_one : (x : Value) (b : Value) → MayBe (Some (either (one x) no_value)) b → b ≡ x
only_one x b h = (may_one x b).0 (one x, refl, without x b (subst (λ vs. IsTrue (has vs b)) (sym (inner (either (one x) no_value) h.0 h.1)) h.2))
  where
    inner : (x y : Values) → Some x ≡ Some y → x ≡ y
    inner x y e = cc

    without : (x b : Value) → IsTrue (has (one x) b || false) → IsTrue (has (one x) b)
    without x b h = drop_false (has (one x) b) h
      where
        drop_false : (a : Bool) → IsTrue (a || false) → IsTrue a
        drop_false true h = refl
        drop_false false h = h

pub with_only : (x : Value) → MayBe (Some (either (one x) no_value)) x
with_only x = let one_is : MayBe (Some (one x)) x = (may_one x x).1 refl in (either (one x) no_value, refl, or_left (has (one x) x) (subst (λ vs. IsTrue (has vs x)) (inner one_is.0 (one x) (sym one_is.1)) one_is.2))
  where
    inner : (x y : Values) → Some x ≡ Some y → x ≡ y
    inner x y e = cc

    or_left : (a : Bool) → IsTrue a → IsTrue (a || false)
    or_left true h = refl
    or_left false h = h

-- the two symbols after others
pub get_two : {A : Type 0} (xs : List A) (a b : A) → (slice_get (xs ++ a ∷ b ∷ []) (length xs) ≡ Some a) × (slice_get (xs ++ a ∷ b ∷ []) (suc (length xs)) ≡ Some b)
get_two [] a b = (refl, refl)
get_two (x ∷ xs) a b = get_two xs a b
