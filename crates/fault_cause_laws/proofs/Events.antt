-- The events of a staged trace are those of its caused trace.
use Rattle.std.proofs.Common.{◌≡◌, ℕ, zero, suc, ◌+◌, ◌-◌, ◌<◌, ◌≤◌, Bool, true, false, cond, ◌&&◌, ◌||◌, List, [], ◌∷◌, ◌++◌, length, Option, Some, None, refl, ap, ◌∙◌, sym, subst, arith, ◌⊎◌, inl, inr, eq-eqb}
use Rattle.std.specs.Prelude.{slice_get, nat_eq, IsTrue, ◌↔◌, codes}
use Rattle.smv_language.specs.Language.{Text, Value, symbol, opposite, same_text, FlatModel}
use Rattle.smv_flat_laws.specs.FlatTrace.{is_symbol_value, stands, stands_in_some}
use Rattle.smv_flat_laws.specs.History.{Mode}
use Rattle.sat_encoding_laws.specs.FlatTraces.{HasFailedNumber}
use Rattle.cut_right_laws.specs.Sets.{has_number}
use Rattle.fault_cause_laws.proofs.Columns.{EachFrom, each_from_more}
use Rattle.fault_cause_laws.specs.Causes.{CommonCause}
use Rattle.fault_cause_laws.specs.CausedEvents.{IsInWindow, IsFree, Occurs, AreCaused, BeginsFreely, HasHappened}
use Rattle.fault_cause_laws.specs.StagedModel.{quiet_name, now_name, none_name, self_name, with_each_cause, with_causes, age_numbers, own_events, cause_events, events_of}
use Rattle.fault_cause_laws.specs.StagedValues.{age_at, event_value, own_value, is_in_window, is_covered, begins, stands_at, causes_told, caused_told}
use Rattle.fault_cause_laws.specs.Laws.{AreStaged, StandsAt, IsCausedTrace}
use Rattle.fault_cause_laws.proofs.Ages.{decides_window, age_at_moment}
use Rattle.fault_cause_laws.proofs.Known.{Knows}
use Rattle.fault_cause_laws.proofs.EachCause.{WithAges, causes_known, causes_length}
use Rattle.fault_cause_laws.proofs.StagedTraces.{wanted, known_trace}
use Rattle.fault_cause_laws.proofs.Stood.{stood_from, stood_to}
use Rattle.fault_cause_laws.proofs.Readings.{ReadsAt, HaveSize, own_reads, owns_keep, CauseRead, cause_reads, own_event_at, own_events_count, cause_events_count, own_symbol, CauseSymbol, cause_symbol, owns_keep_symbol, owns_length}
use Rattle.std.proofs.lemmas.Bool.{and_from as and_both}
use Rattle.std.proofs.lemmas.Option.{same_Some as same_some, slice_get_within as within_of}
use Rattle.smv_flat_laws.proofs.Conditions.{same_text_same}
use Rattle.std.proofs.lemmas.Bool.{and_parts}
use Rattle.base_values.proofs.ListLaws.{get_left}
use Rattle.smv_language.proofs.ValueLaws.{same_after}

-- The symbols tell the test.
self_tells : (i : ℕ) (t : Bool) → same_text (cond t (self_name i) (none_name i)) (self_name i) ≡ t
self_tells i true = same_text_same (self_name i)
self_tells i false = refl

now_tells : (c : Text) (t : Bool) → same_text (cond t (now_name c) (quiet_name c)) (now_name c) ≡ t
now_tells c true = same_text_same (now_name c)
now_tells c false = same_after c (codes "#quiet") (codes "#now")

-- a variable that reads a symbol by a test, as a mode
module _ (staged : FlatModel) (f : Mode) (wanted_text other : Text) (test : ℕ → Bool) (of_model : slice_get staged.symbols f.symbol ≡ Some wanted_text)
    (tells : (t : Bool) → same_text (cond t wanted_text other) wanted_text ≡ t) where
  stands_by_test : (told : List (List Value)) → ReadsAt f.variable (λ k. symbol (cond (test k) wanted_text other)) told → EachFrom (λ k v. stands staged f v ≡ test k) 0 told
  stands_by_test told reads =
      each_from_more (λ k v. slice_get v f.variable ≡ Some (symbol (cond (test k) wanted_text other))) (λ k v. stands staged f v ≡ test k) 0 told
      (λ k v e. one (slice_get staged.symbols f.symbol) (slice_get v f.variable) (test k) of_model e) reads
    where
      one : (o : Option Text) (p : Option Value) (t : Bool) → o ≡ Some wanted_text → p ≡ Some (symbol (cond t wanted_text other)) → is_symbol_value o p ≡ t
      one o p t e g = rw (e, g) (tells t)

  pub stood_by_test : (told : List (List Value)) → ReadsAt f.variable (λ k. symbol (cond (test k) wanted_text other)) told →
      (stands_in_some staged f told ≡ true → (k : ℕ) × (k < length told) × (test k ≡ true)) × ((k : ℕ) → k < length told → test k ≡ true → stands_in_some staged f told ≡ true)
  stood_by_test told reads = (
    (λ h. let x : (j : ℕ) × (0 ≤ j) × (j < 0 + length told) × (test j ≡ true) = stood_from staged f test 0 told (stands_by_test told reads) h in (x.0, omega (arith, x.2), x.3)),
    (λ k l t. stood_to staged f test 0 told (stands_by_test told reads) k k (omega arith) l t),
  )

-- The test of an own event is that it begins freely.
not_true : (a : Bool) → opposite a ≡ true → a ≡ true → ⊥
not_true true h e = let bad : false ≡ true = h in cc
not_true false h e = cc

is_false : (a : Bool) → (a ≡ true → ⊥) → opposite a ≡ true
is_false true h = absurd (h refl)
is_false false h = refl

in_window : (c : CommonCause) (time : Option ℕ) (k : ℕ) → (is_in_window c time k ≡ true → IsInWindow c time k) × (IsInWindow c time k → is_in_window c time k ≡ true)
in_window c None k = ((λ e. let bad : false ≡ true = e in cc), (λ w. absurd w))
in_window c (Some t) k = decides_window c t k

module _ (st : ℕ → ℕ → Bool) (total : ℕ) (i k : ℕ) where
  to_free : (cs : List CommonCause) (times : List (Option ℕ)) → AreCaused total (λ k i. IsTrue (st k i)) cs times → (is_covered cs times i k ≡ true → ⊥) → IsFree cs times i k
  to_free [] [] a h = tt
  to_free [] (time ∷ times) a h = absurd a
  to_free (c ∷ cs) [] a h = absurd a
  to_free (c ∷ cs) (time ∷ times) a h = (
    (λ e w. h (or_first (has_number c.strikes i && is_in_window c time k) (is_covered cs times i k) (and_both (has_number c.strikes i) (is_in_window c time k) e ((in_window c time k).1 w)))),
    to_free cs times a.1 (λ e. h (or_second (has_number c.strikes i && is_in_window c time k) (is_covered cs times i k) e)),
  )
    where
      or_first : (a b : Bool) → a ≡ true → (a || b) ≡ true
      or_first a b e = rw e refl

      or_second : (a b : Bool) → b ≡ true → (a || b) ≡ true
      or_second true b e = refl
      or_second false b e = e

  from_free : (cs : List CommonCause) (times : List (Option ℕ)) → IsFree cs times i k → is_covered cs times i k ≡ true → ⊥
  from_free [] times f h = let bad : false ≡ true = h in cc
  from_free (c ∷ cs) [] f h = absurd f
  from_free (c ∷ cs) (time ∷ times) f h = by_or (has_number c.strikes i && is_in_window c time k) (is_covered cs times i k) h
      (λ e. f.0 (and_parts (has_number c.strikes i) (is_in_window c time k) e).0 ((in_window c time k).0 (and_parts (has_number c.strikes i) (is_in_window c time k) e).1)) (from_free cs times f.1)
    where
      by_or : (a b : Bool) → (a || b) ≡ true → (a ≡ true → ⊥) → (b ≡ true → ⊥) → ⊥
      by_or true b h f g = f refl
      by_or false b h f g = g h

begun_means : (st : ℕ → ℕ → Bool) (i k : ℕ) → begins st i k ≡ true → (st k i ≡ true) × ((j : ℕ) → suc j ≡ k → st j i ≡ true → ⊥)
begun_means st i zero h = (h, λ j e t. absurd (omega arith))
begun_means st i (suc k) h = (
  (and_parts (st (suc k) i) (opposite (st k i)) h).0,
  λ j e t. let same : j ≡ k = omega arith in not_true (st k i) (and_parts (st (suc k) i) (opposite (st k i)) h).1 (subst (λ x. st x i ≡ true) same t),
)

begun_comes : (st : ℕ → ℕ → Bool) (i k : ℕ) → st k i ≡ true → ((j : ℕ) → suc j ≡ k → st j i ≡ true → ⊥) → begins st i k ≡ true
begun_comes st i zero h g = h
begun_comes st i (suc k) h g = and_both (st (suc k) i) (opposite (st k i)) h (is_false (st k i) (g k refl))

-- a member of two lists together
split_get : {A : Type 0} (xs ys : List A) (i : ℕ) (x : A) → slice_get (xs ++ ys) i ≡ Some x → ((i < length xs) × (slice_get xs i ≡ Some x)) ⊎ ((length xs ≤ i) × (slice_get ys (i - length xs) ≡ Some x))
split_get [] ys i x e = inr (omega arith, ap (slice_get ys) (let g : i - 0 ≡ i = omega arith in g) ∙ e)
split_get (y ∷ xs) ys zero x e = inl (omega arith, e)
split_get (y ∷ xs) ys (suc i) x e = elim (split_get xs ys i x e) [ inl h ↦ inl (omega (arith, h.0), h.1) | inr h ↦ inr (omega (arith, h.0), ap (slice_get ys) (let g : suc i - suc (length xs) ≡ i - length xs = omega arith in g) ∙ h.1) ]

get_right : {A : Type 0} (xs ys : List A) (j i : ℕ) (x : A) → i ≡ length xs + j → slice_get ys j ≡ Some x → slice_get (xs ++ ys) i ≡ Some x
get_right [] ys j i x e h = let same : j ≡ i = omega arith in subst (λ n. slice_get ys n ≡ Some x) same h
get_right (y ∷ xs) ys j zero x e h = absurd (omega arith)
get_right (y ∷ xs) ys j (suc i) x e h = get_right xs ys j i x (omega arith) h

both_long : (total : ℕ) (Stands : ℕ → ℕ → Type 0) (cs : List CommonCause) (times : List (Option ℕ)) → AreCaused total Stands cs times → length times ≡ length cs
both_long total Stands [] [] a = refl
both_long total Stands [] (t ∷ times) a = absurd a
both_long total Stands (c ∷ cs) [] a = absurd a
both_long total Stands (c ∷ cs) (t ∷ times) a = ap suc (both_long total Stands cs times a.1)

occurs_at : (total : ℕ) (Stands : ℕ → ℕ → Type 0) (cs : List CommonCause) (times : List (Option ℕ)) (j t : ℕ) → AreCaused total Stands cs times → slice_get times j ≡ Some (Some t) → t < total
occurs_at total Stands [] times j t a e = none times a e
  where
    none : (times : List (Option ℕ)) → AreCaused total Stands [] times → slice_get times j ≡ Some (Some t) → t < total
    none [] a e = cc
    none (x ∷ times) a e = absurd a
occurs_at total Stands (c ∷ cs) [] j t a e = absurd a
occurs_at total Stands (c ∷ cs) (time ∷ times) zero t a e = let same : time ≡ Some t = same_some time (Some t) e in (subst (Occurs total Stands c) same a.0).0
occurs_at total Stands (c ∷ cs) (time ∷ times) (suc j) t a e = occurs_at total Stands cs times j t a.1 e

module _ (m : FlatModel) (fs : List Mode) (cs : List CommonCause) (are : AreStaged m fs cs) (trace : List (List Value)) (times : List (Option ℕ)) (is : IsCausedTrace m fs cs trace times) where
  abbrev st : ℕ → ℕ → Bool
  st = stands_at m fs trace

  abbrev staged : FlatModel
  staged = with_causes m fs cs

  abbrev causes : FlatModel
  causes = with_each_cause fs m cs

  abbrev part : List (List Value)
  part = causes_told st cs times trace

  abbrev told : List (List Value)
  told = caused_told m fs cs trace times

  length_is : length told ≡ length trace
  length_is = owns_length st cs times 1 fs part ∙ causes_length fs (wanted m fs are.modes) st (length trace) cs times are.causes trace

  trace_size : HaveSize (length m.variables) trace
  trace_size =
      each_from_more (Knows fs (wanted m fs are.modes) st (length trace) (λ k v. Unit {0}) (length m.variables)) (λ k v. length v ≡ length m.variables) 0 trace (λ k v h. h.sized)
      (known_trace m fs are.modes trace is.is_trace.moments)

  part_size : HaveSize (length causes.variables) part
  part_size =
      each_from_more (Knows fs (wanted m fs are.modes) st (length trace) (WithAges cs times (age_numbers (length m.variables) cs) (λ k v. Unit {0})) (length causes.variables)) (λ k v. length v ≡ length causes.variables) 0 part (λ k v h. h.sized)
      (causes_known fs (wanted m fs are.modes) st (length trace) cs times m (λ k v. Unit {0}) (λ k v b x. tt) are.causes trace is.caused (known_trace m fs are.modes trace is.is_trace.moments))

  abbrev own_mode : ℕ → Mode
  own_mode j = record { variable = length causes.variables + j; symbol = suc (length causes.symbols + (j + j)) }

  own_stood : (j : ℕ) → j < length fs → (stands_in_some staged (own_mode j) told ≡ true → (k : ℕ) × (k < length trace) × BeginsFreely (length trace) (StandsAt m fs trace) cs times (suc j) k)
      × ((k : ℕ) → BeginsFreely (length trace) (StandsAt m fs trace) cs times (suc j) k → stands_in_some staged (own_mode j) told ≡ true)
  own_stood j l =
      let n : 1 + j ≡ suc j = omega arith in
      let by : (stands_in_some staged (own_mode j) told ≡ true → (k : ℕ) × (k < length told) × ((begins st (suc j) k && opposite (is_covered cs times (suc j) k)) ≡ true))
      × ((k : ℕ) → k < length told → (begins st (suc j) k && opposite (is_covered cs times (suc j) k)) ≡ true → stands_in_some staged (own_mode j) told ≡ true) =
      stood_by_test staged (own_mode j) (self_name (suc j)) (none_name (suc j)) (λ k. begins st (suc j) k && opposite (is_covered cs times (suc j) k))
      (own_symbol fs cs (age_numbers (length m.variables) cs) fs 1 j causes l ∙ ap (λ x. Some (self_name x)) n) (self_tells (suc j)) told
      (subst (λ x. ReadsAt (length causes.variables + j) (own_value st cs times x) told) n (own_reads st cs times fs 1 (length causes.variables) j part l part_size)) in (
        (λ h.
            let x : (k : ℕ) × (k < length told) × ((begins st (suc j) k && opposite (is_covered cs times (suc j) k)) ≡ true) = by.0 h in
            let small : x.0 < length trace = subst (λ z. x.0 < z) length_is x.1 in
            let begun : (st x.0 (suc j) ≡ true) × ((i : ℕ) → suc i ≡ x.0 → st i (suc j) ≡ true → ⊥) = begun_means st (suc j) x.0 (and_parts (begins st (suc j) x.0) (opposite (is_covered cs times (suc j) x.0)) x.2).0 in (
              x.0,
              small,
              record {
                within = small;
                begins = begun.0;
                not_before = begun.1;
                free = to_free st (length trace) (suc j) x.0 cs times is.caused (not_true (is_covered cs times (suc j) x.0) (and_parts (begins st (suc j) x.0) (opposite (is_covered cs times (suc j) x.0)) x.2).1);
              },
            )),
        (λ k b. by.1 k (subst (λ z. k < z) (sym length_is) b.within)
            (and_both (begins st (suc j) k) (opposite (is_covered cs times (suc j) k)) (begun_comes st (suc j) k b.begins b.not_before) (is_false (is_covered cs times (suc j) k) (from_free st (length trace) (suc j) k cs times b.free)))),
      )

  -- the event of a cause
  cause_stood : (j : ℕ) (e : Mode) → slice_get (cause_events (length m.variables) (length m.symbols) cs) j ≡ Some e →
      (stands_in_some staged e told ≡ true → (t : ℕ) × (slice_get times j ≡ Some (Some t))) × ((t : ℕ) → slice_get times j ≡ Some (Some t) → stands_in_some staged e told ≡ true)
  cause_stood j e at =
      let l : j < length cs = subst (λ n. j < n) (cause_events_count cs (length m.variables) (length m.symbols)) (within_of (cause_events (length m.variables) (length m.symbols) cs) j e at) in
      let read : CauseRead st cs times j (length m.variables) (length m.symbols) part = cause_reads st (length trace) cs times j (length m.variables) (length m.symbols) trace l is.caused trace_size in
      let of : CauseSymbol fs (wanted m fs are.modes) cs j (length m.variables) (length m.symbols) m = cause_symbol fs (wanted m fs are.modes) cs j (length m.variables) (length m.symbols) m are.causes l refl in
      let variable_is : read.variable ≡ e.variable = ap (λ (x : Mode). x.variable) (same_some (record { variable = read.variable; symbol = read.symbol }) e (sym read.event ∙ at)) in
      let event_is : of.event ≡ e = same_some of.event e (sym of.has_event ∙ at) in
      let cause_is : of.cause ≡ read.cause = same_some of.cause read.cause (sym of.has_cause ∙ read.has_cause) in
      let symbol_is : slice_get staged.symbols e.symbol ≡ Some (now_name read.cause.name) =
      subst (λ (x : Mode). slice_get staged.symbols x.symbol ≡ Some (now_name read.cause.name)) event_is
      (owns_keep_symbol fs cs (age_numbers (length m.variables) cs) fs 1 causes of.event.symbol (now_name read.cause.name) (of.has_symbol ∙ ap (λ (x : CommonCause). Some (now_name x.name)) cause_is)) in
      let reads : ReadsAt e.variable (event_value read.cause read.time) told =
      subst (λ x. ReadsAt x (event_value read.cause read.time) told) variable_is (owns_keep st cs times 1 fs read.variable (event_value read.cause read.time) part read.reads) in
      let by : (stands_in_some staged e told ≡ true → (k : ℕ) × (k < length told) × (nat_eq (age_at read.cause read.time k) 1 ≡ true))
      × ((k : ℕ) → k < length told → nat_eq (age_at read.cause read.time k) 1 ≡ true → stands_in_some staged e told ≡ true) =
      stood_by_test staged e (now_name read.cause.name) (quiet_name read.cause.name) (λ k. nat_eq (age_at read.cause read.time k) 1) symbol_is (now_tells read.cause.name) told reads in (
        (λ h. let x : (k : ℕ) × (k < length told) × (nat_eq (age_at read.cause read.time k) 1 ≡ true) = by.0 h in to_time read.cause read.time x.0 x.2 read.has_time),
        (λ t e. by.1 t (subst (λ z. t < z) (sym length_is) (occurs_at (length trace) (StandsAt m fs trace) cs times j t is.caused e)) (from_time read.cause read.time t (same_some read.time (Some t) (sym read.has_time ∙ e)))),
      )
    where
      to_time : (c : CommonCause) (time : Option ℕ) (k : ℕ) → nat_eq (age_at c time k) 1 ≡ true → slice_get times j ≡ Some time → (t : ℕ) × (slice_get times j ≡ Some (Some t))
      to_time c None k h e = let bad : false ≡ true = h in cc
      to_time c (Some t) k h e = (t, e)

      from_time : (c : CommonCause) (time : Option ℕ) (t : ℕ) → time ≡ Some t → nat_eq (age_at c time t) 1 ≡ true
      from_time c time t e = rw e (eq-eqb _ _ ((age_at_moment c t t).1 refl))

  to_happened : (i : ℕ) → HasFailedNumber staged (events_of m fs cs) told i → HasHappened (length trace) (StandsAt m fs trace) (length fs) cs times i
  to_happened i h =
      elim (split_get (own_events (length causes.variables) (length causes.symbols) fs) (cause_events (length m.variables) (length m.symbols) cs) (i - 1) h.0 h.2) [
        | inl x ↦ own_one (subst (λ n. i - 1 < n) (own_events_count fs (length causes.variables) (length causes.symbols)) x.0) x.1
        | inr x ↦ cause_one (subst (λ n. n ≤ i - 1) (own_events_count fs (length causes.variables) (length causes.symbols)) x.0)
            (subst (λ n. slice_get (cause_events (length m.variables) (length m.symbols) cs) (i - 1 - n) ≡ Some h.0) (own_events_count fs (length causes.variables) (length causes.symbols)) x.1)
      ]
    where
      own_one : i - 1 < length fs → slice_get (own_events (length causes.variables) (length causes.symbols) fs) (i - 1) ≡ Some h.0 → HasHappened (length trace) (StandsAt m fs trace) (length fs) cs times i
      own_one l e =
          let same : h.0 ≡ own_mode (i - 1) = same_some h.0 (own_mode (i - 1)) (sym e ∙ own_event_at fs (length causes.variables) (length causes.symbols) (i - 1) l) in
          let back : suc (i - 1) ≡ i = omega (arith, h.1) in
          let x : (k : ℕ) × (k < length trace) × BeginsFreely (length trace) (StandsAt m fs trace) cs times (suc (i - 1)) k = (own_stood (i - 1) l).0 (subst (λ (f : Mode). stands_in_some staged f told ≡ true) same h.3) in
          inl (h.1, omega (arith, l, h.1), (x.0, subst (λ n. BeginsFreely (length trace) (StandsAt m fs trace) cs times n x.0) back x.2))

      cause_one : length fs ≤ i - 1 → slice_get (cause_events (length m.variables) (length m.symbols) cs) (i - 1 - length fs) ≡ Some h.0 → HasHappened (length trace) (StandsAt m fs trace) (length fs) cs times i
      cause_one l e =
          let x : (t : ℕ) × (slice_get times (i - 1 - length fs) ≡ Some (Some t)) = (cause_stood (i - 1 - length fs) h.0 e).0 h.3 in
          let same : i - 1 - length fs ≡ i - length fs - 1 = omega arith in
          inr (omega (arith, l, h.1), (x.0, subst (λ n. slice_get times n ≡ Some (Some x.0)) same x.1))

  from_happened : (i : ℕ) → HasHappened (length trace) (StandsAt m fs trace) (length fs) cs times i → HasFailedNumber staged (events_of m fs cs) told i
  from_happened i (inl h) =
      let l : i - 1 < length fs = omega (arith, h.0, h.1) in
      let back : i ≡ suc (i - 1) = omega (arith, h.0) in (
        own_mode (i - 1),
        h.0,
        get_left (own_events (length causes.variables) (length causes.symbols) fs) (cause_events (length m.variables) (length m.symbols) cs) (i - 1) (own_mode (i - 1)) (own_event_at fs (length causes.variables) (length causes.symbols) (i - 1) l),
        (own_stood (i - 1) l).1 h.2.0 (subst (λ n. BeginsFreely (length trace) (StandsAt m fs trace) cs times n h.2.0) back h.2.1),
      )
  from_happened i (inr h) =
      let j : ℕ = i - length fs - 1 in
      let l : j < length cs = subst (λ n. j < n) (both_long (length trace) (StandsAt m fs trace) cs times is.caused) (within_of times j (Some h.1.0) h.1.1) in
      let of : CauseSymbol fs (wanted m fs are.modes) cs j (length m.variables) (length m.symbols) m = cause_symbol fs (wanted m fs are.modes) cs j (length m.variables) (length m.symbols) m are.causes l refl in (
        of.event,
        omega (arith, h.0),
        get_right (own_events (length causes.variables) (length causes.symbols) fs) (cause_events (length m.variables) (length m.symbols) cs) j (i - 1) of.event
            (place (own_events_count fs (length causes.variables) (length causes.symbols)) h.0) of.has_event,
        (cause_stood j of.event of.has_event).1 h.1.0 h.1.1,
      )
    where
      place : {n : ℕ} → n ≡ length fs → length fs < i → i - 1 ≡ n + (i - length fs - 1)
      place e l = omega (arith, e, l)

  pub events_same : (i : ℕ) → (HasFailedNumber staged (events_of m fs cs) told i ↔ HasHappened (length trace) (StandsAt m fs trace) (length fs) cs times i)
  events_same i = (to_happened i, from_happened i)
