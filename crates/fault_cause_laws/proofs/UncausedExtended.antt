-- Where no cause has a moment, the caused traces are the extended traces, and their events the faults that have failed.
use Rattle.std.proofs.Common.{◌≡◌, ◌⊎◌, inl, inr, ℕ, zero, suc, ◌-◌, ◌<◌, ◌≤◌, Bool, true, false, List, [], ◌∷◌, length, map, Some, None, refl, sym, ◌∙◌, ap, subst, arith}
use Rattle.std.specs.Prelude.{slice_get}
use Rattle.std.proofs.lemmas.Option.{same_Some as same_some, slice_get_within as within_of}
use Rattle.smv_language.specs.Language.{Text, AtSome}
use Rattle.smv_language.proofs.ValueLaws.{same_text_equal}
use Rattle.smv_flat_laws.proofs.Conditions.{same_text_same}
use Rattle.fault_instructions.specs.AddedNames.{ModeState}
use Rattle.fault_weave.specs.ExtensionTraces.{Moment}
use Rattle.fault_weave.specs.Faults.{Fault}
use Rattle.cert_laws.specs.ExtendedTraces.{HasFailedFault}
use Rattle.fault_cause_laws.specs.Causes.{CommonCause}
use Rattle.fault_cause_laws.specs.CausedEvents.{BeginsFreely, HasHappened}
use Rattle.fault_cause_laws.specs.CausedTraces.{FaultStandsAt}
use Rattle.fault_cause_laws.specs.CausesExtendedLaws.{UncausedAreExtended}
use Rattle.fault_cause_laws.proofs.Stood.{no_times, none_occur, all_free}
use Rattle.smv_language.proofs.EachLaws.{some_at}
use Rattle.fault_instructions.specs.EffectLaw.{stands_at}

is_mode_so : (s : ModeState) (x : Text) → stands_at s x ≡ true → s ≡ Some x
is_mode_so None x e = cc
is_mode_so (Some y) x e = ap Some (same_text_equal y x e)

so_is_mode : (s : ModeState) (x : Text) → s ≡ Some x → stands_at s x ≡ true
so_is_mode s x e = ap (λ t. stands_at t x) e ∙ same_text_same x

-- the first moment that passes a test
record IsFirst (test : Moment → Bool) (trace : List Moment) : Type 0 where
  number : ℕ
  moment : Moment
  there : slice_get trace number ≡ Some moment
  passes : test moment ≡ true
  before : (j : ℕ) (other : Moment) → j < number → slice_get trace j ≡ Some other → test other ≡ true → ⊥

first_of : (test : Moment → Bool) (trace : List Moment) → AtSome (λ mo. test mo ≡ true) trace → IsFirst test trace
first_of test [] h = absurd h
first_of test (mo ∷ trace) h = by_test (test mo) refl h (first_of test trace)
  where
    not_both : (b : Bool) → b ≡ true → b ≡ false → ⊥
    not_both b t e = cc

    by_test : (b : Bool) → test mo ≡ b → (test mo ≡ true) ⊎ AtSome (λ mo. test mo ≡ true) trace → (AtSome (λ mo. test mo ≡ true) trace → IsFirst test trace) → IsFirst test (mo ∷ trace)
    by_test true e h go = record { number = 0; moment = mo; there = refl; passes = e; before = λ j other l at t. absurd (omega arith) }
    by_test false e (inl t) go = absurd (not_both (test mo) t e)
    by_test false e (inr more) go = later (go more)
      where
        later : IsFirst test trace → IsFirst test (mo ∷ trace)
        later x = record { number = suc x.number; moment = x.moment; there = x.there; passes = x.passes; before = earlier }
          where
            earlier : (j : ℕ) (other : Moment) → j < suc x.number → slice_get (mo ∷ trace) j ≡ Some other → test other ≡ true → ⊥
            earlier zero other l at t = let same : mo ≡ other = same_some mo other at in not_both (test other) t (subst (λ m. test m ≡ false) same e)
            earlier (suc j) other l at t = x.before j other (omega (arith, l)) at t

module _ (faults : List Fault) (cs : List CommonCause) (trace : List Moment) where
  abbrev Happened : ℕ → Type 0
  Happened n = HasHappened (length trace) (FaultStandsAt faults trace) (length faults) cs (map (λ c. None) cs) n

  to_failed : (n : ℕ) → Happened n → HasFailedFault faults trace n
  to_failed n (inl h) =
      let begun : BeginsFreely (length trace) (FaultStandsAt faults trace) cs (map (λ c. None) cs) n h.2.0 = h.2.1 in
      let stands : FaultStandsAt faults trace h.2.0 n = begun.begins in
      (stands.0, stands.1, stands.2, some_at (λ (mo : Moment). mo.mode stands.0.place stands.0.slice ≡ Some stands.0.mode) trace h.2.0 stands.3.0 stands.3.1 stands.3.2)
  to_failed n (inr h) = absurd (no_times cs (n - length faults - 1) h.1.0 h.1.1)

  from_failed : (n : ℕ) → HasFailedFault faults trace n → Happened n
  from_failed n h =
      let f : Fault = h.0 in
      let first : IsFirst (λ (mo : Moment). stands_at (mo.mode f.place f.slice) f.mode) trace =
      first_of (λ (mo : Moment). stands_at (mo.mode f.place f.slice) f.mode) trace
      (some_more (λ (mo : Moment). mo.mode f.place f.slice ≡ Some f.mode) (λ (mo : Moment). stands_at (mo.mode f.place f.slice) f.mode ≡ true) trace (λ mo e. so_is_mode (mo.mode f.place f.slice) f.mode e) h.3) in
      inl (
        h.1,
        within_number n (length faults) (within_of faults (n - 1) f h.2),
        (
          first.number,
          record {
            within = within_of trace first.number first.moment first.there;
            begins = (f, h.1, h.2, (first.moment, first.there, is_mode_so (first.moment.mode f.place f.slice) f.mode first.passes));
            not_before = λ j e s.
                first.before j s.3.0 (omega (arith, e)) s.3.1
                (so_is_mode (s.3.0.mode f.place f.slice) f.mode (subst (λ (g : Fault). s.3.0.mode g.place g.slice ≡ Some g.mode) (same_some s.0 f (sym s.2 ∙ h.2)) s.3.2));
            free = all_free n first.number cs;
          },
        ),
      )
    where
      within_number : (n k : ℕ) → n - 1 < k → n ≤ k
      within_number n k l = omega arith

      some_more : {A : Type 0} (P Q : A → Type 0) (xs : List A) → ((x : A) → P x → Q x) → AtSome P xs → AtSome Q xs
      some_more P Q [] f h = absurd h
      some_more P Q (x ∷ xs) f (inl h) = inl (f x h)
      some_more P Q (x ∷ xs) f (inr h) = inr (some_more P Q xs f h)

pub uncaused_extended : UncausedAreExtended
uncaused_extended p i faults cs trace = (
  ((λ h. h.is_trace), (λ h. record { is_trace = h; caused = none_occur (length trace) (FaultStandsAt faults trace) cs })),
  (λ n. (to_failed faults cs trace n, from_failed faults cs trace n)),
)
