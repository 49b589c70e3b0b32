-- Caused traces and events depend on where faults stand alone.
use Rattle.std.proofs.Common.{ℕ, ◌<◌, ◌≤◌, List, [], ◌∷◌, Option, Some, None, inl, inr}
use Rattle.std.specs.Prelude.{◌↔◌}
use Rattle.smv_language.specs.Trace.{Each}
use Rattle.fault_cause_laws.specs.Causes.{CommonCause, IsCauseOf}
use Rattle.fault_cause_laws.specs.CausedEvents.{IsStruck, Occurs, AreCaused, BeginsFreely, HasHappened}

-- they stand alike, each fault by its number
abbrev pub AreAlike : ℕ → (ℕ → ℕ → Type 0) → (ℕ → ℕ → Type 0) → Type 0
AreAlike faults S Q = (k i : ℕ) → 0 < i → i ≤ faults → (S k i ↔ Q k i)

module _ (faults total : ℕ) (S Q : ℕ → ℕ → Type 0) (alike : (k i : ℕ) → 0 < i → i ≤ faults → S k i → Q k i) where
  struck : (c : CommonCause) (t : ℕ) (is : List ℕ) → Each (λ i. (0 < i) × (i ≤ faults)) is → Each (IsStruck total S c t) is → Each (IsStruck total Q c t) is
  struck c t [] n h = tt
  struck c t (i ∷ is) n h = ((h.0.0, h.0.1, alike h.0.0 i n.0.0 n.0.1 h.0.2), struck c t is n.1 h.1)

  occurs : (c : CommonCause) (time : Option ℕ) → IsCauseOf faults c → Occurs total S c time → Occurs total Q c time
  occurs c None is h = tt
  occurs c (Some t) is h = (h.0, λ l. struck c t c.strikes is.numbers (h.1 l))

  pub caused_alike : (cs : List CommonCause) (times : List (Option ℕ)) → Each (IsCauseOf faults) cs → AreCaused total S cs times → AreCaused total Q cs times
  caused_alike [] [] are h = tt
  caused_alike [] (t ∷ times) are h = absurd h
  caused_alike (c ∷ cs) [] are h = absurd h
  caused_alike (c ∷ cs) (t ∷ times) are h = (occurs c t are.0 h.0, caused_alike cs times are.1 h.1)

pub happened_alike : (faults total : ℕ) (S Q : ℕ → ℕ → Type 0) → AreAlike faults S Q → (cs : List CommonCause) (times : List (Option ℕ)) (i : ℕ) → HasHappened total S faults cs times i → HasHappened total Q faults cs times i
happened_alike faults total S Q alike cs times i (inl h) =
    let b : BeginsFreely total S cs times i h.2.0 = h.2.1 in
    inl (
      h.0,
      h.1,
      (
        h.2.0,
        record {
          within = b.within;
          begins = (alike h.2.0 i h.0 h.1).0 b.begins;
          not_before = λ j e q. b.not_before j e ((alike j i h.0 h.1).1 q);
          free = b.free;
        },
      ),
    )
happened_alike faults total S Q alike cs times i (inr h) = inr h
