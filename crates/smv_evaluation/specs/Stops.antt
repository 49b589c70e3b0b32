-- Where and why moments are no trace of a flat model that reaches a top event.
use Rattle.std.specs.Prelude.{◌≡◌, ℕ, suc, ◌-◌, List, [], ◌∷◌, ◌++◌, length}
use Rattle.smv_language.specs.Language.{Tree, Value, FlatLeaf, FlatModel}
use Rattle.smv_flat_laws.specs.FlatTrace.{IsFlatMoment, IsFlatStep, IsFlatTrace}
use Rattle.sat_encoding_laws.specs.Encodings.{IsFlatFirst}
use Rattle.sat_encoding_laws.specs.FlatTraces.{ReachesTop}

-- the first moment, a step to a moment, or the top event at the last
pub data Why : Type 0 where
  at_first : Why
  at_step : Why
  at_top : Why

-- what a first moment must meet
pub record IsFirstMoment (m : FlatModel) (v : List Value) : Type 0 where
  pub moment : IsFlatMoment m v
  pub first : IsFlatFirst m v

-- what a moment must meet that comes after another
pub record IsNextMoment (m : FlatModel) (v w : List Value) : Type 0 where
  pub moment : IsFlatMoment m w
  pub step : IsFlatStep m v w

-- The moment of a number, from 0, is the first that stops the moments from being a trace that reaches the event.
pub data Stops (m : FlatModel) (top : Tree FlatLeaf) (trace : List (List Value)) : ℕ → Why → Type 0 where
  bad_first : (v : List Value) (more : List (List Value)) → trace ≡ v ∷ more → (IsFirstMoment m v → ⊥) → Stops m top trace 0 at_first
  bad_step : (before : List (List Value)) (v w : List Value) (after : List (List Value)) → trace ≡ before ++ v ∷ w ∷ after →
      IsFlatTrace m (before ++ v ∷ []) →
      (IsNextMoment m v w → ⊥) → Stops m top trace (suc (length before)) at_step
  no_top : IsFlatTrace m trace → (ReachesTop m top trace → ⊥) → Stops m top trace (length trace - 1) at_top
