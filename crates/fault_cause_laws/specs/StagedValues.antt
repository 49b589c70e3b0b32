-- What the variables of the staged model tell of a trace with the moments of its causes.
use Rattle.std.specs.Prelude.{ℕ, zero, suc, ◌+◌, ◌-◌, min, nat_eq, nat_lt, nat_le, Bool, false, ◌&&◌, ◌||◌, pos, List, [], ◌∷◌, Option}
use Rattle.std.specs.Prelude.{Some, None, slice_get, if◌then◌else◌}
use Rattle.smv_language.specs.Values.{Value, truth, number, symbol, opposite}
use Rattle.smv_language.specs.Flat.{FlatModel}
use Rattle.smv_flat_laws.specs.History.{Mode}
use Rattle.smv_flat_laws.specs.FlatTrace.{stands}
use Rattle.fault_cause_laws.specs.Columns.{with_value}
use Rattle.cut_right_laws.specs.Sets.{has_number}
use Rattle.fault_cause_laws.specs.Causes.{CommonCause}
use Rattle.fault_cause_laws.specs.StagedModel.{mode_of, quiet_name, now_name, none_name, self_name}

-- the mode stands in the valuation, where there is one
abbrev pub stands_there : FlatModel → Mode → Option (List Value) → Bool
stands_there m f None = false
stands_there m f (Some v) = stands m f v

-- the mode of the fault of a number stands at the moment of a number, counted from 0
abbrev pub stands_at : FlatModel → List Mode → List (List Value) → ℕ → ℕ → Bool
stands_at m fs trace k i = stands_there m (mode_of fs i) (slice_get trace k)

-- the age of a cause at a moment
abbrev pub age_at : CommonCause → Option ℕ → ℕ → ℕ
age_at c None k = 0
age_at c (Some t) k = if nat_lt k t then 0 else min (k - t + 1) (c.to + 2)

-- the moment lies in its window
abbrev pub is_in_window : CommonCause → Option ℕ → ℕ → Bool
is_in_window c None k = false
is_in_window c (Some t) k = nat_le (t + c.from) k && nat_le k (t + c.to)

-- the test passes at some moment up to this one
abbrev pub some_up_to : (ℕ → Bool) → ℕ → Bool
some_up_to test zero = test 0
some_up_to test (suc k) = some_up_to test k || test (suc k)

-- the moment lies in the window, and the fault has stood in the window up to it
abbrev pub is_hit : (ℕ → ℕ → Bool) → CommonCause → Option ℕ → ℕ → ℕ → Bool
is_hit stands c time i k = is_in_window c time k && some_up_to (λ j. is_in_window c time j && stands j i) k

-- some cause that strikes the fault has its window at the moment
abbrev pub is_covered : List CommonCause → List (Option ℕ) → ℕ → ℕ → Bool
is_covered (c ∷ cs) (time ∷ times) i k = (has_number c.strikes i && is_in_window c time k) || is_covered cs times i k
is_covered _ _ i k = false

-- the fault begins to stand at the moment
abbrev pub begins : (ℕ → ℕ → Bool) → ℕ → ℕ → Bool
begins stands i zero = stands 0 i
begins stands i (suc k) = stands (suc k) i && opposite (stands k i)

-- the value of a cause's age at a moment
abbrev pub age_value : CommonCause → Option ℕ → ℕ → Value
age_value c time k = number (pos (age_at c time k))

-- the value of a cause's event at a moment
abbrev pub event_value : CommonCause → Option ℕ → ℕ → Value
event_value c time k = symbol (if nat_eq (age_at c time k) 1 then now_name c.name else quiet_name c.name)

-- the value of a cause's hit at a moment
abbrev pub hit_value : (ℕ → ℕ → Bool) → CommonCause → Option ℕ → ℕ → ℕ → Value
hit_value stands c time i k = truth (is_hit stands c time i k)

-- the value of a fault's own event at a moment
abbrev pub own_value : (ℕ → ℕ → Bool) → List CommonCause → List (Option ℕ) → ℕ → ℕ → Value
own_value stands cs times i k = symbol (if begins stands i k && opposite (is_covered cs times i k) then self_name i else none_name i)

-- the values of a cause's variables after those of a trace
abbrev pub hits_told : (ℕ → ℕ → Bool) → CommonCause → Option ℕ → List ℕ → List (List Value) → List (List Value)
hits_told stands c time [] trace = trace
hits_told stands c time (i ∷ is) trace = hits_told stands c time is (with_value (hit_value stands c time i) trace)

-- a trace with the values of a cause's variables
abbrev pub cause_told : (ℕ → ℕ → Bool) → CommonCause → Option ℕ → List (List Value) → List (List Value)
cause_told stands c time trace = hits_told stands c time c.strikes (with_value (event_value c time) (with_value (age_value c time) trace))

-- a trace with the values of all causes' variables
abbrev pub causes_told : (ℕ → ℕ → Bool) → List CommonCause → List (Option ℕ) → List (List Value) → List (List Value)
causes_told stands (c ∷ cs) (time ∷ times) trace = causes_told stands cs times (cause_told stands c time trace)
causes_told stands _ _ trace = trace

-- and those of the events of faults, whose numbers go on from one
abbrev pub owns_told : (ℕ → ℕ → Bool) → List CommonCause → List (Option ℕ) → ℕ → List Mode → List (List Value) → List (List Value)
owns_told stands cs times i [] trace = trace
owns_told stands cs times i (f ∷ more) trace = owns_told stands cs times (suc i) more (with_value (own_value stands cs times i) trace)

-- a trace of the model with the moments of its causes, as valuations of the staged model
abbrev pub caused_told : FlatModel → List Mode → List CommonCause → List (List Value) → List (Option ℕ) → List (List Value)
caused_told m fs cs trace times = owns_told (stands_at m fs trace) cs times 1 fs (causes_told (stands_at m fs trace) cs times trace)
