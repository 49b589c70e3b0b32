-- When a trace of a flat model reaches a top event, and which faults it has failed.
use Rattle.std.specs.Prelude.{◌≡◌, ℕ, suc, ◌-◌, ◌<◌, ◌≤◌, ◌+◌, Bool, true, List, [], ◌∷◌, Some, IsTrue, length, slice_get, if◌then◌else◌}
use Rattle.smv_language.specs.Language.{Tree, Value, Each, AtLast, FlatLeaf, FlatModel, FlatMay}
use Rattle.smv_language.specs.Values.{truth}
use Rattle.std.specs.List.{range_with_len}
use Rattle.smv_flat_laws.specs.History.{Mode}
use Rattle.smv_flat_laws.specs.FlatTrace.{IsFlatTrace, stands_in_some, IsOwnName}
use Rattle.smv_flat_laws.specs.NameResolution.{leaves_in}
use Rattle.cut_right_laws.specs.Right.{IsRight}
use Rattle.sat_encoding_laws.specs.Encodings.{is_true_at}

-- the top event may be TRUE at the last valuation
abbrev pub ReachesTop : FlatModel → Tree FlatLeaf → List (List Value) → Type 0
ReachesTop m top trace = AtLast (λ v. FlatMay m v v top (truth true)) trace

-- the mode of the fault of a number, from one on, stands in some valuation
abbrev pub HasFailedNumber : FlatModel → List Mode → List (List Value) → ℕ → Type 0
HasFailedNumber m fs trace i = (f : Mode) × (0 < i) × (slice_get fs (i - 1) ≡ Some f) × IsTrue (stands_in_some m f trace)

-- the numbers, from one on, of the members that pass the test
abbrev pub numbers_where : {A : Type 0} → (A → Bool) → ℕ → List A → List ℕ
numbers_where test n [] = []
numbers_where test n (x ∷ xs) = if test x then n ∷ numbers_where test (suc n) xs else numbers_where test (suc n) xs

-- the faults that the trace has failed
abbrev pub failed_set : FlatModel → List Mode → List (List Value) → List ℕ
failed_set m fs trace = numbers_where (λ f. stands_in_some m f trace) 1 fs

-- the flat traces of at most k steps
abbrev pub IsShortTrace : FlatModel → ℕ → List (List Value) → Type 0
IsShortTrace m k trace = IsFlatTrace m trace × (length trace ≤ k + 1)

-- the sets, one trace each, are right for a class of the model's traces
abbrev pub IsRightFlat : FlatModel → List Mode → Tree FlatLeaf → ℕ → (List (List Value) → Type 0) → List (List ℕ) →
    List (List (List Value)) → Type 0
IsRightFlat m fs top size class sets traces =
    IsRight (List (List Value)) (IsFlatTrace m) (ReachesTop m top) (HasFailedNumber m fs) size class sets traces

-- the last valuation, or one of no variables
abbrev pub last_of : List (List Value) → List Value
last_of [] = []
last_of (v ∷ []) = v
last_of (v ∷ w ∷ vs) = last_of (w ∷ vs)

-- the numbers of the history bits, which follow the model's own variables
abbrev pub history_of : FlatModel → List Mode → List ℕ
history_of m fs = range_with_len (length m.variables) (length fs)

-- the faults whose history bits are TRUE
abbrev pub failed_in : List ℕ → List Value → List ℕ
failed_in history v = numbers_where (is_true_at v) 1 history

-- the expression reads no variable but the model's own
abbrev pub ReadsOwn : FlatModel → Tree FlatLeaf → Type 0
ReadsOwn m e = Each (IsOwnName (length m.variables)) (leaves_in e)

-- the numbers are those of faults
abbrev pub IsNumbered : ℕ → List ℕ → Type 0
IsNumbered faults set = Each (λ i. (1 ≤ i) × (i ≤ faults)) set
