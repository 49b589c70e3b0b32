-- What is found of a trace that a text gives.
use Rattle.std.specs.Prelude.{◌&&◌, ℕ, Bool, true, not, List, [], ◌∷◌, suc, Option, Some, None, if◌then◌else◌}
use Rattle.smv_language.specs.Values.{Value}
use Rattle.smv_flat_laws.specs.FlatTrace.{IsFlatTrace}
use Rattle.smv_flat_laws.specs.History.{Mode}
use Rattle.sat_encoding_laws.specs.FlatTraces.{ReachesTop, HasFailedNumber}
use Rattle.cut_right_laws.specs.Sets.{has_number}
use Rattle.cut_right_laws.specs.Right.{HasFailedExactly, Shows}
use Rattle.cut_report.specs.declared.fault.TraceFault.{TraceFault}
use Rattle.cut_report.specs.declared.fault.TraceFault.TheVariants as fault
use Rattle.cert_check.specs.Matter.{Matter}

module _ (a : Matter) (set : List ℕ) (trace : List (List Value)) where
  abbrev pub FailsExactly : Type 0
  FailsExactly = HasFailedExactly (List (List Value)) (IsFlatTrace a.model) (ReachesTop a.model a.top) (HasFailedNumber a.model a.modes)
      trace set

  -- the moments are no trace, or one that does not reach the top event, or one that does and has failed other faults
  pub data BreaksMoments : ℕ → Type 0 where
    not_a_trace : (IsFlatTrace a.model trace → ⊥) → BreaksMoments 5
    not_reaching : IsFlatTrace a.model trace → (ReachesTop a.model a.top trace → ⊥) → BreaksMoments 6
    not_exactly : IsFlatTrace a.model trace → ReachesTop a.model a.top trace → (FailsExactly → ⊥) → BreaksMoments 7

  -- which rule the moments break first, where they break one
  abbrev pub FindsMoments : Option ℕ → Type 0
  FindsMoments None = Shows (List (List Value)) (IsFlatTrace a.model) (ReachesTop a.model a.top) (HasFailedNumber a.model a.modes) trace set
  FindsMoments (Some number) = BreaksMoments number

-- the modes of the numbers from one on that pass the test are those of the set
abbrev pub is_same : Bool → Bool → Bool
is_same b c = if b then c else not c

-- whether the modes that pass the test are those of the set, numbered from one on
abbrev pub are_those_of : (Mode → Bool) → List ℕ → ℕ → List Mode → Bool
are_those_of test set n [] = true
are_those_of test set n (f ∷ fs) = is_same (test f) (has_number set n) && are_those_of test set (suc n) fs

-- something is wrong with a text, and it was not memory that was wanting
abbrev pub IsTextFault : TraceFault → Type 0
IsTextFault fault.OutOfMemory = ⊥
IsTextFault _ = Unit {0}
