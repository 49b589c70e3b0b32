-- When what an analysis of an extension finds is right.
use Rattle.std.specs.Prelude.{◌≡◌, ◌↔◌, ℕ, ◌+◌, ◌≤◌, true, List, Some, length, slice_get}
use Rattle.smv_language.specs.Language.{Formula, ProgramTree, Value, Each, FlatModel}
use Rattle.fault_instructions.specs.Instructions.{InstructionTree}
use Rattle.fault_weave.specs.Faults.{Fault}
use Rattle.fault_weave.specs.ExtensionTraces.{Moment, IsExtended}
use Rattle.cut_right_laws.specs.Sets.{IsRising}
pub use Rattle.cut_text_laws.specs.Analysis.{Ending, complete, bounded, Analysis}
use Rattle.cut_search_laws.specs.FoundSets.{AreInOrder}
use Rattle.cert_laws.specs.ExtendedTraces.{IsRightExtended, IsFlatCut}

module _ (p : ProgramTree) (i : InstructionTree) where
  -- the extended traces that an ending speaks of
  abbrev pub IsOfClass : Ending → List Moment → Type 0
  IsOfClass complete trace = IsExtended p i trace
  IsOfClass (bounded k) trace = IsExtended p i trace × (length trace ≤ k + 1)

-- The analysis is right for its size: its sets, in order and rising, are right for the traces that its ending speaks of, with
-- the extended traces whose values are shown, and it tells whether there is a trace at all.
pub record IsAnalysisOf (p : ProgramTree) (i : InstructionTree) (faults : List Fault) (flat : FlatModel) (top : Formula) (size : ℕ)
    (a : Analysis) : Type 0 where
  pub traces : List (List Moment)
  pub right : IsRightExtended p i faults top size (IsOfClass p i a.ending) a.sets traces
  pub values : (k : ℕ) (values : List (List Value)) (trace : List Moment) → slice_get a.shown k ≡ Some values →
      slice_get traces k ≡ Some trace → IsFlatCut p i flat values trace
  pub one_each : length a.shown ≡ length traces
  pub in_order : AreInOrder a.sets
  pub rising : Each IsRising a.sets
  pub first_exists : (a.first ≡ true) ↔ ((trace : List Moment) × IsExtended p i trace)
