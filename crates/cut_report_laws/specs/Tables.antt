-- What the entries of a table mean: which sets of faults suffice for which events.
use Rattle.std.specs.Prelude.{ℕ, ◌≡◌, ◌≤◌, List, length, Contains}
use Rattle.smv_language.specs.ProgramTree.{Formula, ProgramTree}
use Rattle.fault_instructions.specs.Instructions.{InstructionTree}
use Rattle.fault_weave.specs.Faults.{Fault}
use Rattle.fault_weave.specs.ExtensionTraces.{Moment, IsExtended, Reaches}
use Rattle.cert_laws.specs.ExtendedTraces.{IsRightExtended, HasFailedFault}
use Rattle.cut_report_laws.specs.ExtendedTraces.{Ending, complete, bounded, IsOfClass, Analysis}
use Rattle.cut_tables.specs.Tables.{Entry, yes, no, unknown, entry_of}
pub use Rattle.cut_tables.specs.Tables.{table_text}

module _ (p : ProgramTree) (i : InstructionTree) (faults : List Fault) (top : Formula) where
  -- an extended trace that reaches the event and has failed no fault outside the row
  pub record Suffices (row : List ℕ) (trace : List Moment) : Type 0 where
    pub is_one : IsExtended p i trace
    pub reaching : Reaches p top trace
    pub inside : (n : ℕ) → HasFailedFault faults trace n → Contains row n

  -- What an entry says: some such trace exists, or none does, or none of at most so many steps.
  abbrev pub IsEntry : Ending → List ℕ → Entry → Type 0
  IsEntry ending row yes = (trace : List Moment) × Suffices row trace
  IsEntry ending row no = (ending ≡ complete) × ((trace : List Moment) → Suffices row trace → ⊥)
  IsEntry ending row unknown = (k : ℕ) × (ending ≡ bounded k)
      × ((trace : List Moment) → IsOfClass p i (bounded k) trace → Suffices row trace → ⊥)

-- Where an analysis is right for sets of at most so many faults, what its column says of a row of at most so many is true.
abbrev pub EntriesAreRight : Type 0
EntriesAreRight = (p : ProgramTree) (i : InstructionTree) (faults : List Fault) (top : Formula) (size : ℕ) (a : Analysis)
    (traces : List (List Moment)) (row : List ℕ) →
    IsRightExtended p i faults top size (IsOfClass p i a.ending) a.sets traces → length row ≤ size →
    IsEntry p i faults top a.ending row (entry_of row a)
