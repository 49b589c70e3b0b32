-- What the lines of a text that were read so far give.
use Rattle.std.specs.Prelude.{◌≡◌, ◌≢◌, ◌⊎◌, ℕ, suc, ◌+◌, ◌-◌, ◌<◌, ◌≤◌, nat_eq, nat_lt, Bool, ◌&&◌, IsTrue, List, [], ◌∷◌, ◌++◌, length}
use Rattle.std.specs.Prelude.{map, Some, slice_get, slice_set, if◌then◌else◌}
use Rattle.std.specs.List.{list_all}
use Rattle.smv_language.specs.Language.{Text, Value, in_domain, FlatVariable, FlatModel, told_value}
use Rattle.cut_text_laws.specs.Lines.{Line}
use Rattle.cut_text_laws.specs.TraceText.{variable_text, equation, value_line}
use Rattle.cut_text_laws.specs.TraceFaults.{moments_after, IsEquation, IsNameIn, AreSound, Lacks}
use Rattle.base_values.specs.declared.value.Value.{Value as Numbered}
use Rattle.cut_report.specs.declared.reading.Slot.{Slot}
use Rattle.cut_report.specs.declared.reading.TraceReading.{TraceReading}
use Rattle.cut_report.specs.declared.fault.LineCause.{LineCause}
use Rattle.cut_report.specs.declared.fault.LineCause.TheVariants as cause
use Rattle.cut_report.specs.declared.fault.TraceFault.{TraceFault}
use Rattle.cut_report.specs.declared.fault.TraceFault.TheVariants as fault
use Rattle.cut_report.specs.Cuts.{IsNoEquation}
use Rattle.cut_report.specs.Lookups.{IsNamedAt, IsValueAt, HasNoValue}

-- the variable's value is said among the lines, in the moment of this number, from 1
pub record IsGiven (lines : List Line) (x : FlatVariable) (w : Value) (k : ℕ) : Type 0 where
  pub inside : IsTrue (in_domain x.declared w)
  pub earlier : List Line
  pub later : List Line
  pub lie : lines ≡ earlier ++ value_line x w ∷ later
  pub there : moments_after 0 earlier ≡ k

-- no value of the name is said in the moment of this number
abbrev pub IsSilent : List Line → Line → ℕ → Type 0
IsSilent lines name k = (earlier : List Line) (value : Line) (later : List Line) → lines ≡ earlier ++ equation name value ∷ later →
    moments_after 0 earlier ≢ k

-- The slot has what the variable was given last: where its moment is the last one, this is said there, and else nothing is.
pub record IsLast (symbols : List Text) (lines : List Line) (begun : ℕ) (x : FlatVariable) (s : Slot) : Type 0 where
  pub early : s.moment ≤ begun
  pub given : 0 < begun → s.moment ≡ begun → IsGiven lines x (told_value symbols s.value) begun
  pub silent : 0 < begun → s.moment ≢ begun → IsSilent lines (variable_text x) begun

-- each value of the valuation is said in the moment of this number
pub record IsSaid (m : FlatModel) (lines : List Line) (v : List Numbered) (k : ℕ) : Type 0 where
  pub many : length v ≡ length m.variables
  pub each : (i : ℕ) (x : FlatVariable) (w : Numbered) → slice_get m.variables i ≡ Some x → slice_get v i ≡ Some w →
      IsGiven lines x (told_value m.symbols w) k

-- the valuations are those of the first moments
abbrev pub AreSaid : FlatModel → List Line → List (List Numbered) → Type 0
AreSaid m lines moments = (k : ℕ) (v : List Numbered) → slice_get moments k ≡ Some v → IsSaid m lines v (suc k)

-- What stands after the lines: nothing is wrong with any of them, and of the moments before the last one those before the first that
-- lacks a value are kept.
pub record IsAfter (m : FlatModel) (lines : List Line) (r : TraceReading) : Type 0 where
  pub sound : AreSound m lines
  pub begun : r.begun ≡ moments_after 0 lines
  pub many : length r.slots.items ≡ length m.variables
  pub last : (i : ℕ) (x : FlatVariable) (s : Slot) → slice_get m.variables i ≡ Some x → slice_get r.slots.items i ≡ Some s →
      IsLast m.symbols lines r.begun x s
  pub kept : AreSaid m lines r.moments
  pub few : length r.moments ≤ r.begun - 1
  pub lacking : length r.moments + 1 < r.begun → Lacks m lines (length r.moments)

-- the last moment lacks no value, and no moment before it does
abbrev pub is_complete : ℕ → List Slot → List (List Numbered) → Bool
is_complete begun slots moments = nat_lt 0 begun && (nat_eq (length moments) (begun - 1) && list_all (λ s. nat_eq s.moment begun) slots)

-- what each variable was given last
abbrev pub values_of : List Slot → List Numbered
values_of slots = map (λ s. s.value) slots

-- the valuations with that of the last moment, where this is complete
abbrev pub with_last : ℕ → List Slot → List (List Numbered) → List (List Numbered)
with_last begun slots moments = if is_complete begun slots moments then moments ++ values_of slots ∷ [] else moments

-- the last moment has ended
abbrev pub ended : TraceReading → TraceReading
ended r = record r { moments = with_last r.begun r.slots.items r.moments }

-- the variable of this number has no value in the last moment
abbrev pub IsFree : TraceReading → ℕ → Type 0
IsFree r i = (s : Slot) → slice_get r.slots.items i ≡ Some s → s.moment ≢ r.begun

-- the variable of this number has a value in the last moment
abbrev pub IsTaken : TraceReading → ℕ → Type 0
IsTaken r i = (s : Slot) → slice_get r.slots.items i ≡ Some s → s.moment ≡ r.begun

-- the variable of this number has the value in the last moment, and all else is as before
pub record IsGivenTo (old new : TraceReading) (i : ℕ) (v : Numbered) : Type 0 where
  pub free : IsFree old i
  pub slots : new.slots.items ≡ slice_set old.slots.items i (record { moment = old.begun; value = v })
  pub begun : new.begun ≡ old.begun
  pub moments : new.moments ≡ old.moments

-- a variable of the name has a value of the text in the last moment, and all else is as before
pub record Gives (m : FlatModel) (old new : TraceReading) (name text : Line) : Type 0 where
  pub place : ℕ
  pub value : Numbered
  pub named : IsNamedAt m name place
  pub valued : IsValueAt m place text value
  pub given : IsGivenTo old new place value

-- why no variable of the name is given a value of the text
abbrev pub IsRefusal : FlatModel → TraceReading → Line → Line → LineCause → Type 0
IsRefusal m r name text cause.BadLine = ⊥
IsRefusal m r name text cause.UnknownName = IsNameIn m name → ⊥
IsRefusal m r name text cause.Outside = (i : ℕ) × IsNamedAt m name i × HasNoValue m i text
IsRefusal m r name text cause.Twice = (i : ℕ) × (v : Numbered) × IsNamedAt m name i × IsValueAt m i text v × IsTaken r i
IsRefusal m r name text cause.OutOfMemory = Unit {0}

-- the next moment has begun
pub record Begins (old new : TraceReading) : Type 0 where
  pub begun : new.begun ≡ old.begun + 1
  pub slots : new.slots.items ≡ old.slots.items
  pub moments : new.moments ≡ with_last old.begun old.slots.items old.moments

-- the line gives a variable a value in the last moment
pub record GivesLine (m : FlatModel) (old new : TraceReading) (line : Line) : Type 0 where
  pub name : Line
  pub text : Line
  pub words : IsEquation name text line
  pub some : 0 < old.begun
  pub gives : Gives m old new name text

-- an equation in a moment that gives no value
pub record IsRefusedEquation (m : FlatModel) (r : TraceReading) (line : Line) (c : LineCause) : Type 0 where
  pub name : Line
  pub text : Line
  pub words : IsEquation name text line
  pub some : 0 < r.begun
  pub refusal : IsRefusal m r name text c

-- why the line gives no value
abbrev pub IsRefusedLine : FlatModel → TraceReading → Line → LineCause → Type 0
IsRefusedLine m r line cause.BadLine = IsNoEquation line ⊎ (r.begun ≡ 0)
IsRefusedLine m r line cause.OutOfMemory = Unit {0}
IsRefusedLine m r line c = IsRefusedEquation m r line c

-- why the reading gives no trace at the end of the text
abbrev pub IsUnfinished : TraceReading → TraceFault → Type 0
IsUnfinished r (fault.BadLine n) = (r.begun ≡ 0) × (n ≡ 1)
IsUnfinished r (fault.MissingValue k) = (k ≡ length r.moments) × (k < r.begun)
IsUnfinished r fault.OutOfMemory = Unit {0}
IsUnfinished r _ = ⊥

-- the reading gives this trace at the end of the text
pub record IsFinished (r : TraceReading) (trace : List (List Numbered)) : Type 0 where
  pub some : 0 < r.begun
  pub same : trace ≡ r.moments
  pub all : r.begun ≤ length trace
