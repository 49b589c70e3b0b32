-- A desk in memory: what it holds, and which of its calls fail.
use Rattle.std.specs.Prelude.{ℕ, ◌==◌, ◌&&◌, ◌≡◌, take, is_some, Result, Ok, Err, List, [], ◌∷◌, Option, Some, None, Bool, true, false}
use Rattle.std.specs.Prelude.{if◌then◌else◌}
use Rattle.std.specs.Option.{option_map_or}
use Rattle.base_files.specs.declared.desk.WriteStop.{WriteStop}
use Rattle.base_files.specs.declared.desk.WriteStop.TheVariants as stop
use Rattle.base_files.specs.declared.files.NamedFile.{NamedFile}
use Rattle.base_files.specs.declared.fails.CallCounts.{CallCounts}
use Rattle.base_files.specs.declared.fails.CallKind.{CallKind}
use Rattle.base_files.specs.declared.fails.CallKind.TheVariants.{Read, Start, Append, Say}
use Rattle.base_files.specs.declared.fails.Fail.{Fail}
use Rattle.base_values.specs.Counts.{next_count}

-- before the first call
abbrev pub no_counts : CallCounts
no_counts = record { reads = 0; starts = 0; appends = 0; says = 0 }

-- how many calls of this kind there were
abbrev pub count_of : CallCounts → CallKind → ℕ
count_of counts Read = counts.reads
count_of counts Start = counts.starts
count_of counts Append = counts.appends
count_of counts Say = counts.says

-- the counts after one more call of this kind
abbrev pub counted : CallCounts → CallKind → CallCounts
counted counts Read = record counts { reads = next_count counts.reads }
counted counts Start = record counts { starts = next_count counts.starts }
counted counts Append = record counts { appends = next_count counts.appends }
counted counts Say = record counts { says = next_count counts.says }

-- both are calls of one kind
abbrev pub same_call : CallKind → CallKind → Bool
same_call Read Read = true
same_call Start Start = true
same_call Append Append = true
same_call Say Say = true
same_call call other = false

-- how many bytes are kept by the first fail of the list that names this call
abbrev pub kept_at : List Fail → CallKind → ℕ → Option ℕ
kept_at [] call n = None
kept_at (fail ∷ fails) call n =
    if same_call fail.call call && (fail.nth == n) then Some fail.kept else kept_at fails call n

-- what a desk in memory holds
pub record Memory : Type 0 where
  pub files : List NamedFile
  pub said : List ℕ
  pub fails : List Fail
  pub counts : CallCounts
  pub faults : ℕ

-- how many bytes the next call of this kind keeps, where it is one that fails
abbrev pub next_fail : Memory → CallKind → Option ℕ
next_fail desk call = kept_at desk.fails call (count_of (counted desk.counts call) call)

-- the desk after this call was counted, and its failure where it is one that fails
abbrev pub after_call : Memory → CallKind → Memory
after_call desk call = record desk {
  counts = counted desk.counts call;
  faults = if is_some (next_fail desk call) then next_count desk.faults else desk.faults;
}

-- what is kept of these bytes by the next call of this kind
abbrev pub kept_bytes : Memory → CallKind → List ℕ → List ℕ
kept_bytes desk call bytes = option_map_or (λ kept. take kept bytes) (next_fail desk call) bytes

-- the desk after a call that found no memory, which is counted and does nothing
abbrev pub without_memory : Memory → CallKind → Memory
without_memory desk call = record desk { counts = counted desk.counts call }

-- the desk after a write: this one, or where there was no memory that one
abbrev pub WritesTo : Result (Unit {0}) WriteStop → Memory → Memory → Memory → Type 0
WritesTo (Ok done) now with_it without_it = now ≡ with_it
WritesTo (Err stop.Failed) now with_it without_it = now ≡ with_it
WritesTo (Err stop.OutOfMemory) now with_it without_it = now ≡ without_it
