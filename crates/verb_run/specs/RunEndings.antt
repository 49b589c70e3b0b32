-- How a run ends that stops on its way, and how the writing ends.
use Rattle.std.specs.Prelude.{◌≡◌, ◌⊎◌, ℕ, List, Option, Result, Ok, Err}
use Rattle.base_files.specs.declared.files.NamedFile.{NamedFile}
use Rattle.base_files.specs.Desk.{said_more, SaysPrefix}
use Rattle.base_files.specs.declared.desk.WriteStop.{WriteStop}
use Rattle.base_files.specs.declared.desk.WriteStop.TheVariants as stop
use Rattle.verb_loading.specs.Statuses.{status_of, refusal_text}
use Rattle.verb_loading.specs.declared.status.Refusal.{Refusal}
use Rattle.verb_loading.specs.declared.input.Stop.{Stop}
use Rattle.verb_loading.specs.declared.input.Stop.TheVariants as stopped
use Rattle.verb_loading.specs.declared.status.Status.{Status}
use Rattle.verb_loading.specs.declared.status.Status.TheVariants as status

-- a status where the writing was done, and else why it was not
abbrev pub ended_as : Status → Result (Unit {0}) WriteStop → Status
ended_as s (Ok done) = s
ended_as s (Err stop.Failed) = status.Desk
ended_as s (Err stop.OutOfMemory) = status.Memory

-- a refusal was said, or a part of it where the desk failed or memory ran out; no file changed
pub record IsRefusing (r : Refusal) (s : Status) (before after : Option (List NamedFile)) (said now : Option (List ℕ)) : Type 0 where
  pub ends : (s ≡ status_of r) ⊎ ((s ≡ status.Desk) ⊎ (s ≡ status.Memory))
  pub line : s ≡ status_of r → now ≡ said_more said (refusal_text r)
  pub part : SaysPrefix said now (refusal_text r)
  pub kept : after ≡ before

-- nothing was done, and the status is this one
pub record IsUntouched (s due : Status) (before after : Option (List NamedFile)) (said now : Option (List ℕ)) : Type 0 where
  pub ends : s ≡ due
  pub kept : after ≡ before
  pub silent : now ≡ said

-- how a run ends that can't go on
abbrev pub Stopped : Stop → Status → Option (List NamedFile) → Option (List NamedFile) → Option (List ℕ) → Option (List ℕ) → Type 0
Stopped (stopped.Refused r) s before after said now = IsRefusing r s before after said now
Stopped stopped.Desk s before after said now = IsUntouched s status.Desk before after said now
Stopped stopped.Memory s before after said now = IsUntouched s status.Memory before after said now

-- how a run ends whose work has written and said all but a refusal
abbrev pub Concluded : Result Status Stop → Status → Option (List NamedFile) → Option (List NamedFile) → Option (List ℕ) →
    Option (List ℕ) → Type 0
Concluded (Ok t) s before after said now = IsUntouched s t before after said now
Concluded (Err e) s before after said now = Stopped e s before after said now
