-- What a search keeps of lists and frames: each clause under the guard of its list, or of the last frame in which it holds; and
-- each guard of a frame implies that of the next. A clause that went from the frames stays in the search: in its place some clause
-- that is a part of it stands in each of its frames.
use Rattle.std.specs.Prelude.{◌≡◌, ◌⊎◌, ℕ, suc, ◌+◌, ◌-◌, ◌≤◌, ◌<◌, List, [], ◌∷◌, All, Any, Contains, length, filter, nat_le}
use Rattle.sat_clauses.specs.Literal.{Literal, plain, opposite}
use Rattle.sat_clauses.specs.Derivation.{IsUpTo}
use Rattle.cut_frames.specs.Chain.{IsPart}
use Rattle.cut_frames.specs.FrameLists.{frame_at}
use Rattle.cut_frames.specs.Roles.{Listed, Role, place, list_guard, gate, retired, unused, renamed_clause, under_guard}
use Rattle.cut_frames.specs.Roles as roles

-- the clause stands in each frame from number 1 up to another
abbrev pub StandsUpTo : List (List (List Literal)) → ℕ → List Literal → Type 0
StandsUpTo frames j c = (i : ℕ) → 0 < i → i ≤ j → Contains (frame_at frames i) c

-- some clause of the frame is a part of this one, so the frame implies it
abbrev pub IsCovered : List (List Literal) → List Literal → Type 0
IsCovered frame c = Any (λ d. IsPart d c) frame

-- that is so in each frame from number 1 up to another
abbrev pub IsCoveredUpTo : List (List (List Literal)) → ℕ → List Literal → Type 0
IsCoveredUpTo frames j c = (i : ℕ) → 0 < i → i ≤ j → IsCovered (frame_at frames i) c

-- the clause stood there, or it is the one that was put there
abbrev pub IsOld : ℕ → List Literal → List (List (List Literal)) → ℕ → List Literal → Type 0
IsOld j c old i d = Contains (frame_at old i) d ⊎ ((d ≡ c) × (i ≤ j))

-- a clause was put into the frames from number 1 up to another, some of which it is a part may be gone there, and nothing else changed
pub record IsPut (j : ℕ) (c : List Literal) (old now : List (List (List Literal))) : Type 0 where
  pub same : length now ≡ length old
  pub within : j < length old
  pub here : StandsUpTo now j c
  pub stays : (i : ℕ) (d : List Literal) → 0 < i → Contains (frame_at old i) d → Contains (frame_at now i) d ⊎ ((i ≤ j) × IsPart c d)
  pub only : (i : ℕ) (d : List Literal) → 0 < i → Contains (frame_at now i) d → IsOld j c old i d

-- that the guard of a frame implies the next
abbrev pub guards_next : ℕ → ℕ → List Literal
guards_next guard next = under_guard guard (plain next ∷ [])

-- Where lists and frames stand: the highest variable of states and inputs, the lists, the frames, the guard of each list, its
-- highest variable and where its gates stand, the guard of each frame from number 1 on, and the role of each variable.
pub record Layout : Type 0 where
  pub places : ℕ
  pub list : Listed → List (List Literal)
  pub frames : List (List (List Literal))
  pub guard : Listed → ℕ
  pub top : Listed → ℕ
  pub base : Listed → ℕ
  pub guard_at : ℕ → ℕ
  pub role : ℕ → Role

-- An added clause is one of a list, renamed, under the list's guard; or one that the frames imply under a guard; or says that a guard
-- implies the next; or holds since something is not asked about any more.
pub data IsHeld (l : Layout) (d : List Literal) : Type 0 where
  of_list : (which : Listed) (c : List Literal) → d ≡ under_guard (l.guard which) (renamed_clause l.places (l.base which) c) →
      Contains (l.list which) c → IsHeld l d
  of_frame : (x j : ℕ) (c : List Literal) → d ≡ under_guard x c → l.role x ≡ roles.frame_guard j → 0 < j → IsCoveredUpTo l.frames j c →
      IsHeld l d
  of_next : (x y j : ℕ) → d ≡ guards_next x y → l.role x ≡ roles.frame_guard j → l.role y ≡ roles.frame_guard (suc j) → IsHeld l d
  of_retired : (x : ℕ) → Contains d (opposite (plain x)) → l.role x ≡ retired → IsHeld l d

-- the clause was added for this frame or a later one
pub record IsUnder (l : Layout) (added : List (List Literal)) (i : ℕ) (c : List Literal) : Type 0 where
  pub at : ℕ
  pub from : i ≤ at
  pub within : at < length l.frames
  pub is_added : Contains added (under_guard (l.guard_at at) c)

-- The added clauses are those of the lists and of the frames, under their guards.
pub record AreHeld (l : Layout) (vars : ℕ) (added : List (List Literal)) : Type 0 where
  pub is_place : (x : ℕ) → x ≤ l.places → l.role x ≡ place
  pub is_unused : (x : ℕ) → vars < x → l.role x ≡ unused
  pub is_guard : (which : Listed) → l.role (l.guard which) ≡ list_guard which
  pub is_gate : (which : Listed) (x : ℕ) → l.places < x → x ≤ l.top which → l.role (x - l.places + l.base which) ≡ gate which x
  pub is_frame : (i : ℕ) → 0 < i → i < length l.frames → l.role (l.guard_at i) ≡ roles.frame_guard i
  pub list_low : (which : Listed) (c : List Literal) → Contains (l.list which) c → All (IsUpTo (l.top which)) c
  pub frames_low : (i : ℕ) (c : List Literal) → 0 < i → Contains (frame_at l.frames i) c → All (IsUpTo l.places) c
  pub each : (d : List Literal) → Contains added d → IsHeld l d
  pub has_list : (which : Listed) (c : List Literal) → Contains (l.list which) c →
      Contains added (under_guard (l.guard which) (renamed_clause l.places (l.base which) c))
  pub has_frames : (i : ℕ) (c : List Literal) → 0 < i → Contains (frame_at l.frames i) c → IsUnder l added i c
  pub has_next : (j : ℕ) → 0 < j → suc j < length l.frames → Contains added (guards_next (l.guard_at j) (l.guard_at (suc j)))

-- a core without its guards
abbrev pub unguarded : ℕ → List Literal → List Literal
unguarded places core = filter (λ l. nat_le l.var places) core
