-- What holds of a search over the lists of a system and the guarded clauses of frames, and what its answers say.
use Rattle.std.specs.Prelude.{◌≡◌, ℕ, zero, suc, ◌+◌, ◌*◌, ◌^◌, ◌<◌, ◌≤◌, false, List, [], ◌∷◌, ◌++◌, IsTrue, All, Contains, length}
use Rattle.std.specs.Prelude.{slice_index_or}
use Rattle.sat_clauses.specs.Literal.{Literal, plain, opposite}
use Rattle.sat_clauses.specs.Assignment.{Assignment}
use Rattle.sat_clauses.specs.Models.{TotalAssignment, literal_value, clause_value, all_true, values_of}
use Rattle.sat_solver.specs.LearnedClauses.{added_of}
use Rattle.sat_solver.specs.declared.solve.Verdict.{Verdict}
use Rattle.sat_solver.specs.declared.solve.Verdict.TheVariants.{Sat, Unsat}
use Rattle.sat_clauses.specs.declared.system.System.{System}
use Rattle.cut_frames.specs.Condition.{IsNear}
use Rattle.cut_frames.specs.FrameLists.{frame_at}
use Rattle.cut_frames.specs.Roles.{Listed, first, step, bad, Role, renamed}
use Rattle.cut_frames.specs.Guards.{IsPut, AreHeld}
use Rattle.cut_frames.specs.declared.guarded.Beside.{Beside}
use Rattle.cut_frames.specs.declared.guarded.Beside.TheVariants.{Nothing, Step, Bad}
use Rattle.cut_frames.specs.declared.guarded.Guarded.{Guarded}
use Rattle.cut_frames.specs.declared.simple.SimpleLists.{SimpleLists}

-- a list whose variables above those of states and inputs are its own: some values that agree on these places make it true
pub record Meets (places : ℕ) (list : List (List Literal)) (v : TotalAssignment) : Type 0 where
  pub values : TotalAssignment
  pub agree : (x : ℕ) → x ≤ places → values x ≡ v x
  pub all : IsTrue (all_true values list)

-- the two lists are met with the same values of the places
pub record MeetAlike (places : ℕ) (old new : List (List Literal)) : Type 0 where
  pub stays : (v : TotalAssignment) → Meets places old v → Meets places new v
  pub back : (v : TotalAssignment) → Meets places new v → Meets places old v

-- the list takes the place of another one in a search: it is met alike, and its variables are small
pub record IsSimple (places : ℕ) (list simple : List (List Literal)) : Type 0 where
  pub near : All (All IsNear) simple
  pub alike : MeetAlike places list simple

-- the highest variable of states and inputs
abbrev pub places_of : System → ℕ
places_of system = 2 * system.state_bits + system.input_bits + 1

-- the lists take the places of `first`, `step` and this list of bad states
pub record AreSimple (system : System) (list : List (List Literal)) (simple : SimpleLists) : Type 0 where
  pub first : IsSimple (places_of system) system.first simple.first
  pub step : IsSimple (places_of system) system.step simple.step
  pub bad : IsSimple (places_of system) list simple.bad

-- what the frame of a number says of values: that of number 0 is `first`
abbrev pub MeetsFrame : System → List (List (List Literal)) → ℕ → TotalAssignment → Type 0
MeetsFrame system frames zero v = Meets (places_of system) system.first v
MeetsFrame system frames (suc i) v = IsTrue (all_true v (frame_at frames (suc i)))

-- what is asked beside a frame
abbrev pub MeetsBeside : System → List (List Literal) → Beside → TotalAssignment → Type 0
MeetsBeside system list Nothing v = Unit {0}
MeetsBeside system list Step v = Meets (places_of system) system.step v
MeetsBeside system list Bad v = Meets (places_of system) list v

-- the values make the frame, what is asked beside it, and the assumptions true
pub record IsModelOf (system : System) (list : List (List Literal)) (frames : List (List (List Literal))) (asked : Beside) (i : ℕ)
    (assumptions : List Literal) (a : Assignment) : Type 0 where
  pub frame : MeetsFrame system frames i (values_of a)
  pub beside : MeetsBeside system list asked (values_of a)
  pub assumed : All (λ l. IsTrue (literal_value (values_of a) l)) assumptions

-- a clause of negated assumptions that holds where the frame does and what is asked beside it
pub record IsCoreOf (system : System) (list : List (List Literal)) (frames : List (List (List Literal))) (asked : Beside) (i : ℕ)
    (assumptions core : List Literal) : Type 0 where
  pub negated : All (λ l. Contains assumptions (opposite l)) core
  pub follows : (v : TotalAssignment) → MeetsFrame system frames i v → MeetsBeside system list asked v → IsTrue (clause_value v core)

-- the verdict of a question is right
abbrev pub IsToldBy : System → List (List Literal) → List (List (List Literal)) → Beside → ℕ → List Literal → Verdict → Type 0
IsToldBy system list frames beside i assumptions (Sat a) = IsModelOf system list frames beside i assumptions a
IsToldBy system list frames beside i assumptions (Unsat core) = IsCoreOf system list frames beside i assumptions core

-- the values make what is asked about and the assumptions true, in no frame
pub record IsLoneModelOf (system : System) (list : List (List Literal)) (asked : Beside) (assumptions : List Literal) (a : Assignment) : Type 0 where
  pub beside : MeetsBeside system list asked (values_of a)
  pub assumed : All (λ l. IsTrue (literal_value (values_of a) l)) assumptions

-- the clauses that were added to the search
abbrev pub added_in : Guarded → List (List Literal)
added_in g = added_of g.search.kept.clauses g.search.kept.marks

-- a guard is a variable above the places
pub record IsGuardIn (places vars : ℕ) (l : Literal) : Type 0 where
  pub positive : l.negated ≡ false
  pub above : places < l.var
  pub in_range : l.var ≤ vars

-- the guards are variables of the search above those of states and inputs
pub record IsWell (g : Guarded) : Type 0 where
  pub low : g.places < 2 ^ 31
  pub vars : g.vars ≡ g.search.kept.vars
  pub small : g.search.kept.vars < 2 ^ 62
  pub room : g.places ≤ g.search.kept.vars
  pub some : 0 < length g.frames.items
  pub frames : All (IsGuardIn g.places g.search.kept.vars) g.frames.items
  pub step : IsGuardIn g.places g.search.kept.vars g.step
  pub bad : IsGuardIn g.places g.search.kept.vars g.bad
  pub marked : length g.search.kept.marks ≡ length g.search.kept.clauses

-- the places, the simple lists, the guards of the lists and those of the frames are the same
pub record HasSameGuards (old new : Guarded) : Type 0 where
  pub places : new.places ≡ old.places
  pub simple : new.simple ≡ old.simple
  pub step : new.step ≡ old.step
  pub bad : new.bad ≡ old.bad
  pub frames : new.frames.items ≡ old.frames.items

-- clauses were added
pub record HasPut (old new : Guarded) (cs : List (List Literal)) : Type 0 where
  pub well : IsWell new
  pub guards : HasSameGuards old new
  pub vars : new.search.kept.vars ≡ old.search.kept.vars
  pub added : added_in new ≡ added_in old ++ cs

-- there are so many variables more
pub record HasWidened (old new : Guarded) (count : ℕ) : Type 0 where
  pub well : IsWell new
  pub guards : HasSameGuards old new
  pub vars : new.search.kept.vars ≡ old.search.kept.vars + count
  pub added : added_in new ≡ added_in old

-- the guard of the bad states is false from now on, and there is a new one
pub record HasNewBad (old new : Guarded) : Type 0 where
  pub well : IsWell new
  pub places : new.places ≡ old.places
  pub simple : new.simple ≡ old.simple
  pub step : new.step ≡ old.step
  pub bad : new.bad ≡ plain (old.search.kept.vars + 1)
  pub frames : new.frames.items ≡ old.frames.items
  pub vars : new.search.kept.vars ≡ old.search.kept.vars + 1
  pub added : added_in new ≡ added_in old ++ (opposite old.bad ∷ []) ∷ []

-- there is the guard of a frame more
pub record HasNewFrame (old new : Guarded) : Type 0 where
  pub well : IsWell new
  pub places : new.places ≡ old.places
  pub simple : new.simple ≡ old.simple
  pub step : new.step ≡ old.step
  pub bad : new.bad ≡ old.bad
  pub frames : new.frames.items ≡ old.frames.items ++ plain (old.search.kept.vars + 1) ∷ []
  pub vars : new.search.kept.vars ≡ old.search.kept.vars + 1
  pub added : added_in new ≡ added_in old

-- no clause, and the guards of the three lists above the places
pub record IsEmpty (last highest : ℕ) (g : Guarded) : Type 0 where
  pub well : IsWell g
  pub places : g.places ≡ last
  pub vars : g.search.kept.vars ≡ highest
  pub frames : g.frames.items ≡ plain (last + 1) ∷ []
  pub step : g.step ≡ plain (last + 2)
  pub bad : g.bad ≡ plain (last + 3)
  pub added : added_in g ≡ []

-- the literal of a list has a variable in the search
abbrev pub HasRoomFor : ℕ → ℕ → ℕ → Literal → Type 0
HasRoomFor places base vars l = renamed places base l.var ≤ vars

-- the guards under which a question is asked
abbrev pub asked_guards : Guarded → Beside → ℕ → List Literal
asked_guards g Nothing i = slice_index_or g.frames.items i g.step ∷ []
asked_guards g Step i = slice_index_or g.frames.items i g.step ∷ g.step ∷ []
asked_guards g Bad i = slice_index_or g.frames.items i g.step ∷ g.bad ∷ []

-- the guards under which a question about no frame is asked
abbrev pub lone_guards : Guarded → Beside → List Literal
lone_guards g Nothing = []
lone_guards g Step = g.step ∷ []
lone_guards g Bad = g.bad ∷ []

-- the guard of the frame of a number
abbrev pub guard_at : Guarded → ℕ → ℕ
guard_at g i = (slice_index_or g.frames.items i g.step).var

-- the guard of a list: that of `first` is the guard of the frame of number 0
abbrev pub guard_of : Guarded → Listed → ℕ
guard_of g first = guard_at g 0
guard_of g step = g.step.var
guard_of g bad = g.bad.var

-- the lists whose meaning a search holds
abbrev pub lists_of : System → List (List Literal) → Listed → List (List Literal)
lists_of system list first = system.first
lists_of system list step = system.step
lists_of system list bad = list

-- the search holds lists that are met as `first`, `step` and this list of bad states are, and these frames from number 1 on;
-- that of number 0 is `first`. It has simple forms of the three lists beside, for the next search
pub record IsHolding (system : System) (list : List (List Literal)) (frames : List (List (List Literal))) (g : Guarded) : Type 0 where
  pub well : IsWell g
  pub places : g.places ≡ places_of system
  pub simple : AreSimple system list g.simple
  pub count : length g.frames.items ≡ length frames
  pub lists : Listed → List (List Literal)
  pub alike : (which : Listed) → MeetAlike (places_of system) (lists_of system list which) (lists which)
  pub top : Listed → ℕ
  pub base : Listed → ℕ
  pub role : ℕ → Role
  pub held : AreHeld (record {
    places = g.places;
    list = lists;
    frames = frames;
    guard = guard_of g;
    top = top;
    base = base;
    guard_at = guard_at g;
    role = role;
  }) g.search.kept.vars (added_in g)

-- the verdict is one on what the search holds, whatever that is
abbrev pub Tells : Guarded → Beside → ℕ → List Literal → Verdict → Type 0
Tells old beside i assumptions v = (system : System) (list : List (List Literal)) (frames : List (List (List Literal))) →
    IsHolding system list frames old →
    IsToldBy system list frames beside i assumptions v

-- the values are a model of what the search holds, whatever that is
abbrev pub Finds : Guarded → Beside → List Literal → Assignment → Type 0
Finds old beside assumptions a = (system : System) (list : List (List Literal)) (frames : List (List (List Literal))) →
    IsHolding system list frames old →
    IsLoneModelOf system list beside assumptions a

-- a question changes nothing that the search holds
abbrev pub HasAsked : Guarded → Guarded → Type 0
HasAsked old new = (system : System) (list : List (List Literal)) (frames : List (List (List Literal))) →
    IsHolding system list frames old → IsHolding system list frames new

-- these bad states stand in the place of others
abbrev pub TakesBad : Guarded → Guarded → List (List Literal) → Type 0
TakesBad old new list = (system : System) (was : List (List Literal)) (frames : List (List (List Literal))) →
    IsHolding system was frames old → IsHolding system list frames new

-- a list that is met as this one is stands in the place of the bad states
abbrev pub TakesSimple : Guarded → Guarded → List (List Literal) → Type 0
TakesSimple old new simple = (list : List (List Literal)) → MeetAlike old.places list simple → TakesBad old new list

-- the frame of number 0, no bad states, and lists that are met as these are
abbrev pub HoldsSimple : ℕ → List (List Literal) → List (List Literal) → Guarded → Type 0
HoldsSimple places firsts steps new = (system : System) → places ≡ places_of system → MeetAlike places system.first firsts →
    MeetAlike places system.step steps → IsHolding system [] ([] ∷ []) new

-- a clause more stands among the bad states' clauses
abbrev pub AddsBad : Guarded → Guarded → List Literal → Type 0
AddsBad old new c = (system : System) (list : List (List Literal)) (frames : List (List (List Literal))) →
    IsHolding system list frames old → IsHolding system (list ++ c ∷ []) frames new

-- a clause was put into the frames up to a number
abbrev pub Puts : Guarded → Guarded → ℕ → List Literal → Type 0
Puts old new j c = (system : System) (list : List (List Literal)) (frames now : List (List (List Literal))) →
    IsHolding system list frames old → IsPut j c frames now → IsHolding system list now new

-- a frame more, without clauses
abbrev pub Grows : Guarded → Guarded → Type 0
Grows old new = (system : System) (list : List (List Literal)) (frames : List (List (List Literal))) → IsHolding system list frames old →
    IsHolding system list (frames ++ [] ∷ []) new

-- the frame of number 0 alone
abbrev pub BeginsAgain : Guarded → Guarded → Type 0
BeginsAgain old new = (system : System) (list : List (List Literal)) (frames : List (List (List Literal))) →
    IsHolding system list frames old → IsHolding system list ([] ∷ []) new
