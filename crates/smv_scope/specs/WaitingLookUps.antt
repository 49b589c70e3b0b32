-- The look-ups of formals that wait for one another.
use Rattle.std.specs.Prelude.{◌≡◌, ℕ, suc, ◌+◌, ◌<◌, ◌==◌, Bool, true, false, ◌&&◌, if◌then◌else◌, List, [], ◌∷◌, ◌++◌, length, slice_get}
use Rattle.std.specs.Prelude.{Some}
use Rattle.std.specs.List.{list_any}
use Rattle.smv_language.specs.Language.{Text, Path, ProgramTree, Place, Each, FlatInstance}
use Rattle.smv_flat_laws.specs.Items.{instances_of}
use Rattle.smv_flat_laws.specs.Looks.{look_after}
use Rattle.smv_flat_laws.specs.Model.{roots_of}
use Rattle.smv_scope.specs.SceneTree.{IsFound, IsSet, program_of}
use Rattle.smv_scope.specs.TableLookUps.{formal_at}
use Rattle.smv_scope.specs.Steps.{is_open}
use Rattle.smv_scope.specs.KnownFormals.{rows, rows_with, formal_of, IsHead, IsOpen, ShutAt, ShutBeyond, AreTold, IsActualTold}
use Rattle.smv_scope.specs.declared.walk.Meaning.{Meaning}
use Rattle.smv_scope.specs.declared.names.Formal.{Formal}
use Rattle.smv_scope.specs.declared.names.Formal.TheVariants as known
use Rattle.smv_scope.specs.declared.names.Scene.{Scene}
use Rattle.smv_scope.specs.declared.formals.LookUpFrame.{LookUpFrame}
use Rattle.smv_scope.specs.declared.formals.Progress.{Progress}
use Rattle.smv_scope.specs.declared.formals.Progress.TheVariants as progress
use Rattle.smv_scope.specs.declared.formals.LookUpStop.{LookUpStop}
use Rattle.smv_scope.specs.declared.formals.LookUpStop.TheVariants as stop

-- there is such a formal
abbrev pub IsFormal : ProgramTree → ℕ → ℕ → Type 0
IsFormal p spot i = (at : Place) × (x : Text) × IsHead p spot i at x

-- there is such a formal, and it has no answer
pub record IsUnanswered (s : Scene) (spot i : ℕ) : Type 0 where
  pub there : IsFormal (program_of s) spot i
  pub no_answer : IsOpen (formal_at s spot i)

-- a look-up that has come to some parts at an instance, past no formal without an answer
pub record IsFrame (p : ProgramTree) (rs : List (List Formal)) (f : LookUpFrame) : Type 0 where
  pub at : Place
  pub name : Text
  pub head : IsHead p f.spot f.formal at name
  pub here : FlatInstance
  pub is_here : slice_get (instances_of p) f.here ≡ Some here
  pub part : Text
  pub more : Path
  pub rest : f.rest.now ≡ part ∷ more
  pub steps : ℕ
  pub after : look_after (suc steps) p at (name ∷ []) ≡ Some (record { place = here.place; name = part ∷ more })
  pub shut : (n : ℕ) → n < steps → ShutAt p rs (look_after (suc n) p at (name ∷ []))

-- the next part is this formal
pub record WaitsFor (p : ProgramTree) (f : LookUpFrame) (spot i : ℕ) : Type 0 where
  pub spot_is : f.here ≡ spot
  pub part : Text
  pub more : Path
  pub rest : f.rest.now ≡ part ∷ more
  pub place : Place
  pub head : IsHead p spot i place part

-- the topmost look-up, which stands last, waits for this formal
abbrev pub LastWaits : ProgramTree → List LookUpFrame → ℕ → ℕ → Type 0
LastWaits p [] spot i = Unit {0}
LastWaits p (f ∷ []) spot i = WaitsFor p f spot i
LastWaits p (f ∷ (g ∷ fs)) spot i = LastWaits p (g ∷ fs) spot i

-- each look-up waits for the formal of the next one
abbrev pub IsStack : ProgramTree → List (List Formal) → List LookUpFrame → Type 0
IsStack p rs [] = Unit {0}
IsStack p rs (f ∷ []) = IsFrame p rs f
IsStack p rs (f ∷ (g ∷ fs)) = IsFrame p rs f × WaitsFor p f g.spot g.formal × IsStack p rs (g ∷ fs)

-- a scene in which formals are looked up: those whose actuals are definitions have answers from the start
pub record IsReady (s : Scene) : Type 0 where
  pub set : IsSet s
  pub told : AreTold (program_of s) (rows s)
  pub actuals : Each (IsActualTold (program_of s) (rows s)) (roots_of (program_of s))

-- it is the look-up of this formal
abbrev pub is_of : ℕ → ℕ → LookUpFrame → Bool
is_of spot i f = (f.spot == spot) && (f.formal == i)

-- a look-up of this formal waits
abbrev pub has_frame : List LookUpFrame → ℕ → ℕ → Bool
has_frame fs spot i = list_any (is_of spot i) fs

-- of the formals whose look-ups wait something is known
pub record IsWaiting (s : Scene) (fs : List LookUpFrame) : Type 0 where
  pub ready : IsReady s
  pub stack : IsStack (program_of s) (rows s) fs
  pub fresh : (spot i : ℕ) → formal_of (rows s) spot i ≡ known.Unknown → has_frame fs spot i ≡ false

-- what a formal is found to mean, past no formal without an answer
pub record IsAnswer (p : ProgramTree) (rs : List (List Formal)) (spot i : ℕ) (f : Meaning) : Type 0 where
  pub at : Place
  pub name : Text
  pub head : IsHead p spot i at name
  pub found : IsFound p at (name ∷ []) f
  pub shut : ShutBeyond p rs at (name ∷ [])

-- a look-up that goes on is of the same formal
pub record GoesOn (p : ProgramTree) (rs : List (List Formal)) (f g : LookUpFrame) : Type 0 where
  pub frame : IsFrame p rs g
  pub spot : g.spot ≡ f.spot
  pub formal : g.formal ≡ f.formal

-- the look-up comes to a formal that has no answer
pub record Waits (p : ProgramTree) (rs : List (List Formal)) (f : LookUpFrame) (i : ℕ) : Type 0 where
  pub waits : WaitsFor p f f.here i
  pub unanswered : IsOpen (formal_of rs f.here i)

-- one part of a look-up: it goes on with fewer parts, or has its answer, or waits
abbrev pub IsProgress : ProgramTree → List (List Formal) → LookUpFrame → Progress → Type 0
IsProgress p rs f (progress.Further g) = GoesOn p rs f g × (length g.rest.now < length f.rest.now)
IsProgress p rs f (progress.Ended m) = IsAnswer p rs f.spot f.formal m
IsProgress p rs f (progress.Waits i) = Waits p rs f i

-- a look-up ends: it has its answer, or went on to where it waits
abbrev pub IsStop : ProgramTree → List (List Formal) → LookUpFrame → LookUpStop → Type 0
IsStop p rs f (stop.Ended m) = IsAnswer p rs f.spot f.formal m
IsStop p rs f (stop.Waits g i) = GoesOn p rs f g × Waits p rs g i

-- the formals of these look-ups come back
abbrev pub circled : List (List Formal) → List LookUpFrame → List (List Formal)
circled rs [] = rs
circled rs (f ∷ fs) = rows_with (circled rs fs) f.spot f.formal known.Circle

-- the look-ups from that of a formal on are the circle
pub record IsCircled (rs rs' : List (List Formal)) (fs : List LookUpFrame) (spot i : ℕ) : Type 0 where
  pub before : List LookUpFrame
  pub first : LookUpFrame
  pub circle : List LookUpFrame
  pub split : fs ≡ before ++ first ∷ circle
  pub first_spot : first.spot ≡ spot
  pub first_formal : first.formal ≡ i
  pub made : rs' ≡ circled rs (first ∷ circle)

-- the look-ups after those that are left are answered
pub record IsClosing (rs rs' : List (List Formal)) (fs left : List LookUpFrame) : Type 0 where
  pub after : List LookUpFrame
  pub split : fs ≡ left ++ after
  pub made : rs' ≡ circled rs after

-- a formal that is answered stays so
abbrev pub AreSettled : List (List Formal) → List (List Formal) → Type 0
AreSettled rs rs' = (spot i : ℕ) → IsOpen (formal_of rs' spot i) → IsOpen (formal_of rs spot i)

-- no formal of the instance is without an answer
abbrev pub IsRowAnswered : List (List Formal) → ℕ → Type 0
IsRowAnswered rs spot = (i : ℕ) → IsOpen (formal_of rs spot i) → ⊥

-- what a formal still takes: a look-up that is to begin and to end, one that is to end, or nothing
abbrev pub left_of : Bool → Formal → ℕ
left_of waits f = if is_open f then (if waits then 1 else 3) else 0

-- what the formals of one instance still take
abbrev pub row_left : (ℕ → Formal → ℕ) → List Formal → ℕ
row_left each [] = 0
row_left each (f ∷ fs) = each 0 f + row_left (λ i. each (suc i)) fs

-- what the formals of all instances still take
abbrev pub rows_left : (ℕ → ℕ → Formal → ℕ) → List (List Formal) → ℕ
rows_left each [] = 0
rows_left each (r ∷ rs) = row_left (each 0) r + rows_left (λ spot. each (suc spot)) rs

-- what all formals still take, and the look-ups that are to be taken from the stack
abbrev pub work : List (List Formal) → List LookUpFrame → ℕ
work rs fs = rows_left (λ spot i f. left_of (has_frame fs spot i) f) rs + length fs

-- a turn of the look-ups: those without an answer still wait, and less is left to do
pub record IsTurn (rs rs' : List (List Formal)) (fs fs' : List LookUpFrame) : Type 0 where
  pub settled : AreSettled rs rs'
  pub waits : (spot i : ℕ) → IsOpen (formal_of rs' spot i) → has_frame fs spot i ≡ true → has_frame fs' spot i ≡ true
  pub less : work rs' fs' < work rs fs
