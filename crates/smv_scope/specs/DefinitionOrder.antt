-- The order of definitions by their numbers: each after those that it is linked to, in their order, and so on down.
use Rattle.std.specs.Prelude.{◌≡◌, ◌⊎◌, ℕ, zero, suc, ◌<◌, Bool, true, false, List, [], ◌∷◌, ◌++◌, length, map, reverse, Option, Some, None}
use Rattle.std.specs.Prelude.{slice_get, set}
use Rattle.smv_language.specs.Trace.{Each}
use Rattle.smv_scope.specs.declared.needs.WalkMark.{WalkMark}
use Rattle.smv_scope.specs.declared.needs.WalkMark.TheVariants.{Unmet, Begun, Ended}
use Rattle.smv_scope.specs.declared.needs.Task.{Task}
use Rattle.smv_scope.specs.declared.needs.Task.TheVariants.{Visit, End}
use Rattle.smv_scope.specs.declared.needs.Laying.{Laying}
use Rattle.smv_scope.specs.Links.{Graph, Has, Reaches}

-- the numbers below the count, from a number on
abbrev pub upto_from : ℕ → ℕ → List ℕ
upto_from k zero = []
upto_from k (suc n) = k ∷ upto_from (suc k) n

-- the numbers below the count
abbrev pub upto : ℕ → List ℕ
upto count = upto_from 0 count

-- all links go to numbers below the count
abbrev pub IsInto : Graph → ℕ → Type 0
IsInto g count = (a b : ℕ) → Has (g a) b → b < count

-- a number comes after those that it is linked to, in their order, and so on down, unless it is there
mutual
  pub data Lays (g : Graph) : List ℕ → ℕ → List ℕ → Type 0 where
    stands : {done : List ℕ} {k : ℕ} → Has done k → Lays g done k done
    comes : {done after : List ℕ} {k : ℕ} → (Has done k → ⊥) → LaysAll g done (g k) after → Lays g done k (after ++ k ∷ [])

  pub data LaysAll (g : Graph) : List ℕ → List ℕ → List ℕ → Type 0 where
    no_more : {done : List ℕ} → LaysAll g done [] done
    one_more : {done between after more : List ℕ} {k : ℕ} → Lays g done k between → LaysAll g between more after →
        LaysAll g done (k ∷ more) after

-- some number leads back to itself
abbrev pub SomeCircle : Graph → ℕ → Type 0
SomeCircle g count = (k : ℕ) × (k < count) × Reaches g (g k) k

-- the order of all numbers, where no circle was met
pub record IsLaid (g : Graph) (count : ℕ) (circle : Bool) (order : List ℕ) : Type 0 where
  pub laid : circle ≡ false → LaysAll g [] (upto count) order
  pub shown : circle ≡ true → SomeCircle g count

-- The walk: how far it is with each number, the order so far, what is to be done, first things first, and
-- whether it met a circle.
pub record Lay : Type 0 where
  pub marks : List WalkMark
  pub order : List ℕ
  pub tasks : List Task
  pub circle : Bool

-- the walk of the code, whose tasks have the next one at their end
abbrev pub lay_of : Laying → Lay
lay_of l = record { marks = l.marks.items; order = l.order.items; tasks = reverse l.tasks.items; circle = l.circle }

-- the mark, where there is one; else the number was not met
abbrev pub mark_or : Option WalkMark → WalkMark
mark_or None = Unmet
mark_or (Some m) = m

-- how far the walk is with a number
abbrev pub mark_at : List WalkMark → ℕ → WalkMark
mark_at marks k = mark_or (slice_get marks k)

-- to visit these numbers, in this order
abbrev pub visits : List ℕ → List Task
visits ks = map Visit ks

-- a visit of a number, by how far the walk is with it: one that is begun and not ended shows a circle
abbrev pub visit_by : Graph → Lay → ℕ → WalkMark → Lay
visit_by g s k Ended = s
visit_by g s k Unmet = record { marks = set s.marks k Begun; order = s.order; tasks = visits (g k) ++ End k ∷ s.tasks; circle = s.circle }
visit_by g s k Begun = record { marks = s.marks; order = s.order; tasks = s.tasks; circle = true }

-- a task is done
abbrev pub lay_by : Graph → Lay → Task → Lay
lay_by g s (End k) = record { marks = set s.marks k Ended; order = s.order ++ k ∷ []; tasks = s.tasks; circle = s.circle }
lay_by g s (Visit k) = visit_by g s k (mark_at s.marks k)

-- doing all tasks leads from one order to another
abbrev pub Ends : Graph → List ℕ → List Task → List ℕ → Type 0
Ends g done [] after = after ≡ done
Ends g done (Visit k ∷ ts) after = (between : List ℕ) × Lays g done k between × Ends g between ts after
Ends g done (End k ∷ ts) after = Ends g (done ++ k ∷ []) ts after

-- the number that a task is about
abbrev pub number_of : Task → ℕ
number_of (Visit k) = k
number_of (End k) = k

-- the end of a visit is among the tasks
abbrev pub HasEnd : List Task → ℕ → Type 0
HasEnd [] k = ⊥
HasEnd (Visit j ∷ ts) k = HasEnd ts k
HasEnd (End j ∷ ts) k = (j ≡ k) ⊎ HasEnd ts k

-- the first visit of these that is to be ended is of a number that is linked to this one
abbrev pub IsFor : Graph → ℕ → List Task → Type 0
IsFor g k [] = Unit {0}
IsFor g k (Visit j ∷ ts) = IsFor g k ts
IsFor g k (End j ∷ ts) = Has (g j) k

-- each task is for the next visit that is to be ended
abbrev pub Hangs : Graph → List Task → Type 0
Hangs g [] = Unit {0}
Hangs g (t ∷ ts) = IsFor g (number_of t) ts × Hangs g ts

-- the numbers in the order are those that are ended, and doing what is left orders all
pub record IsLaying (g : Graph) (count : ℕ) (s : Lay) : Type 0 where
  pub size : length s.marks ≡ count
  pub ended : (k : ℕ) → mark_at s.marks k ≡ Ended → Has s.order k
  pub ordered : (k : ℕ) → Has s.order k → mark_at s.marks k ≡ Ended
  pub within : Each (λ t. number_of t < count) s.tasks
  pub begun : (k : ℕ) → mark_at s.marks k ≡ Begun → HasEnd s.tasks k
  pub hangs : Hangs g s.tasks
  pub shown : s.circle ≡ true → SomeCircle g count
  pub rest : s.circle ≡ false → (after : List ℕ) → Ends g s.order s.tasks after → LaysAll g [] (upto count) after

-- no number is there twice
abbrev pub Once : List ℕ → Type 0
Once xs = (i j k : ℕ) → slice_get xs i ≡ Some k → slice_get xs j ≡ Some k → i ≡ j

-- each number's place in an order, from a place on
abbrev pub placed_from : List ℕ → ℕ → List ℕ → List ℕ
placed_from places i [] = places
placed_from places i (k ∷ ks) = placed_from (set places k i) (suc i) ks
