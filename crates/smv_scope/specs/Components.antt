-- Components: numbers that all lead to one another.
use Rattle.std.specs.Prelude.{◌≡◌, ◌⊎◌, ℕ, suc, ◌+◌, ◌<◌, ◌≤◌, ◌==◌, Bool, true, false, List, [], ◌∷◌, ◌++◌, length, map, reverse, Option}
use Rattle.std.specs.Prelude.{Some, None, slice_get, set}
use Rattle.std.specs.List.{list_any}
use Rattle.smv_language.specs.Trace.{Each}
use Rattle.smv_scope.specs.declared.needs.WalkMark.{WalkMark}
use Rattle.smv_scope.specs.declared.needs.WalkMark.TheVariants.{Unmet, Begun}
use Rattle.smv_scope.specs.declared.needs.Task.{Task}
use Rattle.smv_scope.specs.declared.needs.Task.TheVariants.{Visit, End}
use Rattle.smv_scope.specs.declared.circles.CircleMember.{CircleMember}
use Rattle.smv_scope.specs.declared.circles.Components.{Components}
use Rattle.smv_scope.specs.Links.{Graph, Has, Reaches}
use Rattle.smv_scope.specs.DefinitionOrder.{Lay, mark_at, HasEnd}
use Rattle.smv_scope.specs.WorkLeft.{open_work}

-- what a number leads to, with itself
abbrev pub Leads : Graph → ℕ → ℕ → Type 0
Leads g a b = Reaches g (a ∷ []) b

-- Numbers, the last ended one first: what those up to one are linked to is ended before it, or leads to it.
abbrev pub IsEnded : Graph → List ℕ → Type 0
IsEnded g [] = Unit {0}
IsEnded g (c ∷ cs) = (Has cs c → ⊥) × ((a b : ℕ) → Has (c ∷ cs) a → Has (g a) b → Has cs b ⊎ Leads g b c) × IsEnded g cs

-- all numbers, by the ends of their visits
pub record IsFinished (g : Graph) (count : ℕ) (order : List ℕ) : Type 0 where
  pub ended : IsEnded g (reverse order)
  pub all : (k : ℕ) → k < count → Has (reverse order) k
  pub within : (k : ℕ) → Has (reverse order) k → k < count

-- the walk has met the number
abbrev pub IsMet : List WalkMark → ℕ → Type 0
IsMet marks k = mark_at marks k ≡ Unmet → ⊥

-- What the numbers are linked to that are to be ended is met, or is visited before, as are at last all numbers.
abbrev pub Awaits : Graph → ℕ → List WalkMark → List ℕ → List Task → Type 0
Awaits g count marks before [] = (b : ℕ) → b < count → IsMet marks b ⊎ Has before b
Awaits g count marks before (Visit k ∷ ts) = Awaits g count marks (k ∷ before) ts
Awaits g count marks before (End k ∷ ts) = ((b : ℕ) → Has (g k) b → IsMet marks b ⊎ Has before b) × Awaits g count marks before ts

-- no visit is to be ended twice
abbrev pub EndsOnce : List Task → Type 0
EndsOnce [] = Unit {0}
EndsOnce (Visit k ∷ ts) = EndsOnce ts
EndsOnce (End k ∷ ts) = (HasEnd ts k → ⊥) × EndsOnce ts

-- what the walk has ended so far is in the order of the ends, and it goes on with what that is linked to
pub record IsFinishing (g : Graph) (count : ℕ) (s : Lay) : Type 0 where
  pub awaits : Awaits g count s.marks [] s.tasks
  pub opened : (k : ℕ) → HasEnd s.tasks k → mark_at s.marks k ≡ Begun
  pub once : EndsOnce s.tasks
  pub closed : (a b : ℕ) → Has s.order a → Has (g a) b → IsMet s.marks b
  pub ended : IsEnded g (reverse s.order)

-- what is there, where the place is
abbrev pub joined : Option (Option ℕ) → Option ℕ
joined None = None
joined (Some o) = o

-- the component of a number, if it is in one
abbrev pub component_at : List (Option ℕ) → ℕ → Option ℕ
component_at cs k = joined (slice_get cs k)

-- a number for a component
abbrev pub member_of : ℕ → ℕ → CircleMember
member_of n k = record { definition = k; component = n }

-- these numbers for a component
abbrev pub members : ℕ → List ℕ → List CircleMember
members n ks = map (member_of n) ks

-- each number for a component of its own, from a number on, those put in front later
abbrev pub with_own : List CircleMember → ℕ → List ℕ → List CircleMember
with_own ms n [] = ms
with_own ms n (k ∷ ks) = with_own (member_of n k ∷ ms) (suc n) ks

-- each number for a component of its own, the last one first
abbrev pub owns : List ℕ → List CircleMember
owns [] = []
owns (c ∷ cs) = member_of (length cs) c ∷ owns cs

-- the components so far, and what waits to be put into one, first things first
pub record Joined : Type 0 where
  pub of : List (Option ℕ)
  pub waiting : List CircleMember

-- the search of the code, whose list has the next one at its end
abbrev pub joined_of : Components → Joined
joined_of c = record { of = c.of.items; waiting = reverse c.waiting.items }

-- a number that is in no component yet is put into one, and what is linked to it waits
abbrev pub join_if : Graph → Joined → CircleMember → Option ℕ → Joined
join_if back s m (Some n) = s
join_if back s m None =
    record { of = set s.of m.definition (Some m.component); waiting = members m.component (back m.definition) ++ s.waiting }

-- a number is looked at
abbrev pub join_by : Graph → Joined → CircleMember → Joined
join_by back s m = join_if back s m (component_at s.of m.definition)

-- the number is in a component
abbrev pub IsIn : List (Option ℕ) → ℕ → Type 0
IsIn cs k = (n : ℕ) × (component_at cs k ≡ Some n)

-- Each number is in a component, all in one lead to one another, and links go to the same or an earlier number.
pub record AreComponents (g : Graph) (count : ℕ) (cs : List (Option ℕ)) : Type 0 where
  pub all : (k : ℕ) → k < count → IsIn cs k
  pub joined : (a b n : ℕ) → component_at cs a ≡ Some n → component_at cs b ≡ Some n → Leads g a b
  pub falls : (a b n m : ℕ) → Has (g a) b → component_at cs a ≡ Some n → component_at cs b ≡ Some m → m ≤ n

-- two numbers are in the same component
abbrev pub is_same : Option ℕ → Option ℕ → Bool
is_same None other = false
is_same (Some n) None = false
is_same (Some n) (Some m) = n == m

-- a number is linked to one of its own component
abbrev pub is_back : Graph → List (Option ℕ) → ℕ → Bool
is_back g cs k = list_any (λ b. is_same (component_at cs k) (component_at cs b)) (g k)

-- from the first of the numbers down to one all are led to
abbrev pub Covers : Graph → ℕ → List ℕ → ℕ → Type 0
Covers g r [] a = ⊥
Covers g r (c ∷ cs) a = Leads g r c × ((c ≡ a) ⊎ Covers g r cs a)

-- a number that waits leads to one in the component, and is in one itself, or is led to with all since it ended
pub record Follows (g : Graph) (cs : List (Option ℕ)) (order : List ℕ) (m : CircleMember) : Type 0 where
  pub root : ℕ
  pub is : component_at cs root ≡ Some m.component
  pub leads : Leads g m.definition root
  pub back : IsIn cs m.definition ⊎ Covers g root order m.definition

-- the number is among those that wait
abbrev pub Waits : List CircleMember → ℕ → Type 0
Waits [] k = ⊥
Waits (m ∷ ms) k = (m.definition ≡ k) ⊎ Waits ms k

-- The numbers found for a component, those that are still in the order, and the components so far.
pub record IsJoining (g : Graph) (count : ℕ) (cs : List (Option ℕ)) (found : List CircleMember) (order : List ℕ) (now : ℕ) : Type 0 where
  pub size : length cs ≡ count
  pub ended : IsEnded g order
  pub within : (k : ℕ) → Has order k → k < count
  pub below : length order ≤ now
  pub each : Each (λ m. Follows g cs order m × (m.component ≡ now)) found
  pub lowest : (k n : ℕ) → component_at cs k ≡ Some n → now ≤ n
  pub rest : (k : ℕ) → k < count → IsIn cs k ⊎ Has order k
  pub joined : (a b n : ℕ) → component_at cs a ≡ Some n → component_at cs b ≡ Some n → Leads g a b
  pub falls : (a b m : ℕ) → Has (g a) b → component_at cs b ≡ Some m →
      ((n : ℕ) × (component_at cs a ≡ Some n) × (m ≤ n)) ⊎ ((m ≤ now) × Waits found a)

-- the search so far
pub record IsJoined (g : Graph) (count : ℕ) (s : Joined) : Type 0 where
  pub found : List CircleMember
  pub order : List ℕ
  pub now : ℕ
  pub is : s.waiting ≡ found ++ owns order
  pub joining : IsJoining g count s.of found order now

-- the number is in no component yet
abbrev pub is_none : Option ℕ → Bool
is_none None = true
is_none (Some n) = false

-- the numbers that wait, and the links of those that are in no component yet
abbrev pub left_to_join : Graph → Joined → ℕ
left_to_join back s = length s.waiting + open_work is_none (λ k. length (back k)) s.of
