-- What a circuit means: what is built onto it keeps every assignment of its variables, and gives
-- literals whose values follow from the values of the literals that it was built from.
use Rattle.std.specs.Prelude.{◌≡◌, ℕ, ◌≤◌, Bool, true, List, ◌++◌}
use Rattle.std.specs.List.{AllByRecursion}
use Rattle.sat_clauses.specs.Literal.{Literal}
use Rattle.sat_clauses.specs.Models.{TotalAssignment, literal_value, Satisfies, SameBelow, IsBelow, ClausesBelow}
use Rattle.sat_circuits.specs.Circuit.{Circuit}

-- each literal's variable is below n
abbrev pub AllBelow : ℕ → List Literal → Type 0
AllBelow n w = AllByRecursion (IsBelow n) w

-- the first list begins with the second
pub record BeginsWith (cs old : List (List Literal)) : Type 0 where
  pub more : List (List Literal)
  pub same : cs ≡ old ++ more

-- new is old with more clauses and variables, and whatever values the old variables have, the new ones can be chosen
-- so that the new clauses are true
pub record Extends (old new : Circuit) : Type 0 where
  pub begins : BeginsWith new.clauses old.clauses
  pub counted : old.free ≤ new.free
  pub below : ClausesBelow new.free begins.more
  pub extends : (v : TotalAssignment) → (w : TotalAssignment) × SameBelow old.free v w × Satisfies w begins.more

-- r was built onto s: S holds of what it gave in the circuit that it left, and P of what it gave in each model of its clauses
pub record Means {A : Type 0} (s : Circuit) (r : Circuit × A) (S : Circuit → A → Type 0) (P : TotalAssignment → A → Type 0) : Type 0 where
  pub extends : Extends s r.0
  pub shape : S r.0 r.1
  pub means : (v : TotalAssignment) → Satisfies v r.0.clauses → P v r.1

-- l was built onto old, and has the value f in each model of the clauses
abbrev pub GivesBool : Circuit → Circuit → Literal → (TotalAssignment → Bool) → Type 0
GivesBool old new l f = Means old (new, l) (λ s x. IsBelow s.free x) (λ v x. literal_value v x ≡ f v)

-- the clauses make the variable 1 true, so that it and its negation are the constants
abbrev pub HasTruth : Circuit → Type 0
HasTruth s = (v : TotalAssignment) → Satisfies v s.clauses → v 1 ≡ true

-- for want of memory the call stopped among its own clauses: new has the old ones, and then some of the full ones
pub record StopsWithin (old new full : Circuit) : Type 0 where
  pub begins : BeginsWith new.clauses old.clauses
  pub within : BeginsWith full.clauses new.clauses
