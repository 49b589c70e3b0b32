-- What holds of a clause base, and what its changes keep.
use Rattle.std.specs.Prelude.{◌≡◌, ℕ, List, [], ◌∷◌, ◌++◌, Some, map}
use Rattle.sat_clauses.specs.Literal.{Literal}
use Rattle.sat_simplify.specs.Slots.{AreNoted, IsSimpler}
use Rattle.sat_simplify.specs.Changes.{taken_out, assigned, covered_by, entered}
use Rattle.sat_simplify.specs.declared.base.Base.{Base}

-- each clause that stands is noted at each of its literals
abbrev pub IsSound : Base → Type 0
IsSound b = AreNoted b.occurrences b.slots.items

-- the base says the same of the places, with no other variables
pub record Becomes (old new : Base) : Type 0 where
  pub sound : IsSound new
  pub places : new.places ≡ old.places
  pub simpler : IsSimpler old.places old.slots.items new.slots.items

-- a clause stands at the end
pub record Adds (old new : Base) (c : List Literal) : Type 0 where
  pub sound : IsSound new
  pub places : new.places ≡ old.places
  pub slots : new.slots.items ≡ old.slots.items ++ Some c ∷ []

-- clauses stand at the end
pub record AddsAll (old new : Base) (cs : List (List Literal)) : Type 0 where
  pub sound : IsSound new
  pub places : new.places ≡ old.places
  pub slots : new.slots.items ≡ old.slots.items ++ map Some cs

-- all clauses of a literal and of its opposite are gone
pub record TakesOut (old new : Base) (l : Literal) : Type 0 where
  pub sound : IsSound new
  pub places : new.places ≡ old.places
  pub slots : new.slots.items ≡ taken_out old.occurrences l old.slots.items

-- a literal is true
pub record Assigns (old new : Base) (l : Literal) : Type 0 where
  pub sound : IsSound new
  pub places : new.places ≡ old.places
  pub slots : new.slots.items ≡ assigned old.occurrences l old.slots.items

-- the base has the clauses of a list
pub record IsEntered (last : ℕ) (list : List (List Literal)) (b : Base) : Type 0 where
  pub sound : IsSound b
  pub places : b.places ≡ last
  pub slots : b.slots.items ≡ map Some (entered list)

-- what a clause subsumes among those of a literal is gone
pub record Covers (old new : Base) (l : Literal) (c : List Literal) : Type 0 where
  pub sound : IsSound new
  pub places : new.places ≡ old.places
  pub slots : new.slots.items ≡ covered_by old.occurrences l c old.slots.items
