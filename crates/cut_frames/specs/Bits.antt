-- Literals of the bits of a state, and reading a state from values.
use Rattle.std.specs.Prelude.{ℕ, zero, suc, ◌+◌, ◌-◌, Bool, not, List, [], ◌∷◌, ◌++◌, map}
use Rattle.sat_clauses.specs.Literal.{Literal, opposite}
use Rattle.sat_clauses.specs.Assignment.{Assignment}
pub use Rattle.sat_clauses.specs.States.{moved_on}
use Rattle.cut_frames.specs.Chain.{State}
use Rattle.sat_clauses.specs.Models.{values_of}

-- the literal of a variable that is true where it has the value
abbrev pub literal_for : ℕ → Bool → Literal
literal_for n b = record { var = n; negated = not b }

-- the literals that say that the variables from n on have the state's values
abbrev pub literals_from : ℕ → State → List Literal
literals_from n [] = []
literals_from n (b ∷ bs) = literal_for n b ∷ literals_from (n + 1) bs

-- the values of the variables from n on, so many of them
abbrev pub read_from : ℕ → ℕ → Assignment → State
read_from n zero a = []
read_from n (suc k) a = values_of a n ∷ read_from (n + 1) k a

-- the literal of a variable so many places further back
abbrev pub moved_back : ℕ → Literal → Literal
moved_back bits l = record { var = l.var - bits; negated = l.negated }

-- a clause, and one over state bits next put back to state bits now
abbrev pub joined : ℕ → List Literal → List Literal → List Literal
joined bits c next = c ++ map (moved_back bits) next

-- the literals of a clause turned round, over state bits next
abbrev pub against_next : ℕ → List Literal → List Literal
against_next bits c = map (λ l. moved_on bits (opposite l)) c
