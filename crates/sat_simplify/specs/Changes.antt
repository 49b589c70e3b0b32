-- Changes of slots: a function of what a slot has, at each of a list of places.
use Rattle.std.specs.Prelude.{ℕ, Bool, false, if◌then◌else◌, List, [], ◌∷◌, ◌++◌, Some, None, slice_index_or, slice_set, fold, map}
use Rattle.std.specs.List.{flat_map}
use Rattle.sat_clauses.specs.Literal.{Literal, opposite}
use Rattle.sat_clauses.specs.Code.{code_of}
use Rattle.sat_simplify.specs.Slots.{Slot}
use Rattle.sat_simplify.specs.OccurrenceLists.{noted_at}
use Rattle.sat_simplify.specs.Resolution.{has_literal, without, each_once, subsumes}
use Rattle.sat_simplify.specs.Elimination.{unless_tautology, resolvents}

-- what the slot of a place has
abbrev pub slot_at : List Slot → ℕ → Slot
slot_at slots i = slice_index_or slots i None

-- the slot of one place is changed
abbrev pub changed_at : (Slot → Slot) → List Slot → ℕ → List Slot
changed_at f slots i = slice_set slots i (f (slot_at slots i))

-- the slots of these places are changed in turn
abbrev pub changed : (Slot → Slot) → List Slot → List ℕ → List Slot
changed f slots at = fold (changed_at f) slots at

-- the slot has a clause with the literal
abbrev pub slot_has : Literal → Slot → Bool
slot_has l None = false
slot_has l (Some c) = has_literal l c

-- a clause with the literal is taken out
abbrev pub dropped : Literal → Slot → Slot
dropped l None = None
dropped l (Some c) = if has_literal l c then None else Some c

-- the literal is taken out of a clause
abbrev pub shrunk : Literal → Slot → Slot
shrunk l None = None
shrunk l (Some c) = if has_literal l c then Some (each_once (without l c)) else Some c

-- a clause that another one subsumes is taken out
abbrev pub covered : List Literal → Slot → Slot
covered c None = None
covered c (Some d) = if subsumes c d then None else Some d

-- the slot has a clause that another one subsumes
abbrev pub slot_covered : List Literal → Slot → Bool
slot_covered c None = false
slot_covered c (Some d) = subsumes c d

-- the clause, if it has the literal
abbrev pub picked : Literal → Slot → List (List Literal)
picked l None = []
picked l (Some c) = if has_literal l c then c ∷ [] else []

-- those clauses of these places that have the literal
abbrev pub gathered : Literal → List Slot → List ℕ → List (List Literal)
gathered l slots at = flat_map (λ i. picked l (slot_at slots i)) at

-- all clauses of a literal and of its opposite are taken out
abbrev pub taken_out : List (List ℕ) → Literal → List Slot → List Slot
taken_out occurrences l slots =
    changed (dropped (opposite l)) (changed (dropped l) slots (noted_at occurrences (code_of l)))
    (noted_at occurrences (code_of (opposite l)))

-- the resolvents of the clauses of a literal with those of its opposite
abbrev pub resolvents_in : List (List ℕ) → Literal → List Slot → List (List Literal)
resolvents_in occurrences l slots =
    resolvents l (gathered l slots (noted_at occurrences (code_of l)))
    (gathered (opposite l) slots (noted_at occurrences (code_of (opposite l))))

-- the resolvents stand in the place of all clauses of a literal and of its opposite
abbrev pub eliminated : List (List ℕ) → Literal → List Slot → List Slot
eliminated occurrences l slots = taken_out occurrences l slots ++ map Some (resolvents_in occurrences l slots)

-- a literal is true: its clauses go, its opposite goes out of clauses, and it stands as a clause of its own
abbrev pub assigned : List (List ℕ) → Literal → List Slot → List Slot
assigned occurrences l slots =
    changed (shrunk (opposite l)) (changed (dropped l) slots (noted_at occurrences (code_of l)))
    (noted_at occurrences (code_of (opposite l))) ++ Some (l ∷ []) ∷ []

-- what the clause subsumes among the clauses of a literal is taken out, itself too, and the clause stands at the end
abbrev pub covered_by : List (List ℕ) → Literal → List Literal → List Slot → List Slot
covered_by occurrences l c slots = changed (covered c) slots (noted_at occurrences (code_of l)) ++ Some c ∷ []

-- the clauses of a list, each literal once, but for tautologies
abbrev pub entered : List (List Literal) → List (List Literal)
entered list = flat_map (λ c. unless_tautology (each_once c)) list
