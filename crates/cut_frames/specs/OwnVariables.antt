-- The variables 0 and 1 of a list are its own, as those above the places are: numbered apart from the places, they may be
-- renamed, and two lists that are asked together never share them.
use Rattle.std.specs.Prelude.{ℕ, zero, suc, ◌+◌, ◌≤◌, List, map, nat_le, if◌then◌else◌, IsTrue, All, Contains}
use Rattle.sat_clauses.specs.Literal.{Literal, opposite}
use Rattle.sat_clauses.specs.Assignment.{Assignment}
use Rattle.sat_clauses.specs.Models.{TotalAssignment, literal_value, clause_value, all_true, values_of}
use Rattle.sat_simplify.specs.SamePlaces.{IsMet}
use Rattle.sat_clauses.specs.declared.system.System.{System}
use Rattle.cut_frames.specs.FrameLists.{frame_at}
use Rattle.cut_frames.specs.GuardedSearch.{IsHolding, AreSimple, places_of}
use Rattle.cut_frames.specs.declared.guarded.Beside.{Beside}
use Rattle.cut_frames.specs.declared.guarded.Beside.TheVariants.{Nothing, Step, Bad}
use Rattle.cut_frames.specs.declared.guarded.Guarded.{Guarded}
use Rattle.cut_frames.specs.declared.simple.SimpleLists.{SimpleLists}

-- the number of a variable apart: 0 and 1 stand above the places, and what stood there is two further on
abbrev pub apart : ℕ → ℕ → ℕ
apart places x = if nat_le 2 x then (if nat_le x places then x else x + 2) else x + places + 1

-- the literal, its variable apart
abbrev pub apart_literal : ℕ → Literal → Literal
apart_literal places l = record { var = apart places l.var; negated = l.negated }

-- the clause, its variables apart
abbrev pub apart_clause : ℕ → List Literal → List Literal
apart_clause places c = map (apart_literal places) c

-- the list, its variables apart
abbrev pub apart_list : ℕ → List (List Literal) → List (List Literal)
apart_list places list = map (apart_clause places) list

-- the system with the variables of its lists `first` and `step` apart
abbrev pub apart_system : System → System
apart_system system = record system { first = apart_list (places_of system) system.first; step = apart_list (places_of system) system.step }

-- the literal's variable is one of states and inputs
abbrev pub IsPlace : ℕ → Literal → Type 0
IsPlace places l = (2 ≤ l.var) × (l.var ≤ places)

-- what the frame of a number says of values: that of number 0 is `first`
abbrev pub IsMetFrame : System → List (List (List Literal)) → ℕ → TotalAssignment → Type 0
IsMetFrame system frames zero v = IsMet (places_of system) system.first v
IsMetFrame system frames (suc i) v = IsTrue (all_true v (frame_at frames (suc i)))

-- what is asked beside a frame
abbrev pub IsMetBeside : System → List (List Literal) → Beside → TotalAssignment → Type 0
IsMetBeside system list Nothing v = Unit {0}
IsMetBeside system list Step v = IsMet (places_of system) system.step v
IsMetBeside system list Bad v = IsMet (places_of system) list v

-- the values make the frame, what is asked beside it, and the assumptions true
pub record IsFound (system : System) (list : List (List Literal)) (frames : List (List (List Literal))) (asked : Beside) (i : ℕ)
    (assumptions : List Literal) (a : Assignment) : Type 0 where
  pub frame : IsMetFrame system frames i (values_of a)
  pub beside : IsMetBeside system list asked (values_of a)
  pub assumed : All (λ l. IsTrue (literal_value (values_of a) l)) assumptions

-- the values make what is asked about and the assumptions true, in no frame
pub record IsFoundAlone (system : System) (list : List (List Literal)) (asked : Beside) (assumptions : List Literal) (a : Assignment) : Type 0 where
  pub beside : IsMetBeside system list asked (values_of a)
  pub assumed : All (λ l. IsTrue (literal_value (values_of a) l)) assumptions

-- a clause of negated assumptions that holds where the frame does and what is asked beside it
pub record IsExcluded (system : System) (list : List (List Literal)) (frames : List (List (List Literal))) (asked : Beside) (i : ℕ)
    (assumptions core : List Literal) : Type 0 where
  pub negated : All (λ l. Contains assumptions (opposite l)) core
  pub follows : (v : TotalAssignment) → IsMetFrame system frames i v → IsMetBeside system list asked v → IsTrue (clause_value v core)

-- these lists say what those of the system and these bad states say, with the variables of each list apart
abbrev pub AreSimpleFor : System → List (List Literal) → SimpleLists → Type 0
AreSimpleFor system list simple = AreSimple (apart_system system) (apart_list (places_of system) list) simple

-- the search holds what the lists of the system, these bad states and these frames say, with the variables of each list apart
abbrev pub IsKept : System → List (List Literal) → List (List (List Literal)) → Guarded → Type 0
IsKept system list frames g = IsHolding (apart_system system) (apart_list (places_of system) list) frames g
