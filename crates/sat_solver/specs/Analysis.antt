-- How a false clause is analysed. Lists of entries here have the newest first.
use Rattle.std.specs.Prelude.{◌≤◌, ◌-◌, ◌||◌, ◌&&◌, ◌==◌, not, ℕ, Bool, true, false, List, [], ◌∷◌, ◌++◌, Option, Some, None, if◌then◌else◌}
use Rattle.std.specs.Prelude.{replicate, length, fold, slice_set, slice_index_or}
use Rattle.sat_clauses.specs.Literal.{Literal, opposite}
use Rattle.sat_solver.specs.declared.trail.TrailEntry.{TrailEntry}
use Rattle.sat_solver.specs.declared.trail.Reason.{Reason}
use Rattle.sat_solver.specs.declared.trail.Reason.TheVariants.{Assumed, Chosen, Implied}
use Rattle.sat_solver.specs.AnalysisRecord.{AnalysisValue}

-- the variables of a clause are marked too
abbrev pub marked : List Bool → List Literal → List Bool
marked marks c = fold (λ m l. slice_set m l.var true) marks c

-- the clause of this number, from 1
abbrev pub numbered : List (List Literal) → ℕ → List Literal
numbered clauses number = slice_index_or clauses (number - 1) []

-- one of so many clauses has this number
pub record NamesOne (count : ℕ) (number : ℕ) : Type 0 where
  pub positive : 1 ≤ number
  pub within : number ≤ count

-- a reason that is a clause has the number of one of so many
abbrev pub IsWithin : ℕ → Reason → Type 0
IsWithin count (Implied number) = NamesOne count number
IsWithin count (Assumed first) = Unit {0}
IsWithin count Chosen = Unit {0}

-- the literal was made true by no clause
abbrev pub is_decision : Reason → Bool
is_decision (Assumed count) = true
is_decision Chosen = true
is_decision (Implied number) = false

-- the first of these that is a decision or marked is an unmarked decision
abbrev pub is_alone : List Bool → List TrailEntry → Bool
is_alone marks [] = false
is_alone marks (e ∷ es) =
    if slice_index_or marks e.lit.var false
    then false
    else (if is_decision e.reason then true else is_alone marks es)

-- the clause by which an entry is resolved, if it is
abbrev pub resolver : Reason → Bool → Option ℕ
resolver (Implied number) true = Some number
resolver _ _ = None

-- a marked entry over es may be resolved
abbrev pub may_resolve : Bool → AnalysisValue → List TrailEntry → Bool
may_resolve fully s es = fully || (length s.lits == 0 && not (is_alone s.marks es))

-- a marked entry: the clause of this number marks its variables too, or the negation joins the learned clause
abbrev pub visited_by : List (List Literal) → AnalysisValue → TrailEntry → ℕ → Option ℕ → AnalysisValue
visited_by clauses s e place (Some number) =
    record s { marks = marked s.marks (numbered clauses number); used = s.used ++ number ∷ [] }
visited_by clauses s e place None =
    record s { lits = s.lits ++ opposite e.lit ∷ []; target = if length s.lits == 0 then place else s.target }

-- while the clause has one literal, the search may go back further
abbrev pub passed : AnalysisValue → TrailEntry → ℕ → AnalysisValue
passed s e place = record s { target = if length s.lits == 1 && is_decision e.reason then place else s.target }

-- an entry whose variable is marked is resolved by its reason, or its negation joins the clause
abbrev pub visited : List (List Literal) → Bool → AnalysisValue → TrailEntry → List TrailEntry → AnalysisValue
visited clauses fully s e es =
    if slice_index_or s.marks e.lit.var false
    then visited_by clauses s e (length es) (resolver e.reason (may_resolve fully s es))
    else passed s e (length es)

-- once all of these entries were visited, from the newest on
abbrev pub analysed : List (List Literal) → Bool → AnalysisValue → List TrailEntry → AnalysisValue
analysed clauses fully s [] = s
analysed clauses fully s (e ∷ es) = analysed clauses fully (visited clauses fully s e es) es

-- the false clause's variables are marked
abbrev pub begun : ℕ → List (List Literal) → ℕ → AnalysisValue
begun n clauses conflict = record {
  marks = marked (replicate n false) (numbered clauses conflict);
  lits = [];
  used = conflict ∷ [];
  target = 0;
}
