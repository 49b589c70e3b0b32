-- How a search that is kept lies in its parts.
use Rattle.sat_solver.specs.KeptRecord.{KeptValue}
use Rattle.sat_solver.specs.LearnedClauses.{IsSearch}
use Rattle.sat_solver.specs.declared.kept.Kept.TheInside.{Inside}

-- what contracts see of its parts
abbrev pub kept_of : Inside → KeptValue
kept_of k = record { failed = k.failed; vars = k.store.vars; clauses = k.store.clauses; marks = k.marks.items }

-- its parts are those of a search between two questions
abbrev pub IsSound : Inside → Type 0
IsSound k = IsSearch k.failed k.store k.marks.items k.trail
