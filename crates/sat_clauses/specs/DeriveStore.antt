-- How a store of clauses lies in two lists.
use Rattle.std.specs.Prelude.{◌+◌, ◌≤◌, List, All, length, map, slice_range, vec_len, vec_capacity}
use Rattle.sat_clauses.specs.Literal.{Literal}
use Rattle.sat_clauses.specs.DeriveStoreRecord.{Store}
use Rattle.sat_clauses.specs.declared.clause_store.LiteralSpan.{LiteralSpan}
use Rattle.sat_clauses.specs.declared.clause_store.ClauseStore.TheInside.{Inside}

-- the literals from one end of the span to the other
abbrev pub spanned : List Literal → LiteralSpan → List Literal
spanned lits span = slice_range lits span.start span.end

-- the span begins no later than it ends, within the list
abbrev pub LiesIn : List Literal → LiteralSpan → Type 0
LiesIn lits span = (span.start ≤ span.end) × (span.end ≤ length lits)

-- the clauses are what the spans cut out of the one list of literals
abbrev pub store_of : Inside → Store
store_of s = record {
  clauses = map (spanned s.lits.items) s.spans.items;
  spare_clauses = s.spare_clauses;
  spare_lits = s.spare_lits;
}

-- each span lies in the list, and both lists have the memory for the room that is left
pub record IsSound (s : Inside) : Type 0 where
  pub spans_lie : All (LiesIn s.lits.items) s.spans.items
  pub room_for_clauses : vec_len s.spans + s.spare_clauses ≤ vec_capacity s.spans
  pub room_for_lits : vec_len s.lits + s.spare_lits ≤ vec_capacity s.lits
