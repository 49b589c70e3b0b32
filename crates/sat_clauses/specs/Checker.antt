-- How a checker lies in its parts.
use Rattle.std.specs.Prelude.{◌≡◌, ◌-◌, All, length}
use Rattle.sat_clauses.specs.Assignment.{all_free, IsInRange}
use Rattle.sat_clauses.specs.Derivation.{Derivation}
use Rattle.sat_clauses.specs.declared.checker.Checker.TheInside.{Inside}

-- what contracts see of the parts: the trail has a place for each variable and for 0
abbrev pub derivation_of : Inside → Derivation
derivation_of c = record {
  vars = length c.trail - 1;
  clauses = c.clauses.clauses;
  spare_clauses = c.clauses.spare_clauses;
  spare_lits = c.clauses.spare_lits;
}

-- between two calls no variable has a value, and each clause is over variables of the trail
pub record IsSound (c : Inside) : Type 0 where
  pub free : c.trail ≡ all_free (length c.trail - 1)
  pub in_range : All (All (IsInRange c.trail)) c.clauses.clauses
