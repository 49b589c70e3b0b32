-- Literals up to a variable, and what the values of an answer make true.
use Rattle.std.proofs.Common.{◌≡◌, Bool, true, false, List, Option, Some, None}
use Rattle.std.specs.Prelude.{slice_index_or, Any, unwrap_or}
use Rattle.std.specs.Option.{option_map}
use Rattle.std.proofs.lemmas.Option.{none-some}
use Rattle.sat_clauses.specs.Literal.{Literal, signed}
use Rattle.sat_clauses.specs.Assignment.{Assignment, value_of}
use Rattle.sat_clauses.specs.Models.{literal_value, clause_value, values_of}
use Rattle.sat_simplify.proofs.ClauseLaws.{true_by}

-- a literal that is true has a value that makes it true
pub true_value : (a : Assignment) (l : Literal) → value_of a l ≡ Some true → literal_value (values_of a) l ≡ true
true_value a l e = by_place (slice_index_or a l.var None) e where
  by_place : (o : Option Bool) → option_map (signed l.negated) o ≡ Some true → signed l.negated (unwrap_or o false) ≡ true
  by_place None e = absurd (none-some true e)
  by_place (Some b) e = same e where
    same : Some (signed l.negated b) ≡ Some true → signed l.negated b ≡ true
    same e = cc

pub true_clause : (a : Assignment) (c : List Literal) → Any (λ l. value_of a l ≡ Some true) c → clause_value (values_of a) c ≡ true
true_clause a c w = true_by (values_of a) c w.1 (w.0, w.2, w.3) (true_value a w.1 w.4)
