use Rattle.std.proofs.Common.{All}
use Rattle.std.proofs.lemmas.Option.{same_Some}
use Rattle.std.proofs.lemmas.List.Elements.{All-contains}
use Rattle.sat_clauses.specs.Assignment.{IsInRange}
use Rattle.sat_clauses.proofs.FalseLemmas.{All-slice_get}
use Rattle.sat_clauses.proofs.hints.truth_at.Goals as goal

pub returns-clause-unit_in_range : goal.returns-clause-unit_in_range
returns-clause-unit_in_range c = λ l e.
    let a = c.args.assign.now in
    let unit = (c.truth_of_lits.ensures.unit_where l).0 (same_Some _ _ e) in
    All-contains (IsInRange a) c.lits.result.now l (All-slice_get (All (IsInRange a)) _ _ _ c.lits.ensures c.requires) unit.in_clause
