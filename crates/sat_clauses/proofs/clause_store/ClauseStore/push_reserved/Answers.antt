use Rattle.std.proofs.Common.{arith}
use Rattle.sat_clauses.proofs.DeriveStoreLemmas.{spans_push}
use Rattle.sat_clauses.proofs.clause_store.ClauseStore.push_reserved.Goals as goal

pub returns-clause-clauses : goal.returns-clause-clauses
returns-clause-clauses c = grind (arith, spans_push)
