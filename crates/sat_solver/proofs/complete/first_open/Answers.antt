use Rattle.std.proofs.Common.{[], refl}
use Rattle.std.proofs.lemmas.Option.{get_or_from_slice_get}
use Rattle.sat_solver.proofs.CompleteLemmas.{between_more}
use Rattle.sat_solver.proofs.complete.first_open.Goals as goal

pub loop-i-preserved : goal.loop-i-preserved
loop-i-preserved g c =
    let clauses = (g.S.Store.held c.args.clauses.now).clauses in
    between_more c.args.assign.now clauses c.args.from c.loop-i.i c.lits.result.now c.loop-i.invariant
    (get_or_from_slice_get clauses c.loop-i.i c.lits.result.now [] c.lits.ensures) (c.if-not-holds.ensures refl)
