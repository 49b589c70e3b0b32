use Rattle.std.proofs.Common.{◌≡◌, Some, subst}
use Rattle.sat_clauses.specs.declared.clause.Truth.TheVariants.{Unit as UnitClause}
use Rattle.sat_clauses.specs.Hints.{truth_at}
use Rattle.sat_solver.specs.ClauseFindings.{IsUseful}
use Rattle.sat_solver.proofs.LessonLemmas.{unit_in_range, unit_free}
use Rattle.sat_solver.proofs.solve.take_step.Goals as goal

pub push-requires-clause-in_range : goal.push-requires-clause-in_range
push-requires-clause-in_range g c =
    let cs = (g.S.Store.held c.args.store.now).clauses in
    let e : truth_at cs c.args.trail.now.values c.in-Next.number ≡ Some (UnitClause c.in-Next.lit) = subst (IsUseful cs c.args.trail.now.values) c.in-Next.is c.requires.found in
    unit_in_range cs c.args.trail.now.values c.in-Next.number c.in-Next.lit c.requires.running.sound.in_range e

pub push-requires-clause-free : goal.push-requires-clause-free
push-requires-clause-free g c =
    let cs = (g.S.Store.held c.args.store.now).clauses in
    let e : truth_at cs c.args.trail.now.values c.in-Next.number ≡ Some (UnitClause c.in-Next.lit) = subst (IsUseful cs c.args.trail.now.values) c.in-Next.is c.requires.found in
    unit_free cs c.args.trail.now.values c.in-Next.number c.in-Next.lit e
