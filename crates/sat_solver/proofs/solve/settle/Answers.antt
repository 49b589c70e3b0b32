use Rattle.std.proofs.Common.{◌≡◌, Some, sym, ap, ◌∙◌}
use Rattle.sat_clauses.specs.Assignment.{Assignment}
use Rattle.sat_clauses.specs.declared.clause.Truth.TheVariants.{Unit as UnitClause}
use Rattle.sat_clauses.specs.Hints.{truth_at}
use Rattle.sat_solver.proofs.LessonLemmas.{unit_in_range, unit_free}
use Rattle.sat_solver.proofs.solve.settle.Goals as goal

pub push-requires-clause-in_range : goal.push-requires-clause-in_range
push-requires-clause-in_range g c =
    let cs = (g.S.Store.held c.args.store.now).clauses in
    let e : truth_at cs c.args.trail.now.values c.in-Next.number ≡ Some (UnitClause c.in-Next.lit) =
    ap (λ (a : Assignment). truth_at cs a c.in-Next.number) (sym c.assign.ensures) ∙ c.in-Next.ensures in
    unit_in_range cs c.args.trail.now.values c.in-Next.number c.in-Next.lit c.requires.running.sound.in_range e

pub push-requires-clause-free : goal.push-requires-clause-free
push-requires-clause-free g c =
    let cs = (g.S.Store.held c.args.store.now).clauses in
    let e : truth_at cs c.args.trail.now.values c.in-Next.number ≡ Some (UnitClause c.in-Next.lit) =
    ap (λ (a : Assignment). truth_at cs a c.in-Next.number) (sym c.assign.ensures) ∙ c.in-Next.ensures in
    unit_free cs c.args.trail.now.values c.in-Next.number c.in-Next.lit e
