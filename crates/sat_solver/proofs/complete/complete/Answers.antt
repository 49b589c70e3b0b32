use Rattle.std.proofs.Common.{refl, subst, ap, ◌∙◌}
use Rattle.sat_clauses.specs.Assignment.{Assignment}
use Rattle.sat_solver.specs.TrailRecord.{TrailValue}
use Rattle.sat_solver.specs.Complete.{IsFilled}
use Rattle.sat_solver.proofs.CompleteLemmas.{all_true}
use Rattle.sat_solver.proofs.complete.complete.Goals as goal

pub returns-clause-answer : goal.returns-clause-answer
returns-clause-answer g c =
    let clauses = (g.S.Store.held c.args.clauses.now).clauses in
    let filled : IsFilled c.args.trail.now.values c.in_ok-all.all = subst (λ (a : Assignment). IsFilled a c.in_ok-all.all) (c.assign.ensures ∙ ap (λ (t : TrailValue). t.values) c.would_hold.ensures.same) c.in_ok-all.ensures in
    record { filled = filled; all_true = all_true c.args.trail.now.values c.in_ok-all.all filled clauses (c.if-not-would_hold.ensures.hold refl) }
