use Rattle.std.proofs.Common.{◌≡◌, All, sym, ap, ◌∙◌, subst}
use Rattle.sat_clauses.specs.Assignment.{Assignment, IsInRange}
use Rattle.sat_solver.specs.TrailRecord.{TrailValue}
use Rattle.sat_solver.specs.ClauseFindings.{IsUseful}
use Rattle.sat_solver.proofs.propagate.propagate.Goals as goal

pub try_clause-found-requires : goal.try_clause-found-requires
try_clause-found-requires g c =
    let is : c.assign.result.now ≡ c.args.trail.now.values = c.assign.ensures ∙ ap (λ (t : TrailValue). t.values) (c.next_due-number.ensures ∙ c.loop.invariant) in
    subst (λ (a : Assignment). All (All (IsInRange a)) (g.S.Store.held c.args.store.now).clauses) (sym is) c.requires

pub returns-in_default : goal.returns-in_default
returns-in_default g c =
    let is : c.assign.result.now ≡ c.args.trail.now.values = c.assign.ensures ∙ ap (λ (t : TrailValue). t.values) (c.next_due-number.ensures ∙ c.loop.invariant) in
    record {
      same = c.next_due-number.ensures ∙ c.loop.invariant;
      found = subst (λ (a : Assignment). IsUseful (g.S.Store.held c.args.store.now).clauses a c.try_clause-found.result) is c.try_clause-found.ensures;
    }

pub returns-clause-same : goal.returns-clause-same
returns-clause-same g c = c.loop.invariant
