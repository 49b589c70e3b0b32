use Rattle.std.proofs.Common.{◌≡◌, ℕ, Option, Some, None, length, refl, subst}
use Rattle.sat_clauses.specs.Assignment.{Assignment}
use Rattle.sat_solver.specs.Complete.{WouldHoldBetween}
use Rattle.sat_solver.proofs.CompleteLemmas.{between_all}
use Rattle.sat_solver.proofs.complete.would_hold.Goals as goal

no_place : (o : Option ℕ) → ((at : ℕ) → o ≡ Some at → ⊥) → o ≡ None
no_place None never = refl
no_place (Some at) never = absurd (never at refl)

pub returns-in-None-clause-hold : goal.returns-in-None-clause-hold
returns-in-None-clause-hold g c sure =
    let clauses = (g.S.Store.held c.args.clauses.now).clauses in
    between_all c.args.trail.now.values clauses c.min-from.result
    (subst (λ (a : Assignment). WouldHoldBetween a clauses c.min-from.result (length clauses)) c.assign.ensures
    (subst (λ n. WouldHoldBetween c.assign.result.now clauses c.min-from.result n) c.len-count.ensures (c.first_open.ensures (no_place c.first_open.result c.in_default.not-Some))))
    (subst (λ (a : Assignment). WouldHoldBetween a clauses 0 c.min-from.result) c.assign-2.ensures (c.first_open-2.ensures c.in-None.is))
