use Rattle.std.proofs.Common.{◌+◌, ◌<◌, ◌^◌, sym, ap, subst, arith}
use Rattle.sat_clauses.specs.StoreRecord.{StoreValue}
use Rattle.sat_solver.specs.Trail.{IsIdle}
use Rattle.sat_solver.specs.LearnedClauses.{IsKept}
use Rattle.sat_solver.proofs.FollowLemmas.{idle_more}
use Rattle.sat_solver.proofs.KeptLemmas.{kept_from_search, kept_more}
use Rattle.sat_solver.proofs.kept.Kept.fresh.Goals as goal

pub invariant_of-self-2 : goal.invariant_of-self-2
invariant_of-self-2 g c =
    let s = c.self.inside.store in
    let ms = c.self.inside.marks.items in
    let old = (kept_from_search c.self.inside.failed s ms c.self.inside.trail c.self.invariant c.if-self.false).0 in
    let idle = (kept_from_search c.self.inside.failed s ms c.self.inside.trail c.self.invariant c.if-self.false).1 in
    let grown = c.in_ok-more.ensures.ok in
    let small : s.vars + 1 < 2 ^ 62 = omega (arith, c.vars-var.ensures.is_store.small, ap (λ (x : StoreValue). x.vars) grown) in (
      subst (λ (x : StoreValue). IsKept x ms) (sym grown) (kept_more s ms small old),
      subst (λ (x : StoreValue). IsIdle x.vars c.more-2.new.self) (sym grown)
          (idle_more s.vars c.self.inside.trail c.more-2.new.self idle c.in_ok-more-2.ensures.values c.in_ok-more-2.ensures.entries c.in_ok-more-2.ensures.followed),
    )
