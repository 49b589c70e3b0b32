use Rattle.std.proofs.Common.{◌≡◌, ◌<◌, length, None, refl, subst, arith}
use Rattle.std.specs.Prelude.{slice_index_or}
use Rattle.sat_solver.specs.TrailRecord.{TrailValue}
use Rattle.sat_solver.proofs.trail.Trail.first_free.Goals as goal

pub invariant_of-self : goal.invariant_of-self
invariant_of-self c =
    let found = c.in-Some.ensures.some c.in-Some.var refl in
    record {
      positive = omega (arith, found.0);
      within = omega (arith, found.1);
      taken = c.in-Some.ensures.least c.in-Some.var refl;
    }

pub returns-in-Some-clause-some : goal.returns-in-Some-clause-some
returns-in-Some-clause-some c = λ x is. subst (λ (t : TrailValue). (0 < x) × (x < length t.values) × (slice_index_or t.values x None ≡ None)) c.self.view_is (c.in-Some.ensures.some x is)
