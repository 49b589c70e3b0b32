use Rattle.std.proofs.Common.{ap, ◌∙◌, subst, All}
use Rattle.sat_clauses.specs.Models.{FollowsFrom}
use Rattle.sat_solver.specs.KeptRecord.{KeptValue}
use Rattle.sat_solver.specs.LearnedClauses.{added_of}
use Rattle.sat_solver.proofs.KeptLemmas.{kept_from_search}
use Rattle.sat_solver.proofs.kept.Kept.count.Goals as goal

pub returns-clause-follow : goal.returns-clause-follow
returns-clause-follow c = λ going.
    let s = c.self.inside.store in
    let ms = c.self.inside.marks.items in
    let old = (kept_from_search c.self.inside.failed s ms c.self.inside.trail c.self.invariant (ap (λ (k : KeptValue). k.failed) c.self.view_is ∙ going)).0 in
    subst (λ (k : KeptValue). All (FollowsFrom (added_of k.clauses k.marks)) k.clauses) c.self.view_is old.follow
