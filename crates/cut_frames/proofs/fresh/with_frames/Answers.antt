use Rattle.std.proofs.Common.{◌≡◌, ℕ, suc, [], List, subst, arith}
use Rattle.std.proofs.lemmas.Grind.{common_steps}
use Rattle.sat_clauses.specs.Literal.{Literal}
use Rattle.cut_frames.specs.OwnVariables.{IsKept, apart_system, apart_list}
use Rattle.cut_frames.specs.GuardedSearch.{places_of}
use Rattle.cut_frames.specs.Levels.{frames_from}
use Rattle.cut_frames.proofs.FreshLaws.{empty_more}
use Rattle.cut_frames.proofs.fresh.with_frames.Goals as goal

pub loop-preserved : goal.loop-preserved
loop-preserved g c =
    subst (λ (fs : List (List (List Literal))). IsKept c.args.system.now c.args.bad.now fs c.grow.new.self) (empty_more c.loop.counter)
    (c.in_ok-grow.ensures (apart_system c.args.system.now) (apart_list (places_of c.args.system.now) c.args.bad.now) (frames_from 0 (suc c.loop.counter) []) c.loop.invariant)

pub returns : goal.returns
returns g c =
    let all : c.loop.counter ≡ c.args.last = grind (arith, common_steps) in
    subst (λ (n : ℕ). IsKept c.args.system.now c.args.bad.now (frames_from 0 (suc n) []) c.loop.kept) all c.loop.invariant
