use Rattle.std.proofs.Common.{◌≡◌, ◌-◌, refl, sym, subst, arith, length, List}
use Rattle.std.proofs.lemmas.Grind.{common_steps}
use Rattle.sat_clauses.specs.Literal.{Literal}
use Rattle.cut_frames.specs.OwnVariables.{IsKept, apart_system, apart_list}
use Rattle.cut_frames.specs.Levels.{frames_of}
use Rattle.cut_frames.specs.GuardedSearch.{places_of}
use Rattle.cut_frames.proofs.LevelLaws.{frames_more, grown_last}
use Rattle.cut_frames.proofs.advance.grow.Goals as goal

pub returns-clause-ok : goal.returns-clause-ok
returns-clause-ok g c =
    let last : c.saturating_sub-frames.result ≡ length c.grow.new.self.frames.items - 1 = grind (arith, common_steps) in
    grown_last c.args.frames.now (length c.grow.new.self.frames.items) c.saturating_sub-frames.result (c.in_ok-grow.ensures (apart_system c.args.problem.system.now) (apart_list (places_of c.args.problem.system.now) c.args.problem.bad.now) (frames_of c.args.frames.now) c.requires.kept).count last

pub returns-clause-kept : goal.returns-clause-kept
returns-clause-kept g c =
    let last : c.saturating_sub-frames.result ≡ length c.grow.new.self.frames.items - 1 = grind (arith, common_steps) in
    let held = c.in_ok-grow.ensures (apart_system c.args.problem.system.now) (apart_list (places_of c.args.problem.system.now) c.args.problem.bad.now) (frames_of c.args.frames.now) c.requires.kept in
    subst (λ (fs : List (List (List Literal))). IsKept c.args.problem.system.now c.args.problem.bad.now fs c.grow.new.self)
    (sym (frames_more c.args.frames.now (record { held = c.args.frames.now.held; last = c.saturating_sub-frames.result }) refl (grown_last c.args.frames.now (length c.grow.new.self.frames.items) c.saturating_sub-frames.result held.count last) c.requires.framed.numbers)) held
