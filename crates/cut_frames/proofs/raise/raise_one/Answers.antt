use Rattle.std.proofs.Common.{◌≤◌, subst, arith}
use Rattle.std.proofs.lemmas.Grind.{common_steps}
use Rattle.cut_frames.specs.Levels.{frames_of}
use Rattle.cut_frames.specs.ClearLooks.{IsStepLook}
use Rattle.cut_frames.proofs.RaiseLaws.{tightened_raised}
use Rattle.cut_frames.proofs.raise.raise_one.Goals as goal

pub returns-in_err-put_back-in-Blocked-clause-tightened : goal.returns-in_err-put_back-in-Blocked-clause-tightened
returns-in_err-put_back-in-Blocked-clause-tightened g c =
    let le : c.args.next.level ≤ c.args.frames.now.last = grind (arith, common_steps) in
    tightened_raised c.args.problem.system.now c.args.frames.now c.block.new.frames c.args.next.level c.args.next.state c.in-Blocked.clause c.requires.framed le
    c.block.ensures.last c.in_ok-block-in-Blocked.ensures.ok (subst (IsStepLook c.args.problem.system.now (frames_of c.args.frames.now) c.args.next.level c.args.next.state) c.in-Blocked.is c.in_ok-look_against.ensures.look)

pub returns-in_ok-put_back-in-Blocked-clause-tightened : goal.returns-in_ok-put_back-in-Blocked-clause-tightened
returns-in_ok-put_back-in-Blocked-clause-tightened g c =
    let le : c.args.next.level ≤ c.args.frames.now.last = grind (arith, common_steps) in
    tightened_raised c.args.problem.system.now c.args.frames.now c.block.new.frames c.args.next.level c.args.next.state c.in-Blocked.clause c.requires.framed le
    c.block.ensures.last c.in_ok-block-in-Blocked.ensures.ok (subst (IsStepLook c.args.problem.system.now (frames_of c.args.frames.now) c.args.next.level c.args.next.state) c.in-Blocked.is c.in_ok-look_against.ensures.look)
