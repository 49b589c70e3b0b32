use Rattle.std.proofs.Common.{◌∙◌}
use Rattle.cut_frames.proofs.RaiseLaws.{tightened_twice}
use Rattle.cut_frames.proofs.raise.raise_all.Goals as goal

pub loop-preserved : goal.loop-preserved
loop-preserved g c = record {
  tightened = tightened_twice c.args.problem.system.now c.args.frames.now c.loop.frames c.raise_one.new.frames c.loop.invariant.tightened c.raise_one.ensures.tightened;
  same = c.raise_one.ensures.same ∙ c.loop.invariant.same;
  kept = c.in_ok-raise_one.ensures.kept;
}

pub returns-in_err-raise_one-clause-tightened : goal.returns-in_err-raise_one-clause-tightened
returns-in_err-raise_one-clause-tightened g c =
    tightened_twice c.args.problem.system.now c.args.frames.now c.loop.frames c.raise_one.new.frames c.loop.invariant.tightened c.raise_one.ensures.tightened
