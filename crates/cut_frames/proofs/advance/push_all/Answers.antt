use Rattle.std.proofs.Common.{◌≡◌, ℕ, ◌<◌, ◌≤◌, sym, subst, arith}
use Rattle.cut_frames.proofs.PushLemmas.{tightened_pushed, levels_more}
use Rattle.cut_frames.proofs.RaiseLaws.{tightened_twice}
use Rattle.cut_frames.proofs.advance.push_all.Goals as goal

pub returns-in_err-push_frame-clause-tightened : goal.returns-in_err-push_frame-clause-tightened
returns-in_err-push_frame-clause-tightened g c = tightened_twice c.args.problem.system.now c.args.frames.now c.frames.frames c.push_frame.new.frames c.frames.invariant.tightened (tightened_pushed c.args.problem.system.now c.frames.frames c.push_frame.new.frames c.frames.i c.push_frame.ensures.frames)

pub push_frame-requires-clause-frame : goal.push_frame-requires-clause-frame
push_frame-requires-clause-frame g c = record {
  problem = c.requires.problem;
  framed = c.frames.invariant.tightened.framed;
  some = grind arith;
  next = subst (λ (n : ℕ). c.frames.i < n) (sym c.frames.invariant.tightened.last) c.frames-test.true;
}

pub push_frame-requires-clause-kept : goal.push_frame-requires-clause-kept
push_frame-requires-clause-kept g c = c.frames.invariant.kept

pub frames-preserved : goal.frames-preserved
frames-preserved g c =
    record {
      tightened = tightened_twice c.args.problem.system.now c.args.frames.now c.frames.frames c.push_frame.new.frames c.frames.invariant.tightened (tightened_pushed c.args.problem.system.now c.frames.frames c.push_frame.new.frames c.frames.i c.push_frame.ensures.frames);
      pushed = levels_more c.args.problem.system.now c.frames.frames c.push_frame.new.frames c.frames.i c.push_frame.ensures.frames.moved c.frames.invariant.pushed c.in_ok-push_frame.ensures.pushed;
      seen = c.in_ok-push_frame.ensures.seen;
      kept = c.in_ok-push_frame.ensures.kept;
    }

pub returns-clause-pushed : goal.returns-clause-pushed
returns-clause-pushed g c = λ j some lt. c.frames.invariant.pushed j some (less j c.frames.frames.last c.args.frames.now.last c.frames.i c.frames.invariant.tightened.last lt c.frames-test.false)
  where
    less : (j n m i : ℕ) → n ≡ m → j < n → m ≤ i → j < i
    less j n m i e lt le = omega (arith, e, lt, le)

pub returns-clause-kept : goal.returns-clause-kept
returns-clause-kept g c = c.frames.invariant.kept

pub push_frame-requires-clause-seen : goal.push_frame-requires-clause-seen
push_frame-requires-clause-seen g c = c.frames.invariant.seen

pub returns-clause-seen : goal.returns-clause-seen
returns-clause-seen g c = c.frames.invariant.seen
