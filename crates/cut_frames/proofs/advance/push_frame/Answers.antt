use Rattle.std.proofs.Common.{◌≡◌, sym, ℕ, ◌<◌, All, List, arith, subst, length}
use Rattle.std.proofs.lemmas.Grind.{common_steps}
use Rattle.sat_clauses.specs.Literal.{Literal}
use Rattle.cut_frames.specs.Levels.{frames_of}
use Rattle.cut_frames.specs.FrameLists.{frame_at}
use Rattle.cut_frames.specs.KnownSteps.{IsShown}
use Rattle.cut_frames.proofs.PushLemmas.{moved_more, places_more}
use Rattle.cut_frames.proofs.ShownLaws.{frame_stays, all_seen}
use Rattle.cut_frames.proofs.advance.push_frame.Goals as goal

pub clauses-preserved : goal.clauses-preserved
clauses-preserved g c =
    let inv = c.clauses.invariant in
    record {
      frames = record {
        framed = c.push_clause.ensures.frames.framed;
        moved = moved_more c.args.problem.system.now c.args.frames.now c.clauses.frames c.push_clause.new.frames c.args.i inv.frames.moved c.push_clause.ensures.frames.moved;
      };
      pushed = places_more c.args.problem.system.now c.clauses.frames c.push_clause.new.frames c.args.i c.clauses.k c.push_clause.ensures.frames.moved inv.pushed c.in_ok-push_clause.ensures.pushed;
      seen = subst (λ (frame : List (List Literal)). All (IsShown c.args.problem.system.now frame c.args.i) c.push_clause.new.seen.items)
          (frame_stays c.args.problem.system.now c.args.frames.now c.clauses.frames c.args.i inv.frames.moved) c.in_ok-push_clause.ensures.seen;
      kept = c.in_ok-push_clause.ensures.kept;
    }

pub returns-in_err-push_clause-clause-frames : goal.returns-in_err-push_clause-clause-frames
returns-in_err-push_clause-clause-frames g c = record {
  framed = c.push_clause.ensures.frames.framed;
  moved = moved_more c.args.problem.system.now c.args.frames.now c.clauses.frames c.push_clause.new.frames c.args.i c.clauses.invariant.frames.moved c.push_clause.ensures.frames.moved;
}

pub push_clause-requires-clause-frame : goal.push_clause-requires-clause-frame
push_clause-requires-clause-frame g c = record {
  problem = c.requires.frame.problem;
  framed = c.clauses.invariant.frames.framed;
  some = c.requires.frame.some;
  next = subst (λ (n : ℕ). c.args.i < n) (sym c.clauses.invariant.frames.moved.last) c.requires.frame.next;
}

pub push_clause-requires-clause-place : goal.push_clause-requires-clause-place
push_clause-requires-clause-place g c =
    let inside : c.clauses.k < length c.args.frames.now.held.items = grind (arith, common_steps) in
    subst (λ (n : ℕ). c.clauses.k < n) (sym c.clauses.invariant.frames.moved.count) inside

pub push_clause-requires-clause-seen : goal.push_clause-requires-clause-seen
push_clause-requires-clause-seen g c =
    let inv = c.clauses.invariant in
    subst (λ (frame : List (List Literal)). All (IsShown c.args.problem.system.now frame c.args.i) c.clauses.seen.items)
    (sym (frame_stays c.args.problem.system.now c.args.frames.now c.clauses.frames c.args.i inv.frames.moved)) inv.seen

pub returns-clause-seen : goal.returns-clause-seen
returns-clause-seen g c = all_seen c.args.problem.system.now (frame_at (frames_of c.args.frames.now) c.args.i) c.args.i c.clauses.seen.items c.clauses.invariant.seen

pub push_clause-requires-clause-kept : goal.push_clause-requires-clause-kept
push_clause-requires-clause-kept g c = c.clauses.invariant.kept

pub returns-clause-pushed : goal.returns-clause-pushed
returns-clause-pushed g c =
    let over : (k : ℕ) → k < length c.args.frames.now.held.items → k < c.clauses.k = λ k lt. let count : c.len-count.result ≡ length c.args.frames.now.held.items = grind (arith, common_steps) in omega (arith, lt, count, c.clauses-test.false) in
    λ k lt. c.clauses.invariant.pushed k (over k (subst (λ (n : ℕ). k < n) c.clauses.invariant.frames.moved.count lt))

pub returns-clause-frames : goal.returns-clause-frames
returns-clause-frames g c = c.clauses.invariant.frames

pub returns-clause-kept : goal.returns-clause-kept
returns-clause-kept g c = c.clauses.invariant.kept
