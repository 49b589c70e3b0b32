use Rattle.std.proofs.Common.{◌∙◌}
use Rattle.cut_frames.specs.Levels.{frames_of}
use Rattle.cut_frames.proofs.AdvanceLemmas.{levelled_grown, strengthened_after, is_fixed, is_further, all_pushed}
use Rattle.cut_frames.proofs.LastingLaws.{before_new, lasting_grown, lasting_stronger, taken}
use Rattle.cut_frames.proofs.LevelLaws.{same_length}
use Rattle.cut_frames.proofs.OwedLemmas.{tightened_stays}
use Rattle.cut_frames.proofs.RaiseLaws.{tightened_twice}
use Rattle.cut_frames.proofs.advance.advance_frames.Goals as goal

pub returns-in_err-grow-clause-strengthened : goal.returns-in_err-grow-clause-strengthened
returns-in_err-grow-clause-strengthened g c = let t = tightened_stays c.args.problem.system.now c.args.frames.now c.grow.new.frames c.in_err-grow.ensures.err c.grow.ensures.held c.requires.framed in record { framed = t.framed; stronger = t.stronger }

pub returns-in_err-refill-clause-strengthened : goal.returns-in_err-refill-clause-strengthened
returns-in_err-refill-clause-strengthened g c = strengthened_after c.args.problem.system.now c.args.frames.now c.grow.new.frames c.refill.new.frames c.grow.ensures.held c.in_ok-grow.ensures.ok c.requires.framed c.refill.ensures.tightened

pub returns-in_err-push_all-clause-strengthened : goal.returns-in_err-push_all-clause-strengthened
returns-in_err-push_all-clause-strengthened g c = strengthened_after c.args.problem.system.now c.args.frames.now c.grow.new.frames c.push_all.new.frames c.grow.ensures.held c.in_ok-grow.ensures.ok c.requires.framed (tightened_twice c.args.problem.system.now c.grow.new.frames c.refill.new.frames c.push_all.new.frames c.refill.ensures.tightened c.push_all.ensures.tightened)

pub returns-in_err-found-in-Some-clause-strengthened : goal.returns-in_err-found-in-Some-clause-strengthened
returns-in_err-found-in-Some-clause-strengthened g c = strengthened_after c.args.problem.system.now c.args.frames.now c.grow.new.frames c.push_all.new.frames c.grow.ensures.held c.in_ok-grow.ensures.ok c.requires.framed (tightened_twice c.args.problem.system.now c.grow.new.frames c.refill.new.frames c.push_all.new.frames c.refill.ensures.tightened c.push_all.ensures.tightened)

pub returns-in_err-take-in-Some-clause-strengthened : goal.returns-in_err-take-in-Some-clause-strengthened
returns-in_err-take-in-Some-clause-strengthened g c = strengthened_after c.args.problem.system.now c.args.frames.now c.grow.new.frames c.push_all.new.frames c.grow.ensures.held c.in_ok-grow.ensures.ok c.requires.framed (tightened_twice c.args.problem.system.now c.grow.new.frames c.refill.new.frames c.push_all.new.frames c.refill.ensures.tightened c.push_all.ensures.tightened)

pub returns-in_ok-take-in-Some-clause-strengthened : goal.returns-in_ok-take-in-Some-clause-strengthened
returns-in_ok-take-in-Some-clause-strengthened g c = strengthened_after c.args.problem.system.now c.args.frames.now c.grow.new.frames c.push_all.new.frames c.grow.ensures.held c.in_ok-grow.ensures.ok c.requires.framed (tightened_twice c.args.problem.system.now c.grow.new.frames c.refill.new.frames c.push_all.new.frames c.refill.ensures.tightened c.push_all.ensures.tightened)

pub returns-in-None-clause-strengthened : goal.returns-in-None-clause-strengthened
returns-in-None-clause-strengthened g c = strengthened_after c.args.problem.system.now c.args.frames.now c.grow.new.frames c.push_all.new.frames c.grow.ensures.held c.in_ok-grow.ensures.ok c.requires.framed (tightened_twice c.args.problem.system.now c.grow.new.frames c.refill.new.frames c.push_all.new.frames c.refill.ensures.tightened c.push_all.ensures.tightened)

pub refill-requires-clause-framed : goal.refill-requires-clause-framed
refill-requires-clause-framed g c = levelled_grown c.args.problem.system.now c.args.frames.now c.grow.new.frames c.grow.ensures.held c.in_ok-grow.ensures.ok c.requires.framed

pub refill-requires-clause-inductive : goal.refill-requires-clause-inductive
refill-requires-clause-inductive g c = c.requires.lasting.inductive

pub refill-requires-clause-before : goal.refill-requires-clause-before
refill-requires-clause-before g c = λ told. before_new c.args.problem.system.now c.args.lasting.now.clauses c.requires.lasting.inductive c.args.frames.now c.grow.new.frames c.grow.ensures.held c.in_ok-grow.ensures.ok c.requires.framed (c.requires.lasting.implied told)

pub refill-requires-clause-kept : goal.refill-requires-clause-kept
refill-requires-clause-kept g c = c.in_ok-grow.ensures.kept

pub push_all-requires-clause-framed : goal.push_all-requires-clause-framed
push_all-requires-clause-framed g c = c.refill.ensures.tightened.framed

pub push_all-requires-clause-kept : goal.push_all-requires-clause-kept
push_all-requires-clause-kept g c = c.in_ok-refill.ensures.kept

pub returns-in_ok-take-in-Some-clause-advanced : goal.returns-in_ok-take-in-Some-clause-advanced
returns-in_ok-take-in-Some-clause-advanced g c =
    let now = c.push_all.new.frames in
    is_fixed c.args.problem.system.now c.args.frames.now now c.in-Some.i c.in_ok-found-in-Some.found c.push_all.ensures.tightened.framed (c.push_all.ensures.tightened.last ∙ c.refill.ensures.tightened.last ∙ c.in_ok-grow.ensures.ok)
    (strengthened_after c.args.problem.system.now c.args.frames.now c.grow.new.frames now c.grow.ensures.held c.in_ok-grow.ensures.ok c.requires.framed
    (tightened_twice c.args.problem.system.now c.grow.new.frames c.refill.new.frames now c.refill.ensures.tightened c.push_all.ensures.tightened)).stronger
    c.in-Some.ensures.fixed c.in_ok-found-in-Some.ensures

pub returns-in-None-clause-advanced : goal.returns-in-None-clause-advanced
returns-in-None-clause-advanced g c = is_further c.args.problem.system.now c.push_all.new.frames c.push_all.ensures.tightened.framed c.in_ok-push_all.ensures.pushed (c.find_fixed.ensures.none c.in-None.is)

pub returns-in_ok-take-in-Some-clause-ahead : goal.returns-in_ok-take-in-Some-clause-ahead
returns-in_ok-take-in-Some-clause-ahead g c =
    let now = c.push_all.new.frames in
    let fixed = is_fixed c.args.problem.system.now c.args.frames.now now c.in-Some.i c.in_ok-found-in-Some.found c.push_all.ensures.tightened.framed (c.push_all.ensures.tightened.last ∙ c.refill.ensures.tightened.last ∙ c.in_ok-grow.ensures.ok)
    (strengthened_after c.args.problem.system.now c.args.frames.now c.grow.new.frames now c.grow.ensures.held c.in_ok-grow.ensures.ok c.requires.framed
    (tightened_twice c.args.problem.system.now c.grow.new.frames c.refill.new.frames now c.refill.ensures.tightened c.push_all.ensures.tightened)).stronger
    c.in-Some.ensures.fixed c.in_ok-found-in-Some.ensures in
    record {
      lasting = taken c.args.problem.system.now (frames_of now) c.take.new.self c.in_ok-found-in-Some.found c.in_ok-take-in-Some.ensures fixed.inductive;
      frontier = c.push_all.ensures.tightened.last ∙ c.refill.ensures.tightened.last ∙ c.in_ok-grow.ensures.ok;
      pushed = all_pushed c.args.problem.system.now c.push_all.new.frames c.in_ok-push_all.ensures.pushed;
      seen = c.in_ok-push_all.ensures.seen;
      kept = c.in_ok-push_all.ensures.kept;
    }

pub returns-in-None-clause-ahead : goal.returns-in-None-clause-ahead
returns-in-None-clause-ahead g c =
    record {
      lasting = lasting_stronger c.args.problem.system.now (frames_of c.refill.new.frames) (frames_of c.push_all.new.frames) c.args.lasting.now (same_length c.refill.new.frames c.push_all.new.frames c.push_all.ensures.tightened.last) c.push_all.ensures.tightened.stronger
          (lasting_grown c.args.problem.system.now c.args.frames.now c.grow.new.frames c.refill.new.frames c.args.lasting.now c.grow.ensures.held c.in_ok-grow.ensures.ok c.refill.ensures.tightened.last c.requires.framed c.refill.ensures.tightened.stronger c.requires.lasting c.in_ok-refill.ensures.implied);
      frontier = c.push_all.ensures.tightened.last ∙ c.refill.ensures.tightened.last ∙ c.in_ok-grow.ensures.ok;
      pushed = all_pushed c.args.problem.system.now c.push_all.new.frames c.in_ok-push_all.ensures.pushed;
      seen = c.in_ok-push_all.ensures.seen;
      kept = c.in_ok-push_all.ensures.kept;
    }
