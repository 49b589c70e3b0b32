use Rattle.std.proofs.Common.{◌≡◌, ◌∙◌, ◌-◌, length, sym, subst, true, false, Result, Ok, Err, IfOk}
use Rattle.std.specs.Result.{is_err}
use Rattle.cut_frames.specs.Chain.{IsOverBits}
use Rattle.cut_frames.specs.Parts.{AreAgreed}
use Rattle.cut_frames.proofs.LastingLaws.{lasting_stronger}
use Rattle.cut_frames.specs.FramesRecord.{FramesValue}
use Rattle.cut_frames.specs.Levels.{frames_of}
use Rattle.cut_frames.specs.FramesByNumber.{AreNumbered}
use Rattle.cut_frames.proofs.Framing.{numbered}
use Rattle.cut_frames.proofs.LevelLaws.{last_less, same_length}
use Rattle.cut_frames.proofs.frames.Frames.clear.Goals as goal

pub returns-then-self-clause-numbered : goal.returns-then-self-clause-numbered
returns-then-self-clause-numbered g c =
    subst (λ (v : FramesValue). AreNumbered v.system v.frames) c.self.view_is (numbered c.self.inside.system (frames_of c.self.inside.levels) c.self.invariant.levelled.framed)

pub returns-clause-frontier : goal.returns-clause-frontier
returns-clause-frontier g c =
    subst (λ (v : FramesValue). length (frames_of c.clear_noting-answer.new.frames) - 1 ≡ length v.frames - 1) c.self.view_is (last_less c.self.inside.levels c.clear_noting-answer.new.frames c.clear_noting-answer.ensures.tightened.last)

pub returns-clause-numbered : goal.returns-clause-numbered
returns-clause-numbered g c = numbered c.self.inside.system (frames_of c.clear_noting-answer.new.frames) c.clear_noting-answer.ensures.tightened.framed.framed

pub returns-then-is_err-clause-numbered : goal.returns-then-is_err-clause-numbered
returns-then-is_err-clause-numbered g c = numbered c.self.inside.system (frames_of c.self.inside.levels) c.self.invariant.levelled.framed

pub clear_noting-answer-requires-clause-problem : goal.clear_noting-answer-requires-clause-problem
clear_noting-answer-requires-clause-problem g c = record {
  fit = c.self.invariant.fit;
  bad = c.self.invariant.bad c.if-self.false;
  history = subst (λ (v : FramesValue). IsOverBits v.system c.args.history.now) (sym c.self.view_is) c.requires.history.over_bits;
  positive = c.requires.history.positive;
}

when_ok : {T E P : Type 0} (r : Result T E) → is_err r ≡ false → IfOk r (λ x. P) → P
when_ok (Ok x) e h = h
when_ok (Err x) e h = absurd (differ e)
  where
    differ : true ≡ false → ⊥
    differ e = cc

pub invariant_of-self-2 : goal.invariant_of-self-2
invariant_of-self-2 g c =
    record {
      fit = c.self.invariant.fit;
      agreed = subst (AreAgreed c.self.inside.system) (sym c.clear_noting-answer.ensures.same) c.find-found.ensures.agreed;
      bad = λ ready. c.self.invariant.bad c.if-self.false;
      seen = λ ready. c.self.invariant.seen c.if-self.false;
      levelled = c.clear_noting-answer.ensures.tightened.framed;
      lasting = λ ready. lasting_stronger c.self.inside.system (frames_of c.self.inside.levels) (frames_of c.clear_noting-answer.new.frames) c.self.inside.lasting
          (same_length c.self.inside.levels c.clear_noting-answer.new.frames c.clear_noting-answer.ensures.tightened.last) c.clear_noting-answer.ensures.tightened.stronger (c.self.invariant.lasting c.if-self.false);
      kept = λ ready. when_ok c.clear_noting-answer.result (sym c.is_err-self-inside.ensures.value ∙ ready) c.clear_noting-answer.ensures.kept;
    }
