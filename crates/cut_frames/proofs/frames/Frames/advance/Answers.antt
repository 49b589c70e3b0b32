use Rattle.std.proofs.Common.{◌≡◌, ◌∙◌, ◌+◌, ◌-◌, length, OnOk, Result, Ok, Err, sym, subst, true, false, ◌<◌, arith}
use Rattle.std.specs.Result.{is_err}
use Rattle.cut_frames.specs.FrameLists.{ArePushed}
use Rattle.cut_frames.specs.FramesRecord.{FramesValue}
use Rattle.cut_frames.specs.Levels.{frames_of}
use Rattle.cut_frames.specs.FramesByNumber.{AreNumbered}
use Rattle.cut_frames.proofs.Framing.{numbered}
use Rattle.cut_frames.proofs.LevelLaws.{last_more}
use Rattle.cut_frames.proofs.frames.Frames.advance.Goals as goal

pub returns-then-self-clause-numbered : goal.returns-then-self-clause-numbered
returns-then-self-clause-numbered g c =
    subst (λ (v : FramesValue). AreNumbered v.system v.frames) c.self.view_is (numbered c.self.inside.system (frames_of c.self.inside.levels) c.self.invariant.levelled.framed)

pub returns-clause-numbered : goal.returns-clause-numbered
returns-clause-numbered g c = numbered c.self.inside.system (frames_of c.advance_frames-answer.new.frames) c.advance_frames-answer.ensures.strengthened.framed.framed

on_ok : {T E P Q : Type 0} (r : Result T E) → (P → Q) → OnOk r P → OnOk r Q
on_ok (Ok x) f h = f h
on_ok (Err x) f h = tt

pub returns-clause-pushed : goal.returns-clause-pushed
returns-clause-pushed g c =
    subst (λ (v : FramesValue). OnOk c.advance_frames-answer.result (ArePushed v.system (frames_of c.advance_frames-answer.new.frames))) c.self.view_is (on_ok c.advance_frames-answer.result (λ a. a.pushed) c.advance_frames-answer.ensures.ahead)

pub returns-clause-frontier : goal.returns-clause-frontier
returns-clause-frontier g c =
    subst (λ (v : FramesValue). OnOk c.advance_frames-answer.result (length (frames_of c.advance_frames-answer.new.frames) - 1 ≡ length v.frames - 1 + 1)) c.self.view_is
    (on_ok c.advance_frames-answer.result (λ a. last_more c.self.inside.levels c.advance_frames-answer.new.frames a.frontier) c.advance_frames-answer.ensures.ahead)

pub advance_frames-answer-requires-clause-problem : goal.advance_frames-answer-requires-clause-problem
advance_frames-answer-requires-clause-problem g c = record {
  fit = c.self.invariant.fit;
  bad = c.self.invariant.bad c.if-self.false;
  history = λ k d lt. absurd (omega (arith, lt));
  positive = λ k d lt. absurd (omega (arith, lt));
}

when_ok : {T E P : Type 0} (r : Result T E) → is_err r ≡ false → OnOk r P → P
when_ok (Ok x) e h = h
when_ok (Err x) e h = absurd (differ e)
  where
    differ : true ≡ false → ⊥
    differ e = cc

pub advance_frames-answer-requires-clause-seen : goal.advance_frames-answer-requires-clause-seen
advance_frames-answer-requires-clause-seen g c = c.self.invariant.seen c.if-self.false

pub advance_frames-answer-requires-clause-lasting : goal.advance_frames-answer-requires-clause-lasting
advance_frames-answer-requires-clause-lasting g c = c.self.invariant.lasting c.if-self.false

pub invariant_of-self : goal.invariant_of-self
invariant_of-self g c =
    record {
      fit = c.self.invariant.fit;
      agreed = c.self.invariant.agreed;
      bad = λ ready. c.self.invariant.bad c.if-self.false;
      seen = λ ready. (when_ok c.advance_frames-answer.result (sym c.is_err-self-inside.ensures.value ∙ ready) c.advance_frames-answer.ensures.ahead).seen;
      levelled = c.advance_frames-answer.ensures.strengthened.framed;
      lasting = λ ready. (when_ok c.advance_frames-answer.result (sym c.is_err-self-inside.ensures.value ∙ ready) c.advance_frames-answer.ensures.ahead).lasting;
      kept = λ ready. (when_ok c.advance_frames-answer.result (sym c.is_err-self-inside.ensures.value ∙ ready) c.advance_frames-answer.ensures.ahead).kept;
    }
