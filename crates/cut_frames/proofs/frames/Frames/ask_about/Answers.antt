use Rattle.std.proofs.Common.{◌≡◌, ◌∙◌, sym, subst, true, false, Result, Ok, Err, OnOk}
use Rattle.std.specs.Prelude.{All}
use Rattle.cut_frames.specs.Condition.{IsOverNow}
use Rattle.std.specs.Result.{is_err}
use Rattle.cut_frames.specs.FramesRecord.{FramesValue}
use Rattle.cut_frames.specs.Levels.{frames_of}
use Rattle.cut_frames.specs.FramesByNumber.{AreNumbered}
use Rattle.cut_frames.proofs.Framing.{numbered}
use Rattle.cut_frames.proofs.frames.Frames.ask_about.Goals as goal

pub returns-then-self-clause-numbered : goal.returns-then-self-clause-numbered
returns-then-self-clause-numbered g c =
    subst (λ (v : FramesValue). AreNumbered v.system v.frames) c.self.view_is (numbered c.self.inside.system (frames_of c.self.inside.levels) c.self.invariant.levelled.framed)

pub returns-clause-numbered : goal.returns-clause-numbered
returns-clause-numbered g c = numbered c.self.inside.system (frames_of c.self.inside.levels) c.self.invariant.levelled.framed

when_ok : {T E P : Type 0} (r : Result T E) → is_err r ≡ false → OnOk r P → P
when_ok (Ok x) e h = h
when_ok (Err x) e h = absurd (differ e)
  where
    differ : true ≡ false → ⊥
    differ e = cc

pub invariant_of-self : goal.invariant_of-self
invariant_of-self g c =
    record {
      fit = c.self.invariant.fit;
      agreed = c.self.invariant.agreed;
      bad = λ ready. subst (λ (v : FramesValue). All (All (IsOverNow v.system)) c.args.bad) (sym c.self.view_is) c.requires;
      lasting = λ ready. c.self.invariant.lasting c.if-self.false;
      seen = λ ready. c.self.invariant.seen c.if-self.false;
      levelled = c.self.invariant.levelled;
      kept = λ ready. when_ok c.take_bad-answer.result (sym c.is_err-self-inside.ensures.value ∙ ready) c.take_bad-answer.ensures;
    }
