use Rattle.std.proofs.Common.{◌≡◌, ◌∙◌, sym, subst, true, false, List, Result, Ok, Err, OnOk}
use Rattle.std.specs.Result.{is_err}
use Rattle.sat_clauses.specs.Literal.{Literal}
use Rattle.cut_frames.specs.OwnVariables.{IsKept, apart_system, apart_list}
use Rattle.cut_frames.specs.GuardedSearch.{places_of}
use Rattle.cut_frames.proofs.LevelLaws.{frames_new}
use Rattle.cut_frames.proofs.OwedLemmas.{levelled_new}
use Rattle.cut_frames.specs.FramesRecord.{FramesValue}
use Rattle.cut_frames.specs.Levels.{frames_of}
use Rattle.cut_frames.specs.FramesByNumber.{AreNumbered}
use Rattle.cut_frames.specs.FrameLists.{IsInductive}
use Rattle.cut_frames.specs.declared.lasting.Lasting.{Lasting}
use Rattle.cut_frames.proofs.LastingLaws.{lasting_again}
use Rattle.cut_frames.proofs.Framing.{numbered}
use Rattle.cut_frames.proofs.frames.Frames.begin_again.Goals as goal

pub returns-then-self-clause-numbered : goal.returns-then-self-clause-numbered
returns-then-self-clause-numbered c =
    subst (λ (v : FramesValue). AreNumbered v.system v.frames) c.self.view_is (numbered c.self.inside.system (frames_of c.self.inside.levels) c.self.invariant.levelled.framed)

when_ok : {T E P : Type 0} (r : Result T E) → is_err r ≡ false → OnOk r P → P
when_ok (Ok x) e h = h
when_ok (Err x) e h = absurd (differ e)
  where
    differ : true ≡ false → ⊥
    differ e = cc

pub invariant_of-self : goal.invariant_of-self
invariant_of-self c =
    record {
      fit = c.self.invariant.fit;
      agreed = c.self.invariant.agreed;
      bad = λ ready. c.self.invariant.bad c.if-self.false;
      seen = λ ready. c.self.invariant.seen c.if-self.false;
      lasting = λ ready. lasting_again c.self.inside.system (frames_of c.new.result) c.begin_again.new.self (frames_new c.new.result c.new.ensures.held c.new.ensures.last)
          (subst (λ (l : Lasting). IsInductive c.self.inside.system l.clauses) (sym c.begin_again.ensures) (c.self.invariant.lasting c.if-self.false).inductive);
      levelled = levelled_new c.self.inside.system c.new.result c.new.ensures.held c.new.ensures.last;
      kept = λ ready.
          subst (λ (fs : List (List (List Literal))). IsKept c.self.inside.system c.self.inside.bad fs c.begin_again-answer.new.self)
          (sym (frames_new c.new.result c.new.ensures.held c.new.ensures.last))
          (when_ok c.begin_again-answer.result (sym c.is_err-self-inside.ensures.value ∙ ready) c.begin_again-answer.ensures (apart_system c.self.inside.system) (apart_list (places_of c.self.inside.system) c.self.inside.bad) (frames_of c.self.inside.levels) (c.self.invariant.kept c.if-self.false));
    }
