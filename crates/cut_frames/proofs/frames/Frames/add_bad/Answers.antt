use Rattle.std.proofs.Common.{◌≡◌, ◌∙◌, sym, subst, true, false, Result, Ok, Err, OnOk, inl, arith, List, ◌∷◌, []}
use Rattle.std.specs.Prelude.{All}
use Rattle.std.proofs.lemmas.List.Elements.{All-nil, All-cons, All-append}
use Rattle.sat_clauses.specs.Literal.{Literal}
use Rattle.sat_clauses.specs.declared.system.System.{System}
use Rattle.cut_frames.specs.Chain.{IsOverBits}
use Rattle.cut_frames.specs.Condition.{IsFit, IsOverNow}
use Rattle.std.specs.Result.{is_err}
use Rattle.cut_frames.specs.FramesRecord.{FramesValue}
use Rattle.cut_frames.specs.Levels.{frames_of}
use Rattle.cut_frames.specs.FramesByNumber.{AreNumbered}
use Rattle.cut_frames.proofs.Framing.{numbered}
use Rattle.cut_frames.proofs.frames.Frames.add_bad.Goals as goal

pub returns-then-self-clause-numbered : goal.returns-then-self-clause-numbered
returns-then-self-clause-numbered c =
    subst (λ (v : FramesValue). AreNumbered v.system v.frames) c.self.view_is (numbered c.self.inside.system (frames_of c.self.inside.levels) c.self.invariant.levelled.framed)

pub returns-clause-numbered : goal.returns-clause-numbered
returns-clause-numbered c = numbered c.self.inside.system (frames_of c.self.inside.levels) c.self.invariant.levelled.framed

when_ok : {T E P : Type 0} (r : Result T E) → is_err r ≡ false → OnOk r P → P
when_ok (Ok x) e h = h
when_ok (Err x) e h = absurd (differ e)
  where
    differ : true ≡ false → ⊥
    differ e = cc

-- a clause over state bits is over the state now
over_now : (system : System) (clause : List Literal) → IsFit system → IsOverBits system clause → All (IsOverNow system) clause
over_now system clause fit over = λ k d lt. let bit = over k d lt in let most = fit.bits in (omega (arith, bit.1, most), inl bit.1)

pub invariant_of-self : goal.invariant_of-self
invariant_of-self c =
    record {
      fit = c.self.invariant.fit;
      agreed = c.self.invariant.agreed;
      bad = λ ready. subst (All (All (IsOverNow c.self.inside.system)))
          (sym (when_ok c.add_bad-answer.result (sym c.is_err-self-inside.ensures.value ∙ ready) c.add_bad-answer.ensures.asked))
          (All-append (All (IsOverNow c.self.inside.system)) c.self.inside.bad (c.args.clause ∷ []) (c.self.invariant.bad c.if-self.false)
          (All-cons (All (IsOverNow c.self.inside.system)) c.args.clause [] (over_now c.self.inside.system c.args.clause c.self.invariant.fit (subst (λ (v : FramesValue). IsOverBits v.system c.args.clause) (sym c.self.view_is) c.requires)) (All-nil (All (IsOverNow c.self.inside.system)))));
      lasting = λ ready. c.self.invariant.lasting c.if-self.false;
      seen = λ ready. c.self.invariant.seen c.if-self.false;
      levelled = c.self.invariant.levelled;
      kept = λ ready. when_ok c.add_bad-answer.result (sym c.is_err-self-inside.ensures.value ∙ ready) c.add_bad-answer.ensures.kept;
    }
