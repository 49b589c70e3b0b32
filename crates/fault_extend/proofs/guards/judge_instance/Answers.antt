use Rattle.std.proofs.Common.{◌≡◌, false, true, ◌∙◌, map, sym, subst}
use Rattle.std.proofs.lemmas.Result.{err_from_is_err_and}
use Rattle.smv_language.specs.Trace.{Each}
use Rattle.fault_rules.specs.PlacedSlices.{seen_placed}
use Rattle.fault_extend_laws.specs.Expressions.{KeepsUse}
use Rattle.fault_extend_laws.specs.SliceUses.{uses_of_slice, uses_of_slices}
use Rattle.fault_extend.specs.GuardJudgement.{program_in, model_in}
use Rattle.fault_extend.specs.FirstRefusal.{IsFirstFault}
use Rattle.fault_extend.proofs.Deciding.{slice_next, slice_first, slice_used, slice_passed}
use Rattle.fault_extend.proofs.guards.judge_instance.Goals as goal
use Rattle.fault_extend.proofs.guards.judge_instance.Goals.{then-is_same+in_ok-judge_slice, else-is_same}

differ : false ≡ true → ⊥
differ e = cc

pub returns-in_err-judge_slice-clause-told : goal.returns-in_err-judge_slice-clause-told
returns-in_err-judge_slice-clause-told c = λ at is named.
    let exit = err_from_is_err_and c.from_residual.result c.from_residual.ensures.1 in
    rw (exit.1, exit.2)
    (slice_first (program_in c.args.nominal) (model_in c.args.nominal) at c.args.slices.now c.loop-placed.placed-index c.placed-item.result (uses_of_slices (map seen_placed c.args.slices.now) at) c.loop-placed-test.true c.placed-item.is
    (c.loop-placed.invariant at is named) c.in_err-judge_slice.field-0.0
    (subst (λ us. IsFirstFault (program_in c.args.nominal) (model_in c.args.nominal) us c.in_err-judge_slice.field-0.0)
    (slice_used at c.placed-item.result (c.is_same.ensures.0 c.if-is_same.true ∙ sym named)) (c.in_err-judge_slice.ensures.told at is)))

pub loop-placed-preserved : goal.loop-placed-preserved
loop-placed-preserved c = λ at is named.
    let kept : Each (KeepsUse (program_in c.args.nominal) (model_in c.args.nominal)) (uses_of_slice at (seen_placed c.placed-item.result)) =
    elim c.if-is_same.branch [
      | then-is_same+in_ok-judge_slice w ↦ subst (Each (KeepsUse (program_in c.args.nominal) (model_in c.args.nominal))) (slice_used at c.placed-item.result (c.is_same.ensures.0 w.if-is_same.true ∙ sym named))
          (w.in_ok-judge_slice.ensures.kept at is)
      | else-is_same w ↦ subst (Each (KeepsUse (program_in c.args.nominal) (model_in c.args.nominal)))
          (slice_passed at c.placed-item.result (λ same. differ (sym w.if-is_same.false ∙ c.is_same.ensures.1 (same ∙ named)))) tt
    ] in
    slice_next (program_in c.args.nominal) (model_in c.args.nominal) at c.args.slices.now c.loop-placed.placed-index c.placed-item.result (uses_of_slices (map seen_placed c.args.slices.now) at) c.loop-placed-test.true c.placed-item.is
    (c.loop-placed.invariant at is named) kept
