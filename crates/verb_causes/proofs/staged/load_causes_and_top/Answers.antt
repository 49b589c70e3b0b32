use Rattle.std.proofs.Common.{Err, IsErrOf, refl, sym, ap, map, ◌∙◌}
use Rattle.std.proofs.lemmas.Result.{err_from_is_err_and}
use Rattle.smv_language.specs.Language.{program_tree, model_tree}
use Rattle.fault_staging.specs.CauseOf.{cause_of}
use Rattle.verb_loading.specs.LoadedCases.{case_of}
use Rattle.verb_loading.specs.declared.input.Stop.TheVariants as stop
use Rattle.verb_causes.proofs.CausesLaws.{has_causes, keeps_limits, staged_no_causes, staged_no_top}
use Rattle.verb_causes.proofs.staged.load_causes_and_top.Goals as goal
use Rattle.base_values.proofs.ResultLaws.{same_fault}

pub load_causes-requires : goal.load_causes-requires
load_causes-requires g c = (program_tree c.args.model.now.program, c.requires.loaded, (model_tree c.args.model.now.typed.model, c.requires.lawful))

pub returns-in-Ok-clause-causes : goal.returns-in-Ok-clause-causes
returns-in-Ok-clause-causes g c = c.in_ok-staged.ensures.ok

pub returns-in-Ok-clause-staged : goal.returns-in-Ok-clause-staged
returns-in-Ok-clause-staged g c = c.in_ok-staged.ensures.staged

pub returns-in-Ok-clause-top : goal.returns-in-Ok-clause-top
returns-in-Ok-clause-top g c = c.in-Ok.ensures.ok

pub returns-in_err-staged-clause-refused : goal.returns-in_err-staged-clause-refused
returns-in_err-staged-clause-refused g c r e of_model of_faults holds =
    let exit = err_from_is_err_and c.from_residual.result c.from_residual.ensures.1 in
    let refused : IsErrOf c.load_causes.result (stop.Refused r) = c.in_err-staged.was ∙ ap (λ s. Err s) (sym exit.2 ∙ same_fault (sym exit.1 ∙ e)) in
    staged_no_causes of_model of_faults _ _ _ _ (program_tree c.args.model.now.program) c.args.case.now r c.requires.loaded refl holds (c.load_causes.ensures.refused r refused)

pub returns-in_err-staged-clause-failed : goal.returns-in_err-staged-clause-failed
returns-in_err-staged-clause-failed g c e =
    let exit = err_from_is_err_and c.from_residual.result c.from_residual.ensures.1 in
    c.load_causes.ensures.failed (c.in_err-staged.was ∙ ap (λ s. Err s) (sym exit.2 ∙ same_fault (sym exit.1 ∙ e)))

pub returns-in-Err-clause-refused : goal.returns-in-Err-clause-refused
returns-in-Err-clause-refused g c r e of_model of_faults holds =
    let is = same_fault e in
    let p = program_tree c.args.model.now.program in
    let cs = map cause_of c.in_ok-staged.staged.causes in
    let has = has_causes _ _ p c.args.case.now _ cs c.requires.loaded refl c.in_ok-staged.ensures.ok in
    staged_no_top of_model of_faults _ _ _ (case_of p c.args.case.now) cs r holds has (keeps_limits c.args.case.now cs _ _ _ c.in_ok-staged.ensures.staged.staged)
    (c.load_top.ensures.refused r (c.in-Err.is ∙ ap (λ s. Err s) is))

pub returns-in-Err-clause-failed : goal.returns-in-Err-clause-failed
returns-in-Err-clause-failed g c e =
    absurd (c.load_top.ensures.desk (c.in-Err.is ∙ ap (λ s. Err s) (same_fault e)))

pub returns-in_err-staged-clause-stays : goal.returns-in_err-staged-clause-stays
returns-in_err-staged-clause-stays g c = c.load_causes.ensures.stays

pub returns-in-Ok-clause-stays : goal.returns-in-Ok-clause-stays
returns-in-Ok-clause-stays g c = c.load_causes.ensures.stays

pub returns-in-Err-clause-stays : goal.returns-in-Err-clause-stays
returns-in-Err-clause-stays g c = c.load_causes.ensures.stays
