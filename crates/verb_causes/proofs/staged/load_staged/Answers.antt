use Rattle.std.proofs.Common.{Err, IsErrOf, sym, ap, map, ◌∙◌}
use Rattle.std.proofs.lemmas.Result.{err_from_is_err_and}
use Rattle.smv_language.specs.Language.{program_tree, model_tree}
use Rattle.fault_staging.specs.CauseOf.{cause_of}
use Rattle.verb_loading.specs.LoadedCases.{case_of}
use Rattle.verb_loading.proofs.LoadedLaws.{holds_case}
use Rattle.verb_loading.proofs.SaidLaws.{rose_later}
use Rattle.verb_loading.specs.declared.input.Stop.TheVariants as stop
use Rattle.verb_causes.proofs.CausesLaws.{has_causes, staged_no_model, staged_no_faults, staged_no_rest}
use Rattle.base_files.proofs.Stays.{reads_on}
use Rattle.verb_causes.proofs.staged.load_staged.Goals as goal
use Rattle.base_values.proofs.ResultLaws.{same_fault}

pub returns-clause-case : goal.returns-clause-case
returns-clause-case g c =
    let p = program_tree c.in_ok-model.model.program in
    holds_case _ _ c.args.word.now c.args.word.now _ _ p c.in_ok-case.case c.load_model.ensures.stays.files c.in_ok-model.ensures.ok c.in_ok-case.ensures.ok

pub returns-clause-causes : goal.returns-clause-causes
returns-clause-causes g c =
    has_causes _ _ (program_tree c.in_ok-model.model.program) c.in_ok-case.case _ (map cause_of c.in_ok-found.found.staged.causes) c.in_ok-case.ensures.loaded
    (c.load_case.ensures.stays.files ∙ c.load_model.ensures.stays.files) c.in_ok-found.ensures.causes

pub returns-clause-staged : goal.returns-clause-staged
returns-clause-staged g c =
    record {
      event = record { flat = model_tree c.in_ok-model.model.typed.model; lawful = c.in_ok-model.ensures.lawful; loaded = c.in_ok-case.ensures.loaded; event = c.in_ok-found.ensures.top };
      staged = c.in_ok-found.ensures.staged.staged;
      told = c.in_ok-found.ensures.staged.told;
    }

pub returns-in_err-model-clause-refused : goal.returns-in_err-model-clause-refused
returns-in_err-model-clause-refused g c r e =
    let exit = err_from_is_err_and c.from_residual.result c.from_residual.ensures.1 in
    let is = sym exit.2 ∙ same_fault (sym exit.1 ∙ e) in
    staged_no_model _ _ _ _ _ r (c.load_model.ensures.refused r (c.in_err-model.was ∙ ap (λ s. Err s) is))

pub returns-in_err-model-clause-failed : goal.returns-in_err-model-clause-failed
returns-in_err-model-clause-failed g c e =
    let exit = err_from_is_err_and c.from_residual.result c.from_residual.ensures.1 in
    let is = sym exit.2 ∙ same_fault (sym exit.1 ∙ e) in
    c.load_model.ensures.failed (c.in_err-model.was ∙ ap (λ s. Err s) is)

pub returns-in_err-case-clause-refused : goal.returns-in_err-case-clause-refused
returns-in_err-case-clause-refused g c r e =
    let exit = err_from_is_err_and c.from_residual-in_err-case.result c.from_residual-in_err-case.ensures.1 in
    let is = sym exit.2 ∙ same_fault (sym exit.1 ∙ e) in
    staged_no_faults _ _ _ _ _ _ _ r c.load_model.ensures.stays.files c.in_ok-model.ensures.ok (c.load_case.ensures.refused r (c.in_err-case.was ∙ ap (λ s. Err s) is))

pub returns-in_err-case-clause-failed : goal.returns-in_err-case-clause-failed
returns-in_err-case-clause-failed g c e =
    let exit = err_from_is_err_and c.from_residual-in_err-case.result c.from_residual-in_err-case.ensures.1 in
    let is = sym exit.2 ∙ same_fault (sym exit.1 ∙ e) in
    rose_later _ _ _ c.load_model.ensures.stays.later (c.load_case.ensures.failed (c.in_err-case.was ∙ ap (λ s. Err s) is))

pub returns-in_err-found-clause-refused : goal.returns-in_err-found-clause-refused
returns-in_err-found-clause-refused g c r e =
    let exit = err_from_is_err_and c.from_residual-in_err-found.result c.from_residual-in_err-found.ensures.1 in
    let refused : IsErrOf c.load_causes_and_top.result (stop.Refused r) = c.in_err-found.was ∙ ap (λ s. Err s) (sym exit.2 ∙ same_fault (sym exit.1 ∙ e)) in
    let p = program_tree c.in_ok-model.model.program in
    let holds = holds_case _ _ c.args.word.now c.args.word.now _ _ p c.in_ok-case.case c.load_model.ensures.stays.files c.in_ok-model.ensures.ok c.in_ok-case.ensures.ok in
    staged_no_rest _ _ _ _ _ _ (case_of p c.in_ok-case.case) r (c.load_case.ensures.stays.files ∙ c.load_model.ensures.stays.files) holds (c.load_causes_and_top.ensures.refused r refused _ _)

pub returns-in_err-found-clause-failed : goal.returns-in_err-found-clause-failed
returns-in_err-found-clause-failed g c e =
    let exit = err_from_is_err_and c.from_residual-in_err-found.result c.from_residual-in_err-found.ensures.1 in
    let failed : IsErrOf c.load_causes_and_top.result stop.Desk = c.in_err-found.was ∙ ap (λ s. Err s) (sym exit.2 ∙ same_fault (sym exit.1 ∙ e)) in
    rose_later _ _ _ c.load_model.ensures.stays.later (rose_later _ _ _ c.load_case.ensures.stays.later (c.load_causes_and_top.ensures.failed failed))

pub returns-in_err-model-clause-stays : goal.returns-in_err-model-clause-stays
returns-in_err-model-clause-stays g c = c.load_model.ensures.stays

pub returns-in_err-case-clause-stays : goal.returns-in_err-case-clause-stays
returns-in_err-case-clause-stays g c = reads_on _ _ _ c.load_model.ensures.stays c.load_case.ensures.stays

pub returns-in_err-found-clause-stays : goal.returns-in_err-found-clause-stays
returns-in_err-found-clause-stays g c = reads_on _ _ _ (reads_on _ _ _ c.load_model.ensures.stays c.load_case.ensures.stays) c.load_causes_and_top.ensures.stays

pub returns-clause-stays : goal.returns-clause-stays
returns-clause-stays g c = reads_on _ _ _ (reads_on _ _ _ c.load_model.ensures.stays c.load_case.ensures.stays) c.load_causes_and_top.ensures.stays
