use Rattle.std.proofs.Common.{Err, IsErrOf, sym, ap, map, subst, ◌∙◌}
use Rattle.std.proofs.lemmas.Result.{err_from_is_err_and}
use Rattle.fault_staging.specs.CauseOf.{cause_of}
use Rattle.verb_loading.specs.declared.input.Stop.TheVariants as stop
use Rattle.verb_causes.specs.Causes.{flat_in, modes_in, faults_in, extension_in, AreCausesOf}
use Rattle.verb_causes.specs.Refusals.{RefusesBytes}
use Rattle.verb_causes.proofs.CausesLaws.{holds_causes, no_desk_at_causes, file_refused, bytes_refused, refuses_limit}
use Rattle.verb_causes.proofs.staged.load_causes.Goals as goal
use Rattle.base_values.proofs.ResultLaws.{same_fault}

pub staged_of-requires-clause-causes : goal.staged_of-requires-clause-causes
staged_of-requires-clause-causes g c = (c.deref.result.now, c.in_ok-causes.ensures.read)

pub returns-in-Ok-clause-ok : goal.returns-in-Ok-clause-ok
returns-in-Ok-clause-ok g c =
    let case = c.args.case.now in
    holds_causes _ c.args.name.now case (map cause_of c.in-Ok.staged.causes) c.in_ok-bytes.bytes.items c.in_ok-bytes.ensures.bytes
    (subst (λ bs. AreCausesOf case bs (map cause_of c.in-Ok.staged.causes)) c.deref.ensures.value
    (subst (λ cs. AreCausesOf case c.deref.result.now (map cause_of cs)) (sym c.in-Ok.ensures.kept) c.in_ok-causes.ensures.read))

pub returns-in_err-bytes-clause-refused : goal.returns-in_err-bytes-clause-refused
returns-in_err-bytes-clause-refused g c r e =
    let exit = err_from_is_err_and c.from_residual.result c.from_residual.ensures.1 in
    let refused : IsErrOf c.read_input.result (stop.Refused r) = c.in_err-bytes.was ∙ ap (λ s. Err s) (sym exit.2 ∙ same_fault (sym exit.1 ∙ e)) in
    let case = c.args.case.now in
    file_refused (faults_in case) (extension_in case) (flat_in case) (modes_in case) _ _ r (c.read_input.ensures.refused r refused)

pub returns-in_err-bytes-clause-failed : goal.returns-in_err-bytes-clause-failed
returns-in_err-bytes-clause-failed g c e =
    let exit = err_from_is_err_and c.from_residual.result c.from_residual.ensures.1 in
    c.read_input.ensures.failed (c.in_err-bytes.was ∙ ap (λ s. Err s) (sym exit.2 ∙ same_fault (sym exit.1 ∙ e)))

pub returns-in_err-causes-clause-refused : goal.returns-in_err-causes-clause-refused
returns-in_err-causes-clause-refused g c r e =
    let exit = err_from_is_err_and c.from_residual-in_err-causes.result c.from_residual-in_err-causes.ensures.1 in
    let refused : IsErrOf c.causes_of.result (stop.Refused r) = c.in_err-causes.was ∙ ap (λ s. Err s) (sym exit.2 ∙ same_fault (sym exit.1 ∙ e)) in
    let case = c.args.case.now in
    bytes_refused (faults_in case) (extension_in case) (flat_in case) (modes_in case) _ _ c.in_ok-bytes.bytes.items r c.in_ok-bytes.ensures.bytes
    (subst (λ bs. RefusesBytes (faults_in case) (extension_in case) (flat_in case) (modes_in case) bs r) c.deref.ensures.value (c.causes_of.ensures.refused r refused))

pub returns-in_err-causes-clause-failed : goal.returns-in_err-causes-clause-failed
returns-in_err-causes-clause-failed g c e =
    let exit = err_from_is_err_and c.from_residual-in_err-causes.result c.from_residual-in_err-causes.ensures.1 in
    let refused : IsErrOf c.causes_of.result stop.Desk = c.in_err-causes.was ∙ ap (λ s. Err s) (sym exit.2 ∙ same_fault (sym exit.1 ∙ e)) in
    absurd (c.causes_of.ensures.desk refused)

pub returns-clause-refused : goal.returns-clause-refused
returns-clause-refused g c r e =
    let case = c.args.case.now in
    let cs = map cause_of c.in_ok-causes.causes in
    let are = subst (λ bs. AreCausesOf case bs cs) c.deref.ensures.value c.in_ok-causes.ensures.read in
    bytes_refused (faults_in case) (extension_in case) (flat_in case) (modes_in case) _ _ c.in_ok-bytes.bytes.items r c.in_ok-bytes.ensures.bytes
    (refuses_limit (faults_in case) (extension_in case) (flat_in case) (modes_in case) c.in_ok-bytes.bytes.items cs are c.in-Err.wrong r (sym (same_fault e) ∙ c.stop.ensures) c.in-Err.ensures.wrong)

pub returns-clause-failed : goal.returns-clause-failed
returns-clause-failed g c e = absurd (no_desk_at_causes _ (sym (same_fault e) ∙ c.stop.ensures))
