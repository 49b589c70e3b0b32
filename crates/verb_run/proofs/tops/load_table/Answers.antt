use Rattle.std.proofs.Common.{Err, IfSome, IsErrOf, map, sym, ap, subst, ◌∙◌}
use Rattle.std.proofs.lemmas.Result.{err_from_is_err_and}
use Rattle.smv_language.specs.Language.{program_tree, tree_of, model_tree}
use Rattle.verb_loading.specs.Cases.{HoldsTops}
use Rattle.verb_loading.specs.LoadedCases.{case_of}
use Rattle.verb_loading.specs.declared.input.Stop.TheVariants as stop
use Rattle.verb_loading.proofs.LoadedLaws.{holds_case}
use Rattle.verb_run.proofs.TableLemmas.{table_model_refused, table_faults_refused, table_tops_refused}
use Rattle.base_files.proofs.Stays.{reads_on}
use Rattle.verb_run.proofs.tops.load_table.Goals as goal
use Rattle.base_values.proofs.ResultLaws.{same_fault}

pub returns-in_err-model-clause-refused : goal.returns-in_err-model-clause-refused
returns-in_err-model-clause-refused g c r e =
    let exit = err_from_is_err_and c.from_residual.result c.from_residual.ensures.1 in
    let refused : IsErrOf c.load_model.result (stop.Refused r) = c.in_err-model.was ∙ ap (λ stop. Err stop) (sym exit.2 ∙ same_fault (sym exit.1 ∙ e)) in
    table_model_refused _ _ _ _ r (c.load_model.ensures.refused r refused)

pub returns-in_err-case-clause-refused : goal.returns-in_err-case-clause-refused
returns-in_err-case-clause-refused g c r e =
    let exit = err_from_is_err_and c.from_residual-in_err-case.result c.from_residual-in_err-case.ensures.1 in
    let refused : IsErrOf c.load_case.result (stop.Refused r) = c.in_err-case.was ∙ ap (λ stop. Err stop) (sym exit.2 ∙ same_fault (sym exit.1 ∙ e)) in
    table_faults_refused _ _ _ _ _ _ r c.load_model.ensures.stays.files c.in_ok-model.ensures.ok (c.load_case.ensures.refused r refused)

pub returns-in_err-tops-clause-refused : goal.returns-in_err-tops-clause-refused
returns-in_err-tops-clause-refused g c r e =
    let exit = err_from_is_err_and c.from_residual-in_err-tops.result c.from_residual-in_err-tops.ensures.1 in
    let refused : IsErrOf c.load_tops.result (stop.Refused r) = c.in_err-tops.was ∙ ap (λ stop. Err stop) (sym exit.2 ∙ same_fault (sym exit.1 ∙ e)) in
    let p = program_tree c.in_ok-model.model.program in
    let holds = holds_case _ _ c.args.asked.now.tops.now c.args.asked.now.tops.now _ _ p c.in_ok-case.case c.load_model.ensures.stays.files c.in_ok-model.ensures.ok c.in_ok-case.ensures.ok in
    table_tops_refused _ _ _ _ _ (case_of p c.in_ok-case.case) r (c.load_case.ensures.stays.files ∙ c.load_model.ensures.stays.files) holds (c.load_tops.ensures.refused r refused)

pub returns-clause-ok : goal.returns-clause-ok
returns-clause-ok g c =
    let p = program_tree c.in_ok-model.model.program in
    holds_case _ _ c.args.asked.now.tops.now c.args.asked.now.tops.now _ _ p c.in_ok-case.case c.load_model.ensures.stays.files c.in_ok-model.ensures.ok c.in_ok-case.ensures.ok

pub returns-clause-tops : goal.returns-clause-tops
returns-clause-tops g c =
    let p = program_tree c.in_ok-model.model.program in
    subst (λ told. IfSome told (λ files. HoldsTops files c.args.asked.now.tops.now p (map tree_of c.in_ok-tops.tops.written))) (c.load_case.ensures.stays.files ∙ c.load_model.ensures.stays.files) c.in_ok-tops.ensures.ok

pub returns-clause-able : goal.returns-clause-able
returns-clause-able g c =
    record {
      extensible = record { flat = model_tree c.in_ok-model.model.typed.model; lawful = c.in_ok-model.ensures.lawful; loaded = c.in_ok-case.ensures.loaded };
      events = c.in_ok-tops.ensures.events;
      small = c.requires;
    }

pub returns-in_err-case-clause-stays : goal.returns-in_err-case-clause-stays
returns-in_err-case-clause-stays g c = reads_on _ _ _ c.load_model.ensures.stays c.load_case.ensures.stays

pub returns-in_err-tops-clause-stays : goal.returns-in_err-tops-clause-stays
returns-in_err-tops-clause-stays g c = reads_on _ _ _ (reads_on _ _ _ c.load_model.ensures.stays c.load_case.ensures.stays) c.load_tops.ensures.stays

pub returns-clause-stays : goal.returns-clause-stays
returns-clause-stays g c = reads_on _ _ _ (reads_on _ _ _ c.load_model.ensures.stays c.load_case.ensures.stays) c.load_tops.ensures.stays
