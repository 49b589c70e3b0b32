use Rattle.std.proofs.Common.{Err, IsErrOf, sym, ap, ◌∙◌}
use Rattle.std.proofs.lemmas.Result.{err_from_is_err_and}
use Rattle.smv_language.specs.Language.{program_tree, model_tree}
use Rattle.verb_loading.specs.LoadedCases.{case_of}
use Rattle.verb_loading.proofs.LoadedLaws.{holds_case}
use Rattle.verb_loading.specs.declared.input.Stop.TheVariants as stop
use Rattle.verb_odds.proofs.OddsLaws.{odds_no_model, odds_no_faults, odds_no_mark, odds_no_top}
use Rattle.verb_odds.proofs.odds.load_marked.Goals as goal
use Rattle.base_values.proofs.ResultLaws.{same_fault}

pub returns-in_err-model-clause-refused : goal.returns-in_err-model-clause-refused
returns-in_err-model-clause-refused g c r e =
    let exit = err_from_is_err_and c.from_residual.result c.from_residual.ensures.1 in
    let is = sym exit.2 ∙ same_fault (sym exit.1 ∙ e) in
    odds_no_model _ _ _ _ r (c.load_model.ensures.refused r (c.in_err-model.was ∙ ap (λ s. Err s) is))

pub returns-in_err-model-clause-failed : goal.returns-in_err-model-clause-failed
returns-in_err-model-clause-failed g c e =
    let exit = err_from_is_err_and c.from_residual.result c.from_residual.ensures.1 in
    let is = sym exit.2 ∙ same_fault (sym exit.1 ∙ e) in
    c.load_model.ensures.failed (c.in_err-model.was ∙ ap (λ s. Err s) is)

pub returns-in_err-case-clause-refused : goal.returns-in_err-case-clause-refused
returns-in_err-case-clause-refused g c r e =
    let exit = err_from_is_err_and c.from_residual-in_err-case.result c.from_residual-in_err-case.ensures.1 in
    let is = sym exit.2 ∙ same_fault (sym exit.1 ∙ e) in
    odds_no_faults _ _ _ _ _ _ r c.load_model.ensures.stays.files c.in_ok-model.ensures.ok (c.load_case.ensures.refused r (c.in_err-case.was ∙ ap (λ s. Err s) is))

pub returns-in_err-odds-clause-refused : goal.returns-in_err-odds-clause-refused
returns-in_err-odds-clause-refused g c r e =
    let exit = err_from_is_err_and c.from_residual-in_err-odds.result c.from_residual-in_err-odds.ensures.1 in
    let refused : IsErrOf c.marks_of.result (stop.Refused r) = c.in_err-odds.was ∙ ap (λ s. Err s) (sym exit.2 ∙ same_fault (sym exit.1 ∙ e)) in
    let p = program_tree c.in_ok-model.model.program in
    let holds = holds_case _ _ c.args.asked.now.top.now c.args.asked.now.top.now _ _ p c.in_ok-case.case c.load_model.ensures.stays.files c.in_ok-model.ensures.ok c.in_ok-case.ensures.ok in
    odds_no_mark _ _ _ _ (case_of p c.in_ok-case.case) r holds (c.marks_of.ensures.refused r refused p)

pub returns-in_err-odds-clause-failed : goal.returns-in_err-odds-clause-failed
returns-in_err-odds-clause-failed g c e =
    let exit = err_from_is_err_and c.from_residual-in_err-odds.result c.from_residual-in_err-odds.ensures.1 in
    let refused : IsErrOf c.marks_of.result stop.Desk = c.in_err-odds.was ∙ ap (λ s. Err s) (sym exit.2 ∙ same_fault (sym exit.1 ∙ e)) in
    absurd (c.marks_of.ensures.desk refused)

pub returns-in_err-top-clause-refused : goal.returns-in_err-top-clause-refused
returns-in_err-top-clause-refused g c r e =
    let exit = err_from_is_err_and c.from_residual-in_err-top.result c.from_residual-in_err-top.ensures.1 in
    let is = sym exit.2 ∙ same_fault (sym exit.1 ∙ e) in
    let p = program_tree c.in_ok-model.model.program in
    let holds = holds_case _ _ c.args.asked.now.top.now c.args.asked.now.top.now _ _ p c.in_ok-case.case c.load_model.ensures.stays.files c.in_ok-model.ensures.ok c.in_ok-case.ensures.ok in
    odds_no_top _ _ _ _ (case_of p c.in_ok-case.case) r holds c.in_ok-odds.ensures.all (c.load_top.ensures.refused r (c.in_err-top.was ∙ ap (λ s. Err s) is))

pub returns-in_err-top-clause-failed : goal.returns-in_err-top-clause-failed
returns-in_err-top-clause-failed g c e =
    let exit = err_from_is_err_and c.from_residual-in_err-top.result c.from_residual-in_err-top.ensures.1 in
    let is = sym exit.2 ∙ same_fault (sym exit.1 ∙ e) in
    absurd (c.load_top.ensures.desk (c.in_err-top.was ∙ ap (λ s. Err s) is))

pub returns-clause-ok : goal.returns-clause-ok
returns-clause-ok g c =
    let p = program_tree c.in_ok-model.model.program in
    holds_case _ _ c.args.asked.now.top.now c.args.asked.now.top.now _ _ p c.in_ok-case.case c.load_model.ensures.stays.files c.in_ok-model.ensures.ok c.in_ok-case.ensures.ok

pub returns-clause-marked : goal.returns-clause-marked
returns-clause-marked g c =
    record {
      event = record { flat = model_tree c.in_ok-model.model.typed.model; lawful = c.in_ok-model.ensures.lawful; loaded = c.in_ok-case.ensures.loaded; event = c.in_ok-top.ensures.ok };
      odds = c.in_ok-odds.ensures.odds (program_tree c.in_ok-model.model.program);
      all = c.in_ok-odds.ensures.all;
    }
