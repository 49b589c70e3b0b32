use Rattle.std.proofs.Common.{[], ◌≤◌, length, false, map, sym, subst}
use Rattle.std.proofs.lemmas.Result.{err_from_is_err_and}
use Rattle.std.proofs.lemmas.List.{length-map}
use Rattle.base_values.specs.declared.limits.TheConstants.{MOST_TOPS}
use Rattle.smv_language.specs.Language.{program_tree, Each, EachBoth, tree_of, flat_tree, model_tree}
use Rattle.smv_flat_laws.specs.Model.{IsFlatOf}
use Rattle.smv_flat_laws.specs.ResolvedAt.{IsResolvedAt}
use Rattle.smv_flat_laws.specs.Rules.{IsAccepted}
use Rattle.verb_loading.specs.Wrongs.{IfRefused}
use Rattle.verb_loading.specs.Cases.{IsTop}
use Rattle.verb_loading.specs.LoadedCases.{case_of}
use Rattle.verb_run.specs.Tables.{IsWrongList, IsFirstNoTop, IsWrongTops, wrong_list, wrong_event}
use Rattle.verb_loading.proofs.Told.{refused_weaker}
use Rattle.verb_loading.proofs.TopLaws.{names_over}
use Rattle.verb_run.proofs.TableLemmas.{are_events}
use Rattle.verb_run.proofs.tops.tops_of.Goals as goal
use Rattle.sat_encoding_laws.proofs.SetLaws.{each_kept}
use Rattle.smv_flat_laws.proofs.Lists.{each_of_map}
use Rattle.smv_flat_laws.specs.ValueRules.{KeepsValue}

pub returns-in_err-written-clause-wrong : goal.returns-in_err-written-clause-wrong
returns-in_err-written-clause-wrong c =
    let exit = err_from_is_err_and c.from_residual.result c.from_residual.ensures.1 in
    let p = program_tree c.args.model.now.program in
    rw (exit.1, exit.2) (refused_weaker (IsWrongList c.args.bytes.now) (IsWrongTops p c.args.bytes.now) (λ told bad. wrong_list bad) _ c.in_err-written.ensures.wrong)

pub judge_tops-requires-clause-few : goal.judge_tops-requires-clause-few
judge_tops-requires-clause-few c =
    subst (λ xs. length xs ≤ MOST_TOPS) (sym c.as_slice.ensures) (subst (λ n. n ≤ MOST_TOPS) (length-map c.in_ok-written.written tree_of) c.in_ok-written.ensures.ok.few)

pub returns-in_err-judge_tops-clause-wrong : goal.returns-in_err-judge_tops-clause-wrong
returns-in_err-judge_tops-clause-wrong c =
    let exit = err_from_is_err_and c.from_residual-in_err-judge_tops.result c.from_residual-in_err-judge_tops.ensures.1 in
    let p = program_tree c.args.model.now.program in
    let bad = subst (λ xs. IfRefused (IsFirstNoTop p (map tree_of xs)) c.in_err-judge_tops.field-0.0) c.as_slice.ensures c.in_err-judge_tops.ensures.wrong in
    rw (exit.1, exit.2) (refused_weaker (IsFirstNoTop p (map tree_of c.in_ok-written.written)) (IsWrongTops p c.args.bytes.now) (λ told first. wrong_event (map tree_of c.in_ok-written.written) c.in_ok-written.ensures.ok first) _ bad)

pub over_case-requires-clause-accepted : goal.over_case-requires-clause-accepted
over_case-requires-clause-accepted c = subst IsAccepted (sym c.requires.loaded.program) c.requires.loaded.is_case.within.accepted

pub over_case-requires-clause-flat : goal.over_case-requires-clause-flat
over_case-requires-clause-flat c =
    let l = c.args.case.now in
    subst (λ q. IsFlatOf q (model_tree l.limited.typed.model)) (sym c.requires.loaded.program) c.requires.loaded.is_case.is_flat.is

pub over_case-requires-clause-names : goal.over_case-requires-clause-names
over_case-requires-clause-names c =
    let p = program_tree c.args.model.now.program in
    let l = c.args.case.now in
    let q = program_tree l.limited.woven.program in
    let m = model_tree c.args.model.now.typed.model in
    let xs = c.in_ok-written.written in
    let judged = subst (λ es. Each (IsTop p) (map tree_of es)) c.as_slice.ensures c.in_ok-judge_tops.ensures.ok in
    let kept : Each (λ e. KeepsValue q [] false e) (map tree_of xs) =
    each_kept (IsTop p) (λ e. KeepsValue q [] false e)
    (λ e top. subst (λ r. KeepsValue r [] false e) (sym c.requires.loaded.program) (names_over (case_of p l) c.requires.loaded.is_case m c.requires.lawful e top)) (map tree_of xs) judged in
    subst (λ es. Each (λ e. KeepsValue q [] false (tree_of e)) es) (sym c.as_slice-2.ensures) (each_of_map (λ e. KeepsValue q [] false e) tree_of xs kept)

pub returns-in_err-over-clause-wrong : goal.returns-in_err-over-clause-wrong
returns-in_err-over-clause-wrong c =
    let exit = err_from_is_err_and c.from_residual-in_err-over.result c.from_residual-in_err-over.ensures.1 in
    let p = program_tree c.args.model.now.program in
    rw (exit.1, exit.2) (refused_weaker (λ told. ⊥) (IsWrongTops p c.args.bytes.now) (λ told bad. absurd bad) _ c.in_err-over.ensures.wrong)

pub returns-clause-tops : goal.returns-clause-tops
returns-clause-tops c =
    let p = program_tree c.args.model.now.program in
    subst (λ es. Each (IsTop p) (map tree_of es)) c.as_slice.ensures c.in_ok-judge_tops.ensures.ok

pub returns-clause-events : goal.returns-clause-events
returns-clause-events c =
    let p = program_tree c.args.model.now.program in
    let l = c.args.case.now in
    let m = model_tree l.limited.typed.model in
    let xs = c.in_ok-written.written in
    let over = c.in_ok-over.over in
    let judged = subst (λ es. Each (IsTop p) (map tree_of es)) c.as_slice.ensures c.in_ok-judge_tops.ensures.ok in
    let resolved =
    subst (λ es. EachBoth (λ e tree. IsResolvedAt (program_tree l.limited.woven.program) m [] (tree_of e) (flat_tree tree)) es over) c.as_slice-2.ensures c.in_ok-over.ensures.ok in
    are_events (case_of p l) tree_of flat_tree xs over judged
    (subst (λ q. EachBoth (λ e tree. IsResolvedAt q m [] (tree_of e) (flat_tree tree)) xs over) c.requires.loaded.program resolved)
