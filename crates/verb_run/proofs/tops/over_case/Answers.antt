use Rattle.std.proofs.Common.{arith, [], false}
use Rattle.std.proofs.lemmas.Result.{err_from_is_err_and}
use Rattle.smv_language.specs.Language.{program_tree, tree_of, model_tree, flat_tree}
use Rattle.smv_flat_laws.specs.ResolvedAt.{IsResolvedAt}
use Rattle.verb_run.proofs.TableLemmas.{each_at, both_next, both_whole}
use Rattle.verb_run.proofs.tops.over_case.Goals as goal
use Rattle.smv_flat_laws.specs.ValueRules.{KeepsValue}

pub returns-in_err-scope-clause-wrong : goal.returns-in_err-scope-clause-wrong
returns-in_err-scope-clause-wrong c =
    let exit = err_from_is_err_and c.from_residual.result c.from_residual.ensures.1 in
    rw (exit.1, exit.2) c.in_err-scope.ensures.wrong

pub over_extension-requires-clause-names : goal.over_extension-requires-clause-names
over_extension-requires-clause-names c =
    let q = program_tree c.args.case.now.limited.woven.program in
    each_at (λ e. KeepsValue q [] false (tree_of e)) c.args.tops.now c.loop-top.top-index c.top-item.result c.requires.names c.loop-top-test.true c.top-item.is

pub loop-top-preserved : goal.loop-top-preserved
loop-top-preserved c =
    let q = program_tree c.args.case.now.limited.woven.program in
    let m = model_tree c.args.case.now.limited.typed.model in
    let made = c.in_ok-over_extension.field-0 in
    both_next (λ e tree. IsResolvedAt q m [] (tree_of e) (flat_tree tree)) c.args.tops.now c.loop-top.over c.push.new.self c.loop-top.top-index c.top-item.result made c.loop-top-test.true c.top-item.is c.loop-top.invariant
    c.in_ok-over_extension.ensures.ok c.in_ok-push.ensures.ok

pub returns-clause-ok : goal.returns-clause-ok
returns-clause-ok c =
    let q = program_tree c.args.case.now.limited.woven.program in
    let m = model_tree c.args.case.now.limited.typed.model in
    both_whole (λ e tree. IsResolvedAt q m [] (tree_of e) (flat_tree tree)) c.args.tops.now c.loop-top.over c.loop-top.top-index (omega (arith, c.loop-top-test.false)) c.loop-top.invariant
