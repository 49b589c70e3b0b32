use Rattle.std.proofs.Common.{arith, ◌+◌, map}
use Rattle.std.proofs.lemmas.Result.{err_from_is_err_and}
use Rattle.std.proofs.lemmas.List.{length-map}
use Rattle.smv_language.specs.Language.{program_tree, tree_of}
use Rattle.fault_extend.proofs.EachItem.{item_there}
use Rattle.verb_loading.specs.Cases.{IsTop, IsWrongTop}
use Rattle.verb_run.specs.Tables.{IsFirstNoTop}
use Rattle.verb_loading.proofs.Told.{refused_weaker}
use Rattle.verb_run.proofs.TableLemmas.{one_more, each_of}
use Rattle.verb_run.proofs.tops.judge_tops.Goals as goal

pub scope_of-requires : goal.scope_of-requires
scope_of-requires c = c.requires.lawful.accepted

pub returns-in_err-scope-clause-wrong : goal.returns-in_err-scope-clause-wrong
returns-in_err-scope-clause-wrong c =
    let exit = err_from_is_err_and c.from_residual.result c.from_residual.ensures.1 in
    let p = program_tree c.args.model.now.program in
    rw (exit.1, exit.2) (refused_weaker (λ told. ⊥) (IsFirstNoTop p (map tree_of c.args.tops.now)) (λ told bad. absurd bad) _ c.in_err-scope.ensures.wrong)

pub loop-i-preserved : goal.loop-i-preserved
loop-i-preserved c =
    let p = program_tree c.args.model.now.program in
    one_more (IsTop p) tree_of c.args.tops.now c.loop-i.i c.index-tops-i.result c.loop-i-test.true c.index-tops-i.is c.loop-i.invariant c.in_ok-judge_at.ensures.ok

pub returns-in_err-judge_at-clause-wrong : goal.returns-in_err-judge_at-clause-wrong
returns-in_err-judge_at-clause-wrong c =
    let exit = err_from_is_err_and c.from_residual-in_err-judge_at.result c.from_residual-in_err-judge_at.ensures.1 in
    let p = program_tree c.args.model.now.program in
    rw (exit.1, exit.2) (refused_weaker (IsWrongTop p (tree_of c.index-tops-i.result) (c.loop-i.i + 1)) (IsFirstNoTop p (map tree_of c.args.tops.now))
    (λ told bad. record {
      place = c.loop-i.i;
      event = tree_of c.index-tops-i.result;
      is_there = item_there tree_of c.args.tops.now c.loop-i.i c.index-tops-i.result c.loop-i-test.true c.index-tops-i.is;
      before = c.loop-i.invariant;
      wrong = bad;
    }) _ c.in_err-judge_at.ensures.wrong)

pub returns-clause-ok : goal.returns-clause-ok
returns-clause-ok c =
    let p = program_tree c.args.model.now.program in
    let long = length-map c.args.tops.now tree_of in
    let past = c.loop-i-test.false in
    each_of (IsTop p) (map tree_of c.args.tops.now) (λ j e less there. c.loop-i.invariant j e (omega (arith, long, past, less)) there)
