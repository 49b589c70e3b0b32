use Rattle.std.proofs.Common.{Err, IsErrOf, sym, subst, ap, ◌∙◌}
use Rattle.std.proofs.lemmas.Result.{err_from_is_err_and}
use Rattle.verb_orders.specs.Pairs.{IsPair}
use Rattle.verb_loading.specs.declared.input.Stop.TheVariants as stops
use Rattle.verb_orders.proofs.pair.pair_set.Goals as goal
use Rattle.base_values.proofs.ResultLaws.{same_fault}

pub returns-in_err-judge_pair-clause-kept : goal.returns-in_err-judge_pair-clause-kept
returns-in_err-judge_pair-clause-kept c r e asked =
    let exit = err_from_is_err_and c.from_residual-in_err-judge_pair.result c.from_residual-in_err-judge_pair.ensures.1 in
    let refused : IsErrOf c.judge_pair.result (stops.Refused r) = c.in_err-judge_pair.was ∙ ap (λ s. Err s) (sym exit.2 ∙ same_fault (sym exit.1 ∙ e)) in
    c.judge_pair.ensures.kept r refused
    (subst (λ set. IsPair set c.args.asked.now.first c.args.asked.now.second) (sym (c.deref.ensures.value ∙ c.in_ok-set.ensures asked.is_set)) asked.pair)

pub returns-in_err-judge_pair-clause-desk : goal.returns-in_err-judge_pair-clause-desk
returns-in_err-judge_pair-clause-desk c e =
    let exit = err_from_is_err_and c.from_residual-in_err-judge_pair.result c.from_residual-in_err-judge_pair.ensures.1 in
    let refused : IsErrOf c.judge_pair.result stops.Desk = c.in_err-judge_pair.was ∙ ap (λ s. Err s) (sym exit.2 ∙ same_fault (sym exit.1 ∙ e)) in
    c.judge_pair.ensures.desk refused

pub returns-clause-pair : goal.returns-clause-pair
returns-clause-pair c = subst (λ set. IsPair set c.args.asked.now.first c.args.asked.now.second) c.deref.ensures.value c.in_ok-judge_pair.ensures.ok

pub returns-clause-numbers : goal.returns-clause-numbers
returns-clause-numbers c asked = c.in_ok-set.ensures asked.is_set
