use Rattle.std.proofs.Common.{Err, sym, ap, ◌∙◌}
use Rattle.std.proofs.lemmas.Result.{err_from_is_err_and}
use Rattle.verb_orders.specs.declared.pair.PairWords.{PairWords}
use Rattle.verb_orders.proofs.OrderLaws.{concludes_from, concluded_within}
use Rattle.verb_orders.proofs.orders.prepare.Goals as goal
use Rattle.base_values.proofs.ResultLaws.{same_fault}

pub answer-found-requires : goal.answer-found-requires
answer-found-requires g c = c.in_ok-staged.ensures.staged

pub returns-in_err-staged-clause-refused : goal.returns-in_err-staged-clause-refused
returns-in_err-staged-clause-refused g c r e asked =
    let exit = err_from_is_err_and c.from_residual.result c.from_residual.ensures.1 in
    c.load_pair.ensures.refused r (c.in_err-staged.was ∙ ap (λ s. Err s) (sym exit.2 ∙ same_fault (sym exit.1 ∙ e))) asked

pub returns-clause-ok : goal.returns-clause-ok
returns-clause-ok g c asked =
    let a = c.args.asked.now in
    let w : PairWords = record { model = a.model; faults = a.faults; top = a.top; set = a.set; first = a.first; second = a.second } in
    concludes_from _ c.in_ok-staged.staged c.in_ok-staged.ensures.staged w a.depth c.in_ok-found.field-0 c.in_ok-staged.ensures.ok c.in_ok-staged.ensures.asked c.in_ok-staged.ensures.numbers c.in_ok-found.ensures asked

pub returns-clause-depth : goal.returns-clause-depth
returns-clause-depth g c = concluded_within c.in_ok-staged.staged c.args.asked.now.depth c.in_ok-found.field-0 c.in_ok-found.ensures
