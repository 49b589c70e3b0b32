use Rattle.std.proofs.Common.{Err, IsErrOf, sym, ap, ◌∙◌}
use Rattle.std.proofs.lemmas.Result.{err_from_is_err_and}
use Rattle.verb_loading.proofs.SaidLaws.{rose_later}
use Rattle.verb_loading.specs.declared.input.Stop.TheVariants as stop
use Rattle.verb_orders.specs.declared.pair.PairWords.{PairWords}
use Rattle.verb_orders.proofs.ClaimLaws.{check_no_pair, check_refused, check_done}
use Rattle.base_files.proofs.Stays.{reads_on}
use Rattle.verb_orders.proofs.claims.prepare.Goals as goal
use Rattle.base_values.proofs.ResultLaws.{same_fault}

pub judge_file-judged-requires : goal.judge_file-judged-requires
judge_file-judged-requires g c = c.in_ok-staged.ensures.staged

pub returns-in_err-staged-clause-refused : goal.returns-in_err-staged-clause-refused
returns-in_err-staged-clause-refused g c r e asked =
    let exit = err_from_is_err_and c.from_residual.result c.from_residual.ensures.1 in
    let refused : IsErrOf c.load_pair.result (stop.Refused r) = c.in_err-staged.was ∙ ap (λ s. Err s) (sym exit.2 ∙ same_fault (sym exit.1 ∙ e)) in
    let a = c.args.asked.now in
    let w : PairWords = record { model = a.model; faults = a.faults; top = a.top; set = a.set; first = a.first; second = a.second } in
    check_no_pair w a.claim.now a.cert.now _ r (c.load_pair.ensures.refused r refused asked)

pub returns-clause-ok : goal.returns-clause-ok
returns-clause-ok g c =
    let a = c.args.asked.now in
    let w : PairWords = record { model = a.model; faults = a.faults; top = a.top; set = a.set; first = a.first; second = a.second } in
    check_done w a.claim.now a.cert.now c.in_ok-staged.staged c.in_ok-staged.ensures.staged c.in_ok-staged.ensures.asked c.in_ok-staged.ensures.numbers _ _ c.load_pair.ensures.stays.files c.in_ok-staged.ensures.ok
    c.judge_file-judged.result c.judge_file-judged.ensures.ok

pub returns-clause-refused : goal.returns-clause-refused
returns-clause-refused g c r e asked =
    let a = c.args.asked.now in
    let w : PairWords = record { model = a.model; faults = a.faults; top = a.top; set = a.set; first = a.first; second = a.second } in
    check_refused w a.claim.now a.cert.now c.in_ok-staged.staged c.in_ok-staged.ensures.staged c.in_ok-staged.ensures.asked (c.in_ok-staged.ensures.numbers asked) _ _ r c.load_pair.ensures.stays.files c.in_ok-staged.ensures.ok
    (c.judge_file-judged.ensures.refused r e)

pub returns-clause-failed : goal.returns-clause-failed
returns-clause-failed g c e = rose_later _ _ _ c.load_pair.ensures.stays.later (c.judge_file-judged.ensures.failed e)

pub returns-clause-stays : goal.returns-clause-stays
returns-clause-stays g c = reads_on _ _ _ c.load_pair.ensures.stays c.judge_file-judged.ensures.stays
