use Rattle.std.proofs.Common.{rules, arith, ◌≡◌, ◌++◌}
use Rattle.std.proofs.lemmas.Result.{err_from_is_err_and}
use Rattle.base_files.proofs.Saying.{IsSaid-more, SaysPrefix-refused}
use Rattle.base_files.proofs.Stays.{says_on}
use Rattle.base_files.proofs.whole.say_whole.Goals as goal

pub returns-in_err-say-clause-err : goal.returns-in_err-say-clause-err
returns-in_err-say-clause-err g c =
    let exit = err_from_is_err_and c.from_residual.result c.from_residual.ensures.1 in
    let cut : c.loop-rest.rest.now ≡ c.split_at.result.0.now ++ c.split_at.result.1.now = cc in
    rw exit.1 (SaysPrefix-refused _ _ _ _ _ _ _ c.loop-rest.invariant.said cut c.in_err-say.ensures.err)

pub loop-rest-preserved : goal.loop-rest-preserved
loop-rest-preserved g c =
    let cut : c.loop-rest.rest.now ≡ c.split_at.result.0.now ++ c.split_at.result.1.now = cc in
    record {
      said = IsSaid-more _ _ _ _ _ _ _ c.loop-rest.invariant.said cut c.in_ok-say.ensures.ok;
      stays = says_on _ _ _ c.loop-rest.invariant.stays c.say.ensures.stays;
    }
