use Rattle.std.proofs.Common.{rules, arith, ◌≡◌, ◌++◌}
use Rattle.std.proofs.lemmas.Result.{err_from_is_err_and}
use Rattle.base_files.proofs.Writing.{IsWritten-more, WritesPrefix-refused}
use Rattle.base_files.proofs.Stays.{writes_on}
use Rattle.base_files.proofs.whole.write_whole.Goals as goal

pub returns-in_err-append-clause-err : goal.returns-in_err-append-clause-err
returns-in_err-append-clause-err g c =
    let exit = err_from_is_err_and c.from_residual-in_err-append.result c.from_residual-in_err-append.ensures.1 in
    let cut : c.loop-rest.rest.now ≡ c.split_at.result.0.now ++ c.split_at.result.1.now = cc in
    rw exit.1 (WritesPrefix-refused _ _ _ _ _ _ _ _ c.loop-rest.invariant.written cut c.in_err-append.ensures.err)

pub loop-rest-preserved : goal.loop-rest-preserved
loop-rest-preserved g c =
    let cut : c.loop-rest.rest.now ≡ c.split_at.result.0.now ++ c.split_at.result.1.now = cc in
    record {
      written = IsWritten-more _ _ _ _ _ _ _ _ c.loop-rest.invariant.written cut c.in_ok-append.ensures.ok;
      stays = writes_on _ _ _ c.loop-rest.invariant.stays c.append.ensures.stays;
    }
