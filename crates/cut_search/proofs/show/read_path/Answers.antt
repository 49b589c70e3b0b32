use Rattle.std.proofs.Common.{arith}
use Rattle.cut_search.proofs.show.read_path.Goals as goal
use Rattle.cut_search.proofs.PathLemmas.{read_whole}

pub returns : goal.returns
returns g c = read_whole (g.E.Encoded.problem c.args.model.now) c.args.path.now c.loop-i.long c.loop-i.i (omega (arith, c.loop-i-test.false, c.loop-i.auto.i-end, c.len-i-end.ensures)) c.loop-i.invariant
