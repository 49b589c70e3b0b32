use Rattle.cut_search.proofs.show.read_moment.Goals as goal
use Rattle.cut_search.proofs.PathLemmas.{readable_at, read_at}

pub valuation_of-requires : goal.valuation_of-requires
valuation_of-requires g c = readable_at (g.E.Encoded.problem c.args.model.now) c.args.path.now c.args.i c.len-count.result c.at.result.now c.len-count.ensures c.at.ensures c.requires.within c.requires.lawful

pub returns : goal.returns
returns g c = read_at (g.E.Encoded.problem c.args.model.now) c.args.path.now c.args.i c.len-count.result c.at.result.now c.in_ok-value.value c.len-count.ensures c.at.ensures c.in_ok-value.ensures
