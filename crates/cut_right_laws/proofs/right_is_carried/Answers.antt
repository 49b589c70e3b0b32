use Rattle.cut_right_laws.proofs.Carried.{right_carried}
use Rattle.cut_right_laws.proofs.right_is_carried.Goals as goal

pub returns : goal.returns
returns g c =
    right_carried _ _ g.T.Traces.is_trace g.T.Traces.reaches g.T.Traces.has_failed g.U.Traces.is_trace g.U.Traces.reaches g.U.Traces.has_failed g.T.Corresponding.related g.T.Corresponding.class g.T.Corresponding.other_class
