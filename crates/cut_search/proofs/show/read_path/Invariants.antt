-- the moments so far are read
use Rattle.cut_search.specs.Progress.{AreReadBelow}
use Rattle.cut_search.proofs.show.read_path.Given as goal

abbrev pub invariant-loop-i : goal.invariant-loop-i
invariant-loop-i g l = AreReadBelow (g.E.Encoded.problem l.model) l.i l.path l.long
