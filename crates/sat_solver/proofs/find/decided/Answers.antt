use Rattle.std.proofs.Common.{sym, ◌∙◌}
use Rattle.sat_solver.proofs.VerdictLemmas.{never_unknown}
use Rattle.sat_solver.proofs.find.decided.Goals as goal

pub unreachable-requires : goal.unreachable-requires
unreachable-requires c =
    never_unknown c.args.assign.now c.args.lits.now c.requires.in_range c.requires.taken c.see_positive.ensures (sym c.truth_of_lits-truth.ensures.value ∙ c.in-Unknown.is)
