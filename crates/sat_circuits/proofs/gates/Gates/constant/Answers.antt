use Rattle.std.proofs.Common.{sym, ◌∙◌, ap, take}
use Rattle.sat_circuits.specs.Circuit.{Circuit}
use Rattle.sat_circuits.proofs.Extension.{HasTruth-from}
use Rattle.sat_circuits.proofs.gates.Gates.constant.Goals as goal

pub returns-clause-truth : goal.returns-clause-truth
returns-clause-truth c = HasTruth-from c.args.self.now (ap (λ (s : Circuit). take 1 s.clauses) (sym c.self.view_is) ∙ c.self.invariant.2)
