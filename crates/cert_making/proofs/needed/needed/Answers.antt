use Rattle.sat_clauses.specs.Hints.{HasNoOpposites}
use Rattle.sat_clauses.specs.States.{IsOverBits}
use Rattle.cert_making.proofs.PartLemmas.{all_among}
use Rattle.cert_making.proofs.needed.needed.Goals as goal

pub keep-requires-clause-over_bits : goal.keep-requires-clause-over_bits
keep-requires-clause-over_bits g c = all_among (IsOverBits c.args.system.now) c.args.invariant.now c.in_ok-clauses.clauses c.requires.over_bits c.in_ok-clauses.ensures

pub keep-requires-clause-apart : goal.keep-requires-clause-apart
keep-requires-clause-apart g c = all_among HasNoOpposites c.args.invariant.now c.in_ok-clauses.clauses c.requires.apart c.in_ok-clauses.ensures
