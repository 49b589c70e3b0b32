use Rattle.std.proofs.Common.{All, sym, subst}
use Rattle.sat_clauses.specs.Hints.{HasNoOpposites}
use Rattle.cert_making.proofs.PartLemmas.{moved_apart}
use Rattle.cert_making.proofs.needed.Needs.keep.Goals as goal

pub derive-requires : goal.derive-requires
derive-requires g c = record { apart = subst (All HasNoOpposites) (sym c.in_ok-goals.ensures) (moved_apart c.args.system.now.state_bits c.args.clauses.now c.requires.apart) }
