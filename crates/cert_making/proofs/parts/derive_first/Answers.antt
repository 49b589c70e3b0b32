use Rattle.cert_making.proofs.PartLemmas.{first_follow}
use Rattle.cert_making.proofs.parts.derive_first.Goals as goal

pub returns-clause-proof : goal.returns-clause-proof
returns-clause-proof g c bad is = c.in_ok-steps.ensures.follow (first_follow c.args.system.now c.args.invariant.now bad c.requires.over_bits is)
