use Rattle.std.proofs.Common.{arith}
use Rattle.cert_making.proofs.DeriveLemmas.{begins_highest}
use Rattle.cert_making.proofs.derive.highest.Goals as goal

pub loop-clause-init : goal.loop-clause-init
loop-clause-init c = record { positive = omega arith; all = begins_highest c.as_slice-clause-items.result.now }
