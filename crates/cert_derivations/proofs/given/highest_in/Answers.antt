use Rattle.cert_derivations.proofs.Highest.{begin_in}
use Rattle.std.proofs.Common.{arith}
use Rattle.cert_derivations.proofs.given.highest_in.Goals as goal

pub loop-lit-init : goal.loop-lit-init
loop-lit-init c = record { least = omega arith; rest = begin_in c.args.lits.now }
