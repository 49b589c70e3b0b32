use Rattle.cert_derivations.proofs.Highest.{begin}
use Rattle.std.proofs.Common.{arith}
use Rattle.cert_derivations.proofs.given.highest.Goals as goal

pub loop-clause-init : goal.loop-clause-init
loop-clause-init c = record { least = omega arith; rest = begin c.args.clauses.now }
