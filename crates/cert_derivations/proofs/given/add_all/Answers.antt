use Rattle.std.proofs.Common.{subst, sym}
use Rattle.std.specs.Prelude.{All}
use Rattle.sat_clauses.specs.Derivation.{IsUpTo}
use Rattle.cert_derivations.proofs.Highest.{each_below}
use Rattle.cert_derivations.proofs.given.add_all.Goals as goal

pub add_given-requires : goal.add_given-requires
add_given-requires c =
    subst (λ v. All (IsUpTo v) c.clause-item.result) (sym c.loop-clause.invariant.vars)
    (each_below c.args.checker.now.vars c.args.clauses.now c.loop-clause.clause-index c.clause-item.result c.requires c.loop-clause-test.true c.clause-item.is)
