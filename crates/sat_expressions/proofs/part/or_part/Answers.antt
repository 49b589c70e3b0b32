use Rattle.std.proofs.Common.{subst}
use Rattle.std.specs.Prelude.{IfOk}
use Rattle.sat_circuits.specs.Gates.{or_gate}
use Rattle.sat_expressions.specs.BuiltSignals.{BuildsLiteral}
use Rattle.sat_expressions.proofs.part.or_part.Goals as goal

pub returns : goal.returns
returns c = subst (λ x. IfOk c.either.result (BuildsLiteral c.args.g.now (or_gate c.args.l x c.args.g.now) c.either.new.g)) c.literal.ensures.value c.either.ensures
