use Rattle.std.proofs.Common.{subst, w64}
use Rattle.std.proofs.lemmas.Int.{to_z-of_z}
use Rattle.sat_clauses.specs.Literal.{Literal}
use Rattle.sat_circuits.specs.Circuit.{Circuit}
use Rattle.sat_encoding_laws.specs.Signals.{between_gates}
use Rattle.sat_expressions.specs.BuiltSignals.{BuildsLiteral}
use Rattle.sat_encoding.proofs.LoopLaws.{literal_is}
use Rattle.sat_encoding.proofs.domains.range.Goals as goal

pub returns : goal.returns
returns c =
    literal_is c.args.g.now c.between.new.g c.assert_true.new.self _ c.in_ok-found.found
    (subst (λ (r : Circuit × Literal). BuildsLiteral c.args.g.now r c.between.new.g c.in_ok-found.found)
    (λ i. between_gates (c.in_ok-word.ensures.value i) (to_z-of_z w64 c.args.lo c.ranges.lo i) (to_z-of_z w64 c.args.hi c.ranges.hi i) c.args.g.now) c.in_ok-found.ensures) c.in_ok-assert_true.ensures.ok
