use Rattle.std.proofs.Common.{sym, subst}
use Rattle.sat_circuits.specs.Gates.{or_gate}
use Rattle.sat_encoding_laws.specs.Signals.{literal_in}
use Rattle.sat_expressions.specs.BuiltSignals.{signal_of, BuildsLiteral}
use Rattle.sat_expressions.specs.Parts.{IsBit}
use Rattle.sat_expressions.proofs.Nodes.{literal_built}
use Rattle.sat_expressions.proofs.part.union_part.Goals as goal

pub returns-clause-signal : goal.returns-clause-signal
returns-clause-signal c =
    literal_built c.args.g.now c.either.new.g (or_gate (literal_in (signal_of c.args.a.signal)) (literal_in (signal_of c.args.b.signal)) c.args.g.now) c.in_ok-l.l c.truth.result
    (subst (λ x. BuildsLiteral c.args.g.now (or_gate x (literal_in (signal_of c.args.b.signal)) c.args.g.now) c.either.new.g c.in_ok-l.l) c.literal.ensures.value
    (subst (λ x. BuildsLiteral c.args.g.now (or_gate c.literal.result x c.args.g.now) c.either.new.g c.in_ok-l.l) c.literal-2.ensures.value c.in_ok-l.ensures))
    c.truth.ensures.signal

pub returns-clause-bit : goal.returns-clause-bit
returns-clause-bit c = subst IsBit (sym c.truth.ensures.signal) tt
