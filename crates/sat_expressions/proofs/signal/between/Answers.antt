use Rattle.std.proofs.Common.{subst, w64}
use Rattle.std.proofs.lemmas.Int.{to_z-of_z}
use Rattle.sat_circuits.specs.Numbers.{number_word}
use Rattle.sat_circuits.specs.Sums.{less_gates}
use Rattle.sat_expressions.specs.BuiltSignals.{BuildsLiteral}
use Rattle.sat_expressions.proofs.SignalLaws.{between_is}
use Rattle.sat_expressions.proofs.signal.between.Goals as goal

pub returns : goal.returns
returns c =
    between_is c.args.g.now c.is_under.new.g c.is_over.new.g c.and.new.self c.args.w.now c.args.lo c.args.hi c.in_ok-under.under c.in_ok-over.over c.neg.result c.neg-2.result c.in_ok-l.l
    (subst (λ z. BuildsLiteral c.args.g.now (less_gates c.args.w.now (number_word z) c.args.g.now) c.is_under.new.g c.in_ok-under.under) (to_z-of_z w64 c.args.lo c.ranges.lo) c.in_ok-under.ensures)
    (subst (λ z. BuildsLiteral c.is_under.new.g (less_gates (number_word z) c.args.w.now c.is_under.new.g) c.is_over.new.g c.in_ok-over.over) (to_z-of_z w64 c.args.hi c.ranges.hi) c.in_ok-over.ensures)
    c.neg.ensures c.neg-2.ensures c.in_ok-l.ensures.exact c.in_ok-l.ensures.value.shape c.in_ok-l.ensures.value.extends.counted
