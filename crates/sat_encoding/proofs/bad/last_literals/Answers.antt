use Rattle.std.proofs.Common.{◌+◌, ◌-◌, ◌++◌, ◌∙◌, List, length, map, sym, ap, subst, arith}
use Rattle.std.specs.List.{range_with_len}
use Rattle.sat_clauses.specs.Literal.{Literal}
use Rattle.sat_circuits.specs.Meaning.{AllBelow}
use Rattle.sat_expressions.specs.BuiltSignals.{signal_of, signals_of}
use Rattle.sat_expressions.proofs.ChoiceLoop.{get_mapped}
use Rattle.sat_encoding.specs.History.{literal_of}
use Rattle.sat_encoding.proofs.BadLaws.{literals_next, below_end}
use Rattle.sat_encoding.proofs.bad.last_literals.Goals as goal

pub loop-i-preserved : goal.loop-i-preserved
loop-i-preserved c = (
  ap (λ (w : List Literal). w ++ map (literal_of (signals_of c.args.signals.now)) (range_with_len (c.loop-i.i + 1) (length c.args.signals.now - (c.loop-i.i + 1)))) c.in_ok-push.ensures.ok
      ∙ literals_next (signals_of c.args.signals.now) c.loop-i.literals c.literal.result (signal_of c.at.result.now) c.loop-i.i (length c.args.signals.now) _ (omega arith) (get_mapped c.args.signals.now c.loop-i.i c.at.result.now c.at.ensures) c.literal.ensures.value
      c.loop-i.invariant.0,
  subst (λ (w : List Literal). AllBelow c.args.g.now.free w) (sym c.in_ok-push.ensures.ok) (below_end c.args.g.now.free c.loop-i.literals c.literal.result c.loop-i.invariant.1 c.literal.ensures.below),
  omega arith,
)
