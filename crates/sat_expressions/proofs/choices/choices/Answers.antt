use Rattle.std.proofs.Common.{◌≡◌, ◌-◌, suc, length, arith}
use Rattle.sat_expressions.specs.BuiltSignals.{signal_of, signals_of}
use Rattle.sat_expressions.proofs.ChoiceLoop.{usable_at, usable_later, choices_first, choices_next, choices_end}
use Rattle.sat_expressions.proofs.choices.choices.Goals as goal
use Rattle.smv_language.proofs.ListLaws.{get_there}

pub fitted-requires-clause-usable : goal.fitted-requires-clause-usable
fitted-requires-clause-usable c = usable_at c.args.g.now c.args.values.now (length c.args.conditions.now) _ c.in_ok-last.last (get_there c.args.values.now (length c.args.conditions.now) _ (omega (arith, c.requires.long)) c.index-values-left.is) c.in_ok-last.ensures c.requires.values

pub loop-left-init : goal.loop-left-init
loop-left-init c = (
  choices_first c.args.width c.args.conditions.now c.args.values.now c.args.g.now _ c.in_ok-last.last c.in_ok-chosen.chosen (get_there c.args.values.now (length c.args.conditions.now) _ (omega (arith, c.requires.long)) c.index-values-left.is) c.in_ok-last.ensures c.in_ok-chosen.ensures,
  c.in_ok-chosen.ensures.usable,
  omega arith,
  omega arith,
)

pub choice-requires-clause-left : goal.choice-requires-clause-left
choice-requires-clause-left c =
    usable_at c.loop-left.g c.args.values.now (c.loop-left.left - 1) _ c.in_ok-value.value (get_there c.args.values.now (c.loop-left.left - 1) _ (omega (arith, c.requires.long, c.loop-left.invariant.3)) c.index-values-left-in-loop-left.is) c.in_ok-value.ensures
    (usable_later c.args.g.now c.loop-left.g c.loop-left.invariant.2 c.args.values.now c.requires.values)

pub loop-left-preserved : goal.loop-left-preserved
loop-left-preserved c =
    let is : c.loop-left.left ≡ suc (c.loop-left.left - 1) = grind arith in (
      choices_next c.args.width c.args.conditions.now c.args.values.now c.loop-left.g c.choice.new.g c.loop-left.chosen _ c.in_ok-value.value c.in_ok-chosen-2.chosen _ c.loop-left.left (c.loop-left.left - 1) _
          is c.requires.long c.loop-left.invariant.3 (get_there c.args.conditions.now (c.loop-left.left - 1) _ (omega (arith, is, c.loop-left.invariant.3)) c.index-conditions-left.is) (get_there c.args.values.now (c.loop-left.left - 1) _ (omega (arith, c.requires.long, c.loop-left.invariant.3)) c.index-values-left-in-loop-left.is) c.in_ok-value.ensures c.in_ok-chosen-2.ensures c.loop-left.invariant.0,
      c.in_ok-chosen-2.ensures.usable,
      omega (arith, c.loop-left.invariant.2, c.in_ok-chosen-2.ensures.grows),
      omega (arith, c.loop-left.invariant.3),
    )

pub returns : goal.returns
returns c =
    let none : c.loop-left.left ≡ 0 = grind arith in
    record {
      exact = choices_end c.args.width c.args.conditions.now (signals_of c.args.values.now) (c.loop-left.g, signal_of c.loop-left.chosen) _ c.loop-left.left none c.loop-left.invariant.0;
      usable = c.loop-left.invariant.1;
      grows = c.loop-left.invariant.2;
    }
