use Rattle.std.proofs.Common.{◌≡◌, ap, subst, ◌∙◌}
use Rattle.sat_expressions.specs.BuiltSignals.{signal_of, signals_of}
use Rattle.sat_expressions.specs.Choices.{chosen_gates}
use Rattle.sat_expressions.specs.Sorts.{sort_width}
use Rattle.sat_expressions.proofs.branches.chosen_of.Goals as goal

pub returns : goal.returns
returns c = record {
  usable = c.in_ok-signal.ensures.usable;
  grows = c.in_ok-signal.ensures.grows;
  right = λ long. (
    subst (λ k. chosen_gates k c.args.parts.now.conditions (signals_of c.args.parts.now.values) c.args.g.now ≡ (c.choices.new.g, signal_of c.in_ok-signal.signal))
        (c.sort_width-width.ensures.value ∙ ap (sort_width c.args.names.now.symbols) c.sort_or_truth.ensures)
        (subst (λ x. chosen_gates c.sort_width-width.result x (signals_of c.args.parts.now.values) c.args.g.now ≡ (c.choices.new.g, signal_of c.in_ok-signal.signal)) c.as_slice-conditions.ensures
        (subst (λ x. chosen_gates c.sort_width-width.result c.as_slice-conditions.result.now (signals_of x) c.args.g.now ≡ (c.choices.new.g, signal_of c.in_ok-signal.signal)) c.as_slice-values.ensures c.in_ok-signal.ensures.exact)),
    c.sort_or_truth-2.ensures,
  );
}
