use Rattle.std.proofs.Common.{ap, subst, ◌∙◌}
use Rattle.sat_encoding_laws.specs.Signals.{literal_in, choice_gates}
use Rattle.sat_expressions.specs.BuiltSignals.{signal_of, BuildsSignal}
use Rattle.sat_expressions.specs.Sorts.{sort_width}
use Rattle.sat_expressions.proofs.part.chosen_part.Goals as goal

pub returns-clause-signal : goal.returns-clause-signal
returns-clause-signal c =
    subst (λ k. BuildsSignal c.args.g.now (choice_gates k (literal_in (signal_of c.args.c.signal)) (signal_of c.args.a.signal) (signal_of c.args.b.signal) c.args.g.now) c.choice.new.g c.in_ok-signal.signal)
    (c.sort_width-width.ensures.value ∙ ap (sort_width c.args.names.now.symbols) c.joined_sort.ensures)
    (subst (λ x. BuildsSignal c.args.g.now (choice_gates c.sort_width-width.result x (signal_of c.args.a.signal) (signal_of c.args.b.signal) c.args.g.now) c.choice.new.g c.in_ok-signal.signal) c.literal-l.ensures.value
    c.in_ok-signal.ensures)
