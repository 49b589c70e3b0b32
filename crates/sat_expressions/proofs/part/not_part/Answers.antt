use Rattle.std.proofs.Common.{ap, sym, subst, ◌∙◌}
use Rattle.sat_clauses.specs.Literal.{opposite}
use Rattle.sat_clauses.specs.Models.{IsBelow}
use Rattle.sat_encoding_laws.specs.Signals.{bit, literal_in}
use Rattle.sat_encoding_laws.specs.Meanings.{IsSignal}
use Rattle.sat_expressions.specs.BuiltSignals.{signal_of}
use Rattle.sat_expressions.specs.Parts.{asked_of, truth_sort}
use Rattle.sat_expressions.proofs.Nodes.{result_at}
use Rattle.sat_expressions.proofs.part.not_part.Goals as goal

pub answer-requires-clause-usable : goal.answer-requires-clause-usable
answer-requires-clause-usable c = subst (IsSignal c.args.g.now) (sym c.truth.ensures.signal) (subst (IsBelow c.args.g.now.free) (sym c.neg-l.ensures) c.literal.ensures.below)

pub returns : goal.returns
returns c =
    result_at _ (asked_of c.args.asked) c.args.g.now _ (bit (opposite (literal_in (signal_of c.args.a.signal)))) _ truth_sort _
    (c.truth.ensures.signal ∙ ap (λ x. bit x) (c.neg-l.ensures ∙ ap opposite c.literal.ensures.value)) c.truth.ensures.sort c.answer.ensures
