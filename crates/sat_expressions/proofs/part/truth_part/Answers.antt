use Rattle.std.proofs.Common.{ap, sym, subst, ◌∙◌}
use Rattle.sat_circuits.specs.Gates.{constant_lit}
use Rattle.sat_encoding_laws.specs.Signals.{bit}
use Rattle.sat_encoding_laws.specs.Meanings.{IsSignal}
use Rattle.sat_expressions.specs.Parts.{asked_of, truth_sort}
use Rattle.sat_expressions.proofs.Nodes.{result_at}
use Rattle.sat_expressions.proofs.part.truth_part.Goals as goal

pub answer-requires-clause-usable : goal.answer-requires-clause-usable
answer-requires-clause-usable c = subst (IsSignal c.args.g.now) (sym c.truth.ensures.signal) c.constant-l.ensures.below

pub returns : goal.returns
returns c =
    result_at _ (asked_of c.args.asked) c.args.g.now _ (bit (constant_lit c.args.b)) _ truth_sort _ (c.truth.ensures.signal ∙ ap (λ x. bit x) c.constant-l.ensures.literal) c.truth.ensures.sort c.answer.ensures
