use Rattle.std.proofs.Common.{sym, subst}
use Rattle.sat_expressions.specs.BuiltSignals.{signal_of}
use Rattle.sat_expressions.specs.Parts.{asked_of, Answers}
use Rattle.sat_expressions.proofs.Nodes.{answers_value, answers_has}
use Rattle.sat_expressions.proofs.part.answer.Goals as goal

pub returns-in-ItsValue : goal.returns-in-ItsValue
returns-in-ItsValue c =
    subst (λ a. Answers (asked_of a) c.args.g.now (c.args.g.now, signal_of c.args.part.signal) c.args.part.sort c.args.g.now c.args.part) (sym c.in-ItsValue.is) (answers_value c.args.g.now c.args.part c.requires.usable)

pub returns-in_ok-l-in-WhetherHas : goal.returns-in_ok-l-in-WhetherHas
returns-in_ok-l-in-WhetherHas c =
    subst (λ a. Answers (asked_of a) c.args.g.now (c.args.g.now, signal_of c.args.part.signal) c.args.part.sort c.same.new.g c.truth.result) (sym c.in-WhetherHas.is)
    (answers_has _ (signal_of c.args.part.signal) c.args.part.sort c.args.g.now c.same.new.g c.truth.result c.in_ok-l-in-WhetherHas.l c.in_ok-l-in-WhetherHas.ensures c.truth.ensures.signal)
