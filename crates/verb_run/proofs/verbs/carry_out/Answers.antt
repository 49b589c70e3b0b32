use Rattle.std.proofs.Common.{sym, subst, ◌∙◌}
use Rattle.verb_command_line.specs.CommandView.{seen}
use Rattle.verb_run.specs.CommandNumbers.{IsAskable}
use Rattle.verb_run.specs.Runs.{IsCarriedOut, IsLeftInPart}
use Rattle.verb_run.specs.BoundedAnswers.{IsOfCommand}
use Rattle.verb_run.proofs.verbs.carry_out.Goals as goal

pub tabulate-requires : goal.tabulate-requires
tabulate-requires g c = subst IsAskable c.in-Fmea.is c.command.ensures.askable

pub returns-in-Extend-clause-answered : goal.returns-in-Extend-clause-answered
returns-in-Extend-clause-answered g c =
    subst
    (λ a. IsCarriedOut (seen a) c.extend_model.result (g.D.Desk.told c.args.desk.now).files (g.D.Desk.told c.extend_model.new.desk).files (g.D.Desk.told c.args.desk.now).said (g.D.Desk.told c.extend_model.new.desk).said)
    (sym c.in-Extend.is ∙ c.command.ensures.same) c.extend_model.ensures.answered

pub returns-in-Extend-clause-left : goal.returns-in-Extend-clause-left
returns-in-Extend-clause-left g c =
    subst (λ a. IsLeftInPart (seen a) (g.D.Desk.told c.args.desk.now).files (g.D.Desk.told c.extend_model.new.desk).files (g.D.Desk.told c.args.desk.now).said (g.D.Desk.told c.extend_model.new.desk).said)
    (sym c.in-Extend.is ∙ c.command.ensures.same) c.extend_model.ensures.left

pub returns-in-Replay-clause-answered : goal.returns-in-Replay-clause-answered
returns-in-Replay-clause-answered g c =
    subst
    (λ a. IsCarriedOut (seen a) c.replay_trace.result (g.D.Desk.told c.args.desk.now).files (g.D.Desk.told c.replay_trace.new.desk).files (g.D.Desk.told c.args.desk.now).said (g.D.Desk.told c.replay_trace.new.desk).said)
    (sym c.in-Replay.is ∙ c.command.ensures.same) c.replay_trace.ensures.answered

pub returns-in-Replay-clause-left : goal.returns-in-Replay-clause-left
returns-in-Replay-clause-left g c =
    subst (λ a. IsLeftInPart (seen a) (g.D.Desk.told c.args.desk.now).files (g.D.Desk.told c.replay_trace.new.desk).files (g.D.Desk.told c.args.desk.now).said (g.D.Desk.told c.replay_trace.new.desk).said)
    (sym c.in-Replay.is ∙ c.command.ensures.same) c.replay_trace.ensures.left

pub returns-in-Analyse-clause-answered : goal.returns-in-Analyse-clause-answered
returns-in-Analyse-clause-answered g c =
    subst
    (λ a. IsCarriedOut (seen a) c.analyse_event.result (g.D.Desk.told c.args.desk.now).files (g.D.Desk.told c.analyse_event.new.desk).files (g.D.Desk.told c.args.desk.now).said (g.D.Desk.told c.analyse_event.new.desk).said)
    (sym c.in-Analyse.is ∙ c.command.ensures.same) c.analyse_event.ensures.answered

pub returns-in-Analyse-clause-left : goal.returns-in-Analyse-clause-left
returns-in-Analyse-clause-left g c =
    subst (λ a. IsLeftInPart (seen a) (g.D.Desk.told c.args.desk.now).files (g.D.Desk.told c.analyse_event.new.desk).files (g.D.Desk.told c.args.desk.now).said (g.D.Desk.told c.analyse_event.new.desk).said)
    (sym c.in-Analyse.is ∙ c.command.ensures.same) c.analyse_event.ensures.left

pub returns-in-Check-clause-answered : goal.returns-in-Check-clause-answered
returns-in-Check-clause-answered g c =
    subst
    (λ a. IsCarriedOut (seen a) c.check_certificate.result (g.D.Desk.told c.args.desk.now).files (g.D.Desk.told c.check_certificate.new.desk).files (g.D.Desk.told c.args.desk.now).said (g.D.Desk.told c.check_certificate.new.desk).said)
    (sym c.in-Check.is ∙ c.command.ensures.same) c.check_certificate.ensures.answered

pub returns-in-Check-clause-left : goal.returns-in-Check-clause-left
returns-in-Check-clause-left g c =
    subst (λ a. IsLeftInPart (seen a) (g.D.Desk.told c.args.desk.now).files (g.D.Desk.told c.check_certificate.new.desk).files (g.D.Desk.told c.args.desk.now).said (g.D.Desk.told c.check_certificate.new.desk).said)
    (sym c.in-Check.is ∙ c.command.ensures.same) c.check_certificate.ensures.left

pub returns-in-Fmea-clause-answered : goal.returns-in-Fmea-clause-answered
returns-in-Fmea-clause-answered g c =
    subst
    (λ a. IsCarriedOut (seen a) c.tabulate.result (g.D.Desk.told c.args.desk.now).files (g.D.Desk.told c.tabulate.new.desk).files (g.D.Desk.told c.args.desk.now).said (g.D.Desk.told c.tabulate.new.desk).said)
    (sym c.in-Fmea.is ∙ c.command.ensures.same) c.tabulate.ensures.answered

pub returns-in-Fmea-clause-left : goal.returns-in-Fmea-clause-left
returns-in-Fmea-clause-left g c =
    subst (λ a. IsLeftInPart (seen a) (g.D.Desk.told c.args.desk.now).files (g.D.Desk.told c.tabulate.new.desk).files (g.D.Desk.told c.args.desk.now).said (g.D.Desk.told c.tabulate.new.desk).said)
    (sym c.in-Fmea.is ∙ c.command.ensures.same) c.tabulate.ensures.left

pub returns-in-Make-clause-answered : goal.returns-in-Make-clause-answered
returns-in-Make-clause-answered g c =
    subst
    (λ a. IsCarriedOut (seen a) c.make_case.result (g.D.Desk.told c.args.desk.now).files (g.D.Desk.told c.make_case.new.desk).files (g.D.Desk.told c.args.desk.now).said (g.D.Desk.told c.make_case.new.desk).said)
    (sym c.in-Make.is ∙ c.command.ensures.same) c.make_case.ensures.answered

pub returns-in-Make-clause-left : goal.returns-in-Make-clause-left
returns-in-Make-clause-left g c =
    subst (λ a. IsLeftInPart (seen a) (g.D.Desk.told c.args.desk.now).files (g.D.Desk.told c.make_case.new.desk).files (g.D.Desk.told c.args.desk.now).said (g.D.Desk.told c.make_case.new.desk).said)
    (sym c.in-Make.is ∙ c.command.ensures.same) c.make_case.ensures.left

pub make_case-requires : goal.make_case-requires
make_case-requires g c = subst IsAskable c.in-Make.is c.command.ensures.askable

pub causes-requires : goal.causes-requires
causes-requires g c = subst IsAskable c.in-Causes.is c.command.ensures.askable

pub returns-in-Causes-clause-answered : goal.returns-in-Causes-clause-answered
returns-in-Causes-clause-answered g c =
    subst
    (λ a. IsCarriedOut (seen a) c.causes.result (g.D.Desk.told c.args.desk.now).files (g.D.Desk.told c.causes.new.desk).files (g.D.Desk.told c.args.desk.now).said (g.D.Desk.told c.causes.new.desk).said)
    (sym c.in-Causes.is ∙ c.command.ensures.same) c.causes.ensures.answered

pub returns-in-Causes-clause-left : goal.returns-in-Causes-clause-left
returns-in-Causes-clause-left g c =
    subst (λ a. IsLeftInPart (seen a) (g.D.Desk.told c.args.desk.now).files (g.D.Desk.told c.causes.new.desk).files (g.D.Desk.told c.args.desk.now).said (g.D.Desk.told c.causes.new.desk).said)
    (sym c.in-Causes.is ∙ c.command.ensures.same) c.causes.ensures.left

pub returns-in-CheckCauses-clause-answered : goal.returns-in-CheckCauses-clause-answered
returns-in-CheckCauses-clause-answered g c =
    subst
    (λ a. IsCarriedOut (seen a) c.checked_causes.result (g.D.Desk.told c.args.desk.now).files (g.D.Desk.told c.checked_causes.new.desk).files (g.D.Desk.told c.args.desk.now).said (g.D.Desk.told c.checked_causes.new.desk).said)
    (sym c.in-CheckCauses.is ∙ c.command.ensures.same) c.checked_causes.ensures.answered

pub returns-in-CheckCauses-clause-left : goal.returns-in-CheckCauses-clause-left
returns-in-CheckCauses-clause-left g c =
    subst (λ a. IsLeftInPart (seen a) (g.D.Desk.told c.args.desk.now).files (g.D.Desk.told c.checked_causes.new.desk).files (g.D.Desk.told c.args.desk.now).said (g.D.Desk.told c.checked_causes.new.desk).said)
    (sym c.in-CheckCauses.is ∙ c.command.ensures.same) c.checked_causes.ensures.left

pub returns-in-Orders-clause-answered : goal.returns-in-Orders-clause-answered
returns-in-Orders-clause-answered g c =
    subst
    (λ a. IsCarriedOut (seen a) c.orders.result (g.D.Desk.told c.args.desk.now).files (g.D.Desk.told c.orders.new.desk).files (g.D.Desk.told c.args.desk.now).said (g.D.Desk.told c.orders.new.desk).said)
    (sym c.in-Orders.is ∙ c.command.ensures.same) c.orders.ensures.answered

pub returns-in-Orders-clause-left : goal.returns-in-Orders-clause-left
returns-in-Orders-clause-left g c =
    subst (λ a. IsLeftInPart (seen a) (g.D.Desk.told c.args.desk.now).files (g.D.Desk.told c.orders.new.desk).files (g.D.Desk.told c.args.desk.now).said (g.D.Desk.told c.orders.new.desk).said)
    (sym c.in-Orders.is ∙ c.command.ensures.same) c.orders.ensures.left

pub returns-in-CheckOrders-clause-answered : goal.returns-in-CheckOrders-clause-answered
returns-in-CheckOrders-clause-answered g c =
    subst
    (λ a. IsCarriedOut (seen a) c.checked_orders.result (g.D.Desk.told c.args.desk.now).files (g.D.Desk.told c.checked_orders.new.desk).files (g.D.Desk.told c.args.desk.now).said (g.D.Desk.told c.checked_orders.new.desk).said)
    (sym c.in-CheckOrders.is ∙ c.command.ensures.same) c.checked_orders.ensures.answered

pub returns-in-CheckOrders-clause-left : goal.returns-in-CheckOrders-clause-left
returns-in-CheckOrders-clause-left g c =
    subst (λ a. IsLeftInPart (seen a) (g.D.Desk.told c.args.desk.now).files (g.D.Desk.told c.checked_orders.new.desk).files (g.D.Desk.told c.args.desk.now).said (g.D.Desk.told c.checked_orders.new.desk).said)
    (sym c.in-CheckOrders.is ∙ c.command.ensures.same) c.checked_orders.ensures.left

pub odds-requires : goal.odds-requires
odds-requires g c = subst IsAskable c.in-Odds.is c.command.ensures.askable

pub returns-in-Odds-clause-answered : goal.returns-in-Odds-clause-answered
returns-in-Odds-clause-answered g c =
    subst
    (λ a. IsCarriedOut (seen a) c.odds.result (g.D.Desk.told c.args.desk.now).files (g.D.Desk.told c.odds.new.desk).files (g.D.Desk.told c.args.desk.now).said (g.D.Desk.told c.odds.new.desk).said)
    (sym c.in-Odds.is ∙ c.command.ensures.same) c.odds.ensures.answered

pub returns-in-Odds-clause-left : goal.returns-in-Odds-clause-left
returns-in-Odds-clause-left g c =
    subst (λ a. IsLeftInPart (seen a) (g.D.Desk.told c.args.desk.now).files (g.D.Desk.told c.odds.new.desk).files (g.D.Desk.told c.args.desk.now).said (g.D.Desk.told c.odds.new.desk).said)
    (sym c.in-Odds.is ∙ c.command.ensures.same) c.odds.ensures.left

pub orders-requires : goal.orders-requires
orders-requires g c = subst IsAskable c.in-Orders.is c.command.ensures.askable

pub checked_orders-requires : goal.checked_orders-requires
checked_orders-requires g c = subst IsAskable c.in-CheckOrders.is c.command.ensures.askable

pub returns-in-Extend-clause-status : goal.returns-in-Extend-clause-status
returns-in-Extend-clause-status g c = subst (λ a. IsOfCommand (seen a) c.extend_model.result) (sym c.in-Extend.is ∙ c.command.ensures.same) c.extend_model.ensures.status

pub returns-in-Replay-clause-status : goal.returns-in-Replay-clause-status
returns-in-Replay-clause-status g c = subst (λ a. IsOfCommand (seen a) c.replay_trace.result) (sym c.in-Replay.is ∙ c.command.ensures.same) c.replay_trace.ensures.status

pub returns-in-Analyse-clause-status : goal.returns-in-Analyse-clause-status
returns-in-Analyse-clause-status g c = subst (λ a. IsOfCommand (seen a) c.analyse_event.result) (sym c.in-Analyse.is ∙ c.command.ensures.same) c.analyse_event.ensures.status

pub returns-in-Check-clause-status : goal.returns-in-Check-clause-status
returns-in-Check-clause-status g c = subst (λ a. IsOfCommand (seen a) c.check_certificate.result) (sym c.in-Check.is ∙ c.command.ensures.same) c.check_certificate.ensures.status

pub returns-in-Fmea-clause-status : goal.returns-in-Fmea-clause-status
returns-in-Fmea-clause-status g c = subst (λ a. IsOfCommand (seen a) c.tabulate.result) (sym c.in-Fmea.is ∙ c.command.ensures.same) c.tabulate.ensures.status

pub returns-in-Make-clause-status : goal.returns-in-Make-clause-status
returns-in-Make-clause-status g c = subst (λ a. IsOfCommand (seen a) c.make_case.result) (sym c.in-Make.is ∙ c.command.ensures.same) c.make_case.ensures.status

pub returns-in-Causes-clause-status : goal.returns-in-Causes-clause-status
returns-in-Causes-clause-status g c = subst (λ a. IsOfCommand (seen a) c.causes.result) (sym c.in-Causes.is ∙ c.command.ensures.same) c.causes.ensures.status

pub returns-in-CheckCauses-clause-status : goal.returns-in-CheckCauses-clause-status
returns-in-CheckCauses-clause-status g c = subst (λ a. IsOfCommand (seen a) c.checked_causes.result) (sym c.in-CheckCauses.is ∙ c.command.ensures.same) c.checked_causes.ensures.status

pub returns-in-Orders-clause-status : goal.returns-in-Orders-clause-status
returns-in-Orders-clause-status g c = subst (λ a. IsOfCommand (seen a) c.orders.result) (sym c.in-Orders.is ∙ c.command.ensures.same) c.orders.ensures.status

pub returns-in-CheckOrders-clause-status : goal.returns-in-CheckOrders-clause-status
returns-in-CheckOrders-clause-status g c = subst (λ a. IsOfCommand (seen a) c.checked_orders.result) (sym c.in-CheckOrders.is ∙ c.command.ensures.same) c.checked_orders.ensures.status

pub returns-in-Odds-clause-status : goal.returns-in-Odds-clause-status
returns-in-Odds-clause-status g c = subst (λ a. IsOfCommand (seen a) c.odds.result) (sym c.in-Odds.is ∙ c.command.ensures.same) c.odds.ensures.status
