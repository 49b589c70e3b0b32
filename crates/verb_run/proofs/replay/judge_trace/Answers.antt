use Rattle.std.proofs.Common.{sym, subst, ◌-◌, ◌∙◌}
use Rattle.smv_language.specs.Language.{model_tree, flat_tree, told_trace}
use Rattle.smv_evaluation.specs.Stops.{Stops}
use Rattle.smv_evaluation.specs.Replay.{IsReplayed}
use Rattle.verb_loading.specs.declared.status.Why.TheVariants as why
use Rattle.verb_run.specs.Replays.{reason_of}
use Rattle.verb_run.proofs.ReplayLemmas.{moment_told, as_many}
use Rattle.verb_run.proofs.replay.judge_trace.Goals as goal
use Rattle.base_values.proofs.ResultLaws.{same_fault}

pub replay-requires-clause-top : goal.replay-requires-clause-top
replay-requires-clause-top c = record { own = c.requires.own; right = c.requires.kept }

pub returns-in-Reaches-clause-ok : goal.returns-in-Reaches-clause-ok
returns-in-Reaches-clause-ok c = subst (IsReplayed _ _ _) c.in-Reaches.is c.replay.ensures.answer

pub returns-in-BadFirst-clause-refused : goal.returns-in-BadFirst-clause-refused
returns-in-BadFirst-clause-refused c r e =
    moment_told (model_tree c.args.typed.now.model) (flat_tree c.args.top.now) (told_trace c.args.typed.now.model.symbols c.args.trace.now) 0 why.First r (sym (same_fault e) ∙ c.moment_stop-in-BadFirst.ensures)
    (subst (IsReplayed _ _ _) c.in-BadFirst.is c.replay.ensures.answer)

pub returns-clause-refused : goal.returns-clause-refused
returns-clause-refused c r e =
    moment_told (model_tree c.args.typed.now.model) (flat_tree c.args.top.now) (told_trace c.args.typed.now.model.symbols c.args.trace.now) c.in-BadStep.number why.Step r (sym (same_fault e) ∙ c.moment_stop-in-BadStep.ensures)
    (subst (IsReplayed _ _ _) c.in-BadStep.is c.replay.ensures.answer)

pub returns-in-NoTop-clause-refused : goal.returns-in-NoTop-clause-refused
returns-in-NoTop-clause-refused c r e =
    let m = model_tree c.args.typed.now.model in
    let top = flat_tree c.args.top.now in
    let moments = told_trace c.args.typed.now.model.symbols c.args.trace.now in
    moment_told m top moments (c.len.result - 1) why.Top r (sym (same_fault e) ∙ c.moment_stop.ensures)
    (subst (λ n. Stops m top moments (n - 1) (reason_of why.Top)) (as_many c.args.typed.now.model.symbols c.args.trace.now ∙ sym c.len.ensures) (subst (IsReplayed m top moments) c.in-NoTop.is c.replay.ensures.answer))
