use Rattle.std.proofs.Common.{◌∙◌, sym, ap, map}
use Rattle.smv_language.specs.ModelTree.{model_tree}
use Rattle.smv_flat_laws.specs.FaultModes.{mode_of}
use Rattle.fault_orders.specs.Stage.{stage}
use Rattle.verb_loading.specs.Wholes.{BreaksKinds}
use Rattle.verb_orders.proofs.PairLaws.{stage_refused, stage_no_desk, stage_wrong}
use Rattle.verb_orders.proofs.pair.staged_model.Goals as goal
use Rattle.base_values.proofs.ResultLaws.{same_fault}

pub returns-in-Err-clause-refused : goal.returns-in-Err-clause-refused
returns-in-Err-clause-refused c r e =
    stage_refused (BreaksKinds (stage (model_tree c.args.limited.now.typed.model) (map mode_of c.args.limited.now.faults) c.args.first c.args.second)) c.in-Err.wrong r (sym c.stage_stop.ensures ∙ same_fault e)
    (stage_wrong c.in_ok-model.model c.in-Err.wrong _ (c.in_ok-model.ensures ∙ ap (λ m. stage (model_tree m) (map mode_of c.args.limited.now.faults) c.args.first c.args.second) c.model.ensures.model) c.in-Err.ensures.wrong)

pub returns-in-Err-clause-desk : goal.returns-in-Err-clause-desk
returns-in-Err-clause-desk c e = stage_no_desk c.in-Err.wrong (sym c.stage_stop.ensures ∙ same_fault e)
