-- One fault more has one bit more, and the traces are those that the law of history tells.
use Rattle.std.proofs.Common.{◌≡◌, ◌+◌, ◌<◌, ◌≤◌, length, get_or, map, take, rules, ap, ◌∙◌, sym, subst}
use Rattle.std.proofs.lemmas.List.{take_all}
use Rattle.smv_language.specs.ModelTree.{model_tree}
use Rattle.smv_flat_laws.specs.FaultModes.{mode_of}
use Rattle.smv_flat_laws.specs.History.{with_history, with_bit}
use Rattle.smv_flat_laws.specs.FlatTrace.{TellsHistory}
use Rattle.smv_flat_laws.proofs.HistoryLaws.{more_bits}
use Rattle.smv_flat_laws.proofs.HistoryTraces.{history_exactly}
use Rattle.smv_flat.proofs.history.with_history.Goals as goal

pub loop-k-preserved : goal.loop-k-preserved
loop-k-preserved c =
    let within : c.loop-k.k < length c.args.faults.now = search rules in
    let item : get_or c.args.faults.now c.loop-k.k c.fault-item.result ≡ c.fault-item.result = search rules in
    let step : model_tree c.add_bit.new.made ≡ with_bit (c.loop-k.k + 1) (mode_of c.fault-item.result) (model_tree c.loop-k.made) = search rules in
    step
    ∙ ap (with_bit (c.loop-k.k + 1) (mode_of c.fault-item.result)) c.loop-k.invariant
    ∙ ap (λ f. with_bit (c.loop-k.k + 1) (mode_of f) (with_history (model_tree c.args.m.now) (map mode_of (take c.loop-k.k c.args.faults.now)))) (sym item)
    ∙ sym (more_bits mode_of (model_tree c.args.m.now) c.args.faults.now c.loop-k.k c.fault-item.result within)

pub returns-clause-traces : goal.returns-clause-traces
returns-clause-traces c =
    let past : length c.args.faults.now ≤ c.loop-k.k = search rules in
    let same : model_tree c.loop-k.made ≡ with_history (model_tree c.args.m.now) (map mode_of c.args.faults.now) =
    c.loop-k.invariant ∙ ap (λ fs. with_history (model_tree c.args.m.now) (map mode_of fs)) (take_all c.loop-k.k c.args.faults.now past) in
    λ own modes. subst (TellsHistory (model_tree c.args.m.now) (map mode_of c.args.faults.now)) (sym same)
    (history_exactly (model_tree c.args.m.now) (map mode_of c.args.faults.now) own modes)
