use Rattle.std.proofs.Common.{[], ◌+◌, ◌<◌, ◌++◌, ◌∷◌, length, ap, ◌∙◌, arith}
use Rattle.fault_cause_laws.specs.CauseRules.{names_of_cause}
use Rattle.fault_cause_laws.specs.StagedModel.{hit_name}
use Rattle.fault_causes_reader.specs.StageView.{written_tree}
use Rattle.fault_causes_reader.proofs.RuleSteps.{hits_more}
use Rattle.fault_causes_reader.proofs.added.cause_names.Goals as goal

pub loop-i-preserved : goal.loop-i-preserved
loop-i-preserved c =
    let below : c.loop-i.i < length c.args.cause.now.strikes = omega (arith, c.loop-i-test.true, c.len-i-end.ensures) in
    hits_more c.args.cause.now.name c.loop-i.names c.push-in-loop-i.new.self (names_of_cause (written_tree c.args.cause.now)) c.args.cause.now.strikes c.loop-i.i [] below
    (c.in_ok-push-5.ensures.ok ∙ ap (λ z. c.loop-i.names ++ z ∷ []) (c.in_ok-numbered.ensures ∙ ap (λ t. hit_name t (c.loop-i.i + 1)) c.text-text.ensures)) c.loop-i.invariant
