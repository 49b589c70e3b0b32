use Rattle.smv_language.specs.Language.{program_tree, model_tree}
use Rattle.std.proofs.Common.{map}
use Rattle.fault_extend.proofs.GuardLaws.{uses_judged}
use Rattle.fault_rules.proofs.WeavableLaw.{weavable}
use Rattle.fault_instructions.specs.Instructions.{instruction_tree}
use Rattle.fault_extend.specs.WovenFaults.{fault_tree}
use Rattle.fault_extend.proofs.FaultLaws.{faults_are}
use Rattle.fault_extend.proofs.weaving.weave_typed.Goals as goal

pub returns-clause-faults : goal.returns-clause-faults
returns-clause-faults c = λ are.
    faults_are (program_tree c.args.p.now) (instruction_tree c.args.i.now) c.args.typed.now.model.instances (map fault_tree c.in_ok-woven.woven.faults) c.in_ok-woven.ensures.faults are

pub returns-clause-weavable : goal.returns-clause-weavable
returns-clause-weavable c = λ accepted flat mean.
    let p = program_tree c.args.p.now in
    let i = instruction_tree c.args.i.now in
    weavable p i (uses_judged p (model_tree c.args.typed.now.model) i accepted flat c.args.typed.now.typed mean (c.in_ok-judge.ensures.uses accepted flat)) c.in_ok-judge.ensures.kept.items
