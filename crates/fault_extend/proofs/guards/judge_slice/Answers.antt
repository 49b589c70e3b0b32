use Rattle.std.proofs.Common.{◌+◌, map, subst}
use Rattle.smv_language.specs.ProgramTree.{declared_tree}
use Rattle.fault_instructions.specs.Instructions.{mode_tree}
use Rattle.fault_extend_laws.specs.SliceUses.{modes_from}
use Rattle.fault_extend.specs.GuardJudgement.{program_in, model_in}
use Rattle.fault_extend.specs.FirstRefusal.{IsFirstFault}
use Rattle.fault_extend.proofs.Deciding.{mode_next, mode_first}
use Rattle.fault_extend.proofs.guards.judge_slice.Goals as goal

pub returns-in-Err-clause-told : goal.returns-in-Err-clause-told
returns-in-Err-clause-told c = λ at is.
    subst (λ modes.
    IsFirstFault (program_in c.args.nominal) (model_in c.args.nominal) (modes_from at.place (declared_tree c.args.placed.declared.now) (c.args.placed.item + 1) (map mode_tree modes))
    (record { cause = c.in-Err.cause; item = c.in_ok-item.item })) c.as_slice-mode-items.ensures
    (mode_first (program_in c.args.nominal) (model_in c.args.nominal) at.place (declared_tree c.args.placed.declared.now) c.as_slice-mode-items.result.now c.loop-mode.mode-index c.mode-item.result c.loop-mode.item c.in_ok-item.item
    (modes_from at.place (declared_tree c.args.placed.declared.now) (c.args.placed.item + 1) (map mode_tree c.as_slice-mode-items.result.now)) c.loop-mode-test.true c.mode-item.is c.in_ok-item.ensures.next
    (c.loop-mode.invariant at is) c.in-Err.cause (c.in-Err.ensures.told at c.in_ok-item.item is))

pub loop-mode-preserved : goal.loop-mode-preserved
loop-mode-preserved c = λ at is.
    mode_next (program_in c.args.nominal) (model_in c.args.nominal) at.place (declared_tree c.args.placed.declared.now) c.as_slice-mode-items.result.now c.loop-mode.mode-index c.mode-item.result c.loop-mode.item c.in_ok-item.item
    (modes_from at.place (declared_tree c.args.placed.declared.now) (c.args.placed.item + 1) (map mode_tree c.as_slice-mode-items.result.now)) c.loop-mode-test.true c.mode-item.is c.in_ok-item.ensures.next
    (c.loop-mode.invariant at is) (c.in-Ok.ensures.kept at c.in_ok-item.item is)
