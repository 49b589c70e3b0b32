use Rattle.std.proofs.Common.{◌+◌, map, drop}
use Rattle.smv_language.specs.Language.{declared_tree, FlatInstance}
use Rattle.fault_instructions.specs.Instructions.{mode_tree}
use Rattle.smv_flat.specs.ResolvedAt.{IsAt}
use Rattle.fault_extend_laws.specs.SliceUses.{modes_from}
use Rattle.fault_extend.specs.GuardJudgement.{program_in, model_in}
use Rattle.fault_extend.proofs.Deciding.{Decides}
use Rattle.fault_extend.proofs.guards.judge_slice.Given as goal

abbrev pub invariant-loop-mode : goal.invariant-loop-mode
invariant-loop-mode l =
    (at : FlatInstance) → IsAt (program_in l.nominal) (model_in l.nominal) l.instance at →
    Decides (program_in l.nominal) (model_in l.nominal) (modes_from at.place (declared_tree l.placed.declared.now) (l.item + 1) (map mode_tree (drop l.mode-index l.mode-items)))
    (modes_from at.place (declared_tree l.placed.declared.now) (l.placed.item + 1) (map mode_tree l.mode-items))
