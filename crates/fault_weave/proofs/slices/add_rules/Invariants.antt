use Rattle.std.proofs.Common.{◌≡◌, ◌++◌, map, drop}
use Rattle.std.specs.Prelude.{flat_map}
use Rattle.smv_language.specs.ProgramTree.{section_tree}
use Rattle.fault_instructions.specs.Instructions.{mode_tree}
use Rattle.fault_weave.specs.WovenProgram.{mode_rules}
use Rattle.fault_weave.proofs.slices.add_rules.Given as goal

abbrev pub invariant-loop-mode : goal.invariant-loop-mode
invariant-loop-mode l =
    map section_tree l.sections ++ flat_map (λ m. mode_rules l.s.start m.effect l.s.name m.name l.s.target) (map mode_tree (drop l.mode-index l.s.modes)) ≡
    map section_tree l.initial.sections ++ flat_map (λ m. mode_rules l.s.start m.effect l.s.name m.name l.s.target) (map mode_tree l.s.modes)
