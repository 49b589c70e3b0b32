use Rattle.std.proofs.Common.{◌≡◌, ◌∷◌, map, take, Some, None}
use Rattle.smv_language.specs.ExpressionTree.{tree_of}
use Rattle.fault_instructions.specs.Instructions.{mode_tree}
use Rattle.fault_instructions.specs.AddedNames.{mode_symbol}
use Rattle.fault_instructions.specs.Templates.{named}
use Rattle.fault_weave.proofs.slices.state_symbols.Given as goal

abbrev pub invariant-loop-mode : goal.invariant-loop-mode
invariant-loop-mode l = map tree_of l.made ≡ named (mode_symbol l.s.name None) ∷ map (λ m. named (mode_symbol l.s.name (Some m.name))) (map mode_tree (take l.mode-index l.s.modes))
