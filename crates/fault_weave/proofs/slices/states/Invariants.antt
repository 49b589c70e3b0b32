use Rattle.std.proofs.Common.{◌≡◌, ◌∷◌, map, take, Some, None}
use Rattle.smv_language.specs.declared.program.Member.TheVariants as member
use Rattle.fault_instructions.specs.Instructions.{mode_tree}
use Rattle.fault_instructions.specs.AddedNames.{mode_symbol}
use Rattle.fault_weave.proofs.slices.states.Given as goal

abbrev pub invariant-loop-mode : goal.invariant-loop-mode
invariant-loop-mode l = l.made ≡ member.Symbol (mode_symbol l.s.name None) ∷ map (λ m. member.Symbol (mode_symbol l.s.name (Some m.name))) (map mode_tree (take l.mode-index l.s.modes))
