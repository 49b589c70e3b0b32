use Rattle.std.proofs.Common.{◌≡◌, map, take}
use Rattle.smv_language.specs.Language.{tree_of, value_of_member}
use Rattle.fault_instructions.specs.Templates.{value_tree}
use Rattle.fault_instructions.proofs.parts.members.Given as goal

abbrev pub invariant-loop-one : goal.invariant-loop-one
invariant-loop-one l = map tree_of l.made ≡ map (λ m. value_tree (value_of_member m)) (take l.one-index l.members)
