-- The first `main` of what is left is the first of all.
use Rattle.std.proofs.Common.{◌≡◌, drop, map, codes}
use Rattle.smv_language.specs.ProgramTree.{module_tree}
use Rattle.smv_scope.specs.SceneTree.{module_from}
use Rattle.smv_scope.proofs.modules.main_place.Given as goal

abbrev pub invariant-loop-k : goal.invariant-loop-k
invariant-loop-k l = module_from l.k (map module_tree (drop l.k l.modules)) (codes "main") ≡ module_from 0 (map module_tree l.modules) (codes "main")
