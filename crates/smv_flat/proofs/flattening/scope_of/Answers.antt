-- That there is no module `main` is the first broken rule.
use Rattle.std.proofs.Common.{rules, ◌≡◌, None, Some, codes}
use Rattle.smv_language.specs.ProgramTree.{program_tree}
use Rattle.smv_scope.specs.SceneTree.{module_from}
use Rattle.smv_flat.proofs.FlatFaults.{no_place, place_found, no_main_fault}
use Rattle.smv_flat.proofs.flattening.scope_of.Goals as goal

pub returns-in-Some-clause-no_main : goal.returns-in-Some-clause-no_main
returns-in-Some-clause-no_main c = λ none.
    let main : module_from 0 (program_tree c.args.p.now) (codes "main") ≡ Some c.in-Some.main = search rules in
    absurd (place_found 0 (program_tree c.args.p.now) (codes "main") c.in-Some.main main none)

pub returns-in-None-clause-fault : goal.returns-in-None-clause-fault
returns-in-None-clause-fault c =
    let none : module_from 0 (program_tree c.args.p.now) (codes "main") ≡ None = search rules in
    no_main_fault (program_tree c.args.p.now) (no_place 0 (program_tree c.args.p.now) (codes "main") none)
