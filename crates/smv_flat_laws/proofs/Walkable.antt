-- Programs that keep the rules of modules and of the walk: accepted ones among them, and what is left to be kept.
use Rattle.std.proofs.Common.{◌≡◌, Option, Some, None, [], ◌++◌, refl}
use Rattle.std.specs.Prelude.{codes}
use Rattle.smv_language.specs.Language.{ModuleTree, ProgramTree, find_module, Each}
use Rattle.smv_flat_laws.specs.Items.{visits}
use Rattle.smv_flat_laws.specs.Rules.{no_main, module_sites, visit_sites, use_sites, IsKept, IsWalkable, IsAccepted}
use Rattle.smv_flat_laws.proofs.Reaches.{each_left, each_right}
use Rattle.smv_flat_laws.proofs.Conditions.{each_join}

pub accepted_walkable : (p : ProgramTree) → IsAccepted p → IsWalkable p
accepted_walkable p h =
    let more : Each (IsKept p) (visit_sites [] (visits p) ++ use_sites p) = each_right (IsKept p) (module_sites p) _ h.1 in
    record {
      program = h.0;
      modules = each_left (IsKept p) (module_sites p) _ h.1;
      visits = each_left (IsKept p) (visit_sites [] (visits p)) (use_sites p) more;
    }

pub walkable_accepted : (p : ProgramTree) → IsWalkable p → Each (IsKept p) (use_sites p) → IsAccepted p
walkable_accepted p h uses =
    (h.program, each_join (IsKept p) (module_sites p) _ h.modules (each_join (IsKept p) (visit_sites [] (visits p)) (use_sites p) h.visits uses))

pub main_is_there : (p : ProgramTree) → IsWalkable p → (m : ModuleTree) × (find_module p (codes "main") ≡ Some m)
main_is_there p walkable = by_find (find_module p (codes "main")) refl
  where
    by_find : (o : Option ModuleTree) → find_module p (codes "main") ≡ o → (m : ModuleTree) × (find_module p (codes "main") ≡ Some m)
    by_find None e = absurd (walkable.program no_main (rw e refl))
    by_find (Some m) e = (m, e)
