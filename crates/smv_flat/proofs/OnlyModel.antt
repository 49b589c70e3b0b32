-- The flat model of an accepted program is its only one.
use Rattle.std.proofs.Common.{◌≡◌, Bool, true, false, [], ◌∷◌, None, refl, sym}
use Rattle.smv_language.specs.Flat.{FlatModel}
use Rattle.smv_flat_laws.specs.Rules.{IsAccepted}
use Rattle.smv_flat_laws.specs.Model.{IsFlatOf}
use Rattle.smv_flat_laws.proofs.OneModel.{one_model}
use Rattle.smv_scope.specs.declared.fault.FlatRule.{FlatRule}
use Rattle.smv_scope.specs.declared.names.Scene.{Scene}
use Rattle.smv_scope.specs.declared.needs.Needs.{Needs}
use Rattle.smv_scope.specs.Faults.{first_of}
use Rattle.smv_scope.specs.SceneTree.{program_of, IsScene}
use Rattle.smv_scope.specs.NeedsTree.{AreNeeds}
use Rattle.smv_flat.proofs.BuildLeaves.{order}
use Rattle.smv_flat.proofs.BuildUnique.{all_one}
use Rattle.smv_flat.proofs.OrderedOnce.{keys_differ}

pub only_model : (s : Scene) (n : Needs) (scene : IsScene s) (needs : AreNeeds (program_of s) n) → IsAccepted (program_of s) → (m k : FlatModel) → IsFlatOf (program_of s) m → IsFlatOf (program_of s) k → k ≡ m
only_model s n scene needs accepted m k is also =
    sym (one_model (program_of s) m k scene.set.walkable is
    (keys_differ (program_of s) scene.set.walkable n.order.items n.places.items (order s n scene needs accepted) is.written (all_one is.order (order s n scene needs accepted).adds)) also)

-- where no rule of three is told, the second is not broken
pub second_not : (a b c : Bool) (x y z : FlatRule) → first_of ((a, x) ∷ (b, y) ∷ (c, z) ∷ []) ≡ None → b ≡ false
second_not true b c x y z e = cc
second_not false true c x y z e = cc
second_not false false c x y z e = refl
