-- What a step finds is what the part means.
use Rattle.std.proofs.Common.{◌≡◌, ℕ, Bool, Option, Some, None, refl}
use Rattle.smv_language.specs.ProgramTree.{Text}
use Rattle.smv_scope.specs.TableLookUps.{local_at, by_local, part_at}
use Rattle.smv_scope.specs.Steps.{step_by_local, step_at, found_by}
use Rattle.smv_scope.specs.declared.modules.Local.{Local}
use Rattle.smv_scope.specs.declared.modules.Local.TheVariants as local
use Rattle.smv_scope.specs.declared.names.Scene.{Scene}

found_local : (s : Scene) (spot : ℕ) (last : Bool) (x : Text) (o : Option Local) → found_by s spot (step_by_local s spot last x o) ≡ by_local s spot last x o
found_local s spot last x None = refl
found_local s spot last x (Some (local.Formal i)) = refl
found_local s spot last x (Some (local.Item place)) = refl

pub found_step : (s : Scene) (spot : ℕ) (last : Bool) (x : Text) → found_by s spot (step_at s spot last x) ≡ part_at s spot last x
found_step s spot last x = found_local s spot last x (local_at s spot x)
