-- No two instances have one place, so that a place has one number.
use Rattle.std.proofs.Common.{◌≡◌, List, [], ◌∷◌}
use Rattle.std.specs.Prelude.{flat_map, codes}
use Rattle.smv_language.specs.Language.{DeclaredTree, boolean, range, members, instance, ProgramTree, Each}
use Rattle.smv_flat_laws.specs.Items.{Visit, visits, instance_declared, instances_of_visit, instances_of}
use Rattle.smv_flat_laws.specs.Rules.{IsWalkable}
use Rattle.smv_flat_laws.proofs.Conditions.{each_join}
use Rattle.smv_flat_laws.proofs.Apart.{visits_apart}
use Rattle.smv_flat_laws.proofs.Walkable.{main_is_there}
use Rattle.smv_scope.proofs.RootLaws.{visits_places, PlacesApart}
use Rattle.smv_flat_laws.proofs.KeysApart.{OtherPlace}

main_other : (vs : List Visit) → Each (OtherPlace (record { place = []; module_name = codes "main" })) (flat_map instances_of_visit vs)
main_other [] = tt
main_other (v ∷ vs) = each_join (OtherPlace (record { place = []; module_name = codes "main" })) (instances_of_visit v) (flat_map instances_of_visit vs) (of_type v.decl.what) (main_other vs)
  where
    of_type : (what : DeclaredTree) → Each (OtherPlace (record { place = []; module_name = codes "main" })) (instance_declared (v.decl.name ∷ v.place) what)
    of_type boolean = tt
    of_type (range lo hi) = tt
    of_type (members ms) = tt
    of_type (instance m actuals) = (λ (e : [] ≡ v.decl.name ∷ v.place). nothing e, tt)
      where
        nothing : [] ≡ v.decl.name ∷ v.place → ⊥
        nothing e = cc

pub places_apart : (p : ProgramTree) → IsWalkable p → PlacesApart (instances_of p)
places_apart p walkable =
    (main_other (visits p), visits_places (visits p) (visits_apart p walkable (main_is_there p walkable).0 (main_is_there p walkable).1))
