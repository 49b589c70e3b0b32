-- The module of an instance is looked up by its number.
use Rattle.std.proofs.Common.{◌≡◌, ◌<◌, ◌≤◌, List, Some, None, length, map, ◌++◌, ap, subst, ◌∙◌, sym, append-nil}
use Rattle.std.specs.Prelude.{slice_get, OnOk}
use Rattle.std.proofs.lemmas.Bool.{ltb-true, ltb-false}
use Rattle.smv_scope.specs.declared.modules.ModuleNames.{ModuleNames}
use Rattle.smv_language.specs.ModelTree.{instance_tree}
use Rattle.smv_flat.proofs.BuildLoops.{told_some, told_none}
use Rattle.smv_flat.proofs.build.add_instance.Goals as goal
use Rattle.std.proofs.lemmas.Option.{slice_get_past as get_past}
use Rattle.smv_language.proofs.ListLaws.{get_there}

pub returns-in-Some : goal.returns-in-Some
returns-in-Some c =
    let xs : List ModuleNames = c.as_slice.result.now in
    let less : c.args.spot.now.«module» < length xs = ltb-true c.args.spot.now.«module» (length xs) (sym c.in-Some.ensures.lookup.0) in
    let there : slice_get xs c.args.spot.now.«module» ≡ Some c.in-Some.names.now = get_there xs c.args.spot.now.«module» c.in-Some.names.now less c.in-Some.ensures.lookup.1 in
    let listed : slice_get c.args.scene.now.modules.list.items c.args.spot.now.«module» ≡ Some c.in-Some.names.now =
    subst (λ ys. slice_get ys c.args.spot.now.«module» ≡ Some c.in-Some.names.now) c.as_slice.ensures.value there in
    subst (λ ts. OnOk c.push_instance.result (map instance_tree c.push_instance.new.instances ≡ map instance_tree c.args.instances.now ++ ts))
    (sym (told_some c.args.scene.now c.args.spot.now c.in-Some.names.now listed)) c.push_instance.ensures

pub returns-in-None : goal.returns-in-None
returns-in-None c =
    let xs : List ModuleNames = c.as_slice.result.now in
    let past : length xs ≤ c.args.spot.now.«module» = ltb-false c.args.spot.now.«module» (length xs) (sym c.in-None.ensures.lookup.0) in
    let none : slice_get c.args.scene.now.modules.list.items c.args.spot.now.«module» ≡ None =
    subst (λ ys. slice_get ys c.args.spot.now.«module» ≡ None) c.as_slice.ensures.value (get_past xs c.args.spot.now.«module» past) in
    sym (append-nil (map instance_tree c.args.instances.now)) ∙ ap (λ ts. map instance_tree c.args.instances.now ++ ts) (sym (told_none c.args.scene.now c.args.spot.now none))
