-- The place of a name is one of the list.
use Rattle.std.proofs.Common.{rules, ◌≡◌, ◌<◌, ◌∙◌, Some, None, length, ap, sym, subst}
use Rattle.std.specs.Prelude.{slice_get}
use Rattle.std.proofs.lemmas.Option.{slice_get-get_or, slice_get_within as get_less}
use Rattle.smv_language.specs.Language.{Text, program_tree, find_module}
use Rattle.smv_scope.specs.declared.modules.ModuleNames.{ModuleNames}
use Rattle.smv_scope.specs.ModuleFaults.{IsModuleAt}
use Rattle.smv_scope.proofs.FoundModule.{not_found, listed, found}
use Rattle.smv_scope.proofs.modules.Modules.find.Goals as goal

pub index-requires : goal.index-requires
index-requires c =
    let there : (names : ModuleNames) × (slice_get c.args.self.now.list.items c.in-Some.place.now ≡ Some names) =
    listed c.args.self.now c.requires c.text.result (Some c.in-Some.place.now) c.in-Some.place.now c.in-Some.ensures.value (search rules) in
    let less : c.in-Some.place.now < length c.args.self.now.list.items = get_less c.args.self.now.list.items c.in-Some.place.now there.0 there.1 in
    search rules

pub returns-in-Some : goal.returns-in-Some
returns-in-Some c =
    let there : (names : ModuleNames) × (slice_get c.args.self.now.list.items c.in-Some.place.now ≡ Some names) =
    listed c.args.self.now c.requires c.text.result (Some c.in-Some.place.now) c.in-Some.place.now c.in-Some.ensures.value (search rules) in
    let less : c.in-Some.place.now < length c.args.self.now.list.items = get_less c.args.self.now.list.items c.in-Some.place.now there.0 there.1 in
    let here : slice_get c.args.self.now.list.items c.in-Some.place.now ≡ Some c.index.result.now =
    slice_get-get_or c.args.self.now.list.items c.in-Some.place.now c.index.result.now less ∙ ap Some (sym c.index.ensures) in
    subst (λ (x : Text). IsModuleAt c.args.self.now x c.in-Some.place.now c.index.result.now) c.text.ensures
    (found c.args.self.now c.requires c.text.result (Some c.in-Some.place.now) c.in-Some.place.now c.index.result.now c.in-Some.ensures.value (search rules) here)

pub returns-in-None : goal.returns-in-None
returns-in-None c =
    subst (λ (x : Text). find_module (program_tree c.args.self.now.program.now) x ≡ None) c.text.ensures
    (not_found c.args.self.now c.requires c.text.result None c.in-None.ensures.value (search rules))
