-- The tables of a scene are filled one after another.
use Rattle.std.proofs.Common.{◌<◌, length, rules, sym, ◌∙◌, ap, subst}
use Rattle.smv_flat_laws.specs.Model.{symbols_of}
use Rattle.smv_language.specs.BorrowedTexts.{texts}
use Rattle.smv_scope.specs.declared.names.Scene.{Scene}
use Rattle.smv_scope.proofs.SceneSymbols.{symbols_are}
use Rattle.smv_scope.proofs.Starting.{laid_start, named_start, ready_start, keys_stay, program_stays}
use Rattle.smv_scope.proofs.names.Scene.of_instances.Goals as goal

pub add_formals-requires-clause-laid : goal.add_formals-requires-clause-laid
add_formals-requires-clause-laid c = laid_start _ c.requires.modules c.requires.walkable c.requires.spots

pub add_definitions-requires : goal.add_definitions-requires
add_definitions-requires c =
    named_start _ c.add_formals.new.self c.in_ok-add_formals.ensures.same c.requires.modules c.requires.walkable c.requires.spots c.new.ensures.items c.in_ok-add_formals.ensures.told

pub answer_formals-requires : goal.answer_formals-requires
answer_formals-requires c =
    let start : Scene = record { modules = c.args.modules; spots = c.args.spots; symbols = c.in_ok-symbols.symbols; definitions = c.new.result; formals = c.new-2.result } in
    let mid = c.add_formals.new.self in
    let last = c.add_definitions.new.self in
    let few : length c.in_ok-symbols.symbols.keys < 4294967296 = search rules in
    let same = keys_stay start mid last c.in_ok-add_formals.ensures.same.symbols c.in_ok-add_definitions.ensures.symbols in
    ready_start last c.in_ok-add_definitions.ensures.named
    (ap (λ ks. texts ks) same ∙ c.in_ok-symbols.ensures ∙ symbols_are c.args.modules c.requires.modules
    ∙ ap symbols_of (sym (program_stays start mid last c.in_ok-add_formals.ensures.same.modules c.in_ok-add_definitions.ensures.modules)))
    (subst (λ ks. length ks < 4294967296) (sym same) few)
