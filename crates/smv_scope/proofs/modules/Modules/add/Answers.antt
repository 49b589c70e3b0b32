-- The module's names and its place stand last.
use Rattle.std.proofs.Common.{rules, List, ◌≡◌, suc, ◌+◌, ◌++◌, ◌∷◌, [], length, map, ap, ◌∙◌}
use Rattle.std.specs.Prelude.{Vec}
use Rattle.std.specs.declared.alloc.Global.{Global}
use Rattle.smv_language.specs.ProgramTree.{ModuleTree, module_tree}
use Rattle.smv_flat_laws.specs.Items.{items_of}
use Rattle.smv_scope.specs.declared.items.Numbered.{Numbered}
use Rattle.smv_scope.specs.declared.modules.Modules.{Modules}
use Rattle.smv_scope.specs.declared.modules.ModuleNames.{ModuleNames}
use Rattle.smv_scope.specs.ItemTree.{Counted, numbered_tree, counted_from, counted_below, counted_of}
use Rattle.smv_scope.specs.ModuleFaults.{IsTold, header_told, names_told, module_told, trees_read}
use Rattle.smv_scope.proofs.PassedOn.{passed_on}
use Rattle.smv_scope.proofs.ReadingLaws.{told_as, told_later}
use Rattle.smv_scope.proofs.ReadLaws.{read_more}
use Rattle.smv_scope.proofs.modules.Modules.add.Goals as goal

pub returns-in_err-names-clause-fault : goal.returns-in_err-names-clause-fault
returns-in_err-names-clause-fault c =
    let trees : List ModuleTree = trees_read c.args.self.now in
    let m : ModuleTree = module_tree c.args.module.now in
    let header : c.in_ok-header.header ≡ suc c.args.last = search rules in
    passed_on (IsTold (module_told trees (suc c.args.last) m)) c.from_residual-in_err-names.result c.in_err-names.field-0.0 c.from_residual-in_err-names.ensures.1
    (told_as (module_told trees c.in_ok-header.header m) (module_told trees (suc c.args.last) m) c.in_err-names.field-0.0 (ap (λ n. module_told trees n m) header)
    (told_later (header_told trees c.in_ok-header.header m) (names_told c.in_ok-header.header m) c.in_err-names.field-0.0 c.in_ok-add_place.ensures.kept c.in_err-names.ensures.fault))

pub returns-clause-read : goal.returns-clause-read
returns-clause-read c =
    let old : Modules = c.args.self.now in
    let m : ModuleTree = module_tree c.args.module.now in
    let names : ModuleNames = c.in_ok-names.names in
    let header : c.in_ok-header.header ≡ suc c.args.last = search rules in
    let counted : counted_of c.in_ok-items.items ≡ counted_below c.in_ok-header.header (items_of m) = c.in_ok-items.ensures in
    read_more old (record { program = c.add_place.new.self.program; list = c.push.new.self; places = c.add_place.new.self.places; main = c.add_place.new.self.main })
    c.args.last c.last_number-last.result m names c.requires
    (c.in_ok-push.ensures.items ∙ ap (λ (v : Vec ModuleNames Global). v.items ++ names ∷ []) c.add_place.ensures.list)
    (ap module_tree c.in_ok-names.ensures.same)
    (ap (λ (v : Vec Numbered Global). map numbered_tree v.items) c.in_ok-names.ensures.items ∙ ap (λ (k : Counted). k.items) counted ∙ ap (λ n. counted_from (suc n) (items_of m)) header)
    c.in_ok-names.ensures.locals
    c.in_ok-add_place.ensures.places
    (c.last_number-last.ensures ∙ ap (λ (k : Counted). k.last) counted ∙ ap (λ n. n + length (items_of m)) header)
    c.add_place.ensures.program
    c.add_place.ensures.main
