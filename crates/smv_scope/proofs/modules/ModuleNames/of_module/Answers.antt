-- The formals first, then the items.
use Rattle.std.proofs.Common.{rules, ◌≡◌, ◌++◌, [], None, map, ap}
use Rattle.smv_language.specs.ProgramTree.{module_tree}
use Rattle.smv_scope.specs.ModuleFaults.{IsTold, names_told, formals_told, items_told, texts_of, item_of_numbered}
use Rattle.smv_scope.specs.ItemTree.{numbered_tree}
use Rattle.smv_scope.specs.SceneTree.{named, formal_entries, item_entries}
use Rattle.smv_scope.proofs.PassedOn.{passed_on}
use Rattle.smv_scope.proofs.ReadingLaws.{told_as}
use Rattle.smv_scope.proofs.NamesLaws.{all_entries, all_kept, items_fault}
use Rattle.smv_scope.proofs.modules.ModuleNames.of_module.Goals as goal

pub returns-in_err-declare_items-clause-fault : goal.returns-in_err-declare_items-clause-fault
returns-in_err-declare_items-clause-fault c =
    let formals : named c.declare_formals.new.locals.entries ≡ formal_entries 0 c.args.module.now.formals = search rules in
    let first : formals_told c.args.header [] c.args.module.now.formals ≡ None = search rules in
    let told : IsTold (items_told (texts_of (named c.declare_formals.new.locals.entries)) (map numbered_tree c.args.items.items)) c.in_err-declare_items.field-0.0 =
    told_as _ _ c.in_err-declare_items.field-0.0 (ap (λ ns. items_told (texts_of (named c.declare_formals.new.locals.entries)) (map numbered_tree ns)) c.as_slice-2.ensures.value) c.in_err-declare_items.ensures.fault in
    passed_on (IsTold (names_told c.args.header (module_tree c.args.module.now))) c.from_residual-in_err-declare_items.result c.in_err-declare_items.field-0.0
    c.from_residual-in_err-declare_items.ensures.1
    (items_fault c.args.header (module_tree c.args.module.now) c.args.items.items c.requires (named c.declare_formals.new.locals.entries) formals first c.in_err-declare_items.field-0.0 told)

pub returns-clause-locals : goal.returns-clause-locals
returns-clause-locals c =
    let formals : named c.declare_formals.new.locals.entries ≡ formal_entries 0 c.args.module.now.formals = search rules in
    let more : named c.declare_items.new.locals.entries ≡ named c.declare_formals.new.locals.entries ++ item_entries 0 (map item_of_numbered c.args.items.items) = search rules in
    all_entries c.args.header (module_tree c.args.module.now) c.args.items.items c.requires (named c.declare_formals.new.locals.entries) formals (named c.declare_items.new.locals.entries) more

pub returns-clause-kept : goal.returns-clause-kept
returns-clause-kept c =
    let formals : named c.declare_formals.new.locals.entries ≡ formal_entries 0 c.args.module.now.formals = search rules in
    let first : formals_told c.args.header [] c.args.module.now.formals ≡ None = search rules in
    let rest : items_told (texts_of (named c.declare_formals.new.locals.entries)) (map numbered_tree c.args.items.items) ≡ None = search rules in
    all_kept c.args.header (module_tree c.args.module.now) c.args.items.items c.requires (named c.declare_formals.new.locals.entries) formals first rest
