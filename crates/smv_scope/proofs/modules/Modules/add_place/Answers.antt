-- A module whose name has a place is there already.
use Rattle.std.proofs.Common.{rules, ◌≡◌, true, false, ◌&&◌, ◌++◌, ◌∷◌, [], codes, length, List, ap, ◌∙◌, sym}
use Rattle.smv_language.specs.Language.{Text, ModuleTree, module_tree, same_text, is_among}
use Rattle.smv_flat_laws.specs.Rules.{has_formals, is_module_among}
use Rattle.smv_scope.specs.ModuleFaults.{trees_read, texts_of}
use Rattle.smv_scope.specs.SceneTree.{named}
use Rattle.smv_scope.proofs.HeaderLaws.{module_seen, header_by}
use Rattle.smv_scope.proofs.MapLaws.{seen, stands_last}
use Rattle.smv_scope.proofs.modules.Modules.add_place.Goals as goal

pub returns-then-is_some-clause-fault : goal.returns-then-is_some-clause-fault
returns-then-is_some-clause-fault c =
    let trees : List ModuleTree = trees_read c.args.self.now in
    let name : Text = c.args.module.now.name in
    let main : (same_text name (codes "main") && has_formals c.args.module.now.formals) ≡ false = sym c.is_main_with_formals.ensures ∙ c.if-is_main_with_formals.false in
    let there : is_module_among trees name ≡ true =
    module_seen 0 trees name
    ∙ sym (ap (λ es. is_among (texts_of es) name) c.requires)
    ∙ ap (is_among (texts_of (named c.args.self.now.places.entries))) (sym c.text.ensures)
    ∙ seen c.args.self.now.places c.text.result c.in_ok-insert.field-0 c.in_ok-insert.ensures.old true (sym c.is_some.ensures ∙ c.if-is_some.true) in
    header_by trees c.args.header (module_tree c.args.module.now) false true main there

pub returns-clause-places : goal.returns-clause-places
returns-clause-places c =
    let count : c.len-place.result ≡ length c.args.self.now.list.items = search rules in
    stands_last c.args.self.now.places c.text.result c.in_ok-insert.field-0 c.in_ok-insert.ensures.old c.len-place.result c.insert.new.self.entries
    (sym c.is_some.ensures ∙ c.if-is_some.false) c.in_ok-insert.ensures.entries
    ∙ ap (λ (x : Text). named c.args.self.now.places.entries ++ (x, c.len-place.result) ∷ []) c.text.ensures
    ∙ ap (λ n. named c.args.self.now.places.entries ++ (c.args.module.now.name, n) ∷ []) count

pub returns-clause-kept : goal.returns-clause-kept
returns-clause-kept c =
    let trees : List ModuleTree = trees_read c.args.self.now in
    let name : Text = c.args.module.now.name in
    let main : (same_text name (codes "main") && has_formals c.args.module.now.formals) ≡ false = sym c.is_main_with_formals.ensures ∙ c.if-is_main_with_formals.false in
    let there : is_module_among trees name ≡ false =
    module_seen 0 trees name
    ∙ sym (ap (λ es. is_among (texts_of es) name) c.requires)
    ∙ ap (is_among (texts_of (named c.args.self.now.places.entries))) (sym c.text.ensures)
    ∙ seen c.args.self.now.places c.text.result c.in_ok-insert.field-0 c.in_ok-insert.ensures.old false (sym c.is_some.ensures ∙ c.if-is_some.false) in
    header_by trees c.args.header (module_tree c.args.module.now) false false main there
