-- A section's items come after those before it.
use Rattle.std.proofs.Common.{rules, ◌≡◌, ◌<◌, ◌≤◌, length, get_or, map, ap, ◌∙◌, sym}
use Rattle.std.specs.List.{flat_map}
use Rattle.std.proofs.lemmas.List.{drop_all}
use Rattle.smv_language.specs.ProgramTree.{module_tree, section_tree}
use Rattle.smv_flat_laws.specs.Items.{items_of, items_of_section}
use Rattle.smv_scope.specs.ItemTree.{counted_of, with_items}
use Rattle.smv_scope.proofs.ItemLaws.{section_more, counted_all}
use Rattle.smv_scope.proofs.items.ItemList.of_module.Goals as goal

pub loop-section-preserved : goal.loop-section-preserved
loop-section-preserved c =
    let within : c.loop-section.section-index < length c.args.module.now.sections = search rules in
    let item : get_or c.args.module.now.sections c.loop-section.section-index c.section-item.result ≡ c.section-item.result = search rules in
    let step : counted_of c.add_section.new.self ≡ with_items (counted_of c.loop-section.list) (items_of_section (section_tree c.section-item.result)) = search rules in
    sym (section_more (counted_of c.loop-section.list) (counted_of c.add_section.new.self) c.args.module.now.sections c.loop-section.section-index c.section-item.result within
    (step ∙ ap (λ s. with_items (counted_of c.loop-section.list) (items_of_section (section_tree s))) (sym item)))
    ∙ c.loop-section.invariant

pub returns : goal.returns
returns c =
    let past : length c.args.module.now.sections ≤ c.loop-section.section-index = search rules in
    sym (ap (λ ss. with_items (counted_of c.loop-section.list) (flat_map items_of_section (map section_tree ss))) (drop_all c.loop-section.section-index c.args.module.now.sections past))
    ∙ c.loop-section.invariant
    ∙ counted_all c.args.header (items_of (module_tree c.args.module.now))
