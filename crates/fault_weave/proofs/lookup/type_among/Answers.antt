use Rattle.std.proofs.Common.{arith, ◌<◌, ◌∙◌, sym, ap, length}
use Rattle.std.specs.Prelude.{option_map}
use Rattle.smv_language.specs.ProgramTree.{declared_tree}
use Rattle.fault_weave.proofs.LookupLaws.{found_here, found_later}
use Rattle.fault_weave.proofs.lookup.type_among.Goals as goal

pub returns-in-Some : goal.returns-in-Some
returns-in-Some c =
    let below : c.loop-section.section-index < length c.args.sections.now = omega arith in
    found_here c.args.sections.now c.args.x.now c.loop-section.section-index c.section-item.result (declared_tree c.in-Some.declared) below c.section-item.is
    (sym c.in_ok-found.ensures ∙ ap (option_map declared_tree) c.in-Some.is) c.loop-section.invariant

pub loop-section-preserved : goal.loop-section-preserved
loop-section-preserved c =
    let below : c.loop-section.section-index < length c.args.sections.now = omega arith in
    found_later c.args.sections.now c.args.x.now c.loop-section.section-index c.section-item.result below c.section-item.is (sym c.in_ok-found.ensures ∙ ap (option_map declared_tree) c.in-None.is) c.loop-section.invariant
