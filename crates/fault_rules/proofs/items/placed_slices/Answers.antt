use Rattle.std.proofs.Common.{[], ◌++◌, ◌∙◌, ap, subst, map}
use Rattle.std.proofs.lemmas.Result.{err_from_is_err_and}
use Rattle.smv_language.specs.ProgramTree.{program_tree}
use Rattle.fault_instructions.specs.Instructions.{extension_tree}
use Rattle.fault_rules.specs.Sites.{extension_sites}
use Rattle.fault_rules.specs.Rules.{broken_at}
use Rattle.fault_rules.specs.FirstBroken.{AllKept, IsFirstBroken}
use Rattle.fault_rules.specs.Faults.{slices_in}
use Rattle.fault_rules.specs.PlacedSlices.{placed_from}
use Rattle.fault_rules.proofs.SiteFaults.{file_kept, file_broken}
use Rattle.fault_rules.proofs.items.placed_slices.Goals as goal

pub returns-in_err-take_extensions-clause-first : goal.returns-in_err-take_extensions-clause-first
returns-in_err-take_extensions-clause-first c =
    let exit = err_from_is_err_and c.from_residual-in_err-take_extensions.result c.from_residual-in_err-take_extensions.ensures.1 in
    rw (exit.1, exit.2) (λ h.
    subst (λ es. IsFirstBroken (broken_at (program_tree c.args.p.now)) (extension_sites [] (map extension_tree es)) c.in_err-take_extensions.field-0.0.rule c.in_err-take_extensions.field-0.0.item) c.as_slice.ensures
    (file_broken (program_tree c.args.p.now) (program_tree c.in_ok-known.known.program.now) c.none-met.result.last (slices_in c.none-met.result) (map extension_tree c.as_slice.result.now) c.in_err-take_extensions.field-0.0
    (ap program_tree c.in_ok-known.ensures.program) c.none-met.ensures.last c.none-met.ensures.slices
    (c.in_err-take_extensions.ensures.told h)))

pub returns-clause-kept : goal.returns-clause-kept
returns-clause-kept c =
    subst (λ es. AllKept (broken_at (program_tree c.args.p.now)) (extension_sites [] (map extension_tree es))) c.as_slice.ensures
    (file_kept (program_tree c.args.p.now) (program_tree c.in_ok-known.known.program.now) c.none-met.result.last (slices_in c.none-met.result) (map extension_tree c.as_slice.result.now)
    (ap program_tree c.in_ok-known.ensures.program) c.none-met.ensures.last c.none-met.ensures.slices c.in_ok-take_extensions.ensures.kept.kept)

pub returns-clause-items : goal.returns-clause-items
returns-clause-items c =
    c.in_ok-take_extensions.ensures.places
    ∙ (λ i. c.none-met.ensures.places i
    ++ placed_from (program_tree (c.in_ok-known.ensures.program i)) (c.none-met.ensures.last i) (extension_sites (c.none-met.ensures.slices i) (map extension_tree (c.as_slice.ensures i))))
