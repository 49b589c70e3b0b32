use Rattle.std.proofs.Common.{[], subst, map}
use Rattle.std.proofs.lemmas.Result.{err_from_is_err_and}
use Rattle.fault_instructions.specs.Instructions.{extension_tree}
use Rattle.fault_rules.specs.Sites.{extension_sites}
use Rattle.fault_rules.specs.CountLimits.{count_broken_at}
use Rattle.fault_rules.specs.FaultCounts.{module_names}
use Rattle.fault_rules.specs.FirstBroken.{AllKept, IsFirstBroken}
use Rattle.fault_rules.proofs.CountLaws.{count_kept, count_broken}
use Rattle.fault_rules.proofs.count.judge_counts.Goals as goal

pub returns-in_err-count_extensions-clause-first : goal.returns-in_err-count_extensions-clause-first
returns-in_err-count_extensions-clause-first c =
    let exit = err_from_is_err_and c.from_residual.result c.from_residual.ensures.1 in
    rw (exit.1, exit.2) (λ h.
    subst (λ es. IsFirstBroken (count_broken_at (module_names c.args.instances.now)) (extension_sites [] (map extension_tree es)) c.in_err-count_extensions.field-0.0.rule c.in_err-count_extensions.field-0.0.item) c.as_slice.ensures
    (count_broken (module_names c.args.instances.now) (map extension_tree c.as_slice.result.now) c.in_err-count_extensions.field-0.0 (c.in_err-count_extensions.ensures.told h)))

pub returns-clause-kept : goal.returns-clause-kept
returns-clause-kept c =
    subst (λ es. AllKept (count_broken_at (module_names c.args.instances.now)) (extension_sites [] (map extension_tree es))) c.as_slice.ensures
    (count_kept (module_names c.args.instances.now) (map extension_tree c.as_slice.result.now) c.in_ok-count_extensions.field-0 c.in_ok-count_extensions.ensures.counted)
