use Rattle.std.proofs.Common.{◌≡◌, ◌+◌, List, Some, map, refl, ap, ◌∙◌, sym, subst}
use Rattle.std.specs.Prelude.{slice_get, flat_map}
use Rattle.std.proofs.lemmas.Result.{err_from_is_err_and}
use Rattle.std.proofs.lemmas.List.{drop_all}
use Rattle.smv_language.specs.Language.{Each, instance_tree}
use Rattle.smv_language.specs.declared.model.Instance.{Instance}
use Rattle.fault_rules.specs.PlacedSlices.{seen_placed}
use Rattle.fault_extend_laws.specs.Expressions.{KeepsUse}
use Rattle.fault_extend_laws.specs.SliceUses.{uses_of_slices}
use Rattle.fault_extend.specs.GuardJudgement.{program_in, model_in}
use Rattle.fault_extend.specs.FirstRefusal.{IsFirstFault}
use Rattle.fault_extend.proofs.EachItem.{item_there}
use Rattle.fault_extend.proofs.Deciding.{Decides, decides_none, instance_next, instance_first}
use Rattle.fault_extend.proofs.guards.judge_instances.Goals as goal

pub returns-in_err-judge_instance-clause-told : goal.returns-in_err-judge_instance-clause-told
returns-in_err-judge_instance-clause-told c = λ accepted flat.
    let xs = c.as_slice-instance-items.result.now in
    let same : xs ≡ c.args.nominal.typed.now.model.instances = c.as_slice-instance-items.ensures ∙ ap (λ m. m.instances) c.model.ensures.model in
    let there : slice_get (map instance_tree c.args.nominal.typed.now.model.instances) c.loop-instance.number ≡ Some (instance_tree c.instance-item.result) =
    subst (λ n. slice_get (map instance_tree c.args.nominal.typed.now.model.instances) n ≡ Some (instance_tree c.instance-item.result)) (sym c.loop-instance.invariant.number)
    (subst (λ ys. slice_get (map instance_tree ys) c.loop-instance.instance-index ≡ Some (instance_tree c.instance-item.result)) same
    (item_there instance_tree xs c.loop-instance.instance-index c.instance-item.result c.loop-instance-test.true c.instance-item.is)) in
    let exit = err_from_is_err_and c.from_residual.result c.from_residual.ensures.1 in
    rw (exit.1, exit.2)
    (subst (λ ys. IsFirstFault (program_in c.args.nominal) (model_in c.args.nominal) (flat_map (uses_of_slices (map seen_placed c.args.slices.now)) (map instance_tree ys)) c.in_err-judge_instance.field-0.0) same
    (instance_first (program_in c.args.nominal) (model_in c.args.nominal) (map seen_placed c.args.slices.now) xs c.loop-instance.instance-index c.instance-item.result
    (flat_map (uses_of_slices (map seen_placed c.args.slices.now)) (map instance_tree xs)) c.loop-instance-test.true c.instance-item.is (c.loop-instance.invariant.decides accepted flat) c.in_err-judge_instance.field-0.0
    (c.in_err-judge_instance.ensures.told (instance_tree c.instance-item.result) (record { accepted = accepted; flat = flat; is_at = there }) refl)))

pub loop-instance-preserved : goal.loop-instance-preserved
loop-instance-preserved c =
    let xs = c.as_slice-instance-items.result.now in
    let same : xs ≡ c.args.nominal.typed.now.model.instances = c.as_slice-instance-items.ensures ∙ ap (λ m. m.instances) c.model.ensures.model in
    let there : slice_get (map instance_tree c.args.nominal.typed.now.model.instances) c.loop-instance.number ≡ Some (instance_tree c.instance-item.result) =
    subst (λ n. slice_get (map instance_tree c.args.nominal.typed.now.model.instances) n ≡ Some (instance_tree c.instance-item.result)) (sym c.loop-instance.invariant.number)
    (subst (λ ys. slice_get (map instance_tree ys) c.loop-instance.instance-index ≡ Some (instance_tree c.instance-item.result)) same
    (item_there instance_tree xs c.loop-instance.instance-index c.instance-item.result c.loop-instance-test.true c.instance-item.is)) in
    record {
      number = c.in_ok-number.ensures.next ∙ ap (λ n. n + 1) c.loop-instance.invariant.number;
      decides = λ accepted flat.
          instance_next (program_in c.args.nominal) (model_in c.args.nominal) (map seen_placed c.args.slices.now) xs c.loop-instance.instance-index c.instance-item.result
          (flat_map (uses_of_slices (map seen_placed c.args.slices.now)) (map instance_tree xs)) c.loop-instance-test.true c.instance-item.is (c.loop-instance.invariant.decides accepted flat)
          (c.in_ok-judge_instance.ensures.kept (instance_tree c.instance-item.result) (record { accepted = accepted; flat = flat; is_at = there }) refl);
    }

pub returns-clause-kept : goal.returns-clause-kept
returns-clause-kept c = λ accepted flat.
    let xs = c.as_slice-instance-items.result.now in
    let same : xs ≡ c.args.nominal.typed.now.model.instances = c.as_slice-instance-items.ensures ∙ ap (λ m. m.instances) c.model.ensures.model in
    let all = λ (ys : List Instance). flat_map (uses_of_slices (map seen_placed c.args.slices.now)) (map instance_tree ys) in
    subst (λ ys. Each (KeepsUse (program_in c.args.nominal) (model_in c.args.nominal)) (all ys)) same
    (decides_none (program_in c.args.nominal) (model_in c.args.nominal) (all xs)
    (subst (λ ys. Decides (program_in c.args.nominal) (model_in c.args.nominal) (all ys) (all xs)) (drop_all c.loop-instance.instance-index xs c.loop-instance-test.false) (c.loop-instance.invariant.decides accepted flat)))
