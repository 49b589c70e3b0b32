use Rattle.std.proofs.Common.{List, map, subst, sym}
use Rattle.std.specs.Prelude.{IfErr, OnOk}
use Rattle.std.proofs.lemmas.Result.{err_from_is_err_and, IfOk-weaker}
use Rattle.smv_language.specs.Language.{Text, program_tree, model_tree}
use Rattle.fault_instructions.specs.Instructions.{instruction_tree}
use Rattle.fault_extend_laws.specs.Expressions.{AllUsesKept}
use Rattle.fault_extend.specs.FirstRefusal.{modules_in, modules_at, KeepsRules, IsTold}
use Rattle.fault_rules.specs.CountLimits.{count_broken_at}
use Rattle.fault_rules.specs.FirstBroken.{AllKept}
use Rattle.fault_rules.specs.Sites.{item_sites}
use Rattle.fault_weave.specs.Faults.{HasFaults}
use Rattle.fault_extend.specs.WovenFaults.{fault_tree, AreInstancesOf}
use Rattle.fault_extend.proofs.InstanceLaws.{instances_listed}
use Rattle.fault_extend.proofs.GuardLaws.{made_extends}
use Rattle.fault_extend.proofs.Telling.{want_is_told, modules_same, told_somewhere, both_kept}
use Rattle.fault_extend.proofs.weaving.weave.Goals as goal

pub returns-clause-extension : goal.returns-clause-extension
returns-clause-extension c =
    made_extends (program_tree c.args.p.now) (instruction_tree c.args.i.now) c.weave_typed.result c.weave_typed.ensures.program
    (c.weave_typed.ensures.weavable c.in_ok-typed.ensures.accepted c.in_ok-typed.ensures.flat c.in_ok-typed.ensures.meant)

pub returns-in_err-typed-clause-exact : goal.returns-in_err-typed-clause-exact
returns-in_err-typed-clause-exact c = λ m accepted flat typed.
    let exit = err_from_is_err_and c.from_residual.result c.from_residual.ensures.1 in
    rw (exit.1, exit.2) (want_is_told (program_tree c.args.p.now) m (instruction_tree c.args.i.now) (modules_at m) c.in_err-typed.field-0.0 (c.in_err-typed.ensures.want m accepted flat typed))

pub returns-clause-judged : goal.returns-clause-judged
returns-clause-judged c = λ m flat.
    let sites = item_sites (instruction_tree c.args.i.now) in
    let names = modules_in c.in_ok-typed.typed.model.instances in
    let counts : OnOk c.weave_typed.result (AllKept (count_broken_at (modules_at m)) sites) = subst (λ k. OnOk c.weave_typed.result (AllKept (count_broken_at (modules_at k)) sites)) (sym (c.in_ok-typed.ensures.alone m flat))
    (subst (λ (xs : List Text). OnOk c.weave_typed.result (AllKept (count_broken_at xs) sites)) (modules_same c.in_ok-typed.typed.model.instances)
    (IfOk-weaker c.weave_typed.result (λ w. KeepsRules (program_tree c.args.p.now) (instruction_tree c.args.i.now) names) (λ w. AllKept (count_broken_at names) sites)
    (λ w kept. kept.counts) c.weave_typed.ensures.kept)) in
    let uses : OnOk c.weave_typed.result (AllUsesKept (program_tree c.args.p.now) m (instruction_tree c.args.i.now)) = subst (λ k. OnOk c.weave_typed.result (AllUsesKept (program_tree c.args.p.now) k (instruction_tree c.args.i.now))) (sym (c.in_ok-typed.ensures.alone m flat))
    (c.weave_typed.ensures.uses c.in_ok-typed.ensures.accepted c.in_ok-typed.ensures.flat) in
    both_kept (program_tree c.args.p.now) m (instruction_tree c.args.i.now) c.weave_typed.result counts uses

pub returns-clause-told : goal.returns-clause-told
returns-clause-told c =
    told_somewhere (program_tree c.args.p.now) (model_tree c.in_ok-typed.typed.model) (instruction_tree c.args.i.now) c.weave_typed.result c.in_ok-typed.ensures.flat
    (subst (λ names. IfErr c.weave_typed.result (IsTold (program_tree c.args.p.now) (model_tree c.in_ok-typed.typed.model) (instruction_tree c.args.i.now) names)) (modules_same c.in_ok-typed.typed.model.instances)
    c.weave_typed.ensures.told)

pub returns-clause-exact : goal.returns-clause-exact
returns-clause-exact c = λ m accepted flat typed.
    subst (λ k. IfErr c.weave_typed.result (IsTold (program_tree c.args.p.now) k (instruction_tree c.args.i.now) (modules_at k))) (sym (c.in_ok-typed.ensures.alone m flat))
    (subst (λ names. IfErr c.weave_typed.result (IsTold (program_tree c.args.p.now) (model_tree c.in_ok-typed.typed.model) (instruction_tree c.args.i.now) names)) (modules_same c.in_ok-typed.typed.model.instances)
    c.weave_typed.ensures.told)

pub returns-clause-faults : goal.returns-clause-faults
returns-clause-faults c = λ in_var.
    let p = program_tree c.args.p.now in
    let instances = c.in_ok-typed.typed.model.instances in
    let are : AreInstancesOf p instances = instances_listed p instances c.in_ok-typed.ensures.accepted in_var c.in_ok-typed.ensures.flat.instances in
    IfOk-weaker c.weave_typed.result (λ w. AreInstancesOf p instances → HasFaults p (instruction_tree c.args.i.now) (map fault_tree w.faults))
    (λ w. HasFaults p (instruction_tree c.args.i.now) (map fault_tree w.faults)) (λ w has. has are) c.weave_typed.ensures.faults
