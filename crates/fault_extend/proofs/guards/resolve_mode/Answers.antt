use Rattle.std.specs.Prelude.{true, false, IfOk, IfErr, OnOk}
use Rattle.std.proofs.Common.{◌∙◌, ap, subst, sym}
use Rattle.std.specs.Option.{option_map}
use Rattle.smv_language.specs.Language.{boolean, tree_of, flat_tree}
use Rattle.fault_instructions.specs.Instructions.{mode_tree}
use Rattle.fault_extend_laws.specs.Expressions.{followed, IsForm, KeepsNames}
use Rattle.fault_extend.specs.GuardJudgement.{program_in, model_in, use_at, IsSomeKept, IsSomeFault}
use Rattle.fault_extend.proofs.NameAnswers.{IsNamesFault, both_answered, both_formed, guard_same, names_cause}
use Rattle.fault_extend.proofs.guards.resolve_mode.Goals as goal

pub returns-in-Ok-clause-follows : goal.returns-in-Ok-clause-follows
returns-in-Ok-clause-follows c = λ at is.
    let p = program_in c.args.nominal in
    let m = model_in c.args.nominal in
    let u = use_at at.place boolean (mode_tree c.args.mode.now) 0 in
    subst (λ r. IfOk r (λ made. IsForm p m at.place (followed u.mode.effect) (option_map flat_tree made.follows))) (sym c.both_of.ensures ∙ c.in-Ok.is)
    (both_formed p m u c.resolve-follows.result c.resolve-guard.result
    (subst (λ e. IfOk c.resolve-follows.result (λ made. IsForm p m at.place e (option_map flat_tree made))) c.follows_of.ensures (c.resolve-follows.ensures.form at is))
    (subst (λ e. IfOk c.resolve-guard.result (λ made. IsForm p m at.place e (option_map flat_tree made))) (ap (option_map tree_of) c.as_ref.ensures.value ∙ guard_same c.args.mode.now.guard) (c.resolve-guard.ensures.form at is))).0

pub returns-in-Ok-clause-guard : goal.returns-in-Ok-clause-guard
returns-in-Ok-clause-guard c = λ at is.
    let p = program_in c.args.nominal in
    let m = model_in c.args.nominal in
    let u = use_at at.place boolean (mode_tree c.args.mode.now) 0 in
    subst (λ r. IfOk r (λ made. IsForm p m at.place u.mode.guard (option_map flat_tree made.guard))) (sym c.both_of.ensures ∙ c.in-Ok.is)
    (both_formed p m u c.resolve-follows.result c.resolve-guard.result
    (subst (λ e. IfOk c.resolve-follows.result (λ made. IsForm p m at.place e (option_map flat_tree made))) c.follows_of.ensures (c.resolve-follows.ensures.form at is))
    (subst (λ e. IfOk c.resolve-guard.result (λ made. IsForm p m at.place e (option_map flat_tree made))) (ap (option_map tree_of) c.as_ref.ensures.value ∙ guard_same c.args.mode.now.guard) (c.resolve-guard.ensures.form at is))).1

pub returns-in-Ok-clause-kept : goal.returns-in-Ok-clause-kept
returns-in-Ok-clause-kept c = λ at type n is.
    let p = program_in c.args.nominal in
    let u = use_at at.place type (mode_tree c.args.mode.now) n in
    subst (λ r. OnOk r (KeepsNames p u)) (sym c.both_of.ensures ∙ c.in-Ok.is)
    (both_answered p u c.resolve-follows.result c.resolve-guard.result
    (subst (λ e. OnOk c.resolve-follows.result (IsSomeKept p at.place false e)) c.follows_of.ensures (c.resolve-follows.ensures.kept at is))
    (subst (λ e. IfErr c.resolve-follows.result (IsSomeFault p at.place false e)) c.follows_of.ensures (c.resolve-follows.ensures.told at is))
    (subst (λ e. OnOk c.resolve-guard.result (IsSomeKept p at.place true e)) (ap (option_map tree_of) c.as_ref.ensures.value ∙ guard_same c.args.mode.now.guard) (c.resolve-guard.ensures.kept at is))
    (subst (λ e. IfErr c.resolve-guard.result (IsSomeFault p at.place true e)) (ap (option_map tree_of) c.as_ref.ensures.value ∙ guard_same c.args.mode.now.guard) (c.resolve-guard.ensures.told at is))).0

pub returns-in-Err-clause-told : goal.returns-in-Err-clause-told
returns-in-Err-clause-told c = λ at type n is.
    let p = program_in c.args.nominal in
    let m = model_in c.args.nominal in
    let u = use_at at.place type (mode_tree c.args.mode.now) n in
    names_cause p u m c.in-Err.fault c.flat_cause.result c.flat_cause.ensures
    (subst (λ r. IfErr r (IsNamesFault p u)) (sym c.both_of.ensures ∙ c.in-Err.is)
    (both_answered p u c.resolve-follows.result c.resolve-guard.result
    (subst (λ e. OnOk c.resolve-follows.result (IsSomeKept p at.place false e)) c.follows_of.ensures (c.resolve-follows.ensures.kept at is))
    (subst (λ e. IfErr c.resolve-follows.result (IsSomeFault p at.place false e)) c.follows_of.ensures (c.resolve-follows.ensures.told at is))
    (subst (λ e. OnOk c.resolve-guard.result (IsSomeKept p at.place true e)) (ap (option_map tree_of) c.as_ref.ensures.value ∙ guard_same c.args.mode.now.guard) (c.resolve-guard.ensures.kept at is))
    (subst (λ e. IfErr c.resolve-guard.result (IsSomeFault p at.place true e)) (ap (option_map tree_of) c.as_ref.ensures.value ∙ guard_same c.args.mode.now.guard) (c.resolve-guard.ensures.told at is))).1)
