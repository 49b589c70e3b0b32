use Rattle.std.proofs.Common.{sym, ap, map, subst, ◌∙◌}
use Rattle.std.proofs.lemmas.List.{length-map}
use Rattle.std.proofs.lemmas.Result.{err_from_is_err_and}
use Rattle.smv_language.specs.Language.{Each, model_tree}
use Rattle.smv_flat_laws.specs.FaultModes.{mode_of}
use Rattle.smv_language.specs.declared.model.FlatModel.{FlatModel as Made}
use Rattle.smv_flat_laws.specs.History.{with_history}
use Rattle.smv_type_laws.specs.Models.{IsTyped}
use Rattle.fault_cause_laws.specs.Causes.{IsCauseOf}
use Rattle.fault_cause_laws.specs.StagedModel.{with_causes, events_of}
use Rattle.fault_staging.specs.CauseOf.{cause_of}
use Rattle.verb_causes.proofs.StagedLaws.{causes_named, staged_short, events_told}
use Rattle.verb_causes.specs.Causes.{flat_in, modes_in}
use Rattle.verb_causes.proofs.CausesLaws.{loaded_kinds, whole_past_limit, model_past_limit}
use Rattle.verb_causes.proofs.staged.staged_of.Goals as goal

pub with_causes-requires : goal.with_causes-requires
with_causes-requires c =
    let case = c.args.case.now in
    let named = causes_named c.requires.case.0 case c.requires.case.1 c.requires.causes.0 (map cause_of c.args.causes) c.requires.causes.1 in
    record { causes = subst (λ k. Each (IsCauseOf k) (map cause_of c.args.causes)) (length-map case.limited.faults mode_of) named.strikes }

pub returns-clause-staged : goal.returns-clause-staged
returns-clause-staged c =
    let case = c.args.case.now in
    let cs = map cause_of c.args.causes in
    let modes = map mode_of case.limited.faults in
    record {
      staged = record {
        names = causes_named c.requires.case.0 case c.requires.case.1 c.requires.causes.0 cs c.requires.causes.1;
        model = ap model_tree c.in_ok-typed.ensures.model ∙ c.in_ok-staged.ensures.model ∙ ap (λ (m : Made). with_causes (model_tree m) modes cs) c.model.ensures.model;
        events = c.in_ok-staged.ensures.events ∙ ap (λ (m : Made). events_of (model_tree m) modes cs) c.model.ensures.model;
        full =
            ap model_tree c.in_ok-full.ensures.model ∙ c.in_ok-whole.ensures.model
            ∙ ap (λ (m : Made). with_history (model_tree m) (map mode_of c.in_ok-staged.staged.events)) (sym c.in_ok-typed.ensures.model);
        typed = subst (λ (m : Made). IsTyped (model_tree m)) (sym c.in_ok-typed.ensures.model) c.in_ok-typed.ensures.typed;
        whole = subst (λ (m : Made). IsTyped (model_tree m)) (sym c.in_ok-full.ensures.model) c.in_ok-full.ensures.typed;
      };
      told = events_told c.requires.case.0 case c.requires.case.1 c.args.causes c.in_ok-staged.staged.events c.in_ok-staged.ensures.names;
    }

pub returns-in_err-full-clause-wrong : goal.returns-in_err-full-clause-wrong
returns-in_err-full-clause-wrong c =
    let exit = err_from_is_err_and c.from_residual-in_err-full.result c.from_residual-in_err-full.ensures.1 in
    let case = c.args.case.now in
    let cs = map cause_of c.args.causes in
    let modes = map mode_of case.limited.faults in
    let model = c.in_ok-staged.ensures.model ∙ ap (λ (m : Made). with_causes (model_tree m) modes cs) c.model.ensures.model in
    let events = c.in_ok-staged.ensures.events ∙ ap (λ (m : Made). events_of (model_tree m) modes cs) c.model.ensures.model in
    rw (exit.1, exit.2) (whole_past_limit (flat_in case) (modes_in case) cs (model_tree c.in_ok-staged.staged.model) (model_tree c.in_ok-whole.whole) (map mode_of c.in_ok-staged.staged.events)
    model events c.in_ok-whole.ensures.model (loaded_kinds case c.requires.case) (staged_short case c.requires.case cs c.requires.causes) _ c.in_err-full.ensures.wrong)

pub returns-in_err-typed-clause-wrong : goal.returns-in_err-typed-clause-wrong
returns-in_err-typed-clause-wrong c =
    let exit = err_from_is_err_and c.from_residual-in_err-typed.result c.from_residual-in_err-typed.ensures.1 in
    let case = c.args.case.now in
    let cs = map cause_of c.args.causes in
    let modes = map mode_of case.limited.faults in
    let model = c.in_ok-staged.ensures.model ∙ ap (λ (m : Made). with_causes (model_tree m) modes cs) c.model.ensures.model in
    let events = c.in_ok-staged.ensures.events ∙ ap (λ (m : Made). events_of (model_tree m) modes cs) c.model.ensures.model in
    rw (exit.1, exit.2) (model_past_limit (flat_in case) (modes_in case) cs (model_tree c.in_ok-staged.staged.model) (model_tree c.in_ok-whole.whole) (map mode_of c.in_ok-staged.staged.events)
    model events c.in_ok-whole.ensures.model (loaded_kinds case c.requires.case) (staged_short case c.requires.case cs c.requires.causes) c.in_ok-full.ensures.typed _ c.in_err-typed.ensures.wrong)
