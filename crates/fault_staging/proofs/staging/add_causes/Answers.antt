use Rattle.std.proofs.Common.{◌≡◌, ◌+◌, ◌<◌, ◌++◌, ◌∷◌, [], length, map, drop, sym, ap, ◌∙◌, subst, arith, get_or}
use Rattle.std.proofs.lemmas.List.{length-map}
use Rattle.smv_language.specs.ModelTree.{model_tree, variable_tree, name_of_fault}
use Rattle.smv_flat_laws.specs.FaultModes.{mode_of}
use Rattle.fault_cause_laws.specs.Causes.{IsCauseOf}
use Rattle.fault_cause_laws.specs.StagedModel.{with_cause, with_each_cause, age_numbers, cause_events}
use Rattle.fault_staging.specs.CauseOf.{cause_of, told_cause}
use Rattle.fault_staging.proofs.Counts.{each_map_get, causes_next, ages_next, events_next, told_next}
use Rattle.fault_staging.proofs.staging.add_causes.Goals as goal
use Rattle.std.proofs.lemmas.List.{map-append}

pub add_cause-requires : goal.add_cause-requires
add_cause-requires c =
    let below : c.loop-cause.cause-index < length c.args.causes.now = omega arith in
    subst (λ z. IsCauseOf (length c.args.faults.now) (cause_of z)) (sym c.cause-item.is)
    (each_map_get (IsCauseOf (length c.args.faults.now)) cause_of c.args.causes.now c.loop-cause.cause-index c.cause-item.result c.requires below)

pub loop-cause-preserved : goal.loop-cause-preserved
loop-cause-preserved c =
    let below : c.loop-cause.cause-index < length c.args.causes.now = omega arith in
    let step : model_tree c.add_cause.new.made
    ≡ with_cause (map mode_of c.args.faults.now) (model_tree c.loop-cause.made) (cause_of (get_or c.args.causes.now c.loop-cause.cause-index c.cause-item.result)) =
    c.in_ok-add_cause.ensures.model ∙ ap (λ z. with_cause (map mode_of c.args.faults.now) (model_tree c.loop-cause.made) (cause_of z)) c.cause-item.is in
    let age = c.in_ok-number_of.ensures.same ∙ c.len.ensures ∙ sym (length-map c.loop-cause.made.variables variable_tree) in
    record {
      made = causes_next (map mode_of c.args.faults.now) cause_of c.args.causes.now c.loop-cause.cause-index c.cause-item.result below (model_tree c.loop-cause.made) (model_tree c.add_cause.new.made)
          (with_each_cause (map mode_of c.args.faults.now) (model_tree c.args.made.now) (map cause_of c.args.causes.now)) step c.loop-cause.invariant.made;
      ages = ap (λ z. z ++ age_numbers (length (model_tree c.add_cause.new.made).variables) (map cause_of (drop (c.loop-cause.cause-index + 1) c.args.causes.now)))
          (c.in_ok-push.ensures.items ∙ ap (λ n. c.loop-cause.ages.items ++ n ∷ []) age)
          ∙ ages_next (map mode_of c.args.faults.now) cause_of c.args.causes.now c.loop-cause.cause-index c.cause-item.result below (model_tree c.loop-cause.made) (model_tree c.add_cause.new.made)
          c.loop-cause.ages.items (c.args.ages.now.items ++ age_numbers (length (model_tree c.args.made.now).variables) (map cause_of c.args.causes.now)) step c.loop-cause.invariant.ages;
      events = ap (λ z. z ++ cause_events (length (model_tree c.add_cause.new.made).variables) (length (model_tree c.add_cause.new.made).symbols)
          (map cause_of (drop (c.loop-cause.cause-index + 1) c.args.causes.now)))
          (ap (map mode_of) c.in_ok-push-2.ensures.ok ∙ map-append mode_of c.loop-cause.events (c.in_ok-add_cause.field-0 ∷ []) ∙ ap (λ f. map mode_of c.loop-cause.events ++ f ∷ []) c.in_ok-add_cause.ensures.event)
          ∙ events_next (map mode_of c.args.faults.now) cause_of c.args.causes.now c.loop-cause.cause-index c.cause-item.result below (model_tree c.loop-cause.made) (model_tree c.add_cause.new.made)
          (map mode_of c.loop-cause.events)
          (map mode_of c.args.events.now ++ cause_events (length (model_tree c.args.made.now).variables) (length (model_tree c.args.made.now).symbols) (map cause_of c.args.causes.now)) step
          c.loop-cause.invariant.events;
      names = ap (λ z. z ++ map told_cause (drop (c.loop-cause.cause-index + 1) c.args.causes.now))
          (ap (map name_of_fault) c.in_ok-push-2.ensures.ok ∙ map-append name_of_fault c.loop-cause.events (c.in_ok-add_cause.field-0 ∷ [])
          ∙ ap (λ f. map name_of_fault c.loop-cause.events ++ f ∷ []) (c.in_ok-add_cause.ensures.name ∙ ap told_cause c.cause-item.is))
          ∙ told_next told_cause c.args.causes.now c.loop-cause.cause-index c.cause-item.result below (map name_of_fault c.loop-cause.events)
          (map name_of_fault c.args.events.now ++ map told_cause c.args.causes.now) c.loop-cause.invariant.names;
    }
