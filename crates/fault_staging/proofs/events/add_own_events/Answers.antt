use Rattle.std.proofs.Common.{ℕ, ◌≡◌, ◌+◌, ◌++◌, ◌∷◌, [], length, map, drop, ap, ◌∙◌}
use Rattle.smv_language.specs.ModelTree.{model_tree, name_of_fault}
use Rattle.smv_flat_laws.specs.FaultModes.{mode_of}
use Rattle.smv_flat_laws.specs.History.{Mode}
use Rattle.fault_cause_laws.specs.StagedModel.{with_own, with_owns, own_events}
use Rattle.fault_staging.specs.CauseOf.{cause_of}
use Rattle.fault_staging.proofs.Counts.{owns_next, own_events_next, told_next, first_of}
use Rattle.fault_staging.proofs.events.add_own_events.Goals as goal
use Rattle.std.proofs.lemmas.List.{map-append}

abbrev mode_at : ℕ → ℕ → Mode
mode_at variable symbol = record { variable = variable; symbol = symbol }

same_mode : (i j k l : ℕ) → i ≡ k → j ≡ l → mode_at i j ≡ mode_at k l
same_mode i j k l e f = cc

pub loop-i-preserved : goal.loop-i-preserved
loop-i-preserved c =
    let step : model_tree c.add_own_event.new.made ≡ with_own (map mode_of c.args.faults.now) (map cause_of c.args.causes.now) c.args.ages.now (c.loop-i.i + 1) (model_tree c.loop-i.made) =
    c.in_ok-event.ensures.model
    ∙ ap (λ n. with_own (map mode_of c.args.faults.now) (map cause_of c.args.causes.now) c.args.ages.now n (model_tree c.loop-i.made)) c.in_ok-number.ensures.same in
    let some = first_of c.args.faults.now c.loop-i.i c.loop-i-test.true in
    record {
      made = owns_next (map mode_of c.args.faults.now) (map cause_of c.args.causes.now) c.args.ages.now mode_of c.args.faults.now c.loop-i.i some c.loop-i-test.true (model_tree c.loop-i.made)
          (model_tree c.add_own_event.new.made)
          (with_owns (map mode_of c.args.faults.now) (map cause_of c.args.causes.now) c.args.ages.now 1 (map mode_of c.args.faults.now) (model_tree c.args.made.now)) step c.loop-i.invariant.made;
      events = ap (λ z. z ++ own_events (length (model_tree c.add_own_event.new.made).variables) (length (model_tree c.add_own_event.new.made).symbols)
          (map mode_of (drop (c.loop-i.i + 1) c.args.faults.now)))
          (ap (map mode_of) c.in_ok-push.ensures.ok ∙ map-append mode_of c.loop-i.events (_ ∷ [])
          ∙ ap (λ f. map mode_of c.loop-i.events ++ f ∷ []) (same_mode _ _ _ _ c.in_ok-event.ensures.own c.in_ok-event.ensures.itself))
          ∙ own_events_next (map mode_of c.args.faults.now) (map cause_of c.args.causes.now) c.args.ages.now mode_of c.args.faults.now c.loop-i.i some c.loop-i-test.true (model_tree c.loop-i.made)
          (model_tree c.add_own_event.new.made) (map mode_of c.loop-i.events)
          (map mode_of c.args.events.now ++ own_events (length (model_tree c.args.made.now).variables) (length (model_tree c.args.made.now).symbols) (map mode_of c.args.faults.now)) step
          c.loop-i.invariant.events;
      names = ap (λ z. z ++ map name_of_fault (drop (c.loop-i.i + 1) c.args.faults.now))
          (ap (map name_of_fault) c.in_ok-push.ensures.ok ∙ map-append name_of_fault c.loop-i.events (_ ∷ [])
          ∙ ap (λ f. map name_of_fault c.loop-i.events ++ f ∷ []) (c.in_ok-copy.ensures ∙ ap name_of_fault c.index-faults-i.is))
          ∙ told_next name_of_fault c.args.faults.now c.loop-i.i c.index-faults-i.result c.loop-i-test.true (map name_of_fault c.loop-i.events)
          (map name_of_fault c.args.events.now ++ map name_of_fault c.args.faults.now) c.loop-i.invariant.names;
    }
