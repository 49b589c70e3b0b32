use Rattle.std.proofs.Common.{◌++◌, length, map, sym, ap, ◌∙◌}
use Rattle.std.proofs.lemmas.List.{length-map}
use Rattle.smv_language.specs.ModelTree.{model_tree}
use Rattle.fault_cause_laws.specs.StagedModel.{age_numbers}
use Rattle.fault_staging.specs.CauseOf.{cause_of}
use Rattle.fault_staging.proofs.Counts.{length_ages}
use Rattle.fault_staging.proofs.staging.with_causes.Goals as goal

pub add_own_events-requires : goal.add_own_events-requires
add_own_events-requires c = record {
  ages = ap length (c.deref.ensures.value ∙ c.in_ok-add_causes.ensures.ages)
      ∙ ap (λ zs. length (zs ++ age_numbers (length (model_tree c.in_ok-model.model).variables) (map cause_of c.as_slice-2.result.now))) c.new-ages.ensures.items
      ∙ length_ages (map cause_of c.as_slice-2.result.now) (length (model_tree c.in_ok-model.model).variables)
      ∙ length-map c.as_slice-2.result.now cause_of ∙ ap length (c.as_slice-2.ensures ∙ sym c.as_slice-4.ensures);
}
