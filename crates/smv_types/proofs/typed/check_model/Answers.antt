use Rattle.std.proofs.Common.{◌∙◌, sym, inr}
use Rattle.smv_language.specs.ModelTree.{model_tree}
use Rattle.smv_type_laws.specs.Models.{IsTyped}
use Rattle.smv_types.proofs.ModelLaws.{fault_answered, fault_is, typed_is, small_cost, small_bits}
use Rattle.smv_types.proofs.typed.check_model.Goals as goal

pub returns-in-Some-clause-fault : goal.returns-in-Some-clause-fault
returns-in-Some-clause-fault c =
    let m = model_tree c.args.m in
    inr (fault_is m c.in-Some.fault (sym (c.in-Some.ensures ∙ fault_answered m c.in_ok-found.found.first c.model_cost-cost.result c.in_ok-found.found.bits c.in_ok-found.ensures.first c.model_cost-cost.ensures c.in_ok-found.ensures.bits)))

pub invariant_of-result : goal.invariant_of-result
invariant_of-result c =
    let m = model_tree c.args.m in
    let typed : IsTyped m =
    typed_is m (sym (c.in_default.ensures ∙ fault_answered m c.in_ok-found.found.first c.model_cost-cost.result c.in_ok-found.found.bits c.in_ok-found.ensures.first c.model_cost-cost.ensures c.in_ok-found.ensures.bits)) in
    record {
      domains_are = c.in_ok-found.ensures.domains;
      kinds = c.in_ok-found.ensures.kinds;
      typed = typed;
      cost_is = small_cost m c.model_cost-cost.result typed c.model_cost-cost.ensures;
      bits_are = small_bits m c.in_ok-found.found.bits typed c.in_ok-found.ensures.bits;
    }
