-- A model is typed, or what is told is its fault.
use Rattle.std.proofs.Common.{◌+◌, ◌≡◌, ℕ, min, ◌||◌, Option, Some, None, refl, sym, ap, ◌∙◌, subst, nat_lt, arith}
use Rattle.std.proofs.lemmas.Bool.{ltb-false, or_parts as neither}
use Rattle.base_values.specs.declared.limits.TheConstants.{MOST_BITS, MOST_COST}
use Rattle.smv_language.specs.Flat.{FlatModel}
use Rattle.smv_type_laws.specs.ExpressionKinds.{KindRule}
use Rattle.smv_type_laws.specs.Costs.{model_cost, state_bits}
use Rattle.smv_type_laws.specs.FirstBreach.{first_of, first_fault}
use Rattle.smv_type_laws.specs.Models.{breaches, IsFault, IsTyped}
use Rattle.smv_type_laws.proofs.Earliest.{fault_found, none_is_typed}
use Rattle.smv_types.specs.declared.fault.TypeFault.{TypeFault}
use Rattle.smv_types.specs.declared.site.Site.{Site}
use Rattle.smv_types.specs.Answers.{told_rule}
use Rattle.smv_types.specs.Faults.{IsFaultOf, told_fault}
use Rattle.smv_types.specs.Sites.{told_first_site, fault_by}
use Rattle.smv_types.proofs.SiteLaws.{fault_told}
use Rattle.smv_types.proofs.SizeLaws.{below_cap}

pub fault_answered : (m : FlatModel) (first : Option Site) (cost bits : ℕ) → first ≡ told_first_site (first_of (breaches m)) → cost ≡ min (model_cost m) (MOST_COST + 1) → bits ≡ min (state_bits m) (MOST_COST + 1) →
    fault_by first (nat_lt MOST_COST cost || nat_lt MOST_BITS bits) ≡ told_fault (first_fault m)
fault_answered m first cost bits is_first is_cost is_bits =
    ap (λ s. fault_by s (nat_lt MOST_COST cost || nat_lt MOST_BITS bits)) is_first
    ∙ ap (λ b. fault_by (told_first_site (first_of (breaches m))) (b || nat_lt MOST_BITS bits)) (ap (nat_lt MOST_COST) is_cost ∙ below_cap MOST_COST (model_cost m) (omega arith))
    ∙ ap (λ b. fault_by (told_first_site (first_of (breaches m))) (nat_lt MOST_COST (model_cost m) || b)) (ap (nat_lt MOST_BITS) is_bits ∙ below_cap MOST_BITS (state_bits m) (omega arith))
    ∙ fault_told m

pub fault_is : (m : FlatModel) (f : TypeFault) → told_fault (first_fault m) ≡ Some f → IsFaultOf m f
fault_is m f e = by (first_fault m) refl e
  where
    by : (o : Option (KindRule × ℕ)) → first_fault m ≡ o → told_fault o ≡ Some f → IsFaultOf m f
    by None g h = cc
    by (Some p) g h =
        let same : record { rule = told_rule p.0; item = p.1 } ≡ f = cc in
        record { rule = p.0; is_rule = sym (ap (λ (t : TypeFault). t.rule) same); is_fault = subst (λ i. IsFault m p.0 i) (ap (λ (t : TypeFault). t.item) same) (fault_found m p.0 p.1 g) }

pub typed_is : (m : FlatModel) → told_fault (first_fault m) ≡ None → IsTyped m
typed_is m e = by (first_fault m) refl e
  where
    by : (o : Option (KindRule × ℕ)) → first_fault m ≡ o → told_fault o ≡ None → IsTyped m
    by None g h = none_is_typed m g
    by (Some p) g h = cc

-- the sizes of a typed model are within the limits
pub small_cost : (m : FlatModel) (cost : ℕ) → IsTyped m → cost ≡ min (model_cost m) (MOST_COST + 1) → cost ≡ model_cost m
small_cost m cost typed e = omega (arith, e, ltb-false _ _ (neither (nat_lt MOST_COST (model_cost m)) (nat_lt MOST_BITS (state_bits m)) typed.small).0)

pub small_bits : (m : FlatModel) (bits : ℕ) → IsTyped m → bits ≡ min (state_bits m) (MOST_COST + 1) → bits ≡ state_bits m
small_bits m bits typed e = omega (arith, e, ltb-false _ _ (neither (nat_lt MOST_COST (model_cost m)) (nat_lt MOST_BITS (state_bits m)) typed.small).1)
