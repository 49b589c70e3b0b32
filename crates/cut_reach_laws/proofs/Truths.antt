-- A lawful top event gives one truth value at each moment, and so does a condition that breaks no rule.
use Rattle.std.proofs.Common.{◌≡◌, Bool, false, List, [], ◌∷◌, ◌++◌, Some, refl, ap, ◌∙◌, sym, subst}
use Rattle.smv_language.specs.Language.{Value, symbol, one, Tree, FlatLeaf, FlatFormula, FlatModel, FlatGives}
use Rattle.smv_language.specs.Values.{truth, number}
use Rattle.smv_flat_laws.proofs.Conditions.{MayBe, may_one}
use Rattle.smv_type_laws.specs.ExpressionKinds.{truth_class, KindRule}
use Rattle.smv_type_laws.specs.Laws.{KeepsKind, IsClosed, ReadsOwn}
use Rattle.smv_type_laws.specs.Models.{judged_in, broken_condition, breaches_at, IsTyped}
use Rattle.smv_type_laws.specs.KindValues.{IsOfClass}
use Rattle.smv_type_laws.proofs.Typed.{values_lie, decided}
use Rattle.fault_orders.specs.Laws.{IsTruth}
use Rattle.cut_reach_laws.specs.OrdersExtendedLaws.{LawfulTopsAreTruths}

a_truth : (x : Value) → IsOfClass truth_class x → (b : Bool) × (x ≡ truth b)
a_truth (truth b) h = (b, refl)
a_truth (number n) h = absurd h
a_truth (symbol y) h = absurd h

pub lawful_truths : LawfulTopsAreTruths
lawful_truths m closed typed top own kept class alone v moment =
    let keeps : KeepsKind m v v (judged_in m false top) top = values_lie m closed typed v v moment.domains moment.domains false top own kept in
    let x : (x : Value) × FlatGives m v v top (one x) = keeps.alone alone in
    let of : IsOfClass (judged_in m false top).kind.class x.0 = (keeps.of_kind x.0 (subst (λ o. MayBe o x.0) (sym x.1) ((may_one x.0 x.0).1 refl))).class in
    let b : (b : Bool) × (x.0 ≡ truth b) = a_truth x.0 (subst (λ c. IsOfClass c x.0) class of) in
    (b.0, x.1 ∙ ap (λ y. Some (one y)) b.1)

no_breach : (rules : List KindRule) → rules ≡ [] → breaches_at 0 0 rules ++ [] ≡ []
no_breach rules e = rw e refl

pub condition_truth : (m : FlatModel) → IsClosed m → IsTyped m → (e : Tree FlatLeaf) → ReadsOwn m e → broken_condition (judged_in m false e) ≡ [] → IsTruth m e
condition_truth m closed typed e own right v moment =
    let f : FlatFormula = record { value = e; item = 0; number = 0 } in
    let d = decided m v v closed typed moment.domains moment.domains (f ∷ []) (no_breach (broken_condition (judged_in m false e)) right) (own, tt) in
    (d.0.value, d.0.gives)
