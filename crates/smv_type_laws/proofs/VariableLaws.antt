-- A value of a variable's domain is of the variable's kind.
use Rattle.std.proofs.Common.{◌≡◌, true, ⊎_elim, List, [], ◌∷◌, ◌++◌, flat_map, map, Option, Some, None, int_lt, refl, subst}
use Rattle.smv_language.specs.declared.program.Member.{Member}
use Rattle.smv_language.specs.declared.program.Member.TheVariants as member
use Rattle.smv_language.specs.Language.{DeclaredTree, boolean, range, members, instance, Each, is_member, in_domain, Value, symbol, one, same_int, same_text}
use Rattle.smv_language.specs.Values.{truth, number}
use Rattle.smv_language.proofs.ValueLaws.{same_int_equal}
use Rattle.smv_type_laws.specs.Intervals.{Interval, just}
use Rattle.smv_type_laws.specs.ExpressionKinds.{Class, number_class, KindRule, mixed_enum, empty_range, double_member, rule_if, unless_class, wide, first_class, hull_of, one_value}
use Rattle.smv_type_laws.specs.DeclaredKinds.{member_kind, has_double, judged_declared}
use Rattle.smv_type_laws.specs.KindValues.{IsOfClass, IsOfKind}
use Rattle.smv_type_laws.proofs.Products.{in_just}
use Rattle.smv_type_laws.proofs.Parts.{none_first, none_second, class_kept, Bounded, BoundedAs, Inside, wide_bounded, hull_of_holds, hull_of_bounded, of_span, kind_as}
use Rattle.smv_type_laws.proofs.TreeLaws.{AtLeaf}
use Rattle.smv_language.proofs.BoolLaws.{or_cases}

of_member : (c : Class) (target : Option Interval) (m : Member) → (member_kind m).class ≡ c → Inside target (member_kind m) → (v : Value) → IsOfKind (member_kind m) v →
    IsOfKind (kind_as c target) v
of_member c target m e f v h = record { class = subst (λ d. IsOfClass d v) e h.class; lies = f v h.lies }

-- a member is of the kind of all
member_of : (c : Class) (target : Option Interval) (ms : List Member) (v : Value) → is_member ms v ≡ true → flat_map (unless_class c mixed_enum) (map member_kind ms) ≡ [] →
    Each (Inside target) (map member_kind ms) → IsOfKind (kind_as c target) v
member_of c target [] v h e f = cc
member_of c target (member.Number n ∷ ms) (number k) h e f =
    ⊎_elim (λ s. subst (λ i. IsOfKind (kind_as c target) (number i)) (same_int_equal n k s)
    (of_member c target (member.Number n) (class_kept c mixed_enum (member_kind (member.Number n)) (none_first _ _ e)) f.0 (number n) (record { class = tt; lies = in_just n })))
    (λ s. member_of c target ms (number k) s (none_second (unless_class c mixed_enum (member_kind (member.Number n))) _ e) f.1)
    (or_cases (same_int n k) (is_member ms (number k)) h)
member_of c target (member.Number n ∷ ms) (truth b) h e f = member_of c target ms (truth b) h (none_second (unless_class c mixed_enum (member_kind (member.Number n))) _ e) f.1
member_of c target (member.Number n ∷ ms) (symbol y) h e f = member_of c target ms (symbol y) h (none_second (unless_class c mixed_enum (member_kind (member.Number n))) _ e) f.1
member_of c target (member.Symbol x ∷ ms) (symbol y) h e f =
    ⊎_elim (λ s. of_member c target (member.Symbol x) (class_kept c mixed_enum (member_kind (member.Symbol x)) (none_first _ _ e)) f.0 (symbol y) (record { class = tt; lies = tt }))
    (λ s. member_of c target ms (symbol y) s (none_second (unless_class c mixed_enum (member_kind (member.Symbol x))) _ e) f.1)
    (or_cases (same_text x y) (is_member ms (symbol y)) h)
member_of c target (member.Symbol x ∷ ms) (truth b) h e f = member_of c target ms (truth b) h (none_second (unless_class c mixed_enum (member_kind (member.Symbol x))) _ e) f.1
member_of c target (member.Symbol x ∷ ms) (number k) h e f = member_of c target ms (number k) h (none_second (unless_class c mixed_enum (member_kind (member.Symbol x))) _ e) f.1

member_bounded : (c : Class) (m : Member) → (member_kind m).class ≡ c → wide (member_kind m).interval ≡ [] → BoundedAs c (member_kind m)
member_bounded c (member.Number n) e w = subst (λ d. Bounded d (Some (just n))) e (wide_bounded (just n) w)
member_bounded c (member.Symbol x) e w = subst (λ d. Bounded d None) e tt

members_bounded : (c : Class) (ms : List Member) → flat_map (unless_class c mixed_enum) (map member_kind ms) ≡ [] → flat_map (λ k. wide k.interval) (map member_kind ms) ≡ [] →
    Each (BoundedAs c) (map member_kind ms)
members_bounded c [] e w = tt
members_bounded c (m ∷ ms) e w = (
  member_bounded c m (class_kept c mixed_enum (member_kind m) (none_first _ _ e)) (none_first _ _ w),
  members_bounded c ms (none_second (unless_class c mixed_enum (member_kind m)) _ e) (none_second (wide (member_kind m).interval) _ w),
)

given_value : (v : Value) (own : List KindRule) (c : Class) (i : Option Interval) → own ++ [] ≡ [] → (own ≡ [] → Bounded c i × IsOfKind (kind_as c i) v) → AtLeaf (one_value own c i []).kind (Some (one v))
given_value v [] c i e f = record { bounded = (f refl).0; gives = record { value = v; is = refl; of_kind = (f refl).1 } }
given_value v (r ∷ own) c i e f = cc

pub variable_holds : (d : DeclaredTree) (v : Value) → (judged_declared d).broken ≡ [] → in_domain d v ≡ true → AtLeaf (judged_declared d).kind (Some (one v))
variable_holds boolean (truth b) e h = record { bounded = tt; gives = record { value = truth b; is = refl; of_kind = record { class = tt; lies = tt } } }
variable_holds boolean (number n) e h = cc
variable_holds boolean (symbol x) e h = cc
variable_holds (range lo hi) v e h =
    let here = rule_if (int_lt hi lo) empty_range in
    let i : Interval = record { lo = lo; hi = hi } in
    given_value v (here ++ wide (Some i)) number_class (Some i) e (λ none.
    (wide_bounded i (none_second here (wide (Some i)) none), of_span (IsOfKind (kind_as number_class (Some i))) lo hi (λ n p q. record { class = tt; lies = record { above = p; below = q } }) v h))
variable_holds (members ms) v e h =
    let kinds = map member_kind ms in
    let mixed = flat_map (unless_class (first_class kinds) mixed_enum) kinds in
    let double = rule_if (has_double ms) double_member in
    let small = flat_map (λ k. wide k.interval) kinds in
    given_value v (mixed ++ (double ++ small)) (first_class kinds) (hull_of kinds) e (λ none. (
      hull_of_bounded kinds (members_bounded (first_class kinds) ms (none_first mixed _ none) (none_second double small (none_second mixed (double ++ small) none))),
      member_of (first_class kinds) (hull_of kinds) ms v h (none_first mixed _ none) (hull_of_holds kinds),
    ))
variable_holds (instance m actuals) v e h = cc
