-- The kinds of constants and domains of types that break no rule.
use Rattle.std.proofs.Common.{◌≡◌, ◌⊎◌, inl, inr, Bool, true, false, List, [], ◌∷◌, ◌++◌, map, flat_map, Some, ℤ, int_lt, refl, ap, sym, ◌∙◌, subst}
use Rattle.smv_language.specs.declared.program.Member.{Member}
use Rattle.smv_language.specs.declared.program.Member.TheVariants as member
use Rattle.smv_language.specs.Language.{AllLeaves, AllLeavesOfTrees, Text, Path, DeclaredTree, boolean, range, members, instance, same_text, Value, symbol, same_int, Each, is_member, in_domain, value_of_member}
use Rattle.smv_language.specs.Values.{truth, number}
use Rattle.smv_language.proofs.ValueLaws.{both_true, same_text_equal, same_int_equal}
use Rattle.fault_instructions.specs.Templates.{value_tree, member_trees, domain_tree}
use Rattle.smv_type_laws.specs.Intervals.{Interval, just, fits_number, fits}
use Rattle.smv_type_laws.specs.ExpressionKinds.{Class, number_class, symbol_class, Kind, mixed_enum, double_member, empty_range, rule_if, unless_class, wide, where_kept, first_class, kinds_in, judge, judge_trees}
use Rattle.smv_type_laws.specs.DeclaredKinds.{member_kind, has_double, judged_declared, class_declared}
use Rattle.smv_type_laws.proofs.Parts.{none_first, none_second, not_if, class_kept, wide_bounded}
use Rattle.fault_woven_laws.proofs.Rightly.{Rightly, set_right, span_right}
use Rattle.fault_woven_laws.proofs.Numbers.{numbers_right, between_fits, number_judged}
use Rattle.smv_language.proofs.BoolLaws.{or_cases}

-- a range that breaks no rule
pub record RangeKept (lo hi : ℤ) : Type 0 where
  pub ordered : int_lt hi lo ≡ false
  pub fits_lo : fits_number lo ≡ true
  pub fits_hi : fits_number hi ≡ true
  pub both_fit : fits (record { lo = lo; hi = hi }) ≡ true

pub range_kept : (lo hi : ℤ) → (judged_declared (range lo hi)).broken ≡ [] → RangeKept lo hi
range_kept lo hi e =
    let here = rule_if (int_lt hi lo) empty_range in
    let i : Interval = record { lo = lo; hi = hi } in
    let own = none_first (here ++ wide (Some i)) [] e in
    let small = wide_bounded i (none_second here (wide (Some i)) own) in
    let ends = both_true (fits_number lo) (fits_number hi) small in
    record { ordered = not_if (int_lt hi lo) empty_range (none_first here (wide (Some i)) own); fits_lo = ends.0; fits_hi = ends.1; both_fit = small }

pub range_kind : (lo hi : ℤ) → (judged_declared (range lo hi)).broken ≡ [] → (judged_declared (range lo hi)).kind ≡ record { class = number_class; interval = Some (record { lo = lo; hi = hi }) }
range_kind lo hi e =
    let here = rule_if (int_lt hi lo) empty_range in
    let i : Interval = record { lo = lo; hi = hi } in
    ap (λ own. record { class = number_class; interval = where_kept own (Some i) }) (none_first (here ++ wide (Some i)) [] e)

-- members that break no rule
pub record MemberKept (c : Class) (d : Member) : Type 0 where
  pub class : (member_kind d).class ≡ c
  pub small : wide (member_kind d).interval ≡ []

each_kept : (c : Class) (ms : List Member) → flat_map (unless_class c mixed_enum) (map member_kind ms) ≡ [] → flat_map (λ k. wide k.interval) (map member_kind ms) ≡ [] → Each (MemberKept c) ms
each_kept c [] e w = tt
each_kept c (d ∷ ms) e w = (
  record { class = class_kept c mixed_enum (member_kind d) (none_first (unless_class c mixed_enum (member_kind d)) _ e); small = none_first (wide (member_kind d).interval) _ w },
  each_kept c ms (none_second (unless_class c mixed_enum (member_kind d)) _ e) (none_second (wide (member_kind d).interval) _ w),
)

pub members_kept : (ms : List Member) → (judged_declared (members ms)).broken ≡ [] → Each (MemberKept (class_declared (members ms))) ms
members_kept ms e =
    let kinds = map member_kind ms in
    let mixed = flat_map (unless_class (first_class kinds) mixed_enum) kinds in
    let double = rule_if (has_double ms) double_member in
    let small = flat_map (λ k. wide k.interval) kinds in
    let own = none_first (mixed ++ (double ++ small)) [] e in
    each_kept (first_class kinds) ms (none_first mixed (double ++ small) own) (none_second double small (none_second mixed (double ++ small) own))

module _ (K : Path → Kind) (P : Path → Type 0) where
  -- a member that is a symbol is the name of a symbol
  abbrev pub MemberKnown : Member → Type 0
  MemberKnown d = (x : Text) → d ≡ member.Symbol x → P (x ∷ []) → (K (x ∷ [])).class ≡ symbol_class

  abbrev pub MembersKnown : DeclaredTree → Type 0
  MembersKnown type = (ms : List Member) → type ≡ members ms → Each MemberKnown ms

  pub member_right : (sets : Bool) (c : Class) (d : Member) → MemberKept c d → MemberKnown d → AllLeaves P (value_tree (value_of_member d)) → Rightly c (judge K sets (value_tree (value_of_member d)))
  member_right sets c (member.Number n) kept known h =
      let ends = both_true (fits_number n) (fits_number n) (wide_bounded (just n) kept.small) in
      let right = numbers_right _ (just n) (number_judged K sets n ends.0) in
      record { kept = right.kept; class = right.class ∙ kept.class }
  member_right sets c (member.Symbol x) kept known h = record { kept = refl; class = known x refl h ∙ kept.class }

  trees_right : (c : Class) (ms : List Member) → Each (MemberKept c) ms → Each MemberKnown ms → AllLeavesOfTrees P (member_trees ms) → Each (Rightly c) (judge_trees K (member_trees ms))
  trees_right c [] kept known h = tt
  trees_right c (d ∷ ms) kept known h = (member_right false c d kept.0 known.0 h.0, trees_right c ms kept.1 known.1 h.1)

  first_right : (c : Class) (ms : List Member) → first_class (map member_kind ms) ≡ c → Each (Rightly c) (judge_trees K (member_trees ms)) → first_class (kinds_in (judge_trees K (member_trees ms))) ≡ c
  first_right c [] e h = e
  first_right c (d ∷ ms) e h = h.0.class

  -- the set of a type's values
  pub domain_right : (type : DeclaredTree) → (judged_declared type).broken ≡ [] → MembersKnown type → AllLeaves P (domain_tree type) → Rightly (class_declared type) (judge K true (domain_tree type))
  domain_right boolean e known h = record { kept = refl; class = refl }
  domain_right (range lo hi) e known h = let k = range_kept lo hi e in span_right lo hi k.ordered k.both_fit
  domain_right (members ms) e known h =
      let c = class_declared (members ms) in
      let each = trees_right c ms (members_kept ms e) (known ms refl) h in
      set_right c (judge_trees K (member_trees ms)) each (first_right c ms refl each)
  domain_right (instance n actuals) e known h = record { kept = refl; class = refl }

  -- a value of a type
  value_among : (sets : Bool) (c : Class) (ms : List Member) (v : Value) → Each (MemberKept c) ms → Each MemberKnown ms → is_member ms v ≡ true → AllLeaves P (value_tree v) → Rightly c (judge K sets (value_tree v))
  value_among sets c [] v kept known e h = cc
  value_among sets c (member.Number n ∷ ms) (number k) kept known e h = by (or_cases (same_int n k) (is_member ms (number k)) e) (λ s. value_among sets c ms (number k) kept.1 known.1 s h)
    where
      by : (same_int n k ≡ true) ⊎ (is_member ms (number k) ≡ true) → (is_member ms (number k) ≡ true → Rightly c (judge K sets (value_tree (number k)))) → Rightly c (judge K sets (value_tree (number k)))
      by (inl s) more = subst (λ i. Rightly c (judge K sets (value_tree (number i)))) (same_int_equal n k s) (member_right sets c (member.Number n) kept.0 known.0 (subst (λ i. AllLeaves P (value_tree (number i))) (sym (same_int_equal n k s)) h))
      by (inr s) more = more s
  value_among sets c (member.Number n ∷ ms) (truth b) kept known e h = value_among sets c ms (truth b) kept.1 known.1 e h
  value_among sets c (member.Number n ∷ ms) (symbol y) kept known e h = value_among sets c ms (symbol y) kept.1 known.1 e h
  value_among sets c (member.Symbol x ∷ ms) (symbol y) kept known e h = by (or_cases (same_text x y) (is_member ms (symbol y)) e) (λ s. value_among sets c ms (symbol y) kept.1 known.1 s h)
    where
      by : (same_text x y ≡ true) ⊎ (is_member ms (symbol y) ≡ true) → (is_member ms (symbol y) ≡ true → Rightly c (judge K sets (value_tree (symbol y)))) → Rightly c (judge K sets (value_tree (symbol y)))
      by (inl s) more = subst (λ z. Rightly c (judge K sets (value_tree (symbol z)))) (same_text_equal x y s) (member_right sets c (member.Symbol x) kept.0 known.0 (subst (λ z. P (z ∷ [])) (sym (same_text_equal x y s)) h))
      by (inr s) more = more s
  value_among sets c (member.Symbol x ∷ ms) (truth b) kept known e h = value_among sets c ms (truth b) kept.1 known.1 e h
  value_among sets c (member.Symbol x ∷ ms) (number k) kept known e h = value_among sets c ms (number k) kept.1 known.1 e h

  pub value_right : (sets : Bool) (type : DeclaredTree) (v : Value) → (judged_declared type).broken ≡ [] → MembersKnown type → in_domain type v ≡ true → AllLeaves P (value_tree v) →
      Rightly (class_declared type) (judge K sets (value_tree v))
  value_right sets boolean (truth b) e known within h = record { kept = refl; class = refl }
  value_right sets boolean (number n) e known within h = cc
  value_right sets boolean (symbol x) e known within h = cc
  value_right sets (range lo hi) (number n) e known within h =
      let k = range_kept lo hi e in numbers_right _ _ (number_judged K sets n (between_fits lo hi n k.fits_lo k.fits_hi within))
  value_right sets (range lo hi) (truth b) e known within h = cc
  value_right sets (range lo hi) (symbol x) e known within h = cc
  value_right sets (members ms) v e known within h = value_among sets (class_declared (members ms)) ms v (members_kept ms e) (known ms refl) within h
  value_right sets (instance n actuals) v e known within h = cc
