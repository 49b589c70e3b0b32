-- A declared type is judged as the table of kinds says.
use Rattle.std.proofs.Common.{◌≡◌, ℤ, Bool, true, false, not, List, [], ◌∷◌, ◌++◌, Option, Some, None, refl, sym, ap, ◌∙◌}
use Rattle.std.specs.Prelude.{flat_map, map, int_lt}
use Rattle.std.proofs.lemmas.List.{append-nil}
use Rattle.smv_language.specs.declared.program.Member.{Member}
use Rattle.smv_language.specs.declared.program.Member.TheVariants as member
use Rattle.smv_language.specs.ProgramTree.{Text}
use Rattle.smv_type_laws.specs.Intervals.{Interval, just, hull}
use Rattle.smv_type_laws.specs.ExpressionKinds.{Class, Kind, KindRule, mismatch, mixed_enum, double_member, empty_range, rule_if, unless_class, same_class, wide, hull_from, hull_of, unlike_first, kinds_in, broken_in, one_value as one_found, number_class, where_kept as where_found}
use Rattle.smv_type_laws.specs.Costs.{member_number, number_kind}
use Rattle.smv_type_laws.specs.Models.{least, least_after}
use Rattle.smv_type_laws.proofs.Parts.{none_first, none_second}
use Rattle.smv_type_laws.specs.DeclaredKinds.{member_kind, has_double, judged_members, judged_range}
use Rattle.smv_types.specs.declared.fault.TypeRule.{TypeRule}
use Rattle.smv_types.specs.declared.fault.TypeRule.TheVariants.{DoubleMember}
use Rattle.smv_types.specs.declared.sort.JudgedExpr.{JudgedExpr as AJudged}
use Rattle.smv_types.specs.Rows.{lower, unless, where_kept, one_value, row_range}
use Rattle.smv_types.specs.Answers.{told_class, told_first, told_rules, told}
use Rattle.smv_types.specs.ListKinds.{add_all}
use Rattle.smv_types.specs.Types.{member_judged, members_judged, mixed, row_type, spread}
use Rattle.smv_types.proofs.ToldLaws.{joins, told_join, told_rule_if, told_one}
use Rattle.smv_types.proofs.NodeLaws.{told_span}
use Rattle.smv_types.proofs.ListLaws.{all_of}

-- Ranges.
pub told_range : (lo hi : ℤ) → row_range lo hi ≡ told (judged_range lo hi)
told_range lo hi =
    ap (λ (j : AJudged). record { sort = j.sort; is_set = false; broken = j.broken }) (told_span true lo hi)
    ∙ ap (λ rs. told (one_found rs number_class (Some (record { lo = lo; hi = hi })) [])) (append-nil (rule_if (int_lt hi lo) empty_range ++ wide (Some (record { lo = lo; hi = hi }))))

-- The numbers of members.
spread_from : (symbols : List Text) (i : Interval) (ms : List Member) →
    spread (Some i) (map (member_number symbols) ms) ≡ hull_from (Some i) (map (λ m. number_kind (member_number symbols m)) ms)
spread_from symbols i [] = refl
spread_from symbols i (m ∷ ms) = spread_from symbols (hull i (just (member_number symbols m))) ms

pub hull_spread : (symbols : List Text) (ms : List Member) → spread None (map (member_number symbols) ms) ≡ hull_of (map (λ m. number_kind (member_number symbols m)) ms)
hull_spread symbols [] = refl
hull_spread symbols (m ∷ ms) = spread_from symbols (just (member_number symbols m)) ms

-- Members of several classes.
mixed_lower : (a b : Option TypeRule) → mixed (lower a b) ≡ lower (mixed a) (mixed b)
mixed_lower None b = refl
mixed_lower (Some r) None = refl
mixed_lower (Some r) (Some q) = refl

mixed_if : (b : Bool) → mixed (told_rules (rule_if b mismatch)) ≡ told_rules (rule_if b mixed_enum)
mixed_if true = refl
mixed_if false = refl

same_member_class : (m : Member) → (member_judged m).kind.class ≡ (member_kind m).class
same_member_class (member.Number n) = refl
same_member_class (member.Symbol x) = refl

mixed_unlike : (c : Class) (ms : List Member) →
    mixed (told_rules (flat_map (unless_class c mismatch) (kinds_in (members_judged ms)))) ≡ told_rules (flat_map (unless_class c mixed_enum) (map member_kind ms))
mixed_unlike c [] = refl
mixed_unlike c (m ∷ ms) =
    ap mixed (told_join (unless_class c mismatch (member_judged m).kind) (flat_map (unless_class c mismatch) (kinds_in (members_judged ms))))
    ∙ mixed_lower (told_rules (unless_class c mismatch (member_judged m).kind)) (told_rules (flat_map (unless_class c mismatch) (kinds_in (members_judged ms))))
    ∙ ap (λ a. lower a (mixed (told_rules (flat_map (unless_class c mismatch) (kinds_in (members_judged ms))))))
    (mixed_if (not (same_class (member_judged m).kind.class c)) ∙ ap (λ d. told_rules (rule_if (not (same_class d c)) mixed_enum)) (same_member_class m))
    ∙ ap (lower (told_rules (unless_class c mixed_enum (member_kind m)))) (mixed_unlike c ms)
    ∙ sym (told_join (unless_class c mixed_enum (member_kind m)) (flat_map (unless_class c mixed_enum) (map member_kind ms)))

-- Members beyond 32 bits.
abbrev wide_members : List Member → List KindRule
wide_members ms = flat_map (λ (k : Kind). wide k.interval) (map member_kind ms)

broken_member : (m : Member) → (member_judged m).broken ≡ wide (member_kind m).interval
broken_member (member.Number n) = append-nil (wide (Some (just n)))
broken_member (member.Symbol x) = refl

broken_members : (ms : List Member) → broken_in (members_judged ms) ≡ wide_members ms
broken_members [] = refl
broken_members (m ∷ ms) = ap (λ rs. rs ++ broken_in (members_judged ms)) (broken_member m) ∙ ap (λ rs. wide (member_kind m).interval ++ rs) (broken_members ms)

no_first : (rs : List KindRule) → told_rules rs ≡ None → rs ≡ []
no_first [] e = refl
no_first (r ∷ rs) e = by (least rs) e
  where
    by : (o : Option KindRule) → told_first (least_after r o) ≡ None → r ∷ rs ≡ []
    by None f = cc
    by (Some q) f = cc

kind_kept : (m : Member) → wide (member_kind m).interval ≡ [] → (member_judged m).kind ≡ member_kind m
kind_kept (member.Number n) e = ap (λ rs. record { class = number_class; interval = where_found rs (Some (just n)) }) e
kind_kept (member.Symbol x) e = refl

kinds_kept : (ms : List Member) → wide_members ms ≡ [] → kinds_in (members_judged ms) ≡ map member_kind ms
kinds_kept [] e = refl
kinds_kept (m ∷ ms) e =
    ap (λ k. k ∷ kinds_in (members_judged ms)) (kind_kept m (none_first (wide (member_kind m).interval) (wide_members ms) e))
    ∙ ap (λ ks. member_kind m ∷ ks) (kinds_kept ms (none_second (wide (member_kind m).interval) (wide_members ms) e))

-- an interval counts only where no rule is broken
where_none : (own : Option TypeRule) (i j : Option Interval) → (own ≡ None → i ≡ j) → where_kept own i ≡ where_kept own j
where_none None i j same = same refl
where_none (Some r) i j same = refl

last_none : (a b c : Option TypeRule) → lower a (lower b c) ≡ None → c ≡ None
last_none None None c e = e
last_none None (Some r) None e = refl
last_none None (Some r) (Some q) e = cc
last_none (Some r) None None e = refl
last_none (Some r) None (Some q) e = cc
last_none (Some r) (Some q) None e = refl
last_none (Some r) (Some q) (Some p) e = cc

-- A type that lists its values.
pub told_type : (ms : List Member) → row_type (add_all None (members_judged ms)) (has_double ms) ≡ told (judged_members ms)
told_type [] = refl
told_type (m ∷ ms) = ap (λ s. row_type s double) (all_of (member_judged m) (members_judged ms)) ∙ by_parts
  where
    all : List Member
    all = m ∷ ms

    double : Bool
    double = has_double all

    own : Option TypeRule
    own = lower (told_rules (unlike_first mixed_enum (map member_kind all))) (lower (unless (not double) DoubleMember) (told_rules (wide_members all)))

    unlike : mixed (told_rules (unlike_first mismatch (kinds_in (members_judged all)))) ≡ told_rules (unlike_first mixed_enum (map member_kind all))
    unlike = ap (λ c. mixed (told_rules (flat_map (unless_class c mismatch) (kinds_in (members_judged all))))) (same_member_class m) ∙ mixed_unlike (member_kind m).class all

    same_own : lower (mixed (told_rules (unlike_first mismatch (kinds_in (members_judged all))))) (lower (unless (not double) DoubleMember) (told_rules (broken_in (members_judged all)))) ≡ own
    same_own =
        ap (λ a. lower a (lower (unless (not double) DoubleMember) (told_rules (broken_in (members_judged all))))) unlike
        ∙ ap (λ rs. lower (told_rules (unlike_first mixed_enum (map member_kind all))) (lower (unless (not double) DoubleMember) (told_rules rs))) (broken_members all)

    same_hull : own ≡ None → hull_of (kinds_in (members_judged all)) ≡ hull_of (map member_kind all)
    same_hull e = ap hull_of (kinds_kept all (no_first (wide_members all) (last_none (told_rules (unlike_first mixed_enum (map member_kind all))) (unless (not double) DoubleMember) (told_rules (wide_members all)) e)))

    by_parts : one_value (lower (mixed (told_rules (unlike_first mismatch (kinds_in (members_judged all))))) (lower (unless (not double) DoubleMember) (told_rules (broken_in (members_judged all))))) (told_class (member_judged m).kind.class) (hull_of (kinds_in (members_judged all))) None
        ≡ told (judged_members all)
    by_parts =
        ap (λ o. one_value o (told_class (member_judged m).kind.class) (hull_of (kinds_in (members_judged all))) None) same_own
        ∙ ap (λ (c : Class). one_value own (told_class c) (hull_of (kinds_in (members_judged all))) None) (same_member_class m)
        ∙ ap (λ i. record { sort = record { class = told_class (member_kind m).class; interval = i }; is_set = false; broken = lower own None }) (where_none own (hull_of (kinds_in (members_judged all))) (hull_of (map member_kind all)) same_hull)
        ∙ sym (told_one (unlike_first mixed_enum (map member_kind all) ++ (rule_if double double_member ++ wide_members all)) (member_kind m).class (hull_of (map member_kind all)) []
        (joins (unlike_first mixed_enum (map member_kind all)) (rule_if double double_member ++ wide_members all) refl (joins (rule_if double double_member) (wide_members all) (told_rule_if double double_member) refl)) refl)
