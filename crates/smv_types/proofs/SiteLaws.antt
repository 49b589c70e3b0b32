-- The first site is that of the first breach.
use Rattle.std.proofs.Common.{◌≡◌, ℕ, Bool, true, false, List, ◌++◌, Option, Some, None, refl, sym, ap, ◌∙◌}
use Rattle.std.specs.Prelude.{nat_eq, nat_lt, nat_le, if◌then◌else◌}
use Rattle.smv_language.specs.Flat.{FlatModel}
use Rattle.smv_type_laws.specs.ExpressionKinds.{KindRule, number_of}
use Rattle.smv_type_laws.specs.Models.{Breach, breaches_at, breaches, least, is_too_large}
use Rattle.smv_type_laws.specs.FirstBreach.{is_no_later, earlier, first_of, breach_of, size_breach, first_fault}
use Rattle.smv_type_laws.proofs.Earliest.{first_join, first_at}
use Rattle.smv_types.specs.Rows.{rule_number}
use Rattle.smv_types.specs.Answers.{told_rule, told_first, told_rules}
use Rattle.smv_types.specs.Sites.{told_site, told_first_site, is_before, earlier_site, site_at, fault_by}
use Rattle.smv_types.specs.Faults.{told_fault}
use Rattle.smv_types.proofs.ToldLaws.{same_number}

told_if : (t : Bool) (a b : Breach) → (if t then told_site a else told_site b) ≡ told_site (if t then a else b)
told_if true a b = refl
told_if false a b = refl

same_order : (a b : Breach) → is_before (told_site a) (told_site b) ≡ is_no_later a b
same_order a b =
    ap (λ n. if nat_eq a.number b.number then (if nat_eq a.item b.item then nat_le n (rule_number (told_rule b.rule)) else nat_lt a.item b.item) else nat_lt a.number b.number) (same_number a.rule)
    ∙ ap (λ n. if nat_eq a.number b.number then (if nat_eq a.item b.item then nat_le (number_of a.rule) n else nat_lt a.item b.item) else nat_lt a.number b.number) (same_number b.rule)

told_earlier : (a b : Option Breach) → earlier_site (told_first_site a) (told_first_site b) ≡ told_first_site (earlier a b)
told_earlier None b = refl
told_earlier (Some a) None = refl
told_earlier (Some a) (Some b) = ap Some (ap (λ t. if t then told_site a else told_site b) (same_order a b) ∙ told_if (is_no_later a b) a b)

told_breach : (number item : ℕ) (o : Option KindRule) → site_at number item (told_first o) ≡ told_first_site (breach_of number item o)
told_breach number item None = refl
told_breach number item (Some r) = refl

told_at : (number item : ℕ) (rules : List KindRule) → site_at number item (told_rules rules) ≡ told_first_site (first_of (breaches_at number item rules))
told_at number item rules = told_breach number item (least rules) ∙ sym (ap told_first_site (first_at number item rules))

-- the first of joined breaches is the earlier of both
pub joined_sites : (as' bs : List Breach) → earlier_site (told_first_site (first_of as')) (told_first_site (first_of bs)) ≡ told_first_site (first_of (as' ++ bs))
joined_sites as' bs = told_earlier (first_of as') (first_of bs) ∙ sym (ap told_first_site (first_join as' bs))

-- with what one more item breaks
pub one_more : (before : List Breach) (number item : ℕ) (rules : List KindRule) →
    earlier_site (told_first_site (first_of before)) (site_at number item (told_rules rules)) ≡ told_first_site (first_of (before ++ breaches_at number item rules))
one_more before number item rules = ap (earlier_site (told_first_site (first_of before))) (told_at number item rules) ∙ joined_sites before (breaches_at number item rules)

by_size : (t : Bool) → fault_by None t ≡ told_fault (size_breach t)
by_size true = refl
by_size false = refl

-- what is told is the first fault
pub fault_told : (m : FlatModel) → fault_by (told_first_site (first_of (breaches m))) (is_too_large m) ≡ told_fault (first_fault m)
fault_told m = by (first_of (breaches m))
  where
    by : (o : Option Breach) → fault_by (told_first_site o) (is_too_large m) ≡ told_fault (elim o as (λ p. Option (KindRule × ℕ)) [ Some b ↦ Some (b.rule, b.item) | None ↦ size_breach (is_too_large m) ])
    by (Some b) = refl
    by None = by_size (is_too_large m)
