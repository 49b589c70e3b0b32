-- The places at which rules are broken, as the code keeps them.
use Rattle.std.specs.Prelude.{ℕ, nat_eq, nat_lt, nat_le, Bool, Option, Some, None, if◌then◌else◌}
use Rattle.smv_type_laws.specs.Models.{Breach}
use Rattle.smv_types.specs.Rows.{rule_number}
use Rattle.smv_types.specs.Answers.{told_rule}
use Rattle.smv_types.specs.declared.fault.TypeRule.{TypeRule}
use Rattle.smv_types.specs.declared.fault.TypeRule.TheVariants.{TooLarge}
use Rattle.smv_types.specs.declared.fault.TypeFault.{TypeFault}
use Rattle.smv_types.specs.declared.site.Site.{Site}

-- the site of a breach
abbrev pub told_site : Breach → Site
told_site b = record { «instance» = b.number; item = b.item; rule = told_rule b.rule }

-- the site, where there is one
abbrev pub told_first_site : Option Breach → Option Site
told_first_site None = None
told_first_site (Some b) = Some (told_site b)

-- by instances, then items, then numbers
abbrev pub is_before : Site → Site → Bool
is_before a b =
    if nat_eq a.«instance» b.«instance» then
    (if nat_eq a.item b.item then nat_le (rule_number a.rule) (rule_number b.rule) else nat_lt a.item b.item) else nat_lt a.«instance»
    b.«instance»

-- the first of two, where there is one
abbrev pub earlier_site : Option Site → Option Site → Option Site
earlier_site None b = b
earlier_site (Some a) None = Some a
earlier_site (Some a) (Some b) = Some (if is_before a b then a else b)

-- the site of an item, where it breaks a rule
abbrev pub site_at : ℕ → ℕ → Option TypeRule → Option Site
site_at number item None = None
site_at number item (Some r) = Some (record { «instance» = number; item = item; rule = r })

-- what is told of the first site; a size beyond the limits comes last, with item 0
abbrev pub fault_by : Option Site → Bool → Option TypeFault
fault_by (Some s) large = Some (record { rule = s.rule; item = s.item })
fault_by None large = if large then Some (record { rule = TooLarge; item = 0 }) else None
