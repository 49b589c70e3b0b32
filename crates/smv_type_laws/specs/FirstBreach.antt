-- The first breach of a list, found breach by breach.
use Rattle.std.specs.Prelude.{ℕ, nat_eq, nat_lt, nat_le, Bool, Option, Some, None, List, [], ◌∷◌, if◌then◌else◌}
use Rattle.smv_language.specs.Flat.{FlatModel}
use Rattle.smv_type_laws.specs.ExpressionKinds.{KindRule, too_large, number_of}
use Rattle.smv_type_laws.specs.Models.{Breach, breaches, is_too_large}

-- by instances, then items, then numbers
abbrev pub is_no_later : Breach → Breach → Bool
is_no_later a b =
    if nat_eq a.number b.number then (if nat_eq a.item b.item then nat_le (number_of a.rule) (number_of b.rule) else nat_lt a.item b.item)
    else nat_lt a.number b.number

-- the first of two
abbrev pub earlier_of : Breach → Breach → Breach
earlier_of a b = if is_no_later a b then a else b

-- the first of two, where there is one
abbrev pub earlier : Option Breach → Option Breach → Option Breach
earlier None b = b
earlier (Some a) None = Some a
earlier (Some a) (Some b) = Some (earlier_of a b)

-- the first of a list
abbrev pub first_of : List Breach → Option Breach
first_of [] = None
first_of (b ∷ bs) = earlier (Some b) (first_of bs)

-- the least of the rules that are broken at an item
abbrev pub breach_of : ℕ → ℕ → Option KindRule → Option Breach
breach_of number item None = None
breach_of number item (Some r) = Some (record { number = number; item = item; rule = r })

-- a size beyond the limits, with item 0
abbrev pub size_breach : Bool → Option (KindRule × ℕ)
size_breach large = if large then Some (too_large, 0) else None

-- the first rule that a model breaks, with its item; its size comes last
abbrev pub first_fault : FlatModel → Option (KindRule × ℕ)
first_fault m = elim (first_of (breaches m)) [ Some b ↦ Some (b.rule, b.item) | None ↦ size_breach (is_too_large m) ]
