-- The kind of a declared variable, and the rules that its declaration breaks.
use Rattle.std.specs.Prelude.{ℤ, ◌||◌, Bool, false, int_lt, Some, None, List, [], ◌∷◌, ◌++◌, map, flat_map}
use Rattle.smv_language.specs.declared.program.Member.{Member}
use Rattle.smv_language.specs.declared.program.Member.TheVariants as member
use Rattle.smv_language.specs.Language.{DeclaredTree, boolean, range, members, instance, same_int, same_text}
use Rattle.smv_type_laws.specs.Intervals.{just}
use Rattle.smv_type_laws.specs.ExpressionKinds.{Class, Kind, truth_class, number_class, symbol_class, empty_range, mixed_enum}
use Rattle.smv_type_laws.specs.ExpressionKinds.{double_member, Judged, rule_if, wide, one_value, first_class, unlike_first, hull_of}

-- a member of a type has one value
abbrev pub member_kind : Member → Kind
member_kind (member.Number n) = record { class = number_class; interval = Some (just n) }
member_kind (member.Symbol x) = record { class = symbol_class; interval = None }

-- both are the same number or the same symbol
abbrev pub same_member : Member → Member → Bool
same_member (member.Number m) (member.Number n) = same_int m n
same_member (member.Symbol x) (member.Symbol y) = same_text x y
same_member _ _ = false

-- the member stands among the others
abbrev pub is_member_again : Member → List Member → Bool
is_member_again m [] = false
is_member_again m (n ∷ ns) = same_member m n || is_member_again m ns

-- some member stands twice
abbrev pub has_double : List Member → Bool
has_double [] = false
has_double (m ∷ ms) = is_member_again m ms || has_double ms

-- members are all numbers or all symbols, distinct, and within 32 bits
abbrev pub judged_members : List Member → Judged
judged_members ms =
    let kinds = map member_kind ms in
    one_value (unlike_first mixed_enum kinds
    ++ (rule_if (has_double ms) double_member ++ flat_map (λ k. wide k.interval) kinds)) (first_class kinds) (hull_of kinds) []

-- a range has its first end no greater than its last, and ends within 32 bits
abbrev pub judged_range : ℤ → ℤ → Judged
judged_range lo hi =
    let exact = Some (record { lo = lo; hi = hi }) in
    one_value (rule_if (int_lt hi lo) empty_range ++ wide exact) number_class exact []

-- an instance is no variable
abbrev pub judged_declared : DeclaredTree → Judged
judged_declared boolean = one_value [] truth_class None []
judged_declared (range lo hi) = judged_range lo hi
judged_declared (members ms) = judged_members ms
judged_declared (instance m actuals) = one_value [] truth_class None []

-- the class of a declared type
abbrev pub class_declared : DeclaredTree → Class
class_declared type = (judged_declared type).kind.class
