-- Types of variables and states of slices that the effects speak of.
use Rattle.std.specs.Prelude.{◌≡◌, ◌⊎◌, ℤ, Bool, IsTrue, Some, None}
use Rattle.smv_language.specs.declared.program.Member.{Member}
use Rattle.smv_language.specs.declared.program.Member.TheVariants as member
use Rattle.smv_language.specs.Language.{DeclaredTree, boolean, range, members, Value, Each, AtSome, in_domain}
use Rattle.fault_instructions.specs.Instructions.{SliceTree}
use Rattle.fault_instructions.specs.EffectForms.{Demand, no_demand, one_of_its, truth_values, two_values, a_range}
use Rattle.fault_instructions.specs.AddedNames.{ModeState}

-- the member is a number
abbrev pub IsNumberMember : Member → Type 0
IsNumberMember (member.Number n) = Unit {0}
IsNumberMember (member.Symbol x) = ⊥

-- the member is a symbol
abbrev pub IsSymbolMember : Member → Type 0
IsSymbolMember (member.Number n) = ⊥
IsSymbolMember (member.Symbol x) = Unit {0}

-- members are all numbers or all symbols
abbrev pub IsUniform : DeclaredTree → Type 0
IsUniform (members ms) = Each IsNumberMember ms ⊎ Each IsSymbolMember ms
IsUniform _ = Unit {0}

-- nominal, or one of the slice's modes
abbrev pub IsKnown : SliceTree → ModeState → Type 0
IsKnown s None = Unit {0}
IsKnown s (Some name) = AtSome (λ m. m.name ≡ name) s.modes

-- the type is boolean
abbrev pub IsBoolean : DeclaredTree → Type 0
IsBoolean boolean = Unit {0}
IsBoolean _ = ⊥

-- the type is a range
abbrev pub IsRange : DeclaredTree → Type 0
IsRange (range lo hi) = Unit {0}
IsRange _ = ⊥

-- what a demand gives, where this is known of a constant, of truth values and of a range
abbrev pub Demanded : (Value → Type 0) → Type 0 → ((ℤ → ℤ → Bool) → Type 0) → Demand → Type 0
Demanded V B R no_demand = Unit {0}
Demanded V B R (one_of_its c) = V c
Demanded V B R truth_values = B
Demanded V B R two_values = Unit {0}
Demanded V B R (a_range passes) = R passes

-- the type meets the demand, as far as the meaning of an effect rests on it
abbrev pub Meets : Demand → DeclaredTree → Type 0
Meets d type = Demanded (λ c. IsTrue (in_domain type c)) (IsBoolean type) (λ passes. IsRange type) d
