-- The effects, a row each: the word, what it demands of the type of its variable with the branch and the rule that it is made
-- of, and the read values that it allows, given the own value and the value read at the moment before.
use Rattle.std.specs.Prelude.{◌≡◌, ◌≢◌, ℤ, Bool, true, false, IsTrue, int_lt, ◌+ℤ◌, ◌-ℤ◌, if◌then◌else◌}
use Rattle.std.specs.Prelude.{List, [], ◌∷◌, Option, Some, None, codes}
use Rattle.smv_language.specs.Language.{Text, Formula, DeclaredTree, range, Value, opposite, in_domain}
use Rattle.smv_language.specs.Values.{truth, number}
use Rattle.fault_instructions.specs.declared.effects.PlainEffect.TheVariants.{Inverted, Random, Erroneous, Frozen, StuckAtPick}
use Rattle.fault_instructions.specs.declared.effects.ConstantEffect.TheVariants.{StuckAt}
use Rattle.fault_instructions.specs.declared.effects.ExpressionEffect.TheVariants.{Follows}
use Rattle.fault_instructions.specs.declared.effects.NumberEffect.TheVariants.{Offset}
use Rattle.fault_instructions.specs.declared.effects.NumbersEffect.TheVariants.{RampDown}
use Rattle.fault_instructions.specs.declared.effects.EffectKind.{EffectKind}
use Rattle.fault_instructions.specs.declared.effects.EffectKind.TheVariants as kind
use Rattle.fault_instructions.specs.declared.effects.EffectRule.{EffectRule}
use Rattle.fault_instructions.specs.declared.effects.EffectRule.TheVariants.{NotOwn, AsBefore, AsEntered, Falling}
use Rattle.fault_instructions.specs.declared.fault.EffectFault.{EffectFault}
use Rattle.fault_instructions.specs.Instructions.{EffectTree, plain, of_constant, of_expression, of_number, of_numbers}
use Rattle.fault_instructions.specs.EffectForms.{no_demand, one_of_its, truth_values, two_values, a_range, Branch, the_constant}
use Rattle.fault_instructions.specs.EffectForms.{the_formula, the_opposite, the_sum, any_value, Row, a_row}
use Rattle.fault_instructions.specs.AllowedEffects.{offset_fits, ramp_fits, demand_fault}

-- the word that an effect begins with
abbrev pub keyword : EffectKind → Text
keyword (kind.OfConstant StuckAt) = codes "StuckAt"
keyword (kind.OfExpression Follows) = codes "Follows"
keyword (kind.Plain Inverted) = codes "Inverted"
keyword (kind.Plain Random) = codes "Random"
keyword (kind.Plain Erroneous) = codes "Erroneous"
keyword (kind.Plain Frozen) = codes "Frozen"
keyword (kind.Plain StuckAtPick) = codes "StuckAtPick"
keyword (kind.OfNumber Offset) = codes "Offset"
keyword (kind.OfNumbers RampDown) = codes "RampDown"

-- all effects
unfoldable pub effect_kinds : List EffectKind
effect_kinds =
    kind.OfConstant StuckAt ∷ kind.OfExpression Follows ∷ kind.Plain Inverted ∷ kind.Plain Random ∷ kind.Plain Erroneous
    ∷ kind.Plain Frozen ∷ kind.Plain StuckAtPick ∷ kind.OfNumber Offset ∷ kind.OfNumbers RampDown ∷ []

-- what an effect demands of the type of its variable, and the branch and the rule that it is made of
abbrev pub row : EffectTree → Row
row (of_constant StuckAt c) = a_row (one_of_its c) (the_constant c) None
row (of_expression Follows e) = a_row no_demand (the_formula e) None
row (plain Inverted) = a_row truth_values the_opposite None
row (plain Random) = a_row no_demand any_value None
row (plain Erroneous) = a_row two_values any_value (Some NotOwn)
row (plain Frozen) = a_row no_demand any_value (Some AsBefore)
row (plain StuckAtPick) = a_row no_demand any_value (Some AsEntered)
row (of_number Offset d) = a_row (a_range (offset_fits d)) (the_sum d) None
row (of_numbers RampDown d f) = a_row (a_range (ramp_fits d f)) any_value (Some (Falling d f))

-- the number of the range that is nearest
abbrev pub clipped : ℤ → ℤ → ℤ → ℤ
clipped lo hi n = if int_lt hi n then hi else (if int_lt n lo then lo else n)

-- the own value and the distance, clipped to the range
abbrev pub IsOffset : DeclaredTree → ℤ → Value → Value → Type 0
IsOffset (range lo hi) d (number n) x = x ≡ number (clipped lo hi (n +ℤ d))
IsOffset _ d own x = ⊥

-- the greater of the floor and the value before less the step
abbrev pub IsRamp : ℤ → ℤ → Value → Value → Type 0
IsRamp d f (number n) x = x ≡ number (if int_lt f (n -ℤ d) then n -ℤ d else f)
IsRamp d f before x = ⊥

-- the other truth value
abbrev pub IsInverse : Value → Value → Type 0
IsInverse (truth b) x = x ≡ truth (opposite b)
IsInverse own x = ⊥

-- any value where the mode is entered, else the value before
abbrev pub IsPick : DeclaredTree → Bool → Value → Value → Type 0
IsPick type true before x = IsTrue (in_domain type x)
IsPick type false before x = x ≡ before

-- Under an effect the read value may be x, where `gives e x` says that e has the value x at the instance.
-- `before` is the read value of the moment before, and `entered` says that the mode did not stand there; in the
-- first moment `before` is the own value, and every mode that stands is entered.
abbrev pub Allows : EffectTree → (Formula → Value → Type 0) → DeclaredTree → Value → Value → Bool → Value → Type 0
Allows (of_constant StuckAt c) gives type own before entered x = x ≡ c
Allows (of_expression Follows e) gives type own before entered x = gives e x
Allows (plain Inverted) gives type own before entered x = IsInverse own x
Allows (plain Random) gives type own before entered x = IsTrue (in_domain type x)
Allows (plain Erroneous) gives type own before entered x = IsTrue (in_domain type x) × (x ≢ own)
Allows (plain Frozen) gives type own before entered x = x ≡ before
Allows (plain StuckAtPick) gives type own before entered x = IsPick type entered before x
Allows (of_number Offset d) gives type own before entered x = IsOffset type d own x
Allows (of_numbers RampDown d f) gives type own before entered x = IsRamp d f before x

-- the branch of an effect
abbrev pub branch_of : EffectTree → Branch
branch_of e = (row e).branch

-- its rule, where it has one
abbrev pub rule_of : EffectTree → Option EffectRule
rule_of e = (row e).rule

-- the first demand of the effect that a variable of the type breaks
abbrev pub fault_of : EffectTree → DeclaredTree → Option EffectFault
fault_of e type = demand_fault (row e).demand type

-- the first of the effects whose word passes the test
abbrev pub first_kind : (Text → Bool) → List EffectKind → Option EffectKind
first_kind passes [] = None
first_kind passes (k ∷ ks) = if passes (keyword k) then Some k else first_kind passes ks
