-- What an effect is made of: the forms of what it demands of a type, and of its branch.
use Rattle.std.specs.Prelude.{ℤ, Bool, Option}
use Rattle.smv_language.specs.Language.{Formula, Value}
use Rattle.fault_instructions.specs.declared.effects.EffectRule.{EffectRule}

-- what the type of the variable has to be
pub data Demand : Type 0 where
  no_demand : Demand
  one_of_its : Value → Demand
  truth_values : Demand
  two_values : Demand
  -- a range whose ends pass
  a_range : (ℤ → ℤ → Bool) → Demand

-- what the read value may be, before its rules
pub data Branch : Type 0 where
  the_constant : Value → Branch
  the_formula : Formula → Branch
  -- the negation of the own value
  the_opposite : Branch
  -- the own value and the distance, clipped to the range
  the_sum : ℤ → Branch
  any_value : Branch

-- the row of an effect: its rule restricts the branch, where there is one
pub record Row : Type 0 where
  pub demand : Demand
  pub branch : Branch
  pub rule : Option EffectRule

-- the row of these parts
abbrev pub a_row : Demand → Branch → Option EffectRule → Row
a_row d b r = record { demand = d; branch = b; rule = r }
