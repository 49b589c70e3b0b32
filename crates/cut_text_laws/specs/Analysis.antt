-- What an analysis finds.
use Rattle.std.specs.Prelude.{ℕ, Bool, List}
use Rattle.smv_language.specs.Values.{Value}
use Rattle.base_values.specs.declared.ending.Ending.{Ending as Ended}
use Rattle.base_values.specs.declared.ending.Ending.TheVariants as ended

-- how an analysis ends: for all traces, or for those of at most so many steps
pub data Ending : Type 0 where
  complete : Ending
  bounded : ℕ → Ending

-- how the code names it
abbrev pub told_ending : Ended → Ending
told_ending ended.Complete = complete
told_ending (ended.Bounded k) = bounded k

-- sets, the values of a trace for each, whether there is a first moment, and how the analysis ends
pub record Analysis : Type 0 where
  pub sets : List (List ℕ)
  pub shown : List (List (List Value))
  pub first : Bool
  pub ending : Ending
