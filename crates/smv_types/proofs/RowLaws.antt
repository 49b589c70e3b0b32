-- The rules of one node.
use Rattle.std.proofs.Common.{◌≡◌, Bool, true, false, Some, None, refl}
use Rattle.std.specs.Prelude.{if◌then◌else◌}
use Rattle.smv_type_laws.specs.Intervals.{Interval, fits}
use Rattle.smv_types.specs.NumberAnswers.{fitting}
use Rattle.smv_types.specs.Rows.{found, exact_of, unless}
use Rattle.smv_types.specs.declared.fault.TypeRule.TheVariants.{TooWide}

by_fit : (i : Interval) (b : Bool) → found (if b then Some i else None) ≡ record { interval = if b then Some i else None; wide = unless b TooWide }
by_fit i true = refl
by_fit i false = refl

pub found_fitting : (i : Interval) → found (fitting i) ≡ exact_of (Some i)
found_fitting i = by_fit i (fits i)
