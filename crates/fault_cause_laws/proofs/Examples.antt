-- The faults of two lamps, as they are computed.
use Rattle.std.proofs.Common.{[], ◌∷◌, List, refl}
use Rattle.std.specs.Prelude.{codes}
use Rattle.fault_weave.specs.Faults.{Fault, HasFaults}
use Rattle.fault_cause_laws.specs.Lamps.{lamps, bulbs, LampsHaveTwoNames}
use Rattle.fault_cause_laws.proofs.Accepted.{lamps_accepted, bulbs_kept}

abbrev two_faults : List Fault
two_faults = record { place = codes "a" ∷ []; slice = codes "Bulb"; mode = codes "dark" } ∷ record { place = codes "b" ∷ []; slice = codes "Bulb"; mode = codes "dark" } ∷ []

are_listed : HasFaults lamps bulbs two_faults
are_listed = ([] ∷ (codes "a" ∷ []) ∷ (codes "b" ∷ []) ∷ [], (3, refl), refl)

pub lamps_have_two : LampsHaveTwoNames
lamps_have_two = (two_faults, record { accepted = lamps_accepted; items_kept = bulbs_kept; are_faults = are_listed }, refl)
