-- A worked row: a circuit whose next variable is 4, and then the gate `and` of the variables 2 and 3.
use Rattle.std.proofs.Common.{◌≡◌, [], ◌∷◌, refl, true}
use Rattle.sat_clauses.specs.Literal.{plain, opposite}
use Rattle.sat_circuits.specs.Circuit.{Circuit, with_gate}
use Rattle.sat_circuits.specs.Gates.{and_gate, constant_lit}

start : Circuit
start = record { clauses = (constant_lit true ∷ []) ∷ []; free = 4 }

-- it is the variable 4, by [-4 2] [-4 3] [4 -2 -3]
and_of_2_and_3 : and_gate (plain 2) (plain 3) start ≡ (
  record {
    clauses =
        (plain 1 ∷ []) ∷ (opposite (plain 4) ∷ plain 2 ∷ []) ∷ (opposite (plain 4) ∷ plain 3 ∷ []) ∷ (plain 4 ∷ opposite (plain 2) ∷ opposite (plain 3) ∷ []) ∷ [];
    free = 5;
  },
  plain 4,
)
unfolding start and_gate with_gate
and_of_2_and_3 = refl
