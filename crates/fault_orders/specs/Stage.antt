-- A model with history and two more booleans, which tell of two faults which came first, and what speaks against a claim.
use Rattle.std.specs.Prelude.{ℕ, zero, suc, ◌+◌, ◌-◌, List, [], ◌∷◌, Option, Some, None, codes, length, if◌then◌else◌}
use Rattle.smv_language.specs.declared.expr.Op.TheVariants as op
use Rattle.smv_language.specs.Language.{Tree, leaf, not_of, next_of, binary, Text, boolean, state, FlatLeaf, flat_variable, FlatVariable}
use Rattle.smv_language.specs.Language.{FlatFormula, FlatModel}
use Rattle.smv_flat_laws.specs.History.{Mode, added, with_history}
use Rattle.fault_cause_laws.specs.Additions.{with_addition}
use Rattle.cut_right_laws.specs.Sets.{has_number}
use Rattle.fault_orders.specs.declared.Relation.{Relation}
use Rattle.fault_orders.specs.declared.Relation.TheVariants.{Before, After, Together}
pub use Rattle.fault_cause_laws.specs.StagedModel.{value_of as now_of}

-- a variable at the next moment
abbrev pub later_of : ℕ → Tree FlatLeaf
later_of n = next_of (leaf (flat_variable n))

-- a boolean state variable of `main` that no item declares
abbrev pub order_variable : Text → FlatVariable
order_variable name = record { place = []; name = name; role = state; declared = boolean; item = 0; number = 0 }

-- at first the bit is TRUE where the one variable is and the other is not
abbrev pub order_at_first : ℕ → ℕ → ℕ → FlatFormula
order_at_first bit x y = added (binary op.Within (now_of bit) (binary op.And (now_of x) (not_of (now_of y))))

-- at the next moment it is TRUE where it was, or where the one is then TRUE and the other is not
abbrev pub order_at_step : ℕ → ℕ → ℕ → FlatFormula
order_at_step bit x y =
    added (binary op.Within (later_of bit) (binary op.Or (now_of bit) (binary op.And (later_of x) (not_of (later_of y)))))

-- the model with a bit that tells that the one variable was TRUE before the other
abbrev pub with_order : Text → ℕ → ℕ → FlatModel → FlatModel
with_order name x y m =
    with_addition m (record {
      variables = order_variable name ∷ [];
      symbols = [];
      at_first = order_at_first (length m.variables) x y ∷ [];
      at_each = [];
      at_step = order_at_step (length m.variables) x y ∷ [];
    })

-- the number of the history bit of a fault, by the fault's number from one on
abbrev pub bit_number : FlatModel → ℕ → ℕ
bit_number m i = length m.variables + (i - 1)

-- the model with history and with `ahead` and `behind` of the first fault and the second, by their numbers from one on
abbrev pub stage : FlatModel → List Mode → ℕ → ℕ → FlatModel
stage m fs first second =
    with_order (codes "behind") (bit_number m second) (bit_number m first)
    (with_order (codes "ahead") (bit_number m first) (bit_number m second) (with_history m fs))

-- the expression, and of each fault from a number on that it has failed where it is in the set, and else that it has not
abbrev pub with_set : ℕ → ℕ → ℕ → List ℕ → Tree FlatLeaf → Tree FlatLeaf
with_set bit i zero set e = e
with_set bit i (suc more) set e =
    with_set (suc bit) (suc i) more set (binary op.And e (if has_number set i then now_of bit else not_of (now_of bit)))

-- what speaks against a claim, where `ahead` has this number
abbrev pub with_claim : ℕ → Option Relation → Tree FlatLeaf → Tree FlatLeaf
with_claim ahead None e = e
with_claim ahead (Some Before) e = binary op.And e (not_of (now_of ahead))
with_claim ahead (Some After) e = binary op.And e (not_of (now_of (suc ahead)))
with_claim ahead (Some Together) e = binary op.And e (binary op.Or (now_of ahead) (now_of (suc ahead)))

-- The top event is reached with exactly this set, against the claim: over a staged model of so many faults, whose last two
-- variables are `ahead` and `behind` and those before them the history bits.
abbrev pub against : FlatModel → ℕ → Tree FlatLeaf → List ℕ → Option Relation → Tree FlatLeaf
against staged faults top set claim =
    let ahead = length staged.variables - 2 in with_claim ahead claim (with_set (ahead - faults) 1 faults set top)
