-- A computed example: VAR x : 0..7, whose slice S may be in the mode less, and the top event x = 3.
use Rattle.std.proofs.Common.{arith, ◌≡◌, refl, [], ◌∷◌, Some, pos, codes}
use Rattle.smv_language.specs.declared.expr.Op.TheVariants as op
use Rattle.smv_language.specs.declared.program.Member.TheVariants as member
use Rattle.smv_language.specs.Language.{range, members, state, Tree, leaf, binary, FlatLeaf, flat_variable, FlatModel}
use Rattle.smv_language.specs.Tree.{number}
use Rattle.smv_flat_laws.specs.History.{Mode, with_history}
use Rattle.smv_type_laws.specs.ExpressionKinds.{not_boolean}
use Rattle.smv_type_laws.specs.Models.{top_fault}
use Rattle.fault_woven_laws.specs.Tops.{IsJudgedAlike, IsTopOf}

model : FlatModel
model = record {
  instances = [];
  variables = record { place = []; name = codes "x"; role = state; declared = range (pos 0) (pos 7); item = 2; number = 0 }
      ∷ record { place = []; name = codes "S#mode"; role = state; declared = members (member.Symbol (codes "S#nominal") ∷ member.Symbol (codes "S#less") ∷ []); item = 3; number = 0 } ∷ [];
  definitions = [];
  symbols = codes "S#nominal" ∷ codes "S#less" ∷ [];
  at_first = [];
  at_each = [];
  at_step = [];
}

less : Mode
less = record { variable = 1; symbol = 1 }

x_is_three : Tree FlatLeaf
x_is_three = binary op.Equal (leaf (flat_variable 0)) (number (pos 3))

-- the bit of history changes nothing of how it is judged
judged_alike : IsJudgedAlike model x_is_three (with_history model (less ∷ [])) x_is_three
unfolding model less x_is_three
judged_alike = record { judged = λ sets. refl; cost = refl; fault = refl }

-- and it is a top event of the model with history
is_top : IsTopOf (with_history model (less ∷ [])) x_is_three
unfolding model less x_is_three
is_top = record { fits = record { own = (omega arith, tt); no_input = refl; right = refl }; one_value = refl; no_next = refl; small = omega arith }

-- x alone is no condition, and is refused
x_alone : top_fault model (leaf (flat_variable 0)) ≡ Some not_boolean
unfolding model
x_alone = refl
