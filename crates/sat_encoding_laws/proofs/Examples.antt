-- The lists of one boolean that is false first, and keeps its value.
use Rattle.std.proofs.Common.{arith, ◌≡◌, ℕ, false, [], ◌∷◌, refl, codes}
use Rattle.smv_language.specs.declared.expr.Op.TheVariants as op
use Rattle.smv_language.specs.Language.{Tree, leaf, next_of, binary, boolean, state, FlatLeaf, flat_variable, FlatFormula, FlatModel}
use Rattle.smv_language.specs.Tree.{truth}
use Rattle.sat_clauses.specs.Literal.{Literal, plain, opposite}
use Rattle.sat_circuits.specs.Circuit.{with_gate, after, fold_gates}
use Rattle.sat_circuits.specs.Gates.{xor_gate}
use Rattle.sat_encoding_laws.specs.Expressions.{encoded}
use Rattle.sat_encoding_laws.specs.Encodable.{IsEncodable}
use Rattle.sat_encoding_laws.specs.Lists.{asserted, first_list, step_list, bad_list}

formula : Tree FlatLeaf → FlatFormula
formula e = record { value = e; item = 0; number = 0 }

one_boolean : FlatModel
unfolding formula
one_boolean = record {
  instances = [];
  variables = record { place = []; name = codes "x"; role = state; declared = boolean; item = 0; number = 0 } ∷ [];
  definitions = [];
  symbols = [];
  at_first = formula (binary op.Within (leaf (flat_variable 0)) (truth false)) ∷ [];
  at_each = [];
  at_step = formula (binary op.Within (next_of (leaf (flat_variable 0))) (leaf (flat_variable 0))) ∷ [];
}

-- v is 2v and -v is 2v + 1
lit : ℕ → Literal
lit n = plain n

neg : ℕ → Literal
neg n = opposite (plain n)

first_is : first_list one_boolean ≡ (lit 1 ∷ []) ∷ (neg 4 ∷ lit 2 ∷ neg 1 ∷ []) ∷ (neg 4 ∷ neg 2 ∷ lit 1 ∷ []) ∷ (lit 4 ∷ neg 2 ∷ neg 1 ∷ []) ∷ (lit 4 ∷ lit 2 ∷ lit 1 ∷ []) ∷ (neg 4 ∷ []) ∷ []
unfolding formula one_boolean lit neg encoded asserted xor_gate with_gate after fold_gates
first_is = refl

step_is : step_list one_boolean ≡ (lit 1 ∷ []) ∷ (neg 4 ∷ lit 3 ∷ lit 2 ∷ []) ∷ (neg 4 ∷ neg 3 ∷ neg 2 ∷ []) ∷ (lit 4 ∷ neg 3 ∷ lit 2 ∷ []) ∷ (lit 4 ∷ lit 3 ∷ neg 2 ∷ []) ∷ (neg 4 ∷ []) ∷ []
unfolding formula one_boolean lit neg encoded asserted xor_gate with_gate after fold_gates
step_is = refl

bad_is : bad_list one_boolean (leaf (flat_variable 0)) (0 ∷ []) ((1 ∷ []) ∷ []) 1 ≡ (lit 1 ∷ []) ∷ (lit 2 ∷ []) ∷ (neg 2 ∷ []) ∷ []
unfolding formula one_boolean lit neg encoded asserted xor_gate with_gate after fold_gates
bad_is = refl

-- this model is one that is meant
one_boolean_is : IsEncodable one_boolean
unfolding formula one_boolean
one_boolean_is = record {
  closed = record { definitions = tt; at_first = ((omega arith, tt), tt); at_each = tt; at_step = ((omega arith, omega arith), tt) };
  typed = record { kept = refl; small = refl };
  symbols = record { apart = λ i j x e f. cc; few = omega arith };
  types = (tt, tt);
  at_first = (refl, tt);
  at_each = tt;
  at_step = (refl, tt);
}
