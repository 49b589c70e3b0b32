-- Over the clauses 1 or 2 and -1 or 2: an assignment that makes them true, and a clause that refutes the assumption -2.
use Rattle.std.proofs.Common.{◌≡◌, ℕ, zero, suc, ◌<◌, ◌||◌, ◌&&◌, Bool, true, false, not, arith, List, [], ◌∷◌, Some, None, refl, ap}
use Rattle.std.specs.Prelude.{Any, IsTrue, Contains, slice_index_or}
use Rattle.std.proofs.lemmas.List.Elements.{All-nil, All-cons}
use Rattle.sat_clauses.specs.Literal.{Literal, plain, opposite}
use Rattle.sat_clauses.specs.Assignment.{Assignment, all_free, value_of, made_true}
use Rattle.sat_clauses.specs.Models.{FollowsFrom}
use Rattle.sat_clauses.specs.Derivation.{IsUpTo}
use Rattle.sat_clauses.specs.Hints.{LacksOpposite, EndsFalse, assumed_false}
use Rattle.sat_clauses.specs.Steps.{IsStep}
use Rattle.sat_clauses.specs.declared.step.Step.{Step}
use Rattle.sat_solver.specs.Search.{IsSolution, IsRefutation}

abbrev clauses : List (List Literal)
clauses = (plain 1 ∷ plain 2 ∷ []) ∷ (opposite (plain 1) ∷ plain 2 ∷ []) ∷ []

-- 1 and 2 are true
abbrev both : Assignment
both = made_true (made_true (all_free 2) (plain 1)) (plain 2)

both_solve : IsSolution 2 clauses [] both
both_solve = record {
  places = refl;
  clauses_true = All-cons has_true (plain 1 ∷ plain 2 ∷ []) ((opposite (plain 1) ∷ plain 2 ∷ []) ∷ []) (1, plain 2, omega arith, refl, refl)
      (All-cons has_true (opposite (plain 1) ∷ plain 2 ∷ []) [] (1, plain 2, omega arith, refl, refl) (All-nil has_true));
  assumptions_true = All-nil (λ l. value_of both l ≡ Some true);
}
  where
    has_true : List Literal → Type 0
    has_true c = Any (λ l. value_of both l ≡ Some true) c

-- with 2 false the first clause makes 1 true, and the second is then false
abbrev the_step : Step
the_step = record { clause = plain 2 ∷ []; hints = 1 ∷ 2 ∷ [] }

step_ends : EndsFalse clauses (assumed_false 2 (plain 2 ∷ [])) (1 ∷ 2 ∷ [])
step_ends = record {
  units = 1 ∷ [];
  last = 2;
  at_last = made_true (assumed_false 2 (plain 2 ∷ [])) (plain 1);
  in_turn = refl;
  all_unit = (plain 1, refl, refl);
  is_false = refl;
}

no_opposite : LacksOpposite (plain 2 ∷ []) (plain 2)
no_opposite = record { absent = λ c. at c.0 c.1 c.2 }
  where
    differ : plain 2 ≡ opposite (plain 2) → ⊥
    differ e = let signs : false ≡ true = ap (λ (l : Literal). l.negated) e in cc

    at : (i : ℕ) → i < 1 → slice_index_or (plain 2 ∷ []) i (opposite (plain 2)) ≡ opposite (plain 2) → ⊥
    at zero lt e = differ e
    at (suc i) lt e = absurd (omega (arith, lt))

is_step : IsStep 2 clauses the_step
is_step = record {
  ends = step_ends;
  in_range = All-cons (IsUpTo 2) (plain 2) [] (omega arith) (All-nil (IsUpTo 2));
  no_opposites = All-cons (LacksOpposite (plain 2 ∷ [])) (plain 2) [] no_opposite (All-nil (LacksOpposite (plain 2 ∷ [])));
}

follows : FollowsFrom clauses (plain 2 ∷ [])
follows v h = by (v 1) (v 2) h
  where
    by : (a b : Bool) → IsTrue ((a || (b || false)) && ((not a || (b || false)) && true)) → IsTrue (b || false)
    by true true h = refl
    by true false h = cc
    by false true h = refl
    by false false h = cc

-- the clause 2 refutes the assumption -2, whatever recorder listens that tells nothing
two_refutes : IsRefutation 2 clauses (opposite (plain 2) ∷ []) None None (plain 2 ∷ [])
two_refutes = record {
  negated = All-cons assumed (plain 2) [] (0, omega arith, refl) (All-nil assumed);
  follows = follows;
  steps = the_step ∷ [];
  are_steps = (is_step, tt);
  kept = refl;
  listed = (2, omega arith, refl);
}
  where
    assumed : Literal → Type 0
    assumed l = Contains (opposite (plain 2) ∷ []) (opposite l)
