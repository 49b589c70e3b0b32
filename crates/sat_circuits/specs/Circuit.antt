-- A circuit under construction, and how circuits are built one after another.
use Rattle.std.specs.Prelude.{ℕ, ◌+◌, List, [], ◌∷◌, ◌++◌}
use Rattle.sat_clauses.specs.Literal.{Literal}

-- the clauses so far, and the next variable to be defined
pub record Circuit : Type 0 where
  pub clauses : List (List Literal)
  pub free : ℕ

-- the circuit with these clauses too, which define the next variable
unfoldable pub with_gate : Circuit → List (List Literal) → Circuit
with_gate s cs = record { clauses = s.clauses ++ cs; free = s.free + 1 }

-- what is built after r, from what r gave and the circuit that it left
unfoldable pub after : {A B : Type 0} → Circuit × A → (A → Circuit → Circuit × B) → Circuit × B
after r k = k r.1 r.0

-- the items in turn: each is built from what those before it gave
unfoldable pub fold_gates : {X A : Type 0} → (X → A → Circuit → Circuit × A) → List X → A → Circuit → Circuit × A
fold_gates step [] a s = (s, a)
fold_gates step (x ∷ xs) a s = after (step x a s) (λ b t. fold_gates step xs b t)
