-- Which clauses each gate appends, and which literal it gives.
use Rattle.std.specs.Prelude.{List, [], ◌∷◌, Bool, not, if◌then◌else◌}
use Rattle.sat_clauses.specs.Literal.{Literal, plain, opposite}
use Rattle.sat_circuits.specs.Circuit.{Circuit, with_gate}

-- g is true exactly where a and b are
abbrev pub and_clauses : Literal → Literal → Literal → List (List Literal)
and_clauses g a b = (opposite g ∷ a ∷ []) ∷ (opposite g ∷ b ∷ []) ∷ (g ∷ opposite a ∷ opposite b ∷ []) ∷ []

-- g is true exactly where a and b differ
abbrev pub xor_clauses : Literal → Literal → Literal → List (List Literal)
xor_clauses g a b =
    (opposite g ∷ a ∷ b ∷ []) ∷ (opposite g ∷ opposite a ∷ opposite b ∷ []) ∷ (g ∷ opposite a ∷ b ∷ []) ∷ (g ∷ a ∷ opposite b ∷ []) ∷ []

-- g is a where c is true, and b where it is false
abbrev pub mux_clauses : Literal → Literal → Literal → Literal → List (List Literal)
mux_clauses g c a b =
    (opposite g ∷ opposite c ∷ a ∷ []) ∷ (opposite g ∷ c ∷ b ∷ []) ∷ (g ∷ opposite c ∷ opposite a ∷ []) ∷ (g ∷ c ∷ opposite b ∷ []) ∷ []

unfoldable pub and_gate : Literal → Literal → Circuit → Circuit × Literal
and_gate a b s = (with_gate s (and_clauses (plain s.free) a b), plain s.free)

-- one of two is true where not both are false
unfoldable pub or_gate : Literal → Literal → Circuit → Circuit × Literal
or_gate a b s = ((and_gate (opposite a) (opposite b) s).0, opposite ((and_gate (opposite a) (opposite b) s).1))

unfoldable pub xor_gate : Literal → Literal → Circuit → Circuit × Literal
xor_gate a b s = (with_gate s (xor_clauses (plain s.free) a b), plain s.free)

unfoldable pub mux_gate : Literal → Literal → Literal → Circuit → Circuit × Literal
mux_gate c a b s = (with_gate s (mux_clauses (plain s.free) c a b), plain s.free)

-- the literal that is always true, or the one that is always false: the variable 1 or its negation
abbrev pub constant_lit : Bool → Literal
constant_lit v = record { var = 1; negated = not v }

-- whether the two differ
abbrev pub differ : Bool → Bool → Bool
differ a b = if a then not b else b
