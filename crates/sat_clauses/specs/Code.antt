-- How a literal is stored in one number.
use Rattle.std.specs.Prelude.{ℕ, ◌+◌, ◌*◌, ◌/◌, ◌%◌, ◌==◌, if◌then◌else◌}
use Rattle.sat_clauses.specs.Literal.{Literal}

-- 2v for the variable v, and 2v + 1 for its negation
abbrev pub code_of : Literal → ℕ
code_of l = 2 * l.var + (if l.negated then 1 else 0)

-- the literal that has this code
abbrev pub literal_of : ℕ → Literal
literal_of code = record { var = code / 2; negated = code % 2 == 1 }
