-- The gates of operators on two numbers that give a number.
use Rattle.std.specs.Prelude.{ℕ, List}
use Rattle.sat_clauses.specs.Literal.{Literal}
use Rattle.sat_circuits.specs.Circuit.{Circuit}
use Rattle.sat_circuits.specs.Sums.{add_gates, subtract_gates}
use Rattle.sat_circuits.specs.Products.{multiply_gates}
use Rattle.sat_circuits.specs.Quotients.{divide_gates, remainder_gates}
use Rattle.sat_expressions.specs.declared.operator.Arithmetic.{Arithmetic}
use Rattle.sat_expressions.specs.declared.operator.Arithmetic.TheVariants.{Product, Quotient, Remainder, Sum, Difference}

-- the gates of one on two words, cut to a width
abbrev pub arithmetic_gates : Arithmetic → List Literal → List Literal → ℕ → Circuit → Circuit × List Literal
arithmetic_gates Product a b width s = multiply_gates a b width s
arithmetic_gates Quotient a b width s = divide_gates a b width s
arithmetic_gates Remainder a b width s = remainder_gates a b width s
arithmetic_gates Sum a b width s = add_gates a b width s
arithmetic_gates Difference a b width s = subtract_gates a b width s
