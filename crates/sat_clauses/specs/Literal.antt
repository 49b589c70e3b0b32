-- What a contract sees of a literal, and what it says.
use Rattle.std.specs.Prelude.{ℕ, Bool, true, false, not}

-- a variable, or its negation
pub record Literal : Type 0 where
  pub var : ℕ
  pub negated : Bool

-- the literal that is the variable itself
abbrev pub plain : ℕ → Literal
plain x = record { var = x; negated = false }

-- the literal of the same variable that says the contrary
abbrev pub opposite : Literal → Literal
opposite l = record { var = l.var; negated = not l.negated }

-- what a literal is whose variable has the value b: the contrary of b where it is negated
abbrev pub signed : Bool → Bool → Bool
signed true b = not b
signed false b = b
