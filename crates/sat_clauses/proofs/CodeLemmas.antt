-- A literal by its code.
use Rattle.std.proofs.Common.{◌≡◌, ℕ, ◌+◌, ◌*◌, Bool, true, false, cond, ap, arith}
use Rattle.sat_clauses.specs.Literal.{Literal}
use Rattle.sat_clauses.specs.Code.{code_of}

-- a code is one literal's
pub code_of-injective : (l m : Literal) → code_of l ≡ code_of m → l ≡ m
code_of-injective l m e = parts l.var m.var l.negated m.negated e where
  parts : (x y : ℕ) (b d : Bool) → 2 * x + cond b 1 0 ≡ 2 * y + cond d 1 0 → ◌≡◌ {A = Literal} (record { var = x; negated = b }) (record { var = y; negated = d })
  parts x y true true e = ap (λ v. record { var = v; negated = true }) (omega arith)
  parts x y true false e = absurd (omega arith)
  parts x y false true e = absurd (omega arith)
  parts x y false false e = ap (λ v. record { var = v; negated = false }) (omega arith)
