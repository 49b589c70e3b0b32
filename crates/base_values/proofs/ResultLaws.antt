-- Results that are equal have equal faults.
use Rattle.std.proofs.Common.{◌≡◌}
use Rattle.std.specs.Prelude.{Result, Err}

pub same_fault : {T E : Type 0} {a b : E} → Path (Result T E) (Err a) (Err b) → a ≡ b
same_fault e = cc
