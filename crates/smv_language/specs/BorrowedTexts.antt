-- Texts that are borrowed.
use lib.Pointwise.{pointwise}
use Rattle.std.specs.Prelude.{ℕ, Bool, nat_eq, List}
use Rattle.std.specs.Borrow.{Bor}
pub use Rattle.base_values.specs.BorrowedTexts.{texts}

-- both borrowed texts have the same bytes
abbrev pub same_borrowed : Bor (List ℕ) → Bor (List ℕ) → Bool
same_borrowed x y = pointwise nat_eq x.now y.now
