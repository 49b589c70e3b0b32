-- A list in rising order.
use Rattle.std.specs.Prelude.{List}
use Rattle.std.specs.declared.cmp.Ordering.{Ordering}
use Rattle.std.specs.List.Sorted.{IsPermutation, IsSorted}

-- the second list has the same items as the first, and they rise
pub record IsRisingOf {A : Type 0} (compare : A → A → Ordering) (listed rising : List A) : Type 0 where
  pub same : IsPermutation listed rising
  pub sorted : IsSorted compare rising
