-- How lists are threaded through one array.
use Rattle.std.specs.Prelude.{◌≡◌, ℕ, ◌+◌, ◌<◌, List, length, slice_index_or}
use Rattle.sat_solver.specs.ThreadsRecord.{ThreadsValue}
use Rattle.sat_solver.specs.declared.threads.Threads.TheInside.{Inside}

-- what contracts see of its parts
abbrev pub threads_of : Inside → ThreadsValue
threads_of t = record { lists = length t.heads.items; homes = t.homes.items }

-- the number at a place, or 0
abbrev pub at : List ℕ → ℕ → ℕ
at xs i = slice_index_or xs i 0

-- From the head of each list its numbers hang one below the other: depth is how many hang below a number, and size
-- how many are in a list. A head or a next one is kept as one more than the number, and 0 is none.
pub record AreThreaded (lists : ℕ) (head next home : ℕ → ℕ) : Type 0 where
  pub depth : ℕ → ℕ
  pub size : ℕ → ℕ
  pub in_lists : (n : ℕ) → home n < lists
  pub none : (l : ℕ) → 0 < l → head l ≡ 0 → size l ≡ 0
  pub top : (l n : ℕ) → 0 < l → head l ≡ n + 1 → home n ≡ l
  pub top_depth : (l n : ℕ) → 0 < l → head l ≡ n + 1 → depth n + 1 ≡ size l
  pub below_size : (n : ℕ) → 0 < home n → depth n < size (home n)
  pub last : (n : ℕ) → 0 < home n → next n ≡ 0 → depth n ≡ 0
  pub beneath : (n m : ℕ) → 0 < home n → next n ≡ m + 1 → home m ≡ home n
  pub beneath_depth : (n m : ℕ) → 0 < home n → next n ≡ m + 1 → depth m + 1 ≡ depth n
  pub apart : (n m : ℕ) → 0 < home n → home m ≡ home n → depth n ≡ depth m → n ≡ m

-- the arrays fit each other, and the lists are threaded through them
pub record IsSound (t : Inside) : Type 0 where
  pub as_many : length t.next.items ≡ length t.homes.items
  pub some_list : 0 < length t.heads.items
  pub threaded : AreThreaded (length t.heads.items) (at t.heads.items) (at t.next.items) (at t.homes.items)
