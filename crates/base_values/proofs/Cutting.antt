-- Bytes cut at the first byte of a kind.
use Rattle.std.proofs.Common.{◌≡◌, ◌≢◌, ℕ, zero, suc, ◌<◌, ◌≤◌, List, [], ◌∷◌, length, take, drop, get_or, arith}
use Rattle.base_values.specs.Separators.{Lacks, BeginsWith}

pub front_free : (b : ℕ) (bytes : List ℕ) (n : ℕ) → n ≤ length bytes → ((k : ℕ) → k < n → get_or bytes k 0 ≢ b) → Lacks b (take n bytes)
front_free b [] zero h f = tt
front_free b (c ∷ bytes) zero h f = tt
front_free b [] (suc n) h f = absurd (omega (arith, h))
front_free b (c ∷ bytes) (suc n) h f = (f 0 (omega arith), front_free b bytes n (omega (arith, h)) (λ k g. f (suc k) (omega (arith, g))))

pub back_begins : (b : ℕ) (bytes : List ℕ) (n : ℕ) → n ≤ length bytes → (n < length bytes → get_or bytes n 0 ≡ b) → BeginsWith b (drop n bytes)
back_begins b [] zero h f = tt
back_begins b (c ∷ bytes) zero h f = f (omega arith)
back_begins b [] (suc n) h f = absurd (omega (arith, h))
back_begins b (c ∷ bytes) (suc n) h f = back_begins b bytes n (omega (arith, h)) (λ g. f (omega (arith, g)))
