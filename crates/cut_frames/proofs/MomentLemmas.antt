-- Moments: assignments that give state bits and input bits.
use Rattle.std.proofs.Common.{◌≡◌, ◌≤◌, ◌<◌, ℕ, zero, suc, ◌+◌, Bool, false, List, ◌∷◌, refl, sym, ◌∙◌, ap, subst, arith, Option, Some}
use Rattle.std.specs.Prelude.{unwrap_or, IsSome}
use Rattle.sat_clauses.specs.Assignment.{Assignment}
use Rattle.cut_frames.specs.Bits.{read_from}
use Rattle.cut_frames.specs.Path.{Gives, AreTaken}
use Rattle.sat_clauses.specs.Models.{values_of}

read_same : (n k : ℕ) (a b : Assignment) → ((x : ℕ) → n ≤ x → x < n + k → values_of a x ≡ values_of b x) → read_from n k a ≡ read_from n k b
read_same n zero a b f = refl
read_same n (suc k) a b f =
    let here : values_of a n ≡ values_of b n = f n (here_is n).0 (here_is n).1 in
    let rest : read_from (n + 1) k a ≡ read_from (n + 1) k b = read_same (n + 1) k a b (λ x le lt. f x (low n x le) (high n k x lt)) in
    ap (λ (c : Bool). c ∷ read_from (n + 1) k a) here ∙ ap (λ (s : List Bool). values_of b n ∷ s) rest
  where
    here_is : (n : ℕ) → (n ≤ n) × (n < n + suc k)
    here_is n = (omega arith, omega arith)

    low : (n x : ℕ) → n + 1 ≤ x → n ≤ x
    low n x le = omega (arith, le)

    high : (n k x : ℕ) → x < n + 1 + k → x < n + suc k
    high n k x lt = omega (arith, lt)

pub taken_read : (n k : ℕ) (values a : Assignment) → AreTaken n k values a → read_from n k a ≡ read_from n k values
taken_read n k values a t = read_same n k a values (λ x le lt. ap (λ (o : Option Bool). unwrap_or o false) (t x le lt))

pub taken_gives : (n k : ℕ) (values a : Assignment) → AreTaken n k values a → Gives n k a
taken_gives n k values a t = λ x le lt. subst IsSome (sym (t x le lt)) (one (values_of values x))
  where
    one : (b : Bool) → IsSome (Some b)
    one b = refl
