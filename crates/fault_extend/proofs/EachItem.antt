-- Items of a list by their places.
use Rattle.std.proofs.Common.{arith, ◌≡◌, ℕ, zero, suc, ◌<◌, List, [], ◌∷◌, Some, length, get_or, map, slice_get, sym, ap}

pub item_there : {A B : Type 0} (f : A → B) (xs : List A) (i : ℕ) (x : A) → i < length xs → x ≡ get_or xs i x → slice_get (map f xs) i ≡ Some (f x)
item_there f [] i x below here = absurd (omega (arith, below))
item_there f (y ∷ xs) zero x below here = ap (λ z. Some (f z)) (sym here)
item_there f (y ∷ xs) (suc i) x below here = item_there f xs i x (omega (arith, below)) here
