-- Lists whose items belong to each other, one by one.
use Rattle.std.proofs.Common.{List, [], ◌∷◌, ◌++◌, ◌≡◌, suc, length, refl, ap}
use Rattle.smv_language.specs.Trace.{EachBoth}

pub both_push : {A B : Type 0} (R : A → B → Type 0) (xs : List A) (ys : List B) (x : A) (y : B) → EachBoth R xs ys → R x y → EachBoth R (xs ++ x ∷ []) (ys ++ y ∷ [])
both_push R [] [] x y h r = (r, tt)
both_push R [] (z ∷ ys) x y h r = absurd h
both_push R (z ∷ xs) [] x y h r = absurd h
both_push R (z ∷ xs) (w ∷ ys) x y h r = (h.0, both_push R xs ys x y h.1 r)

pub both_long : {A B : Type 0} (R : A → B → Type 0) (xs : List A) (ys : List B) → EachBoth R xs ys → length ys ≡ length xs
both_long R [] [] h = refl
both_long R [] (y ∷ ys) h = absurd h
both_long R (x ∷ xs) [] h = absurd h
both_long R (x ∷ xs) (y ∷ ys) h = ap suc (both_long R xs ys h.1)

pub both_size : {A B : Type 0} (R : A → B → Type 0) (xs : List A) (ys : List B) → EachBoth R xs ys → length xs ≡ length ys
both_size R [] [] h = refl
both_size R [] (y ∷ ys) h = absurd h
both_size R (x ∷ xs) [] h = absurd h
both_size R (x ∷ xs) (y ∷ ys) h = ap suc (both_size R xs ys h.1)
