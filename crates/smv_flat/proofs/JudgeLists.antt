-- Tests and options that differ, and what holds of the first elements of a list, with one more, and of all.
use Rattle.std.proofs.Common.{◌≡◌, ℕ, ◌+◌, ◌<◌, ◌≤◌, true, false, List, [], ◌∷◌, ◌++◌, length, get_or, take, sym, ◌∙◌, ap, subst}
use Rattle.std.proofs.lemmas.List.{take_more, take_all}

pub never : {A : Type 0} → false ≡ true → A
never e = cc

pub take_step : {X : Type 0} (P : List X → Type 0) (xs : List X) (i : ℕ) (x : X) → i < length xs → x ≡ get_or xs i x → P (take i xs ++ x ∷ []) → P (take (i + 1) xs)
take_step P xs i x within is h = subst P (ap (λ y. take i xs ++ y ∷ []) is ∙ sym (take_more xs i x within)) h

pub take_end : {X : Type 0} (P : List X → Type 0) (xs : List X) (i : ℕ) → length xs ≤ i → P (take i xs) → P xs
take_end P xs i past h = subst P (take_all i xs past) h
