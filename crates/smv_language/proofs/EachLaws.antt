-- What each or some of a list has.
use Rattle.std.proofs.Common.{◌≡◌, inl, inr, ℕ, zero, suc, List, [], ◌∷◌, Some, sym, subst, ◌++◌}
use Rattle.std.specs.Prelude.{slice_get}
use Rattle.smv_language.specs.Trace.{AtSome, Each}

pub some_at : {A : Type 0} (P : A → Type 0) (xs : List A) (i : ℕ) (x : A) → slice_get xs i ≡ Some x → P x → AtSome P xs
some_at P [] i x e h = cc
some_at P (y ∷ xs) zero x e h = let same : y ≡ x = cc in inl (subst P (sym same) h)
some_at P (y ∷ xs) (suc i) x e h = inr (some_at P xs i x e h)

pub each_not : {A : Type 0} (P : A → Type 0) (xs : List A) → (AtSome P xs → ⊥) → Each (λ x. P x → ⊥) xs
each_not P [] h = tt
each_not P (x ∷ xs) h = ((λ k. h (inl k)), each_not P xs (λ k. h (inr k)))

pub each_end : {A : Type 0} (P : A → Type 0) (xs : List A) (x : A) → Each P xs → P x → Each P (xs ++ x ∷ [])
each_end P [] x h p = (p, tt)
each_end P (y ∷ xs) x h p = (h.0, each_end P xs x h.1 p)

pub some_kept : {A : Type 0} (P Q : A → Type 0) (xs : List A) → ((x : A) → P x → Q x) → AtSome P xs → AtSome Q xs
some_kept P Q [] f a = absurd a
some_kept P Q (x ∷ xs) f (inl p) = inl (f x p)
some_kept P Q (x ∷ xs) f (inr a) = inr (some_kept P Q xs f a)

-- what holds of each holds of the one that stands among them
pub each_of : {A : Type 0} (P : A → Type 0) (x : A) (xs : List A) → Each P xs → AtSome (λ y. y ≡ x) xs → P x
each_of P x [] h some = absurd some
each_of P x (y ∷ xs) h (inl e) = subst P e h.0
each_of P x (y ∷ xs) h (inr some) = each_of P x xs h.1 some
