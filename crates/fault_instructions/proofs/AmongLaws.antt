-- What holds of each member of lists put together.
use Rattle.std.proofs.Common.{inl, inr, ◌↔◌, List, [], ◌∷◌, ◌++◌, refl, subst}
use Rattle.std.specs.Prelude.{map, flat_map}
use Rattle.smv_language.specs.Trace.{Each}
use Rattle.fault_instructions.proofs.Equivalence.{iff_refl, iff_both}
use Rattle.fault_instructions.specs.Weavable.{Among}
use Rattle.smv_language.proofs.BoolLaws.{iff_trans}

pub each_mono : {A : Type 0} (P Q : A → Type 0) (xs : List A) → ((x : A) → Among xs x → P x → Q x) → Each P xs → Each Q xs
each_mono P Q [] f h = tt
each_mono P Q (x ∷ xs) f h = (f x (inl refl) h.0, each_mono P Q xs (λ y among. f y (inr among)) h.1)

pub each_iff : {A : Type 0} (P Q : A → Type 0) (xs : List A) → ((x : A) → Among xs x → P x ↔ Q x) → Each P xs ↔ Each Q xs
each_iff P Q xs f = (each_mono P Q xs (λ x a. (f x a).0), each_mono Q P xs (λ x a. (f x a).1))

pub each_all : {A : Type 0} (P : A → Type 0) (xs : List A) → ((x : A) → Among xs x → P x) → Each P xs
each_all P [] f = tt
each_all P (x ∷ xs) f = (f x (inl refl), each_all P xs (λ y among. f y (inr among)))

pub each_at : {A : Type 0} (P : A → Type 0) (xs : List A) (x : A) → Each P xs → Among xs x → P x
each_at P [] x h among = absurd among
each_at P (y ∷ xs) x h (inl e) = subst P e h.0
each_at P (y ∷ xs) x h (inr among) = each_at P xs x h.1 among

pub each_append : {A : Type 0} (P : A → Type 0) (xs ys : List A) → Each P (xs ++ ys) ↔ (Each P xs × Each P ys)
each_append P [] ys = ((λ h. (tt, h)), (λ h. h.1))
each_append P (x ∷ xs) ys =
    let more : Each P (xs ++ ys) ↔ (Each P xs × Each P ys) = each_append P xs ys in
    ((λ h. ((h.0, (more.0 h.1).0), (more.0 h.1).1)), (λ h. (h.0.0, more.1 (h.0.1, h.1))))

pub each_map : {A B : Type 0} (P : B → Type 0) (f : A → B) (xs : List A) → Each P (map f xs) ↔ Each (λ x. P (f x)) xs
each_map P f [] = iff_refl
each_map P f (x ∷ xs) = iff_both iff_refl (each_map P f xs)

pub each_flat_map : {A B : Type 0} (P : B → Type 0) (f : A → List B) (xs : List A) → Each P (flat_map f xs) ↔ Each (λ x. Each P (f x)) xs
each_flat_map P f [] = iff_refl
each_flat_map P f (x ∷ xs) = iff_trans (each_append P (f x) (flat_map f xs)) (iff_both iff_refl (each_flat_map P f xs))

-- two conditions on each member are one
pub each_both : {A : Type 0} (P Q : A → Type 0) (xs : List A) → (Each P xs × Each Q xs) ↔ Each (λ x. P x × Q x) xs
each_both P Q [] = ((λ h. tt), (λ h. (tt, tt)))
each_both P Q (x ∷ xs) =
    ((λ h. ((h.0.0, h.1.0), (each_both P Q xs).0 (h.0.1, h.1.1))), (λ h. ((h.0.0, ((each_both P Q xs).1 h.1).0), (h.0.1, ((each_both P Q xs).1 h.1).1))))
