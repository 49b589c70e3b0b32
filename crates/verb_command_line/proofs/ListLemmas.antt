-- Lists, texts and tests.
use Rattle.std.proofs.Common.{◌≡◌, ◌≢◌, ℕ, Bool, true, false, List, [], ◌∷◌, ◌++◌, sym, ◌∙◌, refl}
use Rattle.std.specs.Str.{bytes_eq}
use Rattle.std.proofs.lemmas.Bool.{false≢true}
use Rattle.std.proofs.lemmas.Slice.Eq.{bytes_eq-Decides}
use Rattle.verb_command_line.specs.Meaning.{Each, EachTwo}

pub bytes_same : (a b : List ℕ) → bytes_eq a b ≡ true → a ≡ b
bytes_same a b e = (bytes_eq-Decides a b).0 e

pub bytes_differ : (a b : List ℕ) → bytes_eq a b ≡ false → a ≢ b
bytes_differ a b e same = false≢true (sym e ∙ (bytes_eq-Decides a b).1 same)

apart_by : (a b : List ℕ) (t : Bool) → bytes_eq a b ≡ t → a ≢ b → t ≡ false
apart_by a b true is differ = absurd (differ (bytes_same a b is))
apart_by a b false is differ = refl

pub bytes_apart : (a b : List ℕ) → a ≢ b → bytes_eq a b ≡ false
bytes_apart a b differ = apart_by a b (bytes_eq a b) refl differ

pub Each-append : {A : Type 0} (P : A → Type 0) (xs ys : List A) → Each P xs → Each P ys → Each P (xs ++ ys)
Each-append P [] ys f g = g
Each-append P (x ∷ xs) ys f g = (f.0, Each-append P xs ys f.1 g)

pub Each-back : {A : Type 0} (P : A → Type 0) (xs ys : List A) → Each P (xs ++ ys) → Each P ys
Each-back P [] ys f = f
Each-back P (x ∷ xs) ys f = Each-back P xs ys f.1

pub EachTwo-push : {A : Type 0} (R : A → A → Type 0) (xs : List A) (y : A) → EachTwo R xs → Each (λ x. R x y) xs → EachTwo R (xs ++ y ∷ [])
EachTwo-push R [] y f g = (tt, tt)
EachTwo-push R (x ∷ xs) y f g = (Each-append (R x) xs (y ∷ []) f.0 (g.0, tt), EachTwo-push R xs y f.1 g.1)

-- the earlier ones with the one after them
pub EachTwo-at : {A : Type 0} (R : A → A → Type 0) (xs : List A) (y : A) (ys : List A) → EachTwo R (xs ++ y ∷ ys) → Each (λ x. R x y) xs
EachTwo-at R [] y ys f = tt
EachTwo-at R (x ∷ xs) y ys f = ((Each-back (R x) xs (y ∷ ys) f.0).0, EachTwo-at R xs y ys f.1)
