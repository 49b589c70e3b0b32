-- Which texts are among others.
use Rattle.std.proofs.Common.{◌≡◌, false, List, [], ◌∷◌, ◌++◌, true, sym, subst, ℕ, ◌&&◌, nat_eq, refl, ap, ◌||◌, ◌∙◌}
use Rattle.smv_language.specs.ProgramTree.{Text}
use Rattle.smv_language.specs.Texts.{same_text, is_among}
use Rattle.std.proofs.lemmas.Bool.{or_parts as neither}
use Rattle.smv_language.proofs.ValueLaws.{same_text_refl}
use Rattle.std.specs.Cmp.Lexicographic.{pointwise}
use Rattle.smv_language.proofs.BoolLaws.{or_assoc}

pub among_none : (xs ys : List Text) (x : Text) → is_among xs x ≡ false → is_among ys x ≡ false → is_among (xs ++ ys) x ≡ false
among_none [] ys x h k = k
among_none (z ∷ xs) ys x h k = let s : (same_text z x ≡ false) × (is_among xs x ≡ false) = neither _ _ h in rw s.0 (among_none xs ys x s.1 k)

pub not_itself : (x y : Text) → same_text x y ≡ false → x ≡ y → ⊥
not_itself x y h e = let same : same_text x x ≡ true = same_text_refl x in let no : same_text x x ≡ false = subst (λ z. same_text x z ≡ false) (sym e) h in cc

-- A test whether bytes are the same.
pub pointwise_is : (x y : List ℕ) → pointwise nat_eq x y ≡ same_text x y
pointwise_is [] [] = refl
pointwise_is [] (b ∷ y) = refl
pointwise_is (a ∷ x) [] = refl
pointwise_is (a ∷ x) (b ∷ y) = ap (λ t. nat_eq a b && t) (pointwise_is x y)

pub among_joined : (xs ys : List Text) (x : Text) → is_among (xs ++ ys) x ≡ (is_among xs x || is_among ys x)
among_joined [] ys x = refl
among_joined (y ∷ xs) ys x = ap (λ b. same_text y x || b) (among_joined xs ys x) ∙ sym (or_assoc (same_text y x) (is_among xs x) (is_among ys x))
