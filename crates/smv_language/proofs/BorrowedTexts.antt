-- A borrowed text among others, and one more where it is new.
use lib.Pointwise.{pointwise}
use Rattle.std.proofs.Common.{◌≡◌, ℕ, Bool, true, false, List, [], ◌∷◌, ◌++◌, refl, ap, ◌∙◌, sym, if◌then◌else◌, eqb-true, eq-eqb, Bor}
use Rattle.std.proofs.lemmas.List.{map-append}
use Rattle.std.specs.Prelude.{nat_eq}
use Rattle.std.specs.List.{list_any}
use Rattle.smv_language.specs.Texts.{same_text, is_among}
use Rattle.smv_language.specs.BorrowedTexts.{texts}

pub turned : (x y : ℕ) → nat_eq x y ≡ nat_eq y x
turned x y = by_tests (nat_eq x y) (nat_eq y x) refl refl
  where
    by_tests : (a b : Bool) → nat_eq x y ≡ a → nat_eq y x ≡ b → nat_eq x y ≡ nat_eq y x
    by_tests true b e f = e ∙ sym (eq-eqb y x (sym (eqb-true x y e)))
    by_tests false true e f = eq-eqb x y (sym (eqb-true y x f)) ∙ sym f
    by_tests false false e f = e ∙ sym f

pub same_bytes : (x y : List ℕ) → pointwise nat_eq x y ≡ same_text y x
same_bytes [] [] = refl
same_bytes [] (d ∷ ds) = refl
same_bytes (c ∷ cs) [] = refl
same_bytes (c ∷ cs) (d ∷ ds) = rw (turned c d, same_bytes cs ds) refl

pub any_among : (x : List ℕ) (ks : List (Bor (List ℕ))) → list_any (λ (y : Bor (List ℕ)). pointwise nat_eq x y.now) ks ≡ is_among (texts ks) x
any_among x [] = refl
any_among x (k ∷ ks) = rw (same_bytes x k.now, any_among x ks) refl

told_if : (b : Bool) (ks : List (Bor (List ℕ))) (k : Bor (List ℕ)) → texts (if b then ks else ks ++ k ∷ []) ≡ (if b then texts ks else texts ks ++ k.now ∷ [])
told_if true ks k = refl
told_if false ks k = map-append (λ (k : Bor (List ℕ)). k.now) ks (k ∷ [])

pub inserted : (ks : List (Bor (List ℕ))) (k : Bor (List ℕ)) →
    texts (if list_any (λ (y : Bor (List ℕ)). pointwise nat_eq k.now y.now) ks then ks else ks ++ k ∷ []) ≡ (if is_among (texts ks) k.now then texts ks else texts ks ++ k.now ∷ [])
inserted ks k =
    told_if (list_any (λ (y : Bor (List ℕ)). pointwise nat_eq k.now y.now) ks) ks k
    ∙ ap (λ b. if b then texts ks else texts ks ++ k.now ∷ []) (any_among k.now ks)
