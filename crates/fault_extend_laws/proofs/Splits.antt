-- The first of a list at which something is broken is one.
use Rattle.std.proofs.Common.{◌≡◌, List, [], ◌∷◌, ◌++◌, length, suc, refl, ap, subst}
use Rattle.smv_language.specs.Trace.{Each}

module _ {A : Type 0} (Kept Broken : A → Type 0) (never : (x : A) → Kept x → Broken x → ⊥) where
  -- of two splits of a list at what is broken, all before being kept, the places are one
  pub one_split : (xs ys : List A) (x y : A) (xs' ys' : List A) → xs ++ x ∷ xs' ≡ ys ++ y ∷ ys' → Each Kept xs → Each Kept ys → Broken x → Broken y → (x ≡ y) × (length xs ≡ length ys)
  one_split [] [] x y xs' ys' e h k b c = let same : x ≡ y = cc in (same, refl)
  one_split [] (z ∷ ys) x y xs' ys' e h k b c = let same : x ≡ z = cc in absurd (never z k.0 (subst Broken same b))
  one_split (z ∷ xs) [] x y xs' ys' e h k b c = let same : y ≡ z = cc in absurd (never z h.0 (subst Broken same c))
  one_split (z ∷ xs) (w ∷ ys) x y xs' ys' e h k b c =
      let rest : xs ++ x ∷ xs' ≡ ys ++ y ∷ ys' = cc in
      let both : (x ≡ y) × (length xs ≡ length ys) = one_split xs ys x y xs' ys' rest h.1 k.1 b c in (both.0, ap suc both.1)

  -- where all are kept, nothing is broken
  pub none_broken : (xs : List A) (x : A) (ys : List A) → Each Kept (xs ++ x ∷ ys) → Broken x → ⊥
  none_broken [] x ys h b = never x h.0 b
  none_broken (z ∷ xs) x ys h b = none_broken xs x ys h.1 b
