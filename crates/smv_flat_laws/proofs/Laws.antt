-- A program has at most one first broken rule, and none where it is accepted.
use Rattle.std.proofs.Common.{◌≡◌, ℕ, ◌<◌, arith, List, [], ◌∷◌, ◌++◌, sym, ◌∙◌, ap, subst}
use Rattle.smv_language.specs.Language.{ProgramTree, Each}
use Rattle.smv_flat_laws.specs.Rules.{Rule, number_of, Site, item_of, Breaks, IsKept, IsFirstBroken, IsAccepted}

-- of two splits of a list at places where something is broken, all before being kept, the places are one
one_place : (p : ProgramTree) (xs ys : List Site) (s t : Site) (zs ws : List Site) → xs ++ s ∷ zs ≡ ys ++ t ∷ ws → Each (IsKept p) xs → Each (IsKept p) ys →
    (r q : Rule) → Breaks p r s → Breaks p q t → s ≡ t
one_place p [] [] s t zs ws e h k r q b c = cc
one_place p [] (y ∷ ys) s t zs ws e h k r q b c = let same : s ≡ y = cc in absurd (k.0 r (subst (Breaks p r) same b))
one_place p (x ∷ xs) [] s t zs ws e h k r q b c = let same : t ≡ x = cc in absurd (h.0 q (subst (Breaks p q) same c))
one_place p (x ∷ xs) (y ∷ ys) s t zs ws e h k r q b c = let rest : xs ++ s ∷ zs ≡ ys ++ t ∷ ws = cc in one_place p xs ys s t zs ws rest h.1 k.1 r q b c

pub one_fault : (p : ProgramTree) (r q : Rule) (i j : ℕ) → IsFirstBroken p r i → IsFirstBroken p q j → (number_of r ≡ number_of q) × (i ≡ j)
one_fault p r q i j a b = (by_order (number_of r) (number_of q) not_less not_more, a.at_item ∙ ap item_of same ∙ sym b.at_item)
  where
    same : a.site ≡ b.site
    same = one_place p a.before b.before a.site b.site a.after b.after (sym a.in_order ∙ b.in_order) a.kept_before b.kept_before r q a.broken b.broken

    not_less : number_of r < number_of q → ⊥
    not_less less = b.lowest r less (subst (Breaks p r) same a.broken)

    not_more : number_of q < number_of r → ⊥
    not_more less = a.lowest q less (subst (Breaks p q) (sym same) b.broken)

    by_order : (m n : ℕ) → (m < n → ⊥) → (n < m → ⊥) → m ≡ n
    by_order m n f g = omega (arith, f, g)

broken_within : (p : ProgramTree) (xs : List Site) (s : Site) (zs : List Site) (r : Rule) → Each (IsKept p) (xs ++ s ∷ zs) → Breaks p r s → ⊥
broken_within p [] s zs r h b = h.0 r b
broken_within p (x ∷ xs) s zs r h b = broken_within p xs s zs r h.1 b

pub accepted_unbroken : (p : ProgramTree) (r : Rule) (i : ℕ) → IsAccepted p → IsFirstBroken p r i → ⊥
accepted_unbroken p r i h a = broken_within p a.before a.site a.after r (subst (Each (IsKept p)) a.in_order h) a.broken
