-- What is found by its name is a member.
use Rattle.std.proofs.Common.{◌≡◌, suc, Bool, true, false, List, [], ◌∷◌, Some, refl, ap, ◌⊎◌, inl, inr, zero, ◌++◌, subst}
use Rattle.smv_language.specs.Language.{Text, ModuleTree, ProgramTree, same_text, is_among, find_module}
use Rattle.smv_language.proofs.ValueLaws.{same_text_equal}
use Rattle.smv_flat_laws.proofs.Places.{In, in_left, in_right}
use Rattle.std.specs.Prelude.{if◌then◌else◌}
use Rattle.smv_flat_laws.specs.Model.{first_appearances}

pub among_in : (xs : List Text) (y : Text) → is_among xs y ≡ true → In y xs
among_in [] y h = cc
among_in (x ∷ xs) y h = by (same_text x y) refl h (among_in xs y)
  where
    by : (b : Bool) → same_text x y ≡ b → is_among (x ∷ xs) y ≡ true → (is_among xs y ≡ true → In y xs) → In y (x ∷ xs)
    by true t h more = (0, ap Some (same_text_equal x y t))
    by false t h more = let rest : is_among xs y ≡ true = rw t at h in let m = more rest in (suc m.0, m.1)

pub find_in : (p : ProgramTree) (x : Text) (k : ModuleTree) → find_module p x ≡ Some k → In k p
find_in [] x k e = cc
find_in (first ∷ more) x k e = by (same_text first.name x) refl (find_in more x k)
  where
    by : (b : Bool) → same_text first.name x ≡ b → (find_module more x ≡ Some k → In k more) → In k (first ∷ more)
    by true t rest = let found : Some first ≡ Some k = rw t at e in (0, found)
    by false t rest = let found : find_module more x ≡ Some k = rw t at e in let m = rest found in (suc m.0, m.1)

pub appears : (seen xs : List Text) (y : Text) → In y seen ⊎ In y xs → In y (first_appearances seen xs)
appears seen [] y (inl h) = h
appears seen [] y (inr h) = cc (h.1)
appears seen (x ∷ xs) y h = appears (if is_among seen x then seen else seen ++ x ∷ []) xs y (by (is_among seen x) refl h)
  where
    by : (b : Bool) → is_among seen x ≡ b → In y seen ⊎ In y (x ∷ xs) → In y (if is_among seen x then seen else seen ++ x ∷ []) ⊎ In y xs
    by true t (inl h) = inl (rw t h)
    by false t (inl h) = inl (rw t (in_left y seen (x ∷ []) h))
    by true t (inr (zero, e)) = let same : x ≡ y = cc in inl (rw t (subst (λ (z : Text). In z seen) same (among_in seen x t)))
    by false t (inr (zero, e)) = let same : x ≡ y = cc in inl (rw t (subst (λ (z : Text). In z (seen ++ x ∷ [])) same (in_right x seen (x ∷ []) (0, refl))))
    by b t (inr (suc i, e)) = inr (i, e)
