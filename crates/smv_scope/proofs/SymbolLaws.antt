-- A set of texts that grows by those that it lacks has them by first appearance.
use Rattle.std.proofs.Common.{◌≡◌, ℕ, List, [], ◌∷◌, ◌++◌, drop, get_or, length, ◌<◌, ◌+◌, refl, ap, ◌∙◌, sym, if◌then◌else◌}
use Rattle.std.proofs.lemmas.List.{drop_more}
use Rattle.std.specs.List.{flat_map}
use Rattle.smv_language.specs.Texts.{is_among}
use Rattle.smv_flat_laws.specs.Model.{first_appearances}

appear_both : (seen xs ys : List (List ℕ)) → first_appearances seen (xs ++ ys) ≡ first_appearances (first_appearances seen xs) ys
appear_both seen [] ys = refl
appear_both seen (x ∷ xs) ys = appear_both (if is_among seen x then seen else seen ++ x ∷ []) xs ys

-- those of one part of a list, and then those of the parts after it
pub appear_more : {X : Type 0} (f : X → List (List ℕ)) (seen seen' : List (List ℕ)) (xs : List X) (k : ℕ) (d : X) → k < length xs →
    seen' ≡ first_appearances seen (f (get_or xs k d)) →
    first_appearances seen (flat_map f (drop k xs)) ≡ first_appearances seen' (flat_map f (drop (k + 1) xs))
appear_more f seen seen' xs k d within e =
    ap (λ ys. first_appearances seen (flat_map f ys)) (drop_more xs k d within)
    ∙ appear_both seen (f (get_or xs k d)) (flat_map f (drop (k + 1) xs))
    ∙ ap (λ s. first_appearances s (flat_map f (drop (k + 1) xs))) (sym e)
