-- The path of modules that the walk stands in.
use Rattle.std.proofs.Common.{◌≡◌, ℕ, ◌+◌, ◌<◌, Bool, true, false, ◌||◌, List, [], ◌∷◌, ◌++◌, length, get_or, drop, reverse, refl, ap, ◌∙◌, sym, Bor}
use Rattle.std.proofs.lemmas.List.{drop_more, reverse-append, map-append}
use Rattle.smv_language.specs.Language.{Text, same_text, is_among, texts}

among_end : (xs : List Text) (y x : Text) → is_among (xs ++ y ∷ []) x ≡ (same_text y x || is_among xs x)
among_end [] y x = refl
among_end (z ∷ xs) y x = ap (λ b. same_text z x || b) (among_end xs y x) ∙ turned (same_text z x) (same_text y x) (is_among xs x)
  where
    turned : (a b c : Bool) → (a || (b || c)) ≡ (b || (a || c))
    turned true true c = refl
    turned true false c = refl
    turned false true c = refl
    turned false false c = refl

-- the order of the names doesn't matter
pub among_reverse : (xs : List Text) (x : Text) → is_among (reverse xs) x ≡ is_among xs x
among_reverse [] x = refl
among_reverse (y ∷ xs) x =
    ap (λ ys. is_among ys x) (reverse-append (y ∷ []) xs)
    ∙ among_end (reverse xs) y x
    ∙ ap (λ b. same_text y x || b) (among_reverse xs x)

pub outer_same : (ks : List (Bor (List ℕ))) (k : ℕ) (d : Bor (List ℕ)) (x : Text) → k < length ks → same_text (get_or ks k d).now x ≡ true → is_among (texts (drop k ks)) x ≡ true
outer_same ks k d x within same =
    ap (λ ys. is_among (texts ys) x) (drop_more ks k d within) ∙ ap (λ b. b || is_among (texts (drop (k + 1) ks)) x) same

pub outer_other : (ks : List (Bor (List ℕ))) (k : ℕ) (d : Bor (List ℕ)) (x : Text) → k < length ks → same_text (get_or ks k d).now x ≡ false →
    is_among (texts (drop (k + 1) ks)) x ≡ is_among (texts (drop k ks)) x
outer_other ks k d x within other =
    sym (ap (λ ys. is_among (texts ys) x) (drop_more ks k d within) ∙ ap (λ b. b || is_among (texts (drop (k + 1) ks)) x) other)

-- one module more stands innermost
pub path_more : (ks : List (Bor (List ℕ))) (k : Bor (List ℕ)) → reverse (texts (ks ++ k ∷ [])) ≡ k.now ∷ reverse (texts ks)
path_more ks k = ap reverse (map-append (λ (y : Bor (List ℕ)). y.now) ks (k ∷ [])) ∙ reverse-append (texts ks) (k.now ∷ [])
