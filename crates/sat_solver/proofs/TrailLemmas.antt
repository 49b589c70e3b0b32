-- What a trail makes true.
use Rattle.std.proofs.Common.{zero, suc, ◌≡◌, ℕ, ◌+◌, ◌<◌, ◌≤◌, Bool, List, [], ◌∷◌, ◌++◌, length, get_or, set, reverse, take, drop, Option, Some, None, refl, sym, ap, ◌∙◌, subst, arith}
use Rattle.std.specs.Prelude.{slice_get}
use Rattle.std.proofs.lemmas.List.{take-append-drop, take-append-le, length-append, take_more, length-take-le, length-set, length-replicate, set-get_or, reverse-append}
use Rattle.std.proofs.Math.Seq.{take-append_seam}
use Rattle.std.proofs.lemmas.Option.{get_or_from_slice_get, slice_get_within}
use Rattle.sat_clauses.specs.Assignment.{Assignment}
use Rattle.sat_solver.specs.declared.trail.TrailEntry.{TrailEntry}
use Rattle.sat_solver.specs.Trail.{assigned, IsFresh, below}
use Rattle.sat_clauses.proofs.DeriveTrailLemmas.{None-from_value}

pub length-assigned : (n : ℕ) (es : List TrailEntry) → length (assigned n es) ≡ n
length-assigned n [] = length-replicate n None
length-assigned n (e ∷ es) = length-set (assigned n es) e.lit.var _ ∙ length-assigned n es

set_set : (a : Assignment) (v : ℕ) (x y : Option Bool) → set (set a v x) v y ≡ set a v y
set_set [] v x y = refl
set_set (b ∷ a) zero x y = refl
set_set (b ∷ a) (suc v) x y = ap (λ t. b ∷ t) (set_set a v x y)

-- to clear the newest literal's variable gives the assignment before it
pub clear_newest : (n : ℕ) (e : TrailEntry) (es : List TrailEntry) → IsFresh n (e ∷ es) → set (assigned n (e ∷ es)) e.lit.var None ≡ assigned n es
clear_newest n e es fresh =
    set_set (assigned n es) e.lit.var _ None
    ∙ (ap (set (assigned n es) e.lit.var) (sym (None-from_value e.lit.negated (get_or (assigned n es) e.lit.var None) fresh.2))
    ∙ set-get_or (assigned n es) e.lit.var None)

pub reverse_push : (xs : List TrailEntry) (e : TrailEntry) → reverse (xs ++ e ∷ []) ≡ e ∷ reverse xs
reverse_push xs e = reverse-append xs (e ∷ [])

-- one entry is taken from the end
pub undone_values : (n : ℕ) (ys zs : List TrailEntry) (e : TrailEntry) (a b : Assignment) → ys ≡ zs ++ e ∷ [] → a ≡ assigned n (reverse ys) → IsFresh n (reverse ys) → b ≡ set a e.lit.var None → b ≡ assigned n (reverse zs)
undone_values n ys zs e a b is matches fresh cleared =
    let turned : reverse ys ≡ e ∷ reverse zs = ap reverse is ∙ reverse_push zs e in
    cleared ∙ (ap (λ x. set x e.lit.var None) (matches ∙ ap (assigned n) turned)
    ∙ clear_newest n e (reverse zs) (subst (IsFresh n) turned fresh))

pub undone_fresh : (n : ℕ) (ys zs : List TrailEntry) (e : TrailEntry) → ys ≡ zs ++ e ∷ [] → IsFresh n (reverse ys) → IsFresh n (reverse zs)
undone_fresh n ys zs e is fresh =
    let turned : reverse ys ≡ e ∷ reverse zs = ap reverse is ∙ reverse_push zs e in
    (subst (IsFresh n) turned fresh).0

pub slice_push : (xs : List TrailEntry) (i : ℕ) (e : TrailEntry) → slice_get xs i ≡ Some e → take (i + 1) xs ≡ take i xs ++ e ∷ []
slice_push xs i e h =
    take_more xs i e (slice_get_within xs i e h) ∙ ap (λ x. take i xs ++ x ∷ []) (get_or_from_slice_get xs i e e h)

pub below_more : (xs : List TrailEntry) (i : ℕ) (e : TrailEntry) → slice_get xs i ≡ Some e → below xs (i + 1) ≡ e ∷ below xs i
below_more xs i e h = ap reverse (slice_push xs i e h) ∙ reverse_push (take i xs) e

take_first : (n m : ℕ) (xs : List TrailEntry) → n ≤ m → m ≤ length xs → take n (take m xs) ≡ take n xs
take_first n m xs le within =
    sym (ap (take n) (sym (take-append-drop m xs)) ∙ take-append-le n (take m xs) (drop m xs) (omega (arith, length-take-le m xs within)))

pub take_from_push : (xs ys zs : List TrailEntry) (e : TrailEntry) → ys ≡ zs ++ e ∷ [] → ys ≡ take (length ys) xs → length ys ≤ length xs → zs ≡ take (length zs) xs
take_from_push xs ys zs e is first within =
    let longer : length ys ≡ length zs + 1 = ap length is ∙ length-append zs (e ∷ []) in
    sym (take-append_seam zs (e ∷ []))
    ∙ (ap (take (length zs)) (sym is ∙ first) ∙ take_first (length zs) (length ys) xs (omega arith) within)

pub entry_at : (xs : List TrailEntry) (i : ℕ) → i < length xs → (e : TrailEntry) × (slice_get xs i ≡ Some e)
entry_at [] i lt = absurd (omega arith)
entry_at (x ∷ xs) zero lt = (x, refl)
entry_at (x ∷ xs) (suc i) lt = entry_at xs i (omega arith)
