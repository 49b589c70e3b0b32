-- Links, and the same from their other ends.
use Rattle.std.proofs.Common.{◌≡◌, ℕ, zero, suc, ◌+◌, ◌<◌, ◌≤◌, arith, List, [], ◌∷◌, ◌++◌, length, map, set, get_or, replicate, refl, ap, ◌∙◌, sym, subst, ◌⊎◌, inl, inr}
use Rattle.std.proofs.lemmas.List.{length-map, length-replicate}
use Rattle.std.specs.Prelude.{slice_get, Vec}
use Rattle.std.specs.declared.alloc.Global.{Global}
use Rattle.smv_scope.specs.declared.links.Links.{Links}
use Rattle.smv_scope.specs.Links.{Has, graph_of, row_of, rows, links_at, linked_to, all_linked_to, turned_from, AreTurned}

abbrev items_in : Vec ℕ Global → List ℕ
items_in v = v.items

-- a link more, in code and in rows
pub linked_row : (vs : List (Vec ℕ Global)) (from to : ℕ) (old v : Vec ℕ Global) → from < length vs → old ≡ get_or vs from old → v.items ≡ old.items ++ to ∷ [] →
    map items_in (set vs from v) ≡ linked_to (map items_in vs) from to
linked_row [] from to old v within is e = absurd (omega arith)
linked_row (x ∷ vs) zero to old v within is e = ap (λ r. r ∷ map items_in vs) (e ∙ ap (λ (y : Vec ℕ Global). y.items ++ to ∷ []) is)
linked_row (x ∷ vs) (suc from) to old v within is e = ap (λ rs. x.items ∷ rs) (linked_row vs from to old v (omega arith) is e)

pub linked_past : (vs : List (Vec ℕ Global)) (from to : ℕ) → length vs ≤ from → linked_to (map items_in vs) from to ≡ map items_in vs
linked_past [] from to past = refl
linked_past (v ∷ vs) zero to past = absurd (omega arith)
linked_past (v ∷ vs) (suc from) to past = ap (λ more. v.items ∷ more) (linked_past vs from to (omega arith))

rows_at : (vs : List (Vec ℕ Global)) (k : ℕ) → row_of (slice_get vs k) ≡ links_at (map items_in vs) k
rows_at [] k = refl
rows_at (v ∷ vs) zero = refl
rows_at (v ∷ vs) (suc k) = rows_at vs k

-- the links of a number are its row
pub graph_rows : (l : Links) (k : ℕ) → graph_of l k ≡ links_at (rows l) k
graph_rows l k = rows_at l.of.items k

pub has_left : (xs ys : List ℕ) (k : ℕ) → Has xs k → Has (xs ++ ys) k
has_left [] ys k h = absurd h
has_left (x ∷ xs) ys k (inl e) = inl e
has_left (x ∷ xs) ys k (inr h) = inr (has_left xs ys k h)

pub has_right : (xs ys : List ℕ) (k : ℕ) → Has ys k → Has (xs ++ ys) k
has_right [] ys k h = h
has_right (x ∷ xs) ys k h = inr (has_right xs ys k h)

pub has_either : (xs ys : List ℕ) (k : ℕ) → Has (xs ++ ys) k → Has xs k ⊎ Has ys k
has_either [] ys k h = inr h
has_either (x ∷ xs) ys k (inl e) = inl (inl e)
has_either (x ∷ xs) ys k (inr h) = by_side (has_either xs ys k h)
  where
    by_side : Has xs k ⊎ Has ys k → Has (x ∷ xs) k ⊎ Has ys k
    by_side (inl g) = inl (inr g)
    by_side (inr g) = inr g

-- what a link more adds
linked_size : (rs : List (List ℕ)) (from to : ℕ) → length (linked_to rs from to) ≡ length rs
linked_size [] from to = refl
linked_size (r ∷ rs) zero to = refl
linked_size (r ∷ rs) (suc from) to = ap suc (linked_size rs from to)

linked_is : (rs : List (List ℕ)) (from to b a : ℕ) → Has (links_at (linked_to rs from to) b) a → Has (links_at rs b) a ⊎ ((b ≡ from) × (a ≡ to))
linked_is [] from to b a h = absurd h
linked_is (r ∷ rs) zero to zero a h = by_side (has_either r (to ∷ []) a h)
  where
    by_side : Has r a ⊎ Has (to ∷ []) a → Has r a ⊎ ((zero ≡ zero) × (a ≡ to))
    by_side (inl g) = inl g
    by_side (inr (inl e)) = inr (refl, sym e)
    by_side (inr (inr g)) = absurd g
linked_is (r ∷ rs) zero to (suc b) a h = inl h
linked_is (r ∷ rs) (suc from) to zero a h = inl h
linked_is (r ∷ rs) (suc from) to (suc b) a h = by_side (linked_is rs from to b a h)
  where
    by_side : Has (links_at rs b) a ⊎ ((b ≡ from) × (a ≡ to)) → Has (links_at rs b) a ⊎ ((suc b ≡ suc from) × (a ≡ to))
    by_side (inl g) = inl g
    by_side (inr g) = inr (ap suc g.0, g.1)

linked_keeps : (rs : List (List ℕ)) (from to b a : ℕ) → Has (links_at rs b) a → Has (links_at (linked_to rs from to) b) a
linked_keeps [] from to b a h = absurd h
linked_keeps (r ∷ rs) zero to zero a h = has_left r (to ∷ []) a h
linked_keeps (r ∷ rs) zero to (suc b) a h = h
linked_keeps (r ∷ rs) (suc from) to zero a h = h
linked_keeps (r ∷ rs) (suc from) to (suc b) a h = linked_keeps rs from to b a h

linked_new : (rs : List (List ℕ)) (from to : ℕ) → from < length rs → Has (links_at (linked_to rs from to) from) to
linked_new [] from to within = absurd (omega arith)
linked_new (r ∷ rs) zero to within = has_right r (to ∷ []) to (inl refl)
linked_new (r ∷ rs) (suc from) to within = linked_new rs from to (omega arith)

-- what a row adds from its other ends
all_size : (rs : List (List ℕ)) (starts : List ℕ) (to : ℕ) → length (all_linked_to rs starts to) ≡ length rs
all_size rs [] to = refl
all_size rs (s ∷ starts) to = all_size (linked_to rs s to) starts to ∙ linked_size rs s to

all_is : (rs : List (List ℕ)) (starts : List ℕ) (to b a : ℕ) → Has (links_at (all_linked_to rs starts to) b) a → Has (links_at rs b) a ⊎ (Has starts b × (a ≡ to))
all_is rs [] to b a h = inl h
all_is rs (s ∷ starts) to b a h = by_side (all_is (linked_to rs s to) starts to b a h)
  where
    by_one : Has (links_at rs b) a ⊎ ((b ≡ s) × (a ≡ to)) → Has (links_at rs b) a ⊎ (Has (s ∷ starts) b × (a ≡ to))
    by_one (inl g) = inl g
    by_one (inr g) = inr (inl (sym g.0), g.1)

    by_side : Has (links_at (linked_to rs s to) b) a ⊎ (Has starts b × (a ≡ to)) → Has (links_at rs b) a ⊎ (Has (s ∷ starts) b × (a ≡ to))
    by_side (inl g) = by_one (linked_is rs s to b a g)
    by_side (inr g) = inr (inr g.0, g.1)

all_keeps : (rs : List (List ℕ)) (starts : List ℕ) (to b a : ℕ) → Has (links_at rs b) a → Has (links_at (all_linked_to rs starts to) b) a
all_keeps rs [] to b a h = h
all_keeps rs (s ∷ starts) to b a h = all_keeps (linked_to rs s to) starts to b a (linked_keeps rs s to b a h)

all_new : (rs : List (List ℕ)) (starts : List ℕ) (to b : ℕ) → b < length rs → Has starts b → Has (links_at (all_linked_to rs starts to) b) to
all_new rs [] to b within h = absurd h
all_new rs (s ∷ starts) to b within (inl e) =
    all_keeps (linked_to rs s to) starts to b to (subst (λ k. Has (links_at (linked_to rs s to) k) to) e (linked_new rs s to (subst (λ k. k < length rs) (sym e) within)))
all_new rs (s ∷ starts) to b within (inr h) = all_new (linked_to rs s to) starts to b (subst (λ n. b < n) (sym (linked_size rs s to)) within) h

-- what all rows add from their other ends
turned_size : (back : List (List ℕ)) (k : ℕ) (rs : List (List ℕ)) → length (turned_from back k rs) ≡ length back
turned_size back k [] = refl
turned_size back k (r ∷ rs) = turned_size (all_linked_to back r k) (suc k) rs ∙ all_size back r k

turned_is : (back : List (List ℕ)) (k : ℕ) (rs : List (List ℕ)) (b a : ℕ) → Has (links_at (turned_from back k rs) b) a →
    Has (links_at back b) a ⊎ ((i : ℕ) × (a ≡ k + i) × Has (links_at rs i) b)
turned_is back k [] b a h = inl h
turned_is back k (r ∷ rs) b a h = by_side (turned_is (all_linked_to back r k) (suc k) rs b a h)
  where
    after : (i : ℕ) → suc k + i ≡ k + suc i
    after i = omega arith

    none : k ≡ k + 0
    none = omega arith

    by_row : Has (links_at back b) a ⊎ (Has r b × (a ≡ k)) → Has (links_at back b) a ⊎ ((i : ℕ) × (a ≡ k + i) × Has (links_at (r ∷ rs) i) b)
    by_row (inl g) = inl g
    by_row (inr g) = inr (0, g.1 ∙ none, g.0)

    by_side : Has (links_at (all_linked_to back r k) b) a ⊎ ((i : ℕ) × (a ≡ suc k + i) × Has (links_at rs i) b) →
        Has (links_at back b) a ⊎ ((i : ℕ) × (a ≡ k + i) × Has (links_at (r ∷ rs) i) b)
    by_side (inl g) = by_row (all_is back r k b a g)
    by_side (inr (i, e, g)) = inr (suc i, e ∙ after i, g)

turned_keeps : (back : List (List ℕ)) (k : ℕ) (rs : List (List ℕ)) (b a : ℕ) → Has (links_at back b) a → Has (links_at (turned_from back k rs) b) a
turned_keeps back k [] b a h = h
turned_keeps back k (r ∷ rs) b a h = turned_keeps (all_linked_to back r k) (suc k) rs b a (all_keeps back r k b a h)

turned_new : (back : List (List ℕ)) (k : ℕ) (rs : List (List ℕ)) (b i : ℕ) → b < length back → Has (links_at rs i) b → Has (links_at (turned_from back k rs) b) (k + i)
turned_new back k [] b i within h = absurd h
turned_new back k (r ∷ rs) b zero within h =
    subst (Has (links_at (turned_from back k (r ∷ rs)) b)) none (turned_keeps (all_linked_to back r k) (suc k) rs b k (all_new back r k b within h))
  where
    none : k ≡ k + 0
    none = omega arith
turned_new back k (r ∷ rs) b (suc i) within h =
    subst (Has (links_at (turned_from back k (r ∷ rs)) b)) after (turned_new (all_linked_to back r k) (suc k) rs b i (subst (λ n. b < n) (sym (all_size back r k)) within) h)
  where
    after : suc k + i ≡ k + suc i
    after = omega arith

no_links : (n b a : ℕ) → Has (links_at (replicate n []) b) a → ⊥
no_links zero b a h = h
no_links (suc n) zero a h = h
no_links (suc n) (suc b) a h = no_links n b a h

abbrev no_rows : ℕ → List (List ℕ)
no_rows n = replicate n []

replicated_size : (n : ℕ) → length (no_rows n) ≡ n
replicated_size n = length-replicate n []

pub are_turned : (l back : Links) → rows back ≡ turned_from (replicate (length l.of.items) []) 0 (rows l) → AreTurned l back
are_turned l back e = record { size = size; links = λ a b within. (there a b, turned a b within) }
  where
    size : length back.of.items ≡ length l.of.items
    size =
        sym (length-map back.of.items items_in)
        ∙ ap (λ (rs : List (List ℕ)). length rs) e
        ∙ turned_size (replicate (length l.of.items) []) 0 (rows l)
        ∙ replicated_size (length l.of.items)

    from_zero : (a : ℕ) → 0 + a ≡ a
    from_zero a = omega arith

    by_side : (a b : ℕ) → Has (links_at (replicate (length l.of.items) []) b) a ⊎ ((i : ℕ) × (a ≡ 0 + i) × Has (links_at (rows l) i) b) → Has (graph_of l a) b
    by_side a b (inl g) = absurd (no_links (length l.of.items) b a g)
    by_side a b (inr (i, f, g)) =
        let f' : a ≡ i = omega (arith, f) in
        subst (λ k. Has (graph_of l k) b) (sym f') (subst (λ r. Has r b) (sym (graph_rows l i)) g)

    there : (a b : ℕ) → Has (graph_of back b) a → Has (graph_of l a) b
    there a b h =
        by_side a b (turned_is (replicate (length l.of.items) []) 0 (rows l) b a (subst (λ rs. Has (links_at rs b) a) e (subst (λ r. Has r a) (graph_rows back b) h)))

    turned : (a b : ℕ) → b < length l.of.items → Has (graph_of l a) b → Has (graph_of back b) a
    turned a b within h =
        subst (λ r. Has r a) (sym (graph_rows back b))
        (subst (λ rs. Has (links_at rs b) a) (sym e)
        (subst (Has (links_at (turned_from (replicate (length l.of.items) []) 0 (rows l)) b)) (from_zero a)
        (turned_new (replicate (length l.of.items) []) 0 (rows l) b a (subst (λ n. b < n) (sym (replicated_size (length l.of.items))) within) (subst (λ r. Has r b) (graph_rows l a) h))))
