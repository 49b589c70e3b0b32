-- What is looked at one by one is in the end all that is reached.
use Rattle.std.proofs.Common.{◌≡◌, ℕ, zero, suc, ◌<◌, arith, Bool, true, false, List, [], ◌∷◌, ◌++◌, length, set, replicate, Some, refl, ap, ◌∙◌, sym, subst, ◌⊎◌, inl, inr}
use Rattle.std.proofs.lemmas.List.{length-replicate, length-set}
use Rattle.std.specs.Prelude.{slice_get, Vec}
use Rattle.std.specs.declared.alloc.Global.{Global}
use Rattle.smv_scope.specs.declared.links.Links.{Links}
use Rattle.smv_scope.specs.Links.{Has, Graph, graph_of, row_of, Reaches, start, further, IsWithin, AreReached, is_marked, spread_by, IsSpreading}
use Rattle.smv_scope.proofs.LinkLaws.{has_left, has_right, has_either}
use Rattle.base_values.proofs.ListLaws.{get_within}
use Rattle.base_values.specs.Marks.{is_set}

row_within : (vs : List (Vec ℕ Global)) (a b : ℕ) → Has (row_of (slice_get vs a)) b → a < length vs
row_within [] a b h = absurd h
row_within (v ∷ vs) zero b h = omega arith
row_within (v ∷ vs) (suc a) b h = let more : a < length vs = row_within vs a b h in omega (arith, more)

pub graph_within : (l : Links) → IsWithin (graph_of l) (length l.of.items)
graph_within l a b h = row_within l.of.items a b h

none_marked : (n k : ℕ) → slice_get (replicate n false) k ≡ Some true → ⊥
none_marked zero k h = cc
none_marked (suc n) zero h = cc
none_marked (suc n) (suc k) h = none_marked n k h

pub spreading_first : (g : Graph) (starts : List ℕ) (count : ℕ) → IsSpreading g starts count (record { reached = replicate count false; waiting = starts })
spreading_first g starts count =
    record {
      size = length-replicate count false;
      marked = λ k h. absurd (none_marked count k h);
      waits = λ k h. start h;
      begun = λ k h unmarked. h;
      closed = λ a b h to unmarked. absurd (none_marked count a h);
    }

-- marks after one is set
set_marked : (xs : List Bool) (k j : ℕ) → slice_get (set xs k true) j ≡ Some true → (k ≡ j) ⊎ (slice_get xs j ≡ Some true)
set_marked [] k j h = inr h
set_marked (x ∷ xs) zero zero h = inl refl
set_marked (x ∷ xs) zero (suc j) h = inr h
set_marked (x ∷ xs) (suc k) zero h = inr h
set_marked (x ∷ xs) (suc k) (suc j) h = one_on (set_marked xs k j h)
  where
    one_on : (k ≡ j) ⊎ (slice_get xs j ≡ Some true) → (suc k ≡ suc j) ⊎ (slice_get xs j ≡ Some true)
    one_on (inl e) = inl (ap suc e)
    one_on (inr g) = inr g

set_unmarked : (xs : List Bool) (k j : ℕ) → slice_get (set xs k true) j ≡ Some false → (slice_get xs j ≡ Some false) × (k ≡ j → ⊥)
set_unmarked [] k j h = cc
set_unmarked (x ∷ xs) zero zero h = cc
set_unmarked (x ∷ xs) zero (suc j) h = (h, λ e. other j e)
  where
    other : (j : ℕ) → zero ≡ suc j → ⊥
    other j e = cc
set_unmarked (x ∷ xs) (suc k) zero h = (h, λ e. other k e)
  where
    other : (k : ℕ) → suc k ≡ zero → ⊥
    other k e = cc
set_unmarked (x ∷ xs) (suc k) (suc j) h = let more : (slice_get xs j ≡ Some false) × (k ≡ j → ⊥) = set_unmarked xs k j h in (more.0, λ e. more.1 (one_back k j e))
  where
    one_back : (k j : ℕ) → suc k ≡ suc j → k ≡ j
    one_back k j e = cc

-- all but the last one
but_last : (w : List ℕ) (k j : ℕ) → (k ≡ j → ⊥) → Has (w ++ k ∷ []) j → Has w j
but_last w k j other h = by_side (has_either w (k ∷ []) j h)
  where
    by_side : Has w j ⊎ Has (k ∷ []) j → Has w j
    by_side (inl g) = g
    by_side (inr (inl e)) = absurd (other e)
    by_side (inr (inr g)) = absurd g

last_has : (w : List ℕ) (k : ℕ) → Has (w ++ k ∷ []) k
last_has w k = has_right w (k ∷ []) k (inl refl)

pub spreading_by : (g : Graph) (starts : List ℕ) (count : ℕ) (r : List Bool) (w : List ℕ) (k : ℕ) → IsSpreading g starts count (record { reached = r; waiting = w ++ k ∷ [] }) →
    IsSpreading g starts count (spread_by g (record { reached = r; waiting = w }) k)
spreading_by g starts count r w k h = by_mark (is_marked r k) refl
  where
    known : is_marked r k ≡ true → (j : ℕ) → slice_get r j ≡ Some false → k ≡ j → ⊥
    known m j f e = differs (sym m ∙ ap is_set (subst (λ i. slice_get r i ≡ Some false) (sym e) f))
      where
        differs : true ≡ false → ⊥
        differs d = cc

    k_reached : Reaches g starts k
    k_reached = h.waits k (last_has w k)

    waits_more : (j : ℕ) → Has w j ⊎ Has (g k) j → Reaches g starts j
    waits_more j (inl a) = h.waits j (has_left w (k ∷ []) j a)
    waits_more j (inr a) = further k_reached a

    marked_more : (j : ℕ) → (k ≡ j) ⊎ (slice_get r j ≡ Some true) → Reaches g starts j
    marked_more j (inl e) = subst (Reaches g starts) e k_reached
    marked_more j (inr m) = h.marked j m

    closed_more : (a b : ℕ) → (k ≡ a) ⊎ (slice_get r a ≡ Some true) → Has (g a) b → (slice_get r b ≡ Some false) × (k ≡ b → ⊥) → Has (w ++ g k) b
    closed_more a b (inl e) to f = has_right w (g k) b (subst (λ i. Has (g i) b) (sym e) to)
    closed_more a b (inr m) to f = has_left w (g k) b (but_last w k b f.1 (h.closed a b m to f.0))

    begun_more : (j : ℕ) → Has starts j → (slice_get r j ≡ Some false) × (k ≡ j → ⊥) → Has (w ++ g k) j
    begun_more j s f = has_left w (g k) j (but_last w k j f.1 (h.begun j s f.0))

    by_mark : (b : Bool) → is_marked r k ≡ b → IsSpreading g starts count (spread_by g (record { reached = r; waiting = w }) k)
    by_mark true m =
        rw m
        (record {
          size = h.size;
          marked = h.marked;
          waits = λ j a. h.waits j (has_left w (k ∷ []) j a);
          begun = λ j s f. but_last w k j (known m j f) (h.begun j s f);
          closed = λ a b t to f. but_last w k b (known m b f) (h.closed a b t to f);
        })
    by_mark false m =
        rw m
        (record {
          size = length-set r k true ∙ h.size;
          marked = λ j t. marked_more j (set_marked r k j t);
          waits = λ j a. waits_more j (has_either w (g k) j a);
          begun = λ j s f. begun_more j s (set_unmarked r k j f);
          closed = λ a b t to f. closed_more a b (set_marked r k a t) to (set_unmarked r k b f);
        })

-- where nothing waits, no reached one is unmarked
module _ (g : Graph) (starts : List ℕ) (count : ℕ) (r : List Bool) (within : IsWithin g count) (h : IsSpreading g starts count (record { reached = r; waiting = [] })) where
  no_false : (j : ℕ) → Reaches g starts j → slice_get r j ≡ Some false → ⊥
  no_false j (start s) f = h.begun j s f
  no_false j (further {a = a} from to) f = by_value (λ e. no_false a from e) (get_within r a (subst (λ n. a < n) (sym h.size) (within a j to)))
    where
      by_bool : (slice_get r a ≡ Some false → ⊥) → (m : Bool) → slice_get r a ≡ Some m → ⊥
      by_bool not_a true e = h.closed a j e to f
      by_bool not_a false e = not_a e

      by_value : (slice_get r a ≡ Some false → ⊥) → (m : Bool) × (slice_get r a ≡ Some m) → ⊥
      by_value not_a (m, e) = by_bool not_a m e

  pub spread_all : AreReached g starts count r
  spread_all = record { size = h.size; told = λ k b e. (there k b e, back k b e) }
    where
      there : (k : ℕ) (b : Bool) → slice_get r k ≡ Some b → b ≡ true → Reaches g starts k
      there k b e t = h.marked k (e ∙ ap Some t)

      back : (k : ℕ) (b : Bool) → slice_get r k ≡ Some b → Reaches g starts k → b ≡ true
      back k true e reached = refl
      back k false e reached = absurd (no_false k reached e)
