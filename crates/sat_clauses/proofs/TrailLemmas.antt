-- What the literals of a trail make true.
use Rattle.std.proofs.Common.{zero, suc, ◌≡◌, ◌≢◌, ◌⊎◌, ◌↔◌, inl, inr, ⊎_elim, ℕ, ◌+◌, ◌<◌, ◌≤◌, Bool, false, not, List, [], ◌∷◌, ◌++◌, length, get_or, set, take, replicate, Option, Some, None, is_none, count_by, refl, sym, ap, ◌∙◌, subst, arith}
use Rattle.std.specs.Option.{option_map}
use Rattle.std.proofs.lemmas.List.{length-set, length-append, length-replicate, length-take, set-set, set-get_or, set-append_left, get_or_append_left, get_or-set_other, get_or-set_same, get_or-take, get_or-replicate, get_or_past, get_or_push, get_or_default, take-take, take_at}
use Rattle.std.proofs.lemmas.List.Folds.{sum_by-replicate}
use Rattle.std.proofs.lemmas.Bool.{cases_eq, cases_lt}
use Rattle.sat_clauses.specs.Literal.{Literal, signed}
use Rattle.sat_clauses.specs.Assignment.{Assignment, value_of, made_true}
use Rattle.sat_clauses.specs.Trail.{assigned_from, AreFresh}
use Rattle.sat_clauses.proofs.DeriveTrailLemmas.{None-from_value, count_less}

pub length-assigned_from : (a : Assignment) (ls : List Literal) → length (assigned_from a ls) ≡ length a
length-assigned_from a [] = refl
length-assigned_from a (l ∷ ls) = length-assigned_from (made_true a l) ls ∙ length-set a l.var _

pub assigned_from_push : (a : Assignment) (ls : List Literal) (l : Literal) → assigned_from a (ls ++ l ∷ []) ≡ made_true (assigned_from a ls) l
assigned_from_push a [] l = refl
assigned_from_push a (m ∷ ls) l = assigned_from_push (made_true a m) ls l

pub AreFresh_push : (a : Assignment) (ls : List Literal) (l : Literal) → AreFresh a ls → l.var < length a → value_of (assigned_from a ls) l ≡ None → AreFresh a (ls ++ l ∷ [])
AreFresh_push a [] l fresh lt free = (lt, free, tt)
AreFresh_push a (m ∷ ls) l fresh lt free =
    (fresh.0, fresh.1, AreFresh_push (made_true a m) ls l fresh.2 (omega (arith, length-set a m.var (Some (not m.negated)))) free)

-- what held when the last literal was made true
pub record WasFree (a : Assignment) (ls : List Literal) (l : Literal) : Type 0 where
  pub fresh : AreFresh a ls
  pub in_range : l.var < length a
  pub free : value_of (assigned_from a ls) l ≡ None

pub was_free : (a : Assignment) (ls : List Literal) (l : Literal) → AreFresh a (ls ++ l ∷ []) → WasFree a ls l
was_free a [] l fresh = record { fresh = tt; in_range = fresh.0; free = fresh.1 }
was_free a (m ∷ ls) l fresh =
    let h = was_free (made_true a m) ls l fresh.2 in
    record { fresh = (fresh.0, fresh.1, h.fresh); in_range = omega (arith, h.in_range, length-set a m.var (Some (not m.negated))); free = h.free }

-- to clear the last literal's variable gives the assignment before it
pub clear_last : (a : Assignment) (ls : List Literal) (l : Literal) → AreFresh a (ls ++ l ∷ []) → set (assigned_from a (ls ++ l ∷ [])) l.var None ≡ assigned_from a ls
clear_last a ls l fresh =
    let b = assigned_from a ls in
    let h = was_free a ls l fresh in
    ap (λ x. set x l.var None) (assigned_from_push a ls l)
    ∙ (set-set b l.var _ None
    ∙ (ap (set b l.var) (sym (None-from_value l.negated (get_or b l.var None) h.free)) ∙ set-get_or b l.var None))

counted : (a : Assignment) (ls : List Literal) → AreFresh a ls → length ls + count_by is_none (assigned_from a ls) ≡ count_by is_none a
counted a [] fresh = omega arith
counted a (l ∷ ls) fresh =
    let rest = counted (made_true a l) ls fresh.2 in
    let less = count_less a l.var (not l.negated) fresh.0 (None-from_value l.negated (get_or a l.var None) fresh.1) in
    omega (arith, rest, less)

count_free : (n : ℕ) → count_by is_none (replicate {A = Option Bool} n None) ≡ n
count_free n = sum_by-replicate _ n None ∙ omega arith

-- where a variable is free there is room for one more literal
pub has_room : (n : ℕ) (ls : List Literal) (l : Literal) → AreFresh (replicate n None) ls → l.var < n → value_of (assigned_from (replicate n None) ls) l ≡ None → length ls < n
has_room n ls l fresh lt free =
    let b = assigned_from (replicate n None) ls in
    let here : l.var < length b = omega (arith, length-assigned_from (replicate n None) ls, length-replicate {A = Option Bool} n None) in
    let less = count_less b l.var (not l.negated) here (None-from_value l.negated (get_or b l.var None) free) in
    omega (arith, less, counted (replicate n None) ls fresh, count_free n)

-- one more variable changes nothing for those before it
pub assigned_from_more : (a : Assignment) (ls : List Literal) → AreFresh a ls → assigned_from (a ++ None ∷ []) ls ≡ assigned_from a ls ++ None ∷ []
assigned_from_more a [] fresh = refl
assigned_from_more a (l ∷ ls) fresh =
    ap (λ b. assigned_from b ls) (set-append_left a (None ∷ []) l.var (Some (not l.negated)) fresh.0)
    ∙ assigned_from_more (made_true a l) ls fresh.2

pub AreFresh_more : (a : Assignment) (ls : List Literal) → AreFresh a ls → AreFresh (a ++ None ∷ []) ls
AreFresh_more a [] fresh = tt
AreFresh_more a (l ∷ ls) fresh = (
  omega (arith, fresh.0, length-append a (None ∷ [])),
  ap (option_map (signed l.negated)) (get_or_append_left a (None ∷ []) None l.var fresh.0) ∙ fresh.1,
  subst (λ b. AreFresh b ls) (sym (set-append_left a (None ∷ []) l.var (Some (not l.negated)) fresh.0)) (AreFresh_more (made_true a l) ls fresh.2),
)

-- one literal is taken from the end
pub undone_values : (n : ℕ) (ys zs : List Literal) (l : Literal) (a b : Assignment) → ys ≡ zs ++ l ∷ [] → a ≡ assigned_from (replicate n None) ys → AreFresh (replicate n None) ys → b ≡ set a l.var None → b ≡ assigned_from (replicate n None) zs
undone_values n ys zs l a b is matches fresh cleared =
    cleared ∙ (ap (λ x. set x l.var None) (matches ∙ ap (assigned_from (replicate n None)) is)
    ∙ clear_last (replicate n None) zs l (subst (AreFresh (replicate n None)) is fresh))

pub undone_fresh : (n : ℕ) (ys zs : List Literal) (l : Literal) → ys ≡ zs ++ l ∷ [] → AreFresh (replicate n None) ys → WasFree (replicate n None) zs l
undone_fresh n ys zs l is fresh = was_free (replicate n None) zs l (subst (AreFresh (replicate n None)) is fresh)

pub take_from_push : (xs ys zs : List Literal) (l : Literal) → ys ≡ zs ++ l ∷ [] → ys ≡ take (length ys) xs → zs ≡ take (length zs) xs
take_from_push xs ys zs l is first =
    let longer : length ys ≡ length zs + 1 = ap length is ∙ length-append zs (l ∷ []) in
    sym (take_at zs (l ∷ []) (length zs) refl)
    ∙ (ap (take (length zs)) (sym is ∙ first) ∙ take-take (length zs) (length ys) xs (omega arith))

-- one literal comes to the end
pub set_values : (n : ℕ) (ys zs : List Literal) (l : Literal) (a b : Assignment) → zs ≡ ys ++ l ∷ [] → a ≡ assigned_from (replicate n None) ys → b ≡ made_true a l → b ≡ assigned_from (replicate n None) zs
set_values n ys zs l a b is matches made =
    made ∙ (ap (λ x. made_true x l) matches ∙ (sym (assigned_from_push (replicate n None) ys l) ∙ ap (assigned_from (replicate n None)) (sym is)))

-- a trail has no more literals than places
pub at_most_all : (n : ℕ) (ls : List Literal) → AreFresh (replicate n None) ls → length ls ≤ n
at_most_all n ls fresh = omega (arith, counted (replicate n None) ls fresh, count_free n)

-- what has a value keeps it
pub value_kept : (a : Assignment) (ls : List Literal) (m : Literal) (b : Bool) → AreFresh a ls → value_of a m ≡ Some b → value_of (assigned_from a ls) m ≡ Some b
value_kept a [] m b fresh is = is
value_kept a (l ∷ ls) m b fresh is =
    let other : m.var ≢ l.var = λ e. let z : get_or a m.var None ≡ None = ap (λ v. get_or a v None) e ∙ None-from_value l.negated (get_or a l.var None) fresh.1 in absurd (no_value m.negated (get_or a m.var None) z is) in
    value_kept (made_true a l) ls m b fresh.2 (ap (option_map (signed m.negated)) (get_or-set_other a l.var m.var (Some (not l.negated)) None other) ∙ is)
  where
    no_value : (n : Bool) (o : Option Bool) → o ≡ None → option_map (signed n) o ≡ Some b → ⊥
    no_value n None e f = cc
    no_value n (Some x) e f = cc

pub AreFresh_take : (a : Assignment) (k : ℕ) (ls : List Literal) → AreFresh a ls → AreFresh a (take k ls)
AreFresh_take a zero ls fresh = tt
AreFresh_take a (suc k) [] fresh = tt
AreFresh_take a (suc k) (l ∷ ls) fresh = (fresh.0, fresh.1, AreFresh_take (made_true a l) k ls fresh.2)

-- a value after a beginning of the trail is the value after all of it
pub value_later : (a : Assignment) (k : ℕ) (ls : List Literal) (m : Literal) (b : Bool) → AreFresh a ls → value_of (assigned_from a (take k ls)) m ≡ Some b → value_of (assigned_from a ls) m ≡ Some b
value_later a zero ls m b fresh is = value_kept a ls m b fresh is
value_later a (suc k) [] m b fresh is = is
value_later a (suc k) (l ∷ ls) m b fresh is = value_later (made_true a l) k ls m b fresh.2 is

-- a literal of the same variable stands at the place
pub record StandsAt (ls : List Literal) (m : Literal) (i : ℕ) : Type 0 where
  pub within : i < length ls
  pub same_var : (d : Literal) → (get_or ls i d).var ≡ m.var

-- what has a value had it before, or stands somewhere
pub stands_somewhere : (a : Assignment) (ls : List Literal) (m : Literal) (b : Bool) → value_of (assigned_from a ls) m ≡ Some b → (value_of a m ≡ Some b) ⊎ ((i : ℕ) × StandsAt ls m i)
stands_somewhere a [] m b is = inl is
stands_somewhere a (l ∷ ls) m b is = by_rest (stands_somewhere (made_true a l) ls m b is) where
  by_rest : (value_of (made_true a l) m ≡ Some b) ⊎ ((i : ℕ) × StandsAt ls m i) → (value_of a m ≡ Some b) ⊎ ((i : ℕ) × StandsAt (l ∷ ls) m i)
  by_rest (inl here) = ⊎_elim
      (λ e. inr (0, record { within = omega arith; same_var = λ d. sym e }))
      (λ ne. inl (ap (option_map (signed m.negated)) (sym (get_or-set_other a l.var m.var (Some (not l.negated)) None ne)) ∙ here)) (cases_eq m.var l.var)
  by_rest (inr (i, s)) = inr (suc i, record { within = let w = s.within in omega arith; same_var = s.same_var })

-- what stands somewhere has a value
pub value_from_place : (a : Assignment) (ls : List Literal) (m : Literal) (i : ℕ) → AreFresh a ls → StandsAt ls m i → (b : Bool) × (value_of (assigned_from a ls) m ≡ Some b)
value_from_place a [] m i fresh s = absurd (let w = s.within in omega arith)
value_from_place a (l ∷ ls) m zero fresh s =
    let same : m.var ≡ l.var = sym (s.same_var l) in
    let here : get_or (made_true a l) m.var None ≡ Some (not l.negated) = ap (λ v. get_or (made_true a l) v None) same ∙ get_or-set_same a l.var (Some (not l.negated)) None fresh.0 in
    (signed m.negated (not l.negated), value_kept (made_true a l) ls m (signed m.negated (not l.negated)) fresh.2 (ap (option_map (signed m.negated)) here))
value_from_place a (l ∷ ls) m (suc i) fresh s = value_from_place (made_true a l) ls m i fresh.2 (record { within = let w = s.within in omega arith; same_var = s.same_var })

StandsAt_take : (ls : List Literal) (m : Literal) (i k : ℕ) → i < k → StandsAt ls m i → StandsAt (take k ls) m i
StandsAt_take ls m i k lt s = record {
  within = let w = s.within in omega (arith, length-take k ls);
  same_var = λ d. ap (λ (x : Literal). x.var) (get_or-take k ls i d lt) ∙ s.same_var d;
}

StandsAt_from_take : (ls : List Literal) (m : Literal) (i k : ℕ) → StandsAt (take k ls) m i → (i < k) × StandsAt ls m i
StandsAt_from_take ls m i k s =
    let w = s.within in
    let lt : i < k = omega (arith, length-take k ls) in
    (lt, record { within = omega (arith, length-take k ls); same_var = λ d. ap (λ (x : Literal). x.var) (sym (get_or-take k ls i d lt)) ∙ s.same_var d })

-- at first nothing has a value
pub nothing_set : (n : ℕ) (m : Literal) (b : Bool) → value_of (replicate n None) m ≡ Some b → ⊥
nothing_set n m b e = none_Some b (sym (ap (option_map (signed m.negated)) (free_at n m.var)) ∙ e) where
  none_Some : (b : Bool) → ◌≡◌ {A = Option Bool} None (Some b) → ⊥
  none_Some b e = cc

  free_at : (n x : ℕ) → get_or (replicate {A = Option Bool} n None) x None ≡ None
  free_at n x = ⊎_elim (λ lt. get_or-replicate n x None None lt) (λ le. get_or_past (replicate n None) x None (omega (arith, length-replicate {A = Option Bool} n None))) (cases_lt x n)

-- the literal is false after exactly the beginnings of the trail that are longer than the place at which its variable stands
pub false_since : (n : ℕ) (ls : List Literal) (m : Literal) (i k : ℕ) → AreFresh (replicate n None) ls → StandsAt ls m i → ((j : ℕ) → StandsAt ls m j → j ≡ i)
    → value_of (assigned_from (replicate n None) ls) m ≡ Some false → (value_of (assigned_from (replicate n None) (take k ls)) m ≡ Some false) ↔ (i < k)
false_since n ls m i k fresh s only is = (to, from) where
  to : value_of (assigned_from (replicate n None) (take k ls)) m ≡ Some false → i < k
  to e = ⊎_elim (λ z. absurd (nothing_set n m false z))
      (λ (h : (j : ℕ) × StandsAt (take k ls) m j). let t = StandsAt_from_take ls m h.0 k h.1 in let same = only h.0 t.1 in let lt = t.0 in omega arith)
      (stands_somewhere (replicate n None) (take k ls) m false e)

  from : i < k → value_of (assigned_from (replicate n None) (take k ls)) m ≡ Some false
  from lt =
      let v = value_from_place (replicate n None) (take k ls) m i (AreFresh_take (replicate n None) k ls fresh) (StandsAt_take ls m i k lt s) in
      let later = value_later (replicate n None) k ls m v.0 fresh v.1 in
      v.1 ∙ (sym later ∙ is)

-- one literal comes to the end, and its place is kept
pub placed_more : (n : ℕ) (places : List ℕ) (ys zs : List Literal) (l : Literal) (len : ℕ) → zs ≡ ys ++ l ∷ [] → len ≡ length ys → l.var < length places → AreFresh (replicate n None) ys → value_of (assigned_from (replicate n None) ys) l ≡ None
    → ((i : ℕ) (d : Literal) → i < length ys → get_or places (get_or ys i d).var 0 ≡ i) → (i : ℕ) (d : Literal) → i < length zs → get_or (set places l.var len) (get_or zs i d).var 0 ≡ i
placed_more n places ys zs l len is long within fresh free placed i d lt =
    let longer : length zs ≡ length ys + 1 = ap length is ∙ length-append ys (l ∷ []) in
    ⊎_elim
    (λ inside.
    let here : get_or zs i d ≡ get_or ys i d = ap (λ x. get_or x i d) is ∙ get_or_append_left ys (l ∷ []) d i inside in
    let other : (get_or ys i d).var ≢ l.var = λ e.
    let v = value_from_place (replicate n None) ys l i fresh (record { within = inside; same_var = λ b. ap (λ (x : Literal). x.var) (get_or_default ys i b d inside) ∙ e }) in
    differs v.0 (sym free ∙ v.1) in
    ap (λ (x : Literal). get_or (set places l.var len) x.var 0) here ∙ (get_or-set_other places l.var (get_or ys i d).var len 0 other ∙ placed i d inside))
    (λ over.
    let here : get_or zs i d ≡ l = ap (λ x. get_or x i d) is ∙ get_or_push ys l d i (omega arith) in
    ap (λ (x : Literal). get_or (set places l.var len) x.var 0) here ∙ (get_or-set_same places l.var len 0 within ∙ omega arith))
    (cases_lt i (length ys))
  where
    differs : (b : Bool) → ◌≡◌ {A = Option Bool} None (Some b) → ⊥
    differs b e = cc

-- what is past the end is 0, so one more 0 changes nothing
pub same_with_zero : (xs : List ℕ) (i : ℕ) → get_or (xs ++ 0 ∷ []) i 0 ≡ get_or xs i 0
same_with_zero [] zero = refl
same_with_zero [] (suc i) = refl
same_with_zero (x ∷ xs) zero = refl
same_with_zero (x ∷ xs) (suc i) = same_with_zero xs i

-- the kept place of a false literal's variable is where it stands
pub stands_at_place : (n : ℕ) (places : List ℕ) (ls : List Literal) (m : Literal) (b : Bool) (r : ℕ) → value_of (assigned_from (replicate n None) ls) m ≡ Some b → r ≡ get_or places m.var 0
    → ((i : ℕ) (d : Literal) → i < length ls → get_or places (get_or ls i d).var 0 ≡ i) → StandsAt ls m r × ((j : ℕ) → StandsAt ls m j → j ≡ r)
stands_at_place n places ls m b r is read placed = ⊎_elim (λ z. absurd (nothing_set n m b z)) (λ (h : (i : ℕ) × StandsAt ls m i). (subst (StandsAt ls m) (only h.0 h.1) h.1, only)) (stands_somewhere (replicate n None) ls m b is) where
  only : (j : ℕ) → StandsAt ls m j → j ≡ r
  only j s = sym (placed j m s.within) ∙ (ap (λ v. get_or places v 0) (s.same_var m) ∙ sym read)

-- what is kept of a false literal is the place since which it is false
pub record IsFalseSince (n : ℕ) (ls : List Literal) (m : Literal) (r : ℕ) : Type 0 where
  pub within : r < length ls
  pub since : (k : ℕ) → (value_of (assigned_from (replicate n None) (take k ls)) m ≡ Some false) ↔ (r < k)

pub false_since_place : (n v : ℕ) (places : List ℕ) (ys xs : List Literal) (m : Literal) (r : ℕ) → n ≡ v + 1 → ys ≡ xs → AreFresh (replicate n None) ys
    → ((i : ℕ) (d : Literal) → i < length ys → get_or places (get_or ys i d).var 0 ≡ i) → value_of (assigned_from (replicate (v + 1) None) xs) m ≡ Some false → r ≡ get_or places m.var 0
    → IsFalseSince (v + 1) xs m r
false_since_place n v places ys xs m r e same fresh placed is read =
    let fresh' : AreFresh (replicate (v + 1) None) xs = subst (λ k. AreFresh (replicate k None) xs) e (subst (AreFresh (replicate n None)) same fresh) in
    let placed' : (i : ℕ) (d : Literal) → i < length xs → get_or places (get_or xs i d).var 0 ≡ i = subst (λ ls. (i : ℕ) (d : Literal) → i < length ls → get_or places (get_or ls i d).var 0 ≡ i) same placed in
    let s = stands_at_place (v + 1) places xs m false r is read placed' in
    record { within = s.0.within; since = λ k. false_since (v + 1) xs m r k fresh' s.0 s.1 is }
