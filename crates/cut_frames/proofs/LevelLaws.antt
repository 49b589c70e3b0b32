-- Which clauses stand in the frame of a number, and what a higher number and a new last frame change.
use Rattle.std.proofs.Common.{◌≡◌, ◌≢◌, ◌≤◌, ◌<◌, ◌⊎◌, inl, inr, ℕ, zero, suc, ◌+◌, ◌-◌, Bool, true, false, List, [], ◌∷◌, ◌++◌, refl, sym, ◌∙◌, ap, subst, arith, length, take}
use Rattle.std.specs.Prelude.{slice_index_or, slice_set, Contains, All, nat_le, if◌then◌else◌}
use Rattle.std.proofs.lemmas.Bool.{cases_lt, cases_eq}
use Rattle.std.proofs.lemmas.List.{length-set, get_or-set_same, get_or-set_other}
use Rattle.std.proofs.lemmas.List.Elements.{All-head, All-tail}
use Rattle.sat_clauses.specs.Literal.{Literal}
use Rattle.cut_frames.specs.Chain.{IsPart}
use Rattle.cut_frames.specs.FrameLists.{frame_at}
use Rattle.cut_frames.specs.Guards.{IsPut}
use Rattle.cut_frames.specs.Levels.{standing_in, frames_from, frames_of, HasGained}
use Rattle.cut_frames.specs.declared.levels.Held.{Held}
use Rattle.cut_frames.specs.declared.levels.Levels.{Levels}
use Rattle.cut_frames.proofs.Short.{first_member, later_member}

-- whether a clause stands in a frame
pub stands : (i : ℕ) (h : Held) (hs : List Held) → i ≤ h.highest → standing_in i (h ∷ hs) ≡ h.clause ∷ standing_in i hs
stands i h hs le = go (nat_le i h.highest) refl
  where
    go : (b : Bool) → nat_le i h.highest ≡ b → (if b then h.clause ∷ standing_in i hs else standing_in i hs) ≡ h.clause ∷ standing_in i hs
    go true e = refl
    go false e = absurd (grind (arith, le, e))

pub stands_not : (i : ℕ) (h : Held) (hs : List Held) → h.highest < i → standing_in i (h ∷ hs) ≡ standing_in i hs
stands_not i h hs lt = go (nat_le i h.highest) refl
  where
    go : (b : Bool) → nat_le i h.highest ≡ b → (if b then h.clause ∷ standing_in i hs else standing_in i hs) ≡ standing_in i hs
    go true e = absurd (grind (arith, lt, e))
    go false e = refl

-- the clause of a place with its number
abbrev pub held_in : List Held → ℕ → Held
held_in hs k = slice_index_or hs k (record { clause = []; highest = 0 })

-- a clause that stands in the frame of a number is one of a place, with this number or a higher one
pub record IsStanding (i : ℕ) (hs : List Held) (c : List Literal) : Type 0 where
  pub place : ℕ
  pub inside : place < length hs
  pub high : i ≤ (held_in hs place).highest
  pub is_it : (held_in hs place).clause ≡ c

cons_cases : (x c : List Literal) (xs : List (List Literal)) → Contains (x ∷ xs) c → (x ≡ c) ⊎ Contains xs c
cons_cases x c xs m = by_place m.0 m.1 m.2
  where
    by_place : (k : ℕ) → k < length (x ∷ xs) → slice_index_or (x ∷ xs) k c ≡ c → (x ≡ c) ⊎ Contains xs c
    by_place zero lt e = inl e
    by_place (suc k) lt e = inr (k, grind (arith, lt), e)

pub standing_has : (i : ℕ) (hs : List Held) (c : List Literal) → Contains (standing_in i hs) c → IsStanding i hs c
standing_has i [] c m = absurd (omega (arith, m.1))
standing_has i (h ∷ hs) c m = by_order (cases_lt h.highest i) (λ r. standing_has i hs c r)
  where
    later : IsStanding i hs c → IsStanding i (h ∷ hs) c
    later s = record { place = suc s.place; inside = grind (arith, s.inside); high = s.high; is_it = s.is_it }

    here : i ≤ h.highest → (h.clause ≡ c) ⊎ Contains (standing_in i hs) c → (Contains (standing_in i hs) c → IsStanding i hs c) → IsStanding i (h ∷ hs) c
    here le (inl e) more = record { place = 0; inside = grind arith; high = le; is_it = e }
    here le (inr n) more = later (more n)

    by_order : (h.highest < i) ⊎ (i ≤ h.highest) → (Contains (standing_in i hs) c → IsStanding i hs c) → IsStanding i (h ∷ hs) c
    by_order (inl lt) more = later (more (subst (λ xs. Contains xs c) (stands_not i h hs lt) m))
    by_order (inr le) more = here le (cons_cases h.clause c (standing_in i hs) (subst (λ xs. Contains xs c) (stands i h hs le) m)) more

pub standing_of : (i : ℕ) (hs : List Held) (k : ℕ) → k < length hs → i ≤ (held_in hs k).highest → Contains (standing_in i hs) (held_in hs k).clause
standing_of i [] k lt le = absurd (omega (arith, lt))
standing_of i (h ∷ hs) zero lt le = subst (λ xs. Contains xs h.clause) (sym (stands i h hs le)) (first_member h.clause (standing_in i hs))
standing_of i (h ∷ hs) (suc k) lt le = by_order (cases_lt h.highest i) (standing_of i hs k (grind (arith, lt)) le)
  where
    by_order : (h.highest < i) ⊎ (i ≤ h.highest) → Contains (standing_in i hs) (held_in hs k).clause → Contains (standing_in i (h ∷ hs)) (held_in hs k).clause
    by_order (inl lt) m = subst (λ xs. Contains xs (held_in hs k).clause) (sym (stands_not i h hs lt)) m
    by_order (inr le) m = subst (λ xs. Contains xs (held_in hs k).clause) (sym (stands i h hs le)) (later_member h.clause (held_in hs k).clause (standing_in i hs) m)

-- the list of a number
pub from_is : (k n i m : ℕ) (hs : List Held) → m ≡ i + k → i < n → frame_at (frames_from k n hs) i ≡ standing_in m hs
from_is k zero i m hs e lt = absurd (omega (arith, lt))
from_is k (suc n) zero m hs e lt = ap (λ z. standing_in z hs) (omega (arith, e))
from_is k (suc n) (suc i) m hs e lt = from_is (suc k) n i m hs (omega (arith, e)) (omega (arith, lt))

pub from_past : (k n i : ℕ) (hs : List Held) → n ≤ i → frame_at (frames_from k n hs) i ≡ []
from_past k zero i hs le = refl
from_past k (suc n) zero hs le = absurd (omega (arith, le))
from_past k (suc n) (suc i) hs le = from_past (suc k) n i hs (omega (arith, le))

pub frame_is : (l : Levels) (i : ℕ) → i ≤ l.last → frame_at (frames_of l) i ≡ standing_in i l.held.items
frame_is l i le = from_is 0 (suc l.last) i i l.held.items (none i) (omega (arith, le))
  where
    none : (i : ℕ) → i ≡ i + 0
    none i = omega arith

pub frame_past : (l : Levels) (i : ℕ) → l.last < i → frame_at (frames_of l) i ≡ []
frame_past l i lt = from_past 0 (suc l.last) i l.held.items (omega (arith, lt))

pub length_from : (k n : ℕ) (hs : List Held) → length (frames_from k n hs) ≡ n
length_from k zero hs = refl
length_from k (suc n) hs = ap suc (length_from (suc k) n hs)

pub length_frames : (l : Levels) → length (frames_of l) ≡ suc l.last
length_frames l = length_from 0 (suc l.last) l.held.items

pub in_frame : (l : Levels) (i : ℕ) (c : List Literal) → Contains (frame_at (frames_of l) i) c → (i ≤ l.last) × Contains (standing_in i l.held.items) c
in_frame l i c m = by_order (cases_lt l.last i)
  where
    by_order : (l.last < i) ⊎ (i ≤ l.last) → (i ≤ l.last) × Contains (standing_in i l.held.items) c
    by_order (inl lt) = absurd (none (subst (λ xs. Contains xs c) (from_past 0 (suc l.last) i l.held.items (omega (arith, lt))) m))
      where
        none : Contains [] c → ⊥
        none n = omega (arith, n.1)
    by_order (inr le) = (le, subst (λ xs. Contains xs c) (frame_is l i le) m)

pub to_frame : (l : Levels) (i : ℕ) (c : List Literal) → i ≤ l.last → Contains (standing_in i l.held.items) c → Contains (frame_at (frames_of l) i) c
to_frame l i c le m = subst (λ xs. Contains xs c) (sym (frame_is l i le)) m

-- each clause of a frame stands in the frame before
standing_before : (i : ℕ) (hs : List Held) (c : List Literal) → Contains (standing_in (suc i) hs) c → Contains (standing_in i hs) c
standing_before i hs c m = let s = standing_has (suc i) hs c m in subst (Contains (standing_in i hs)) s.is_it (standing_of i hs s.place s.inside (lower i (held_in hs s.place).highest s.high))
  where
    lower : (i n : ℕ) → suc i ≤ n → i ≤ n
    lower i n le = omega (arith, le)

pub in_frame_before : (l : Levels) (i : ℕ) (c : List Literal) → Contains (frame_at (frames_of l) (suc i)) c → Contains (frame_at (frames_of l) i) c
in_frame_before l i c m = let w = in_frame l (suc i) c m in to_frame l i c (omega (arith, w.0)) (standing_before i l.held.items c w.1)

-- a clause put into the frames up to a number, where it is told which clauses stand in each
pub gained_from : (l now : Levels) (j : ℕ) (c : List Literal) → now.last ≡ l.last → j ≤ l.last →
    ((i : ℕ) → i ≤ j → Contains (standing_in i now.held.items) c) →
    ((i : ℕ) (d : List Literal) → Contains (standing_in i l.held.items) d → Contains (standing_in i now.held.items) d ⊎ ((i ≤ j) × IsPart c d)) →
    ((i : ℕ) (d : List Literal) → Contains (standing_in i now.held.items) d → Contains (standing_in i l.held.items) d ⊎ ((d ≡ c) × (i ≤ j))) →
    HasGained j c (frames_of l) (frames_of now)
gained_from l now j c last le here stays only = record {
  same = length_frames now ∙ ap suc last ∙ sym (length_frames l);
  within = subst (λ n. j < n) (sym (length_frames l)) (omega (arith, le));
  here = λ i below. to_frame now i c (subst (λ n. i ≤ n) (sym last) (omega (arith, below, le))) (here i below);
  stays = λ i d m. let w = in_frame l i d m in on i d (subst (λ n. i ≤ n) (sym last) w.0) (stays i d w.1);
  only = λ i d m. let w = in_frame now i d m in back i d (subst (λ n. i ≤ n) last w.0) (only i d w.1);
  shrinks = λ i d m. in_frame_before now i d m;
}
  where
    on : (i : ℕ) (d : List Literal) → i ≤ now.last → Contains (standing_in i now.held.items) d ⊎ ((i ≤ j) × IsPart c d) → Contains (frame_at (frames_of now) i) d ⊎ ((i ≤ j) × IsPart c d)
    on i d low (inl m) = inl (to_frame now i d low m)
    on i d low (inr p) = inr p

    back : (i : ℕ) (d : List Literal) → i ≤ l.last → Contains (standing_in i l.held.items) d ⊎ ((d ≡ c) × (i ≤ j)) → Contains (frame_at (frames_of l) i) d ⊎ ((d ≡ c) × (i ≤ j))
    back i d low (inl m) = inl (to_frame l i d low m)
    back i d low (inr e) = inr e

-- what the layer below is told
pub put_of : (j : ℕ) (c : List Literal) (old now : List (List (List Literal))) → HasGained j c old now → IsPut j c old now
put_of j c old now g = record {
  same = g.same;
  within = g.within;
  here = λ i some le. g.here i le;
  stays = λ i d some m. g.stays i d m;
  only = λ i d some m. g.only i d m;
}

-- a clause with the next number: what stood in a frame stands there still
module _ (l now : Levels) (i k : ℕ) (h : Held) (last : now.last ≡ l.last) (lt : i < l.last) (inside : k < length l.held.items) (was : (held_in l.held.items k).highest ≡ i)
    (clause : h.clause ≡ (held_in l.held.items k).clause) (is : h.highest ≡ i + 1) (items : now.held.items ≡ slice_set l.held.items k h) where
  abbrev pub hs : List Held
  hs = l.held.items

  at_k : held_in (slice_set hs k h) k ≡ h
  at_k = get_or-set_same hs k h (record { clause = []; highest = 0 }) inside

  at_other : (p : ℕ) → p ≢ k → held_in (slice_set hs k h) p ≡ held_in hs p
  at_other p ne = get_or-set_other hs k p h (record { clause = []; highest = 0 }) ne

  raised : (a : ℕ) → a ≤ i + 1 → Contains (standing_in a now.held.items) (held_in hs k).clause
  raised a le = subst (λ xs. Contains (standing_in a xs) (held_in hs k).clause) (sym items)
      (subst (Contains (standing_in a (slice_set hs k h))) (ap (λ (g : Held). g.clause) at_k ∙ clause)
      (standing_of a (slice_set hs k h) k (subst (λ n. k < n) (sym (length-set hs k h)) inside) (subst (λ n. a ≤ n) (sym (ap (λ (g : Held). g.highest) at_k ∙ is)) le)))

  stays_raised : (a : ℕ) (d : List Literal) → Contains (standing_in a hs) d → Contains (standing_in a now.held.items) d
  stays_raised a d m = by_place (standing_has a hs d m)
    where
      next : (a n : ℕ) → a ≤ n → n ≡ i → a ≤ i + 1
      next a n le e = omega (arith, le, e)

      by_place : IsStanding a hs d → Contains (standing_in a now.held.items) d
      by_place s = by_case (cases_eq s.place k)
        where
          by_case : (s.place ≡ k) ⊎ (s.place ≢ k) → Contains (standing_in a now.held.items) d
          by_case (inl e) = subst (Contains (standing_in a now.held.items)) (ap (λ p. (held_in hs p).clause) (sym e) ∙ s.is_it)
              (raised a (next a (held_in hs s.place).highest s.high (ap (λ p. (held_in hs p).highest) e ∙ was)))
          by_case (inr ne) = subst (λ xs. Contains (standing_in a xs) d) (sym items)
              (subst (Contains (standing_in a (slice_set hs k h))) (ap (λ (g : Held). g.clause) (at_other s.place ne) ∙ s.is_it)
              (standing_of a (slice_set hs k h) s.place (subst (λ n. s.place < n) (sym (length-set hs k h)) s.inside) (subst (λ n. a ≤ n) (sym (ap (λ (g : Held). g.highest) (at_other s.place ne))) s.high)))

  only_raised : (a : ℕ) (d : List Literal) → Contains (standing_in a now.held.items) d → Contains (standing_in a hs) d ⊎ ((d ≡ (held_in hs k).clause) × (a ≤ i + 1))
  only_raised a d m = by_place (standing_has a (slice_set hs k h) d (subst (λ xs. Contains (standing_in a xs) d) items m))
    where
      up_to : (a b c : ℕ) → a ≤ b → c ≡ b → a ≤ c
      up_to a b c le e = omega (arith, le, e)

      by_place : IsStanding a (slice_set hs k h) d → Contains (standing_in a hs) d ⊎ ((d ≡ (held_in hs k).clause) × (a ≤ i + 1))
      by_place s = by_case (cases_eq s.place k)
        where
          by_case : (s.place ≡ k) ⊎ (s.place ≢ k) → Contains (standing_in a hs) d ⊎ ((d ≡ (held_in hs k).clause) × (a ≤ i + 1))
          by_case (inl e) = inr (
            sym (ap (λ (g : Held). g.clause) (sym at_k ∙ ap (held_in (slice_set hs k h)) (sym e)) ∙ s.is_it) ∙ clause,
            up_to a (held_in (slice_set hs k h) s.place).highest (i + 1) s.high (sym (ap (λ p. (held_in (slice_set hs k h) p).highest) e ∙ ap (λ (g : Held). g.highest) at_k ∙ is)),
          )
          by_case (inr ne) = inl (subst (Contains (standing_in a hs)) (ap (λ (g : Held). g.clause) (sym (at_other s.place ne)) ∙ s.is_it)
              (standing_of a hs s.place (subst (λ n. s.place < n) (length-set hs k h) s.inside) (subst (λ n. a ≤ n) (ap (λ (g : Held). g.highest) (at_other s.place ne)) s.high)))

  pub frame_raised : (a : ℕ) (d : List Literal) → Contains (frame_at (frames_of l) a) d → Contains (frame_at (frames_of now) a) d
  frame_raised a d m = let w = in_frame l a d m in to_frame now a d (subst (λ n. a ≤ n) (sym last) w.0) (stays_raised a d w.1)

  pub gained_raise : HasGained (i + 1) (held_in hs k).clause (frames_of l) (frames_of now)
  gained_raise = gained_from l now (i + 1) (held_in hs k).clause last (omega (arith, lt)) raised (λ a d m. inl (stays_raised a d m)) only_raised

-- the frames of other numbers are as they were
pub standing_set : (j i k : ℕ) (hs : List Held) (h : Held) → (held_in hs k).highest ≡ i → h.highest ≡ i + 1 → h.clause ≡ (held_in hs k).clause → j ≢ i + 1 → standing_in j (slice_set hs k h) ≡ standing_in j hs
standing_set j i k [] h was is clause ne = refl
standing_set j i zero (g ∷ hs) h was is clause ne = by_order (cases_lt i j)
  where
    above : (n : ℕ) → i < j → n ≡ i + 1 → n < j
    above n lt e = omega (arith, lt, e, ne)

    by_order : (i < j) ⊎ (j ≤ i) → standing_in j (h ∷ hs) ≡ standing_in j (g ∷ hs)
    by_order (inl lt) = stands_not j h hs (above h.highest lt is) ∙ sym (stands_not j g hs (subst (λ n. n < j) (sym was) lt))
    by_order (inr le) = stands j h hs (subst (λ n. j ≤ n) (sym is) (omega (arith, le))) ∙ ap (λ c. c ∷ standing_in j hs) clause ∙ sym (stands j g hs (subst (λ n. j ≤ n) (sym was) le))
standing_set j i (suc k) (g ∷ hs) h was is clause ne = by_order (cases_lt g.highest j) (standing_set j i k hs h was is clause ne)
  where
    by_order : (g.highest < j) ⊎ (j ≤ g.highest) → standing_in j (slice_set hs k h) ≡ standing_in j hs → standing_in j (g ∷ slice_set hs k h) ≡ standing_in j (g ∷ hs)
    by_order (inl lt) e = stands_not j g (slice_set hs k h) lt ∙ e ∙ sym (stands_not j g hs lt)
    by_order (inr le) e = stands j g (slice_set hs k h) le ∙ ap (λ xs. g.clause ∷ xs) e ∙ sym (stands j g hs le)

-- a new last frame
none_stand : (i : ℕ) (hs : List Held) → All (λ (h : Held). h.highest < i) hs → standing_in i hs ≡ []
none_stand i [] a = refl
none_stand i (h ∷ hs) a = stands_not i h hs (All-head (λ (h : Held). h.highest < i) h hs a) ∙ none_stand i hs (All-tail (λ (h : Held). h.highest < i) h hs a)

pub from_more : (k n m : ℕ) (hs : List Held) → m ≡ n + k → frames_from k (suc n) hs ≡ frames_from k n hs ++ standing_in m hs ∷ []
from_more k zero m hs e = ap (λ z. standing_in z hs ∷ []) (omega (arith, e))
from_more k (suc n) m hs e = ap (λ fs. standing_in k hs ∷ fs) (from_more (suc k) n m hs (omega (arith, e)))

pub frames_more : (l now : Levels) → now.held.items ≡ l.held.items → now.last ≡ l.last + 1 → All (λ (h : Held). h.highest ≤ l.last) l.held.items → frames_of now ≡ frames_of l ++ [] ∷ []
frames_more l now items last numbers =
    ap (λ hs. frames_from 0 (suc now.last) hs) items ∙ ap (λ n. frames_from 0 n l.held.items) (ap suc last ∙ next l.last) ∙ from_more 0 (suc l.last) (suc l.last) l.held.items (none (suc l.last))
    ∙ ap (λ xs. frames_of l ++ xs ∷ []) (none_stand (suc l.last) l.held.items (λ k d lt. below (slice_index_or l.held.items k d).highest l.last (numbers k d lt)))
  where
    next : (n : ℕ) → suc (n + 1) ≡ suc (suc n)
    next n = omega arith

    none : (n : ℕ) → n ≡ n + 0
    none n = omega arith

    below : (a n : ℕ) → a ≤ n → a < suc n
    below a n le = omega (arith, le)

-- frames that begin again
pub frames_new : (l : Levels) → l.held.items ≡ [] → l.last ≡ 0 → frames_of l ≡ [] ∷ []
frames_new l items last = ap (λ hs. frames_from 0 (suc l.last) hs) items ∙ ap (λ n. frames_from 0 (suc n) []) last

-- where no clause has a number, its frame and the next are equal
level_empty : (i : ℕ) (hs : List Held) → All (λ (h : Held). h.highest ≢ i) hs → standing_in i hs ≡ standing_in (suc i) hs
level_empty i [] a = refl
level_empty i (h ∷ hs) a = by_order (cases_lt h.highest i) (level_empty i hs (All-tail (λ (h : Held). h.highest ≢ i) h hs a)) (All-head (λ (h : Held). h.highest ≢ i) h hs a)
  where
    over : (a b : ℕ) → b ≤ a → a ≢ b → suc b ≤ a
    over a b le ne = omega (arith, le, ne)

    by_order : (h.highest < i) ⊎ (i ≤ h.highest) → standing_in i hs ≡ standing_in (suc i) hs → h.highest ≢ i → standing_in i (h ∷ hs) ≡ standing_in (suc i) (h ∷ hs)
    by_order (inl lt) e ne = stands_not i h hs lt ∙ e ∙ sym (stands_not (suc i) h hs (omega (arith, lt)))
    by_order (inr le) e ne = stands i h hs le ∙ ap (λ xs. h.clause ∷ xs) e ∙ sym (stands (suc i) h hs (over h.highest i le ne))

pub equal_frames : (l : Levels) (i : ℕ) → i < l.last → All (λ (h : Held). h.highest ≢ i) l.held.items → frame_at (frames_of l) i ≡ frame_at (frames_of l) (i + 1)
equal_frames l i lt a = frame_is l i (omega (arith, lt)) ∙ level_empty i l.held.items a ∙ ap (λ n. standing_in n l.held.items) (next i) ∙ sym (frame_is l (i + 1) (omega (arith, lt)))
  where
    next : (i : ℕ) → suc i ≡ i + 1
    next i = omega arith

-- one clause more of a copy
pub standing_more : (i k : ℕ) (hs : List Held) (h : Held) → k < length hs → standing_in i (take (k + 1) hs) ≡ standing_in i (take k hs) ++ standing_in i (slice_index_or hs k h ∷ [])
standing_more i k hs h lt = subst (λ m. standing_in i (take m hs) ≡ standing_in i (take k hs) ++ standing_in i (slice_index_or hs k h ∷ [])) (next k) (go k hs lt)
  where
    next : (i : ℕ) → suc i ≡ i + 1
    next i = omega arith

    go : (k : ℕ) (hs : List Held) → k < length hs → standing_in i (take (suc k) hs) ≡ standing_in i (take k hs) ++ standing_in i (slice_index_or hs k h ∷ [])
    go k [] lt = absurd (omega (arith, lt))
    go zero (g ∷ hs) lt = refl
    go (suc k) (g ∷ hs) lt = by_order (cases_lt g.highest i) (go k hs (grind (arith, lt)))
      where
        by_order : (g.highest < i) ⊎ (i ≤ g.highest) → standing_in i (take (suc k) hs) ≡ standing_in i (take k hs) ++ standing_in i (slice_index_or hs k h ∷ []) →
            standing_in i (g ∷ take (suc k) hs) ≡ standing_in i (g ∷ take k hs) ++ standing_in i (slice_index_or hs k h ∷ [])
        by_order (inl lt) e = stands_not i g (take (suc k) hs) lt ∙ e ∙ sym (ap (λ xs. xs ++ standing_in i (slice_index_or hs k h ∷ [])) (stands_not i g (take k hs) lt))
        by_order (inr le) e = stands i g (take (suc k) hs) le ∙ ap (λ xs. g.clause ∷ xs) e ∙ sym (ap (λ xs. xs ++ standing_in i (slice_index_or hs k h ∷ [])) (stands i g (take k hs) le))

pub copied_more : (i k : ℕ) (hs : List Held) (h : Held) (list : List (List Literal)) → k < length hs → list ≡ standing_in i (take k hs) → h ≡ slice_index_or hs k h → i ≤ h.highest → list ++ h.clause ∷ [] ≡ standing_in i (take (k + 1) hs)
copied_more i k hs h list lt e is le = ap (λ xs. xs ++ h.clause ∷ []) e ∙ ap (λ xs. standing_in i (take k hs) ++ xs) (sym (stands i h [] le)) ∙ ap (λ (g : Held). standing_in i (take k hs) ++ standing_in i (g ∷ [])) is ∙ sym (standing_more i k hs h lt)

pub skipped_more : (i k : ℕ) (hs : List Held) (h : Held) (list : List (List Literal)) → k < length hs → list ≡ standing_in i (take k hs) → h ≡ slice_index_or hs k h → h.highest < i → list ≡ standing_in i (take (k + 1) hs)
skipped_more i k hs h list lt e is less = e ∙ sym (none (standing_in i (take k hs))) ∙ ap (λ xs. standing_in i (take k hs) ++ xs) (sym (stands_not i h [] less)) ∙ ap (λ (g : Held). standing_in i (take k hs) ++ standing_in i (g ∷ [])) is ∙ sym (standing_more i k hs h lt)
  where
    none : (xs : List (List Literal)) → xs ++ [] ≡ xs
    none [] = refl
    none (x ∷ xs) = ap (λ ys. x ∷ ys) (none xs)

-- the number of the frame of the newest of so many obligations
pub owed_fits : (l : Levels) (n : ℕ) → n ≤ length (frames_of l) → n ≤ l.last + 1
owed_fits l n le = omega (arith, le, length_frames l)

pub level_low : (last n : ℕ) → 0 < n → last + 1 - n ≤ last
level_low last n some = omega (arith, some)

pub level_is : (l : Levels) (n : ℕ) → length (frames_of l) - n ≡ l.last + 1 - n
level_is l n = omega (arith, length_frames l)

pub same_length : (l now : Levels) → now.last ≡ l.last → length (frames_of now) ≡ length (frames_of l)
same_length l now e = length_frames now ∙ ap suc e ∙ sym (length_frames l)

pub grown_last : (l : Levels) (n m : ℕ) → n ≡ length (frames_of l ++ [] ∷ []) → m ≡ n - 1 → m ≡ l.last + 1
grown_last l n m e f = less n m l.last (e ∙ more (frames_of l) ∙ ap (λ k. k + 1) (length_frames l)) f
  where
    more : (fs : List (List (List Literal))) → length (fs ++ [] ∷ []) ≡ length fs + 1
    more [] = omega arith
    more (f ∷ fs) = let rest = more fs in one (length (fs ++ [] ∷ [])) (length fs) rest
      where
        one : (m n : ℕ) → m ≡ n + 1 → suc m ≡ suc n + 1
        one m n e = omega (arith, e)

    less : (n m k : ℕ) → n ≡ suc k + 1 → m ≡ n - 1 → m ≡ k + 1
    less n m k e f = omega (arith, e, f)

pub last_is : (l : Levels) → l.last ≡ length (frames_of l) - 1
last_is l = less l.last (length (frames_of l)) (length_frames l)
  where
    less : (k n : ℕ) → n ≡ suc k → k ≡ n - 1
    less k n e = omega (arith, e)

pub last_less : (l now : Levels) → now.last ≡ l.last → length (frames_of now) - 1 ≡ length (frames_of l) - 1
last_less l now e = ap (λ n. n - 1) (same_length l now e)

pub last_more : (l now : Levels) → now.last ≡ l.last + 1 → length (frames_of now) - 1 ≡ length (frames_of l) - 1 + 1
last_more l now e = sym (last_is now) ∙ e ∙ ap (λ n. n + 1) (last_is l)
