-- What is marked in a table, and what that says of opposites.
use Rattle.std.proofs.Common.{◌≡◌, ◌⊎◌, inl, inr, ⊎_elim, ℕ, ◌+◌, ◌*◌, ◌<◌, ◌≤◌, ◌/◌, ◌%◌, eqb, cond, Bool, true, false, not, List, [], ◌∷◌, length, get_or, set, fold, replicate, All, Contains, refl, sym, ap, ◌∙◌, subst, zero, suc, arith}
use Rattle.std.proofs.lemmas.Bool.{cases_eq, cases_lt, false≢true, and_from, both_ways, not-true}
use Rattle.std.proofs.lemmas.List.{length-set, get_or-set_same, get_or-set_other, get_or-replicate, get_or_past, length-replicate}
use Rattle.std.specs.List.{list_all}
use Rattle.std.proofs.lemmas.List.Elements.{All-contains}
use Rattle.std.proofs.lemmas.List.Folds.{list_all_at}
use Rattle.sat_clauses.specs.Derivation.{IsUpTo}
use Rattle.sat_clauses.specs.Literal.{Literal, opposite}
use Rattle.sat_clauses.specs.Code.{code_of}
use Rattle.sat_clauses.specs.Hints.{HasNoOpposites}
use Rattle.sat_clauses.proofs.CodeLemmas.{code_of-injective}
use Rattle.sat_clauses.proofs.ListLemmas.{Contains-cons}
use Rattle.cert_derivations.specs.Marks.{is_marked, marked, LacksIn}

pub length-marked : (w : ℕ) (marks : List Bool) (l : Literal) → length (marked w marks l) ≡ length marks
length-marked w marks l = by_test (eqb (code_of l / 4096) w)
  where
    by_test : (b : Bool) → length (cond b (set marks (code_of l % 4096) true) marks) ≡ length marks
    by_test true = length-set marks (code_of l % 4096) true
    by_test false = refl

-- what a test of equality tells
same_number : (x y : ℕ) → eqb x y ≡ true → x ≡ y
same_number x y e = grind (arith, e)

other_number : (x y : ℕ) → eqb x y ≡ false → x ≡ y → ⊥
other_number x y e f = grind (arith, e, f)

-- one code has its window and its place
same_code : (a b w : ℕ) → a / 4096 ≡ w → b / 4096 ≡ w → a % 4096 ≡ b % 4096 → a ≡ b
same_code a b w h k e = omega (arith, h, k, e)

-- what is marked by its code
abbrev at_code : List Bool → ℕ → ℕ → Bool
at_code marks w code = cond (eqb (code / 4096) w) (get_or marks (code % 4096) false) false

abbrev put_code : List Bool → ℕ → ℕ → List Bool
put_code marks w code = cond (eqb (code / 4096) w) (set marks (code % 4096) true) marks

-- what is marked once a code is put, was so before or is that code
put_only : (marks : List Bool) (w a b : ℕ) → at_code (put_code marks w a) w b ≡ true → (at_code marks w b ≡ true) ⊎ (b ≡ a)
put_only marks w a b h = by_first (eqb (a / 4096) w) refl h
  where
    by_second : (t : Bool) → eqb (b / 4096) w ≡ t → eqb (a / 4096) w ≡ true → cond t (get_or (set marks (a % 4096) true) (b % 4096) false) false ≡ true →
        (cond t (get_or marks (b % 4096) false) false ≡ true) ⊎ (b ≡ a)
    by_second false f e h = absurd (false≢true h)
    by_second true f e h =
        ⊎_elim
        (λ same. inr (same_code b a w (same_number (b / 4096) w f) (same_number (a / 4096) w e) same))
        (λ other. inl (sym (get_or-set_other marks (a % 4096) (b % 4096) true false other) ∙ h))
        (cases_eq (b % 4096) (a % 4096))

    by_first : (t : Bool) → eqb (a / 4096) w ≡ t → at_code (cond t (set marks (a % 4096) true) marks) w b ≡ true → (at_code marks w b ≡ true) ⊎ (b ≡ a)
    by_first false e h = inl h
    by_first true e h = by_second (eqb (b / 4096) w) refl e h

-- a code of the window is marked once it is put
put_itself : (marks : List Bool) (w a : ℕ) → length marks ≡ 4096 → a / 4096 ≡ w → at_code (put_code marks w a) w a ≡ true
put_itself marks w a len h = by_test (eqb (a / 4096) w) refl
  where
    by_test : (t : Bool) → eqb (a / 4096) w ≡ t → cond t (get_or (cond t (set marks (a % 4096) true) marks) (a % 4096) false) false ≡ true
    by_test true e = get_or-set_same marks (a % 4096) true false (omega (arith, len))
    by_test false e = absurd (other_number (a / 4096) w e h)

-- what is marked stays so
put_keeps : (marks : List Bool) (w a b : ℕ) → length marks ≡ 4096 → at_code marks w b ≡ true → at_code (put_code marks w a) w b ≡ true
put_keeps marks w a b len h = by_first (eqb (a / 4096) w)
  where
    by_second : (t : Bool) → cond t (get_or marks (b % 4096) false) false ≡ true → cond t (get_or (set marks (a % 4096) true) (b % 4096) false) false ≡ true
    by_second false h = absurd (false≢true h)
    by_second true h =
        ⊎_elim
        (λ same. ap (λ p. get_or (set marks (a % 4096) true) p false) same ∙ get_or-set_same marks (a % 4096) true false (omega (arith, len)))
        (λ other. get_or-set_other marks (a % 4096) (b % 4096) true false other ∙ h)
        (cases_eq (b % 4096) (a % 4096))

    by_first : (t : Bool) → at_code (cond t (set marks (a % 4096) true) marks) w b ≡ true
    by_first false = h
    by_first true = by_second (eqb (b / 4096) w) h

-- nothing is marked at first
none_marked : (n w : ℕ) (l : Literal) → is_marked (replicate n false) w l ≡ false
none_marked n w l = by_test (eqb (code_of l / 4096) w)
  where
    nothing : (p : ℕ) → get_or (replicate n false) p false ≡ false
    nothing p = ⊎_elim (λ inside. get_or-replicate n p false false inside) (λ outside. get_or_past (replicate n false) p false (omega (arith, length-replicate {A = Bool} n false))) (cases_lt p n)

    by_test : (t : Bool) → cond t (get_or (replicate n false) (code_of l % 4096) false) false ≡ false
    by_test true = nothing (code_of l % 4096)
    by_test false = refl

module _ (w : ℕ) where
  -- what is marked by a list was so before or is in it
  only : (ls : List Literal) (marks : List Bool) (l : Literal) → is_marked (fold (marked w) marks ls) w l ≡ true → (is_marked marks w l ≡ true) ⊎ Contains ls l
  only [] marks l h = inl h
  only (m ∷ ms) marks l h =
      ⊎_elim
      (λ before. ⊎_elim
      (λ was. inl was)
      (λ same. inr (0, omega arith, sym (code_of-injective l m same)))
      (put_only marks w (code_of m) (code_of l) before))
      (λ has. inr (Contains-cons m ms l has))
      (only ms (marked w marks m) l h)

  stays : (ls : List Literal) (marks : List Bool) (l : Literal) → length marks ≡ 4096 → is_marked marks w l ≡ true → is_marked (fold (marked w) marks ls) w l ≡ true
  stays [] marks l len h = h
  stays (m ∷ ms) marks l len h = stays ms (marked w marks m) l (length-marked w marks m ∙ len) (put_keeps marks w (code_of m) (code_of l) len h)

  -- each of the list whose code is in the window is marked
  every : (ls : List Literal) (marks : List Bool) (l : Literal) (i : ℕ) → length marks ≡ 4096 → code_of l / 4096 ≡ w → i < length ls → get_or ls i l ≡ l →
      is_marked (fold (marked w) marks ls) w l ≡ true
  every [] marks l i len h lt e = absurd (omega (arith, lt))
  every (m ∷ ms) marks l zero len h lt e =
      stays ms (marked w marks m) l (length-marked w marks m ∙ len) (subst (λ x. is_marked (marked w marks x) w l ≡ true) (sym e) (put_itself marks w (code_of l) len h))
  every (m ∷ ms) marks l (suc i) len h lt e = every ms (marked w marks m) l i (length-marked w marks m ∙ len) h (omega (arith, lt)) e

module _ (p : Literal → Bool) where
  passes : (ls : List Literal) (k : ℕ) (d : Literal) → list_all p ls ≡ true → k < length ls → p (get_or ls k d) ≡ true
  passes ls k d h lt = by_test (p (get_or ls k d)) refl
    where
      by_test : (t : Bool) → p (get_or ls k d) ≡ t → t ≡ true
      by_test true e = refl
      by_test false e = absurd (false≢true (sym (list_all_at p ls k d lt e) ∙ h))

  all_pass : (ls : List Literal) → ((k : ℕ) (d : Literal) → k < length ls → p (get_or ls k d) ≡ true) → list_all p ls ≡ true
  all_pass [] h = refl
  all_pass (l ∷ ls) h = and_from (p l) (list_all p ls) (h 0 l (omega arith)) (all_pass ls (λ k d lt. h (suc k) d (omega (arith, lt))))

not_false : (b : Bool) → (b ≡ true → ⊥) → not b ≡ true
not_false true h = absurd (h refl)
not_false false h = refl

module _ (w n : ℕ) (ls : List Literal) (marks : List Bool) (e : marks ≡ fold (marked w) (replicate n false) ls) (len : n ≡ 4096) where
  has_marked : (l : Literal) → is_marked marks w l ≡ true → Contains ls l
  has_marked l h =
      ⊎_elim
      (λ before. absurd (false≢true (sym (none_marked n w l) ∙ before)))
      (λ has. has)
      (only w ls (replicate n false) l (sym (ap (λ m. is_marked m w l) e) ∙ h))

  is_there : (l : Literal) → code_of l / 4096 ≡ w → Contains ls l → is_marked marks w l ≡ true
  is_there l h has = ap (λ m. is_marked m w l) e ∙ every w ls (replicate n false) l has.0 (length-replicate {A = Bool} n false ∙ len) h has.1 has.2

  -- the opposite of none is marked where each lacks its opposite in the window
  pub lacking : list_all (λ l. not (is_marked marks w (opposite l))) ls ≡ true → All (LacksIn w ls) ls
  lacking h = λ k d lt. record { absent = λ at has. both_ways (is_marked marks w (opposite (get_or ls k d))) (not-true (is_marked marks w (opposite (get_or ls k d))) (passes (λ l. not (is_marked marks w (opposite l))) ls k d h lt)) (is_there (opposite (get_or ls k d)) at has) }

  in_window : (l : Literal) → is_marked marks w l ≡ true → code_of l / 4096 ≡ w
  in_window l h = by_test (eqb (code_of l / 4096) w) refl h
    where
      by_test : (t : Bool) → eqb (code_of l / 4096) w ≡ t → cond t (get_or marks (code_of l % 4096) false) false ≡ true → code_of l / 4096 ≡ w
      by_test true f h = same_number (code_of l / 4096) w f
      by_test false f h = absurd (false≢true h)

  pub unmarked : All (LacksIn w ls) ls → list_all (λ l. not (is_marked marks w (opposite l))) ls ≡ true
  unmarked h =
      all_pass (λ l. not (is_marked marks w (opposite l))) ls
      (λ k d lt. not_false (is_marked marks w (opposite (get_or ls k d)))
      (λ is. (h k d lt).absent (in_window (opposite (get_or ls k d)) is) (has_marked (opposite (get_or ls k d)) is)))

-- a table keeps its places
pub length-marked_all : (w n : ℕ) (ls : List Literal) (marks : List Bool) → length marks ≡ n → length (fold (marked w) marks ls) ≡ n
length-marked_all w n [] marks e = e
length-marked_all w n (l ∷ ls) marks e = length-marked_all w n ls (marked w marks l) (length-marked w marks l ∙ e)

-- in the table of the first window a literal of it is marked where it is in the list
module _ (n : ℕ) (ls : List Literal) (marks : List Bool) (e : marks ≡ fold (marked 0) (replicate n false) ls) (len : n ≡ 4096) where
  pub places : length marks ≡ 4096
  places = ap length e ∙ length-marked_all 0 n ls (replicate n false) (length-replicate {A = Bool} n false) ∙ len

  pub in_list : (l : Literal) → is_marked marks 0 l ≡ true → Contains ls l
  in_list = has_marked 0 n ls marks e len

  pub in_table : (l : Literal) → code_of l < 4096 → Contains ls l → is_marked marks 0 l ≡ true
  in_table l h has = is_there 0 n ls marks e len l (first (code_of l) h) has
    where
      first : (code : ℕ) → code < 4096 → code / 4096 ≡ 0
      first code h = omega (arith, h)

pub lacks_in_each : (ls : List Literal) (w : ℕ) → HasNoOpposites ls → All (LacksIn w ls) ls
lacks_in_each ls w h = λ k d lt. record { absent = λ at has. (h k d lt).absent has }

-- no literal with an opposite in any of the windows that have all
pub lacks_in_all : (ls : List Literal) (n i : ℕ) → n ≤ i → All (λ l. code_of l / 4096 < n) ls → ((w : ℕ) → w < i → All (LacksIn w ls) ls) → HasNoOpposites ls
lacks_in_all ls n i le within h =
    λ k d lt. record {
      absent = λ has.
          let inside : code_of (opposite (get_or ls k d)) / 4096 < n = All-contains (λ l. code_of l / 4096 < n) ls (opposite (get_or ls k d)) within has in
          (h (code_of (opposite (get_or ls k d)) / 4096) (omega (arith, inside, le)) k d lt).absent refl has;
    }

-- the windows up to that of the highest variable have all
code_within : (v n : ℕ) (b : Bool) → v ≤ n → (2 * v + cond b 1 0) / 4096 < n / 2048 + 1
code_within v n true h = omega (arith, h)
code_within v n false h = omega (arith, h)

pub all_within : (n : ℕ) (ls : List Literal) → All (IsUpTo n) ls → All (λ l. code_of l / 4096 < n / 2048 + 1) ls
all_within n ls h = λ k d lt. code_within (get_or ls k d).var n (get_or ls k d).negated (h k d lt)
