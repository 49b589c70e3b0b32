-- Each turn of the look-ups leaves less to do.
use Rattle.std.proofs.Common.{◌≡◌, ℕ, zero, suc, ◌+◌, ◌<◌, ◌≤◌, arith, Bool, true, false, ◌||◌, eqb-true, eq-eqb, ◌==◌, if◌then◌else◌, List, [], ◌∷◌, ◌++◌, length, refl, sym, ◌∙◌, ap, subst, ◌⊎◌, inl, inr}
use Rattle.std.specs.Prelude.{slice_get}
use Rattle.std.proofs.lemmas.List.{length-set}
use Rattle.std.proofs.lemmas.List.Folds.{list_any-append}
use Rattle.smv_scope.specs.TableLookUps.{formal_or}
use Rattle.smv_scope.specs.KnownFormals.{rows_with, formal_of, IsOpen}
use Rattle.smv_scope.specs.WaitingLookUps.{is_of, has_frame, circled, AreSettled, left_of, row_left, rows_left, work, IsTurn}
use Rattle.smv_scope.specs.declared.names.Formal.{Formal}
use Rattle.smv_scope.specs.declared.names.Formal.TheVariants as known
use Rattle.smv_scope.specs.declared.formals.LookUpFrame.{LookUpFrame}
use Rattle.smv_scope.proofs.Told.{IsChanged, changed}
use Rattle.std.proofs.lemmas.Bool.{or_left, or_right, and_parts as and_both, and_from as and_true}
use Rattle.smv_language.proofs.BoolLaws.{or_cases}

-- sums over as many formals
abbrev pub SameShape : List (List Formal) → List (List Formal) → Type 0
SameShape [] [] = Unit {0}
SameShape [] (r ∷ rs) = ⊥
SameShape (r ∷ rs) [] = ⊥
SameShape (r ∷ rs) (r' ∷ rs') = (length r ≡ length r') × SameShape rs rs'

pub shape_same : (rs : List (List Formal)) → SameShape rs rs
shape_same [] = tt
shape_same (r ∷ rs) = (refl, shape_same rs)

pub shape_with : (rs : List (List Formal)) (k i : ℕ) (f : Formal) → SameShape rs (rows_with rs k i f)
shape_with [] k i f = tt
shape_with (r ∷ rs) zero i f = (sym (length-set r i f), shape_same rs)
shape_with (r ∷ rs) (suc k) i f = (refl, shape_with rs k i f)

shape_then : (a b c : List (List Formal)) → SameShape a b → SameShape b c → SameShape a c
shape_then [] [] [] h g = tt
shape_then [] [] (z ∷ c) h g = absurd g
shape_then [] (y ∷ b) c h g = absurd h
shape_then (x ∷ a) [] c h g = absurd h
shape_then (x ∷ a) (y ∷ b) [] h g = absurd g
shape_then (x ∷ a) (y ∷ b) (z ∷ c) h g = (h.0 ∙ g.0, shape_then a b c h.1 g.1)

pub shape_circled : (rs : List (List Formal)) (fs : List LookUpFrame) → SameShape rs (circled rs fs)
shape_circled rs [] = shape_same rs
shape_circled rs (f ∷ fs) = shape_then rs (circled rs fs) (circled rs (f ∷ fs)) (shape_circled rs fs) (shape_with (circled rs fs) f.spot f.formal known.Circle)

row_less : (each each' : ℕ → Formal → ℕ) (r r' : List Formal) → length r ≡ length r' →
    ((i : ℕ) → each' i (formal_or (slice_get r' i)) ≤ each i (formal_or (slice_get r i))) → row_left each' r' ≤ row_left each r
row_less each each' [] [] e h = omega arith
row_less each each' [] (f' ∷ r') e h = absurd (omega (arith, e))
row_less each each' (f ∷ r) [] e h = absurd (omega (arith, e))
row_less each each' (f ∷ r) (f' ∷ r') e h =
    let same : length r ≡ length r' = omega (arith, e) in
    let first : each' 0 f' ≤ each 0 f = h 0 in
    let rest : row_left (λ i. each' (suc i)) r' ≤ row_left (λ i. each (suc i)) r = row_less (λ i. each (suc i)) (λ i. each' (suc i)) r r' same (λ i. h (suc i)) in
    let all : each' 0 f' + row_left (λ i. each' (suc i)) r' ≤ each 0 f + row_left (λ i. each (suc i)) r = omega (arith, first, rest) in all

row_fewer : (each each' : ℕ → Formal → ℕ) (r r' : List Formal) → length r ≡ length r' →
    ((i : ℕ) → each' i (formal_or (slice_get r' i)) ≤ each i (formal_or (slice_get r i))) →
    (i d : ℕ) → IsOpen (formal_or (slice_get r i)) → each' i (formal_or (slice_get r' i)) + d ≤ each i (formal_or (slice_get r i)) → row_left each' r' + d ≤ row_left each r
row_fewer each each' [] r' e h i d is less = absurd is
row_fewer each each' (f ∷ r) [] e h i d is less = absurd (omega (arith, e))
row_fewer each each' (f ∷ r) (f' ∷ r') e h zero d is less =
    let same : length r ≡ length r' = omega (arith, e) in
    let first : each' 0 f' + d ≤ each 0 f = less in
    let rest : row_left (λ i. each' (suc i)) r' ≤ row_left (λ i. each (suc i)) r = row_less (λ i. each (suc i)) (λ i. each' (suc i)) r r' same (λ i. h (suc i)) in
    let all : each' 0 f' + row_left (λ i. each' (suc i)) r' + d ≤ each 0 f + row_left (λ i. each (suc i)) r = omega (arith, first, rest) in all
row_fewer each each' (f ∷ r) (f' ∷ r') e h (suc i) d is less =
    let same : length r ≡ length r' = omega (arith, e) in
    let first : each' 0 f' ≤ each 0 f = h 0 in
    let rest : row_left (λ i. each' (suc i)) r' + d ≤ row_left (λ i. each (suc i)) r = row_fewer (λ i. each (suc i)) (λ i. each' (suc i)) r r' same (λ i. h (suc i)) i d is less in
    let all : each' 0 f' + row_left (λ i. each' (suc i)) r' + d ≤ each 0 f + row_left (λ i. each (suc i)) r = omega (arith, first, rest) in all

rows_less : (each each' : ℕ → ℕ → Formal → ℕ) (rs rs' : List (List Formal)) → SameShape rs rs' →
    ((k i : ℕ) → each' k i (formal_of rs' k i) ≤ each k i (formal_of rs k i)) → rows_left each' rs' ≤ rows_left each rs
rows_less each each' [] [] e h = omega arith
rows_less each each' [] (r' ∷ rs') e h = absurd e
rows_less each each' (r ∷ rs) [] e h = absurd e
rows_less each each' (r ∷ rs) (r' ∷ rs') e h =
    let first : row_left (each' 0) r' ≤ row_left (each 0) r = row_less (each 0) (each' 0) r r' e.0 (λ i. h 0 i) in
    let rest : rows_left (λ k. each' (suc k)) rs' ≤ rows_left (λ k. each (suc k)) rs = rows_less (λ k. each (suc k)) (λ k. each' (suc k)) rs rs' e.1 (λ k i. h (suc k) i) in
    let all : row_left (each' 0) r' + rows_left (λ k. each' (suc k)) rs' ≤ row_left (each 0) r + rows_left (λ k. each (suc k)) rs = omega (arith, first, rest) in all

rows_fewer : (each each' : ℕ → ℕ → Formal → ℕ) (rs rs' : List (List Formal)) → SameShape rs rs' →
    ((k i : ℕ) → each' k i (formal_of rs' k i) ≤ each k i (formal_of rs k i)) →
    (k i d : ℕ) → IsOpen (formal_of rs k i) → each' k i (formal_of rs' k i) + d ≤ each k i (formal_of rs k i) → rows_left each' rs' + d ≤ rows_left each rs
rows_fewer each each' [] rs' e h k i d is less = absurd is
rows_fewer each each' (r ∷ rs) [] e h k i d is less = absurd e
rows_fewer each each' (r ∷ rs) (r' ∷ rs') e h zero i d is less =
    let first : row_left (each' 0) r' + d ≤ row_left (each 0) r = row_fewer (each 0) (each' 0) r r' e.0 (λ i. h 0 i) i d is less in
    let rest : rows_left (λ k. each' (suc k)) rs' ≤ rows_left (λ k. each (suc k)) rs = rows_less (λ k. each (suc k)) (λ k. each' (suc k)) rs rs' e.1 (λ k i. h (suc k) i) in
    let all : row_left (each' 0) r' + rows_left (λ k. each' (suc k)) rs' + d ≤ row_left (each 0) r + rows_left (λ k. each (suc k)) rs = omega (arith, first, rest) in all
rows_fewer each each' (r ∷ rs) (r' ∷ rs') e h (suc k) i d is less =
    let first : row_left (each' 0) r' ≤ row_left (each 0) r = row_less (each 0) (each' 0) r r' e.0 (λ i. h 0 i) in
    let rest : rows_left (λ k. each' (suc k)) rs' + d ≤ rows_left (λ k. each (suc k)) rs =
    rows_fewer (λ k. each (suc k)) (λ k. each' (suc k)) rs rs' e.1 (λ k i. h (suc k) i) k i d is less in
    let all : row_left (each' 0) r' + rows_left (λ k. each' (suc k)) rs' + d ≤ row_left (each 0) r + rows_left (λ k. each (suc k)) rs = omega (arith, first, rest) in all

-- what one formal takes
waits_less : (b b' : Bool) → (b ≡ true → b' ≡ true) → (if b' then 1 else 3) ≤ (if b then 1 else 3)
waits_less true true h = let one : 1 ≤ 1 = omega arith in one
waits_less true false h = let bad : false ≡ true = h refl in cc
waits_less false true h = let one : 1 ≤ 3 = omega arith in one
waits_less false false h = let three : 3 ≤ 3 = omega arith in three

open_left : (b : Bool) (f : Formal) → IsOpen f → left_of b f ≡ (if b then 1 else 3)
open_left b known.Unknown is = refl
open_left b known.Begun is = refl
open_left b known.Circle is = absurd is
open_left b (known.Means f) is = absurd is

left_less : (b b' : Bool) (f f' : Formal) → (IsOpen f' → IsOpen f) → (IsOpen f' → b ≡ true → b' ≡ true) → left_of b' f' ≤ left_of b f
left_less b b' f known.Unknown settled waits = subst (λ n. (if b' then 1 else 3) ≤ n) (sym (open_left b f (settled tt))) (waits_less b b' (waits tt))
left_less b b' f known.Begun settled waits = subst (λ n. (if b' then 1 else 3) ≤ n) (sym (open_left b f (settled tt))) (waits_less b b' (waits tt))
left_less b b' f known.Circle settled waits = let none : 0 ≤ left_of b f = omega arith in none
left_less b b' f (known.Means m) settled waits = let none : 0 ≤ left_of b f = omega arith in none

begun_left : (f : Formal) → left_of true f ≤ 1
begun_left known.Unknown = let one : 1 ≤ 1 = omega arith in one
begun_left known.Begun = let one : 1 ≤ 1 = omega arith in one
begun_left known.Circle = let none : 0 ≤ 1 = omega arith in none
begun_left (known.Means m) = let none : 0 ≤ 1 = omega arith in none

told_left : (b : Bool) (f : Formal) → (IsOpen f → ⊥) → left_of b f ≡ 0
told_left b known.Unknown told = absurd (told tt)
told_left b known.Begun told = absurd (told tt)
told_left b known.Circle told = refl
told_left b (known.Means m) told = refl

pub of_frame : (k i : ℕ) (f : LookUpFrame) → is_of k i f ≡ true → (f.spot ≡ k) × (f.formal ≡ i)
of_frame k i f h =
    let both : ((f.spot == k) ≡ true) × ((f.formal == i) ≡ true) = and_both (f.spot == k) (f.formal == i) h in (eqb-true f.spot k both.0, eqb-true f.formal i both.1)

pub own_frame : (k i : ℕ) (f : LookUpFrame) → f.spot ≡ k → f.formal ≡ i → is_of k i f ≡ true
own_frame k i f e d = and_true (f.spot == k) (f.formal == i) (eq-eqb f.spot k e) (eq-eqb f.formal i d)

has_end : (fs : List LookUpFrame) (f : LookUpFrame) (k i : ℕ) → has_frame (fs ++ f ∷ []) k i ≡ (has_frame fs k i || (is_of k i f || false))
has_end fs f k i = list_any-append (is_of k i) fs (f ∷ [])

pub has_below : (fs : List LookUpFrame) (f : LookUpFrame) (k i : ℕ) → has_frame fs k i ≡ true → has_frame (fs ++ f ∷ []) k i ≡ true
has_below fs f k i h = has_end fs f k i ∙ or_left (has_frame fs k i) (is_of k i f || false) h

pub has_last : (fs : List LookUpFrame) (f : LookUpFrame) (k i : ℕ) → f.spot ≡ k → f.formal ≡ i → has_frame (fs ++ f ∷ []) k i ≡ true
has_last fs f k i e d = has_end fs f k i ∙ or_right (has_frame fs k i) (is_of k i f || false) (or_left (is_of k i f) false (own_frame k i f e d))

pub has_split : (fs : List LookUpFrame) (f : LookUpFrame) (k i : ℕ) → has_frame (fs ++ f ∷ []) k i ≡ true → (has_frame fs k i ≡ true) ⊎ ((f.spot ≡ k) × (f.formal ≡ i))
has_split fs f k i h = by_end (or_cases (has_frame fs k i) (is_of k i f || false) (sym (has_end fs f k i) ∙ h))
  where
    by_own : (is_of k i f ≡ true) ⊎ (false ≡ true) → (has_frame fs k i ≡ true) ⊎ ((f.spot ≡ k) × (f.formal ≡ i))
    by_own (inl e) = inr (of_frame k i f e)
    by_own (inr e) = let bad : false ≡ true = e in cc

    by_end : (has_frame fs k i ≡ true) ⊎ ((is_of k i f || false) ≡ true) → (has_frame fs k i ≡ true) ⊎ ((f.spot ≡ k) × (f.formal ≡ i))
    by_end (inl e) = inl e
    by_end (inr e) = by_own (or_cases (is_of k i f) false e)

-- a turn
module _ (rs rs' : List (List Formal)) (fs fs' : List LookUpFrame) (shape : SameShape rs rs') (settled : AreSettled rs rs')
    (waits : (k i : ℕ) → IsOpen (formal_of rs' k i) → has_frame fs k i ≡ true → has_frame fs' k i ≡ true) where
  each_less : (k i : ℕ) → left_of (has_frame fs' k i) (formal_of rs' k i) ≤ left_of (has_frame fs k i) (formal_of rs k i)
  each_less k i = left_less (has_frame fs k i) (has_frame fs' k i) (formal_of rs k i) (formal_of rs' k i) (settled k i) (waits k i)

  pub turn_shorter : length fs' < length fs → IsTurn rs rs' fs fs'
  turn_shorter shorter =
      let less : rows_left (λ k i f. left_of (has_frame fs' k i) f) rs' ≤ rows_left (λ k i f. left_of (has_frame fs k i) f) rs =
      rows_less (λ k i f. left_of (has_frame fs k i) f) (λ k i f. left_of (has_frame fs' k i) f) rs rs' shape each_less in
      let all : rows_left (λ k i f. left_of (has_frame fs' k i) f) rs' + length fs' < rows_left (λ k i f. left_of (has_frame fs k i) f) rs + length fs = omega (arith, less, shorter) in
      record { settled = settled; waits = waits; less = all }

  pub turn_fewer : (k i d : ℕ) → IsOpen (formal_of rs k i) → left_of (has_frame fs' k i) (formal_of rs' k i) + d ≤ left_of (has_frame fs k i) (formal_of rs k i) → length fs' < length fs + d → IsTurn rs rs' fs fs'
  turn_fewer k i d is fewer room =
      let less : rows_left (λ k i f. left_of (has_frame fs' k i) f) rs' + d ≤ rows_left (λ k i f. left_of (has_frame fs k i) f) rs =
      rows_fewer (λ k i f. left_of (has_frame fs k i) f) (λ k i f. left_of (has_frame fs' k i) f) rs rs' shape each_less k i d is fewer in
      let all : rows_left (λ k i f. left_of (has_frame fs' k i) f) rs' + length fs' < rows_left (λ k i f. left_of (has_frame fs k i) f) rs + length fs = omega (arith, less, room) in
      record { settled = settled; waits = waits; less = all }

  work_less : length fs' ≤ length fs → work rs' fs' ≤ work rs fs
  work_less shorter =
      let less : rows_left (λ k i f. left_of (has_frame fs' k i) f) rs' ≤ rows_left (λ k i f. left_of (has_frame fs k i) f) rs =
      rows_less (λ k i f. left_of (has_frame fs k i) f) (λ k i f. left_of (has_frame fs' k i) f) rs rs' shape each_less in
      let all : rows_left (λ k i f. left_of (has_frame fs' k i) f) rs' + length fs' ≤ rows_left (λ k i f. left_of (has_frame fs k i) f) rs + length fs = omega (arith, less, shorter) in all

length_end : (fs : List LookUpFrame) (f : LookUpFrame) → length (fs ++ f ∷ []) ≡ suc (length fs)
length_end [] f = refl
length_end (g ∷ fs) f = ap suc (length_end fs f)

-- answered formals stay so
pub settled_with : (rs : List (List Formal)) (k i : ℕ) (f : Formal) → (IsOpen f → IsOpen (formal_of rs k i)) → AreSettled rs (rows_with rs k i f)
settled_with rs k i f may k' i' is = by_change (changed rs k i f k' i')
  where
    by_change : IsChanged rs k i f k' i' → IsOpen (formal_of rs k' i')
    by_change (inl e) = subst IsOpen e is
    by_change (inr e) = subst IsOpen (ap (λ n. formal_of rs n i) (sym e.0) ∙ ap (formal_of rs k') (sym e.1)) (may (subst IsOpen e.2 is))

pub settled_circled : (rs : List (List Formal)) (fs : List LookUpFrame) → AreSettled rs (circled rs fs)
settled_circled rs [] = λ k i is. is
settled_circled rs (f ∷ fs) = λ k i is. settled_circled rs fs k i (settled_with (circled rs fs) f.spot f.formal known.Circle (λ h. absurd h) k i is)

-- the topmost look-up is done
pub popped_turn : (rs rs' : List (List Formal)) (fs : List LookUpFrame) (f : LookUpFrame) → SameShape rs rs' → AreSettled rs rs' → (IsOpen (formal_of rs' f.spot f.formal) → ⊥) → IsTurn rs rs' (fs ++ f ∷ []) fs
popped_turn rs rs' fs f shape settled told =
    turn_shorter rs rs' (fs ++ f ∷ []) fs shape settled
    (λ k i is h. by_split k i is (has_split fs f k i h))
    (let one : length (fs ++ f ∷ []) ≡ suc (length fs) = length_end fs f in omega (arith, one))
  where
    by_split : (k i : ℕ) → IsOpen (formal_of rs' k i) → (has_frame fs k i ≡ true) ⊎ ((f.spot ≡ k) × (f.formal ≡ i)) → has_frame fs k i ≡ true
    by_split k i is (inl h) = h
    by_split k i is (inr e) = absurd (told (subst IsOpen (ap (λ n. formal_of rs' n i) (sym e.0) ∙ ap (formal_of rs' f.spot) (sym e.1)) is))

-- another look-up begins
pub begun_turn : (rs rs' : List (List Formal)) (fs : List LookUpFrame) (f : LookUpFrame) (k i : ℕ) → rs' ≡ rows_with rs k i known.Begun → IsOpen (formal_of rs k i) → has_frame fs k i ≡ false → f.spot ≡ k → f.formal ≡ i →
    IsTurn rs rs' fs (fs ++ f ∷ [])
begun_turn rs rs' fs f k i made is fresh spot formal =
    turn_fewer rs rs' fs (fs ++ f ∷ []) (subst (SameShape rs) (sym made) (shape_with rs k i known.Begun))
    (subst (AreSettled rs) (sym made) (settled_with rs k i known.Begun (λ h. is))) (λ k' i' open' h. has_below fs f k' i' h) k i 2 is fewer
    (let one : length (fs ++ f ∷ []) ≡ suc (length fs) = length_end fs f in omega (arith, one))
  where
    fewer : left_of (has_frame (fs ++ f ∷ []) k i) (formal_of rs' k i) + 2 ≤ left_of (has_frame fs k i) (formal_of rs k i)
    fewer =
        let now : left_of (has_frame (fs ++ f ∷ []) k i) (formal_of rs' k i) ≤ 1 =
        subst (λ b. left_of b (formal_of rs' k i) ≤ 1) (sym (has_last fs f k i spot formal)) (begun_left (formal_of rs' k i)) in
        let before : left_of (has_frame fs k i) (formal_of rs k i) ≡ 3 = ap (λ b. left_of b (formal_of rs k i)) fresh ∙ open_left false (formal_of rs k i) is in
        omega (arith, now, before)

-- a circle closes
pub closed_turn : (rs rs' : List (List Formal)) (fs : List LookUpFrame) (k i : ℕ) → SameShape rs rs' → AreSettled rs rs' → IsOpen (formal_of rs k i) → has_frame fs k i ≡ true → (IsOpen (formal_of rs' k i) → ⊥) → IsTurn rs rs' fs fs
closed_turn rs rs' fs k i shape settled is waits told =
    turn_fewer rs rs' fs fs shape settled (λ k' i' open' h. h) k i 1 is fewer (omega arith)
  where
    fewer : left_of (has_frame fs k i) (formal_of rs' k i) + 1 ≤ left_of (has_frame fs k i) (formal_of rs k i)
    fewer =
        let now : left_of (has_frame fs k i) (formal_of rs' k i) ≡ 0 = told_left (has_frame fs k i) (formal_of rs' k i) told in
        let before : left_of (has_frame fs k i) (formal_of rs k i) ≡ 1 = ap (λ b. left_of b (formal_of rs k i)) waits ∙ open_left true (formal_of rs k i) is in
        omega (arith, now, before)

-- the topmost look-up has gone on before the turn
pub turn_after : (rs rs' : List (List Formal)) (fs fs' : List LookUpFrame) (f g : LookUpFrame) → g.spot ≡ f.spot → g.formal ≡ f.formal → IsTurn rs rs' (fs ++ g ∷ []) fs' → IsTurn rs rs' (fs ++ f ∷ []) fs'
turn_after rs rs' fs fs' f g spot formal turn = record {
  settled = turn.settled;
  waits = λ k i is h. turn.waits k i is (same k i h);
  less =
      let less : work rs (fs ++ g ∷ []) ≤ work rs (fs ++ f ∷ []) =
      work_less rs rs (fs ++ f ∷ []) (fs ++ g ∷ []) (shape_same rs) (λ k i is. is) (λ k i is h. same k i h)
      (let one : length (fs ++ f ∷ []) ≡ suc (length fs) = length_end fs f in let two : length (fs ++ g ∷ []) ≡ suc (length fs) = length_end fs g in omega (arith, one, two)) in
      let turned : work rs' fs' < work rs (fs ++ g ∷ []) = turn.less in
      omega (arith, less, turned);
}
  where
    by_split : (k i : ℕ) → (has_frame fs k i ≡ true) ⊎ ((f.spot ≡ k) × (f.formal ≡ i)) → has_frame (fs ++ g ∷ []) k i ≡ true
    by_split k i (inl h) = has_below fs g k i h
    by_split k i (inr e) = has_last fs g k i (spot ∙ e.0) (formal ∙ e.1)

    same : (k i : ℕ) → has_frame (fs ++ f ∷ []) k i ≡ true → has_frame (fs ++ g ∷ []) k i ≡ true
    same k i h = by_split k i (has_split fs f k i h)
