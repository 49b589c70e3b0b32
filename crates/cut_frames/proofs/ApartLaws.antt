-- A list whose variables are numbered apart says what the list says.
use Rattle.std.proofs.Common.{◌≡◌, ◌≤◌, ◌<◌, ◌⊎◌, inl, inr, ℕ, zero, suc, ◌+◌, ◌-◌, ◌^◌, Bool, true, false, List, [], ◌∷◌, refl, sym, ◌∙◌, ap, subst, arith, ◌++◌}
use Rattle.std.specs.Prelude.{nat_le, if◌then◌else◌, All, IsTrue}
use Rattle.std.proofs.lemmas.Bool.{cases_lt}
use Rattle.std.proofs.lemmas.List.Elements.{All-nil, All-cons, All-head, All-tail, All-weaker}
use Rattle.sat_clauses.specs.Literal.{Literal}
use Rattle.sat_clauses.specs.Derivation.{IsUpTo}
use Rattle.sat_clauses.specs.Models.{TotalAssignment, literal_value, clause_value, all_true, values_of}
use Rattle.sat_clauses.specs.declared.system.System.{System}
use Rattle.sat_solver.specs.declared.solve.Verdict.{Verdict}
use Rattle.sat_solver.specs.declared.solve.Verdict.TheVariants.{Sat, Unsat}
use Rattle.sat_clauses.specs.Assignment.{Assignment}
use Rattle.sat_simplify.specs.SamePlaces.{IsMet, AreMetAlike, HasNoHigherVariable}
use Rattle.cut_frames.specs.OwnVariables.{apart, apart_literal, apart_clause, apart_list, apart_system, IsMetFrame, IsMetBeside, IsFound, IsFoundAlone, IsExcluded, IsPlace, IsKept}
use Rattle.cut_frames.specs.Condition.{IsLow, IsNear}
use Rattle.cut_frames.specs.GuardedSearch.{Meets, MeetAlike, MeetsFrame, MeetsBeside, IsModelOf, IsLoneModelOf, IsCoreOf, IsToldBy, places_of, IsHolding, AddsBad}
use Rattle.cut_frames.specs.declared.guarded.Guarded.{Guarded}
use Rattle.cut_frames.specs.declared.guarded.Beside.{Beside}
use Rattle.cut_frames.specs.declared.guarded.Beside.TheVariants.{Nothing, Step, Bad}

-- the three kinds of variables
apart_low : (p x : ℕ) → x < 2 → apart p x ≡ x + p + 1
apart_low p x lt = go (nat_le 2 x) refl
  where
    go : (b : Bool) → nat_le 2 x ≡ b → (if b then (if nat_le x p then x else x + 2) else x + p + 1) ≡ x + p + 1
    go true e = absurd (grind (arith, lt, e))
    go false e = refl

pub apart_place : (p x : ℕ) → 2 ≤ x → x ≤ p → apart p x ≡ x
apart_place p x low high = go (nat_le 2 x) (nat_le x p) refl refl
  where
    go : (a b : Bool) → nat_le 2 x ≡ a → nat_le x p ≡ b → (if a then (if b then x else x + 2) else x + p + 1) ≡ x
    go true true e f = refl
    go true false e f = absurd (grind (arith, high, f))
    go false b e f = absurd (grind (arith, low, e))

apart_high : (p x : ℕ) → 2 ≤ x → p < x → apart p x ≡ x + 2
apart_high p x low high = go (nat_le 2 x) (nat_le x p) refl refl
  where
    go : (a b : Bool) → nat_le 2 x ≡ a → nat_le x p ≡ b → (if a then (if b then x else x + 2) else x + p + 1) ≡ x + 2
    go true true e f = absurd (grind (arith, high, f))
    go true false e f = refl
    go false b e f = absurd (grind (arith, low, e))

clause_apart : (v : TotalAssignment) (p : ℕ) (c : List Literal) → clause_value v (apart_clause p c) ≡ clause_value (λ x. v (apart p x)) c
clause_apart v p [] = refl
clause_apart v p (l ∷ c) = let more = clause_apart v p c in rw more refl

list_apart : (v : TotalAssignment) (p : ℕ) (list : List (List Literal)) → all_true v (apart_list p list) ≡ all_true (λ x. v (apart p x)) list
list_apart v p [] = refl
list_apart v p (c ∷ list) = let one = clause_apart v p c in let more = list_apart v p list in rw (one, more) refl

clause_equal : (v w : TotalAssignment) (c : List Literal) → ((x : ℕ) → v x ≡ w x) → clause_value v c ≡ clause_value w c
clause_equal v w [] f = refl
clause_equal v w (l ∷ c) f = let one : v l.var ≡ w l.var = f l.var in let more = clause_equal v w c f in rw (one, more) refl

list_equal : (v w : TotalAssignment) (list : List (List Literal)) → ((x : ℕ) → v x ≡ w x) → all_true v list ≡ all_true w list
list_equal v w [] f = refl
list_equal v w (c ∷ list) f = let one = clause_equal v w c f in let more = list_equal v w list f in rw (one, more) refl

pub from_apart : (p : ℕ) (list : List (List Literal)) (v : TotalAssignment) → Meets p (apart_list p list) v → IsMet p list v
from_apart p list v m = record {
  values = λ x. m.values (apart p x);
  agree = λ x low high. ap m.values (apart_place p x low high) ∙ m.agree x high;
  all = sym (list_apart m.values p list) ∙ m.all;
}

-- the values of the places, and those of a list's own variables where these stand apart
abbrev back_to : ℕ → TotalAssignment → TotalAssignment → TotalAssignment
back_to p v w y = if nat_le y p then v y else (if nat_le y (p + 2) then w (y - p - 1) else w (y - 2))

back_place : (p : ℕ) (v w : TotalAssignment) (y : ℕ) → y ≤ p → back_to p v w y ≡ v y
back_place p v w y le = go (nat_le y p) refl
  where
    go : (b : Bool) → nat_le y p ≡ b → (if b then v y else (if nat_le y (p + 2) then w (y - p - 1) else w (y - 2))) ≡ v y
    go true e = refl
    go false e = absurd (grind (arith, le, e))

back_low : (p : ℕ) (v w : TotalAssignment) (x : ℕ) → x < 2 → back_to p v w (x + p + 1) ≡ w x
back_low p v w x lt = go (nat_le (x + p + 1) p) (nat_le (x + p + 1) (p + 2)) refl refl
  where
    less : (x p : ℕ) → x + p + 1 - p - 1 ≡ x
    less x p = omega arith

    go : (a b : Bool) → nat_le (x + p + 1) p ≡ a → nat_le (x + p + 1) (p + 2) ≡ b → (if a then v (x + p + 1) else (if b then w (x + p + 1 - p - 1) else w (x + p + 1 - 2))) ≡ w x
    go true b e f = absurd (grind (arith, e))
    go false true e f = ap w (less x p)
    go false false e f = absurd (grind (arith, lt, f))

back_high : (p : ℕ) (v w : TotalAssignment) (x : ℕ) → p < x → back_to p v w (x + 2) ≡ w x
back_high p v w x lt = go (nat_le (x + 2) p) (nat_le (x + 2) (p + 2)) refl refl
  where
    less : (x : ℕ) → x + 2 - 2 ≡ x
    less x = omega arith

    go : (a b : Bool) → nat_le (x + 2) p ≡ a → nat_le (x + 2) (p + 2) ≡ b → (if a then v (x + 2) else (if b then w (x + 2 - p - 1) else w (x + 2 - 2))) ≡ w x
    go true b e f = absurd (grind (arith, lt, e))
    go false true e f = absurd (grind (arith, lt, f))
    go false false e f = ap w (less x)

pub to_apart : (p : ℕ) (list : List (List Literal)) (v : TotalAssignment) → IsMet p list v → Meets p (apart_list p list) v
to_apart p list v m = record {
  values = back_to p v m.values;
  agree = λ x le. back_place p v m.values x le;
  all = list_apart (back_to p v m.values) p list ∙ list_equal (λ x. back_to p v m.values (apart p x)) m.values list (λ x. same x (cases_lt x 2) (cases_lt p x)) ∙ m.all;
}
  where
    same : (x : ℕ) → (x < 2) ⊎ (2 ≤ x) → (p < x) ⊎ (x ≤ p) → back_to p v m.values (apart p x) ≡ m.values x
    same x (inl lt) o = ap (back_to p v m.values) (apart_low p x lt) ∙ back_low p v m.values x lt
    same x (inr low) (inl high) = ap (back_to p v m.values) (apart_high p x low high) ∙ back_high p v m.values x high
    same x (inr low) (inr le) = ap (back_to p v m.values) (apart_place p x low le) ∙ back_place p v m.values x le ∙ sym (m.agree x low le)

module _ (system : System) (list : List (List Literal)) (fs : List (List (List Literal))) where
  frame_from : (i : ℕ) (v : TotalAssignment) → MeetsFrame (apart_system system) fs i v → IsMetFrame system fs i v
  frame_from zero v m = from_apart (places_of system) system.first v m
  frame_from (suc i) v m = m

  frame_to : (i : ℕ) (v : TotalAssignment) → IsMetFrame system fs i v → MeetsFrame (apart_system system) fs i v
  frame_to zero v m = to_apart (places_of system) system.first v m
  frame_to (suc i) v m = m

  beside_from : (b : Beside) (v : TotalAssignment) → MeetsBeside (apart_system system) (apart_list (places_of system) list) b v → IsMetBeside system list b v
  beside_from Nothing v m = m
  beside_from Step v m = from_apart (places_of system) system.step v m
  beside_from Bad v m = from_apart (places_of system) list v m

  beside_to : (b : Beside) (v : TotalAssignment) → IsMetBeside system list b v → MeetsBeside (apart_system system) (apart_list (places_of system) list) b v
  beside_to Nothing v m = m
  beside_to Step v m = to_apart (places_of system) system.step v m
  beside_to Bad v m = to_apart (places_of system) list v m

  found : (b : Beside) (i : ℕ) (as' : List Literal) (a : Assignment) → IsModelOf (apart_system system) (apart_list (places_of system) list) fs b i as' a → IsFound system list fs b i as' a
  found b i as' a m = record { frame = frame_from i _ m.frame; beside = beside_from b _ m.beside; assumed = m.assumed }

  -- values that were found in no frame
  pub found_alone : (b : Beside) (one other : List Literal) (a : Assignment) → one ≡ other → IsLoneModelOf (apart_system system) (apart_list (places_of system) list) b one a → IsFoundAlone system list b other a
  found_alone b one other a e m = record { beside = beside_from b _ m.beside; assumed = subst (All (λ l. IsTrue (literal_value (values_of a) l))) e m.assumed }

  excluded : (b : Beside) (i : ℕ) (as' core : List Literal) → IsCoreOf (apart_system system) (apart_list (places_of system) list) fs b i as' core → IsExcluded system list fs b i as' core
  excluded b i as' core k = record { negated = k.negated; follows = λ v m n. k.follows v (frame_to i v m) (beside_to b v n) }

  -- a verdict, by which it is
  pub sat_told : (b : Beside) (i : ℕ) (one other : List Literal) (v : Verdict) (a : Assignment) → one ≡ other → v ≡ Sat a → IsToldBy (apart_system system) (apart_list (places_of system) list) fs b i one v → IsFound system list fs b i other a
  sat_told b i one other v a e f t = found b i other a
      (subst (IsToldBy (apart_system system) (apart_list (places_of system) list) fs b i other) f (subst (λ ls. IsToldBy (apart_system system) (apart_list (places_of system) list) fs b i ls v) e t))

  pub unsat_told : (b : Beside) (i : ℕ) (one other : List Literal) (v : Verdict) (core : List Literal) → one ≡ other → v ≡ Unsat core → IsToldBy (apart_system system) (apart_list (places_of system) list) fs b i one v → IsExcluded system list fs b i other core
  unsat_told b i one other v core e f t = excluded b i other core
      (subst (IsToldBy (apart_system system) (apart_list (places_of system) list) fs b i other) f (subst (λ ls. IsToldBy (apart_system system) (apart_list (places_of system) list) fs b i ls v) e t))

-- variables that are low stay small
near_literal : (p : ℕ) (l : Literal) → p < 2 ^ 31 → IsLow l → IsNear (apart_literal p l)
near_literal p l small low = by_case (cases_lt l.var 2) (cases_lt p l.var)
  where
    one : (x p : ℕ) → x < 2 → p < 2 ^ 31 → x + p + 1 < 2 ^ 32
    one x p lt small = omega (arith, lt, small)

    two : (x : ℕ) → x < 2 ^ 31 → x < 2 ^ 32
    two x low = omega (arith, low)

    three : (x : ℕ) → x < 2 ^ 31 → x + 2 < 2 ^ 32
    three x low = omega (arith, low)

    by_case : (l.var < 2) ⊎ (2 ≤ l.var) → (p < l.var) ⊎ (l.var ≤ p) → IsNear (apart_literal p l)
    by_case (inl lt) o = subst (λ n. n < 2 ^ 32) (sym (apart_low p l.var lt)) (one l.var p lt small)
    by_case (inr le) (inl high) = subst (λ n. n < 2 ^ 32) (sym (apart_high p l.var le high)) (three l.var low)
    by_case (inr le) (inr high) = subst (λ n. n < 2 ^ 32) (sym (apart_place p l.var le high)) (two l.var low)

near_clause : (p : ℕ) (c : List Literal) → p < 2 ^ 31 → All IsLow c → All IsNear (apart_clause p c)
near_clause p [] small a = All-nil IsNear
near_clause p (l ∷ c) small a = All-cons IsNear (apart_literal p l) (apart_clause p c) (near_literal p l small (All-head IsLow l c a)) (near_clause p c small (All-tail IsLow l c a))

pub near_list : (p : ℕ) (list : List (List Literal)) → p < 2 ^ 31 → All (All IsLow) list → All (All IsNear) (apart_list p list)
near_list p [] small a = All-nil (All IsNear)
near_list p (c ∷ list) small a = All-cons (All IsNear) (apart_clause p c) (apart_list p list) (near_clause p c small (All-head (All IsLow) c list a)) (near_list p list small (All-tail (All IsLow) c list a))

-- a simpler list, its variables apart
pub simpler_low : (list simple : List (List Literal)) → HasNoHigherVariable list simple → All (All IsLow) list → All (All IsLow) simple
simpler_low list simple low all =
    All-weaker (All (IsUpTo most)) (All IsLow) (λ c up. All-weaker (IsUpTo most) IsLow (λ l le. back l.var le) c up) simple
    (low.at most (All-weaker (All IsLow) (All (IsUpTo most)) (λ c below. All-weaker IsLow (IsUpTo most) (λ l lt. there l.var lt) c below) list all))
  where
    most : ℕ
    most = 2 ^ 31 - 1

    there : (x : ℕ) → x < 2 ^ 31 → x ≤ 2 ^ 31 - 1
    there x lt = omega (arith, lt)

    back : (x : ℕ) → x ≤ 2 ^ 31 - 1 → x < 2 ^ 31
    back x le = omega (arith, le)

pub simpler_near : (p : ℕ) (list simple apart : List (List Literal)) → p < 2 ^ 31 → All (All IsLow) list → HasNoHigherVariable list simple → apart ≡ apart_list p simple → All (All IsNear) apart
simpler_near p list simple apart small all low is = subst (All (All IsNear)) (sym is) (near_list p simple small (simpler_low list simple low all))

pub simpler_alike : (p : ℕ) (list simple apart : List (List Literal)) → AreMetAlike p list simple → apart ≡ apart_list p simple → MeetAlike p (apart_list p list) apart
simpler_alike p list simple apart same is = subst (MeetAlike p (apart_list p list)) (sym is) (record {
  stays = λ v m. to_apart p simple v ((same v).0 (from_apart p list v m));
  back = λ v m. to_apart p list v ((same v).1 (from_apart p simple v m));
})

-- a clause over states and inputs keeps its variables
places_apart : (p : ℕ) (c : List Literal) → All (IsPlace p) c → apart_clause p c ≡ c
places_apart p [] a = refl
places_apart p (l ∷ c) a =
    let h = All-head (IsPlace p) l c a in
    ap (λ (x : ℕ). record { var = x; negated = l.negated } ∷ apart_clause p c) (apart_place p l.var h.0 h.1) ∙ ap (λ (d : List Literal). l ∷ d) (places_apart p c (All-tail (IsPlace p) l c a))

pub list_more : (p : ℕ) (list : List (List Literal)) (c : List Literal) → All (IsPlace p) c → apart_list p (list ++ c ∷ []) ≡ apart_list p list ++ c ∷ []
list_more p [] c a = ap (λ (d : List Literal). d ∷ []) (places_apart p c a)
list_more p (d ∷ list) c a = ap (λ (ls : List (List Literal)). apart_clause p d ∷ ls) (list_more p list c a)

-- a clause over states and inputs more among the bad states' clauses, over lists whose variables are apart
pub more_kept : (system : System) (asked : List (List Literal)) (c : List Literal) (frames : List (List (List Literal))) (old new : Guarded) → AddsBad old new c → All (IsPlace (places_of system)) c →
    IsKept system asked frames old → IsKept system (asked ++ c ∷ []) frames new
more_kept system asked c frames old new adds a h =
    subst (λ (ls : List (List Literal)). IsHolding (apart_system system) ls frames new) (sym (list_more (places_of system) asked c a)) (adds (apart_system system) (apart_list (places_of system) asked) frames h)
