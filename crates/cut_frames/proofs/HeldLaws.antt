-- What a search over lists and frames under guards answers says the same of what is asked about alone.
use Rattle.std.proofs.Common.{◌≡◌, ◌⊎◌, inl, inr, ◌≤◌, ◌<◌, ℕ, zero, suc, ◌+◌, ◌-◌, nat_le, Bool, true, false, not, List, [], ◌∷◌, ◌++◌, refl, sym, ◌∙◌, ap, subst, arith, length}
use Rattle.std.specs.Prelude.{slice_index_or, Contains, All}
use Rattle.std.proofs.lemmas.Bool.Decides.{leb_tells}
use Rattle.std.proofs.lemmas.List.Elements.{All-contains, Contains-append_cases}
use Rattle.sat_clauses.specs.Literal.{Literal, plain, opposite}
use Rattle.sat_clauses.specs.Models.{TotalAssignment, literal_value, clause_value, Satisfies, FollowsFrom, IsBelow}
use Rattle.sat_clauses.proofs.ModelLemmas.{clause_value-same, literal_value-same, Satisfies-from_All, literal_value-opposite}
use Rattle.sat_clauses.specs.Derivation.{IsUpTo}
use Rattle.cut_frames.specs.Chain.{IsPart}
use Rattle.cut_frames.specs.FrameLists.{frame_at}
use Rattle.cut_frames.specs.Roles.{Listed, place, list_guard, gate, retired, renamed, renamed_clause, under_guard}
use Rattle.cut_frames.specs.Roles as roles
use Rattle.cut_frames.specs.Guards.{guards_next, IsCoveredUpTo, Layout, IsHeld, of_list, of_frame, of_next, of_retired, AreHeld, unguarded}
use Rattle.cut_frames.specs.GuardedSearch.{Meets}
use Rattle.cut_frames.proofs.RoleLaws.{order, first_in, later_in, renamed_low, renamed_high, renamed_value, unguards, unasked, anyway, Asked, spread, spread_at}
use Rattle.sat_clauses.proofs.ClauseLists.{member_true, covered_true}
use Rattle.base_values.proofs.ListLaws.{all_from}
use Rattle.sat_simplify.proofs.ClauseLaws.{true_literal, true_by}

-- a clause of literals up to a variable is over those below the next
pub below_next : (vars : ℕ) (c : List Literal) → All (IsUpTo vars) c → All (IsBelow (vars + 1)) c
below_next vars c low = λ k d lt. omega (arith, low k d lt)

-- some part of the clause stands in a frame and is true
pub record IsShown (l : Layout) (v : TotalAssignment) (c : List Literal) : Type 0 where
  pub frame : ℕ
  pub from_one : 0 < frame
  pub part : List Literal
  pub stands : Contains (frame_at l.frames frame) part
  pub is_part : IsPart part c
  pub holds : clause_value v part ≡ true

-- the values make what is asked about true: the guards of frames are so from one frame on, and their clauses, and the lists
pub record AreAsked (l : Layout) (q : Asked) (v : TotalAssignment) : Type 0 where
  pub next : (j : ℕ) → q.frame j ≡ true → q.frame (suc j) ≡ true
  pub frames : (j : ℕ) (c : List Literal) → 0 < j → q.frame j ≡ true → IsCoveredUpTo l.frames j c → IsShown l v c
  pub agree : (which : Listed) (x : ℕ) → q.list which ≡ true → x ≤ l.places → q.values which x ≡ v x
  pub lists : (which : Listed) (c : List Literal) → q.list which ≡ true → Contains (l.list which) c → clause_value (q.values which) c ≡ true

-- the literals of a core that are no guards
pub from_kept : (places : ℕ) (l : Literal) (c : List Literal) → Contains (unguarded places c) l → Contains c l × (l.var ≤ places)
from_kept places l [] m = absurd (omega (arith, m.1))
from_kept places l (k ∷ c) m = by_test (leb_tells k.var places) (λ r. from_kept places l c r)
  where
    by_test : ((nat_le k.var places ≡ true) × (k.var ≤ places)) ⊎ ((nat_le k.var places ≡ false) × (places < k.var)) → (Contains (unguarded places c) l → Contains c l × (l.var ≤ places)) → Contains (k ∷ c) l × (l.var ≤ places)
    by_test (inr f) more = let m' : Contains (unguarded places c) l = rw f.0 at m in let r = more m' in (later_in k l c r.0, r.1)
    by_test (inl t) more = let m' : Contains (k ∷ unguarded places c) l = rw t.0 at m in at m'.0 m'.1 m'.2
      where
        at : (p : ℕ) → p < length (k ∷ unguarded places c) → slice_index_or (k ∷ unguarded places c) p l ≡ l → Contains (k ∷ c) l × (l.var ≤ places)
        at zero lt e = (subst (Contains (k ∷ c)) e (first_in k c), subst (λ x. x.var ≤ places) e t.1)
        at (suc p) lt e = let r = more (p, (omega (arith, lt)), e) in (later_in k l c r.0, r.1)

pub into_kept : (places : ℕ) (l : Literal) (c : List Literal) → Contains c l → l.var ≤ places → Contains (unguarded places c) l
into_kept places l [] m le = absurd (omega (arith, m.1))
into_kept places l (k ∷ c) m le = by_test (leb_tells k.var places) (λ r. into_kept places l c r le)
  where
    by_test : ((nat_le k.var places ≡ true) × (k.var ≤ places)) ⊎ ((nat_le k.var places ≡ false) × (places < k.var)) → (Contains c l → Contains (unguarded places c) l) → Contains (unguarded places (k ∷ c)) l
    by_test (inl t) more = let goal : Contains (k ∷ unguarded places c) l = at m.0 m.1 m.2 in rw t.0 goal
      where
        at : (p : ℕ) → p < length (k ∷ c) → slice_index_or (k ∷ c) p l ≡ l → Contains (k ∷ unguarded places c) l
        at zero lt e = subst (Contains (k ∷ unguarded places c)) e (first_in k (unguarded places c))
        at (suc p) lt e = later_in k l (unguarded places c) (more (p, (omega (arith, lt)), e))
    by_test (inr f) more = let goal : Contains (unguarded places c) l = at m.0 m.1 m.2 in rw f.0 goal
      where
        at : (p : ℕ) → p < length (k ∷ c) → slice_index_or (k ∷ c) p l ≡ l → Contains (unguarded places c) l
        at zero lt e = absurd (over k.var l.var (ap (λ (x : Literal). x.var) e) f.1 le) where
          over : (x y : ℕ) → x ≡ y → places < x → y ≤ places → ⊥
          over x y e lt le = omega (arith, e, lt, le)
        at (suc p) lt e = more (p, (omega (arith, lt)), e)

module _ (l : Layout) (vars : ℕ) (added : List (List Literal)) (are : AreHeld l vars added) where
  at_place : (q : Asked) (v : TotalAssignment) (x : ℕ) → x ≤ l.places → spread q l.role v x ≡ v x
  at_place q v x le = spread_at q l.role v x place (are.is_place x le)

  at_gate : (q : Asked) (v : TotalAssignment) (which : Listed) (x : ℕ) → l.places < x → x ≤ l.top which → spread q l.role v (x - l.places + l.base which) ≡ q.values which x
  at_gate q v which x lt le = spread_at q l.role v (x - l.places + l.base which) (gate which x) (are.is_gate which x lt le)

  -- the values of a list that is asked about stand at its renamed variables
  at_renamed : (q : Asked) (v : TotalAssignment) (which : Listed) → AreAsked l q v → q.list which ≡ true → (x : ℕ) → x ≤ l.top which →
      spread q l.role v (renamed l.places (l.base which) x) ≡ q.values which x
  at_renamed q v which h on x le = by_order (order x l.places) where
    by_order : (x ≤ l.places) ⊎ (l.places < x) → spread q l.role v (renamed l.places (l.base which) x) ≡ q.values which x
    by_order (inl low) = ap (spread q l.role v) (renamed_low l.places (l.base which) x low) ∙ at_place q v x low ∙ sym (h.agree which x on low)
    by_order (inr high) = ap (spread q l.role v) (renamed_high l.places (l.base which) x high) ∙ at_gate q v which x high le

  -- where what is asked about is true, all added clauses are
  held_true : (q : Asked) (v : TotalAssignment) → AreAsked l q v → Satisfies (spread q l.role v) added
  held_true q v h = Satisfies-from_All w added (all_from (λ d. clause_value w d ≡ true) added (λ d m. of_kind d (are.each d m)))
    where
      w : TotalAssignment
      w = spread q l.role v

      kept : (d e : List Literal) → d ≡ e → clause_value w e ≡ true → clause_value w d ≡ true
      kept d e is t = ap (clause_value w) is ∙ t

      low_true : (c : List Literal) → All (IsUpTo l.places) c → clause_value v c ≡ true → clause_value w c ≡ true
      low_true c low t = clause_value-same (l.places + 1) v w c (λ x lt. at_place q v x (omega (arith, lt))) (below_next l.places c low) ∙ t

      list_true : (which : Listed) (c : List Literal) → q.list which ≡ true → Contains (l.list which) c → clause_value w (renamed_clause l.places (l.base which) c) ≡ true
      list_true which c on m =
          renamed_value w l.places (l.base which) c
          ∙ clause_value-same (l.top which + 1) (q.values which) (λ x. w (renamed l.places (l.base which) x)) c (λ x lt. at_renamed q v which h on x (omega (arith, lt)))
          (below_next (l.top which) c (are.list_low which c m))
          ∙ h.lists which c on m

      by_list : (which : Listed) (c : List Literal) (b : Bool) → q.list which ≡ b → Contains (l.list which) c → clause_value w (under_guard (l.guard which) (renamed_clause l.places (l.base which) c)) ≡ true
      by_list which c true on m = anyway w (l.guard which) (renamed_clause l.places (l.base which) c) (list_true which c on m)
      by_list which c false off m = unasked w (l.guard which) (renamed_clause l.places (l.base which) c) (spread_at q l.role v (l.guard which) (list_guard which) (are.is_guard which) ∙ off)

      shown_true : (c : List Literal) → IsShown l v c → clause_value w c ≡ true
      shown_true c s = covered_true w s.part c s.is_part (low_true s.part (are.frames_low s.frame s.part s.from_one s.stands) s.holds)

      by_frame : (x j : ℕ) (c : List Literal) (b : Bool) → q.frame j ≡ b → l.role x ≡ roles.frame_guard j → 0 < j → IsCoveredUpTo l.frames j c → clause_value w (under_guard x c) ≡ true
      by_frame x j c true on r lt s = anyway w x c (shown_true c (h.frames j c lt on s))
      by_frame x j c false off r lt s = unasked w x c (spread_at q l.role v x (roles.frame_guard j) r ∙ off)

      by_next : (x y j : ℕ) (b : Bool) → q.frame j ≡ b → l.role x ≡ roles.frame_guard j → l.role y ≡ roles.frame_guard (suc j) → clause_value w (guards_next x y) ≡ true
      by_next x y j true on r s =
          true_by w (guards_next x y) (plain y) (later_in (opposite (plain x)) (plain y) (plain y ∷ []) (first_in (plain y) []))
          (spread_at q l.role v y (roles.frame_guard (suc j)) s ∙ h.next j on)
      by_next x y j false off r s = unasked w x (plain y ∷ []) (spread_at q l.role v x (roles.frame_guard j) r ∙ off)

      of_kind : (d : List Literal) → IsHeld l d → clause_value w d ≡ true
      of_kind d (of_list which c e m) = kept d (under_guard (l.guard which) (renamed_clause l.places (l.base which) c)) e (by_list which c (q.list which) refl m)
      of_kind d (of_frame x j c e r lt s) = kept d (under_guard x c) e (by_frame x j c (q.frame j) refl r lt s)
      of_kind d (of_next x y j e r s) = kept d (guards_next x y) e (by_next x y j (q.frame j) refl r s)
      of_kind d (of_retired x m r) = true_by w d (opposite (plain x)) m (ap not (spread_at q l.role v x retired r))

  -- a list whose guard is true is met
  pub list_met : (which : Listed) (v : TotalAssignment) → Satisfies v added → v (l.guard which) ≡ true → Meets l.places (l.list which) v
  list_met which v t on = record {
    values = λ x. v (renamed l.places (l.base which) x);
    agree = λ x le. ap v (renamed_low l.places (l.base which) x le);
    all = Satisfies-from_All (λ x. v (renamed l.places (l.base which) x)) (l.list which) (all_from (λ c. clause_value (λ x. v (renamed l.places (l.base which) x)) c ≡ true) (l.list which) (λ c m. each c m));
  }
    where
      each : (c : List Literal) → Contains (l.list which) c → clause_value (λ x. v (renamed l.places (l.base which) x)) c ≡ true
      each c m =
          sym (renamed_value v l.places (l.base which) c)
          ∙ unguards v (l.guard which) (renamed_clause l.places (l.base which) c) on
          (member_true v added (under_guard (l.guard which) (renamed_clause l.places (l.base which) c)) t (are.has_list which c m))

  -- a frame from number 1 on whose guard is true is met
  pub frame_met : (i : ℕ) (v : TotalAssignment) → 0 < i → i < length l.frames → Satisfies v added → v (l.guard_at i) ≡ true → Satisfies v (frame_at l.frames i)
  frame_met i v some lt t on = Satisfies-from_All v (frame_at l.frames i) (all_from (λ c. clause_value v c ≡ true) (frame_at l.frames i) (λ c m. each c m))
    where
      later : (n : ℕ) → i + n < length l.frames → v (l.guard_at (i + n)) ≡ true
      later zero lt = subst (λ k. v (l.guard_at k) ≡ true) (omega arith) on
      later (suc n) lt =
          let before = later n (omega (arith, lt)) in
          let implied = unguards v (l.guard_at (i + n)) (plain (l.guard_at (suc (i + n))) ∷ []) before
          (member_true v added (guards_next (l.guard_at (i + n)) (l.guard_at (suc (i + n)))) t (are.has_next (i + n) (omega (arith, some)) (omega (arith, lt)))) in
          let one = true_literal v (plain (l.guard_at (suc (i + n))) ∷ []) implied in
          let is : one.0 ≡ plain (l.guard_at (suc (i + n))) = only_one one.0 (plain (l.guard_at (suc (i + n)))) one.1 in
          subst (λ k. v (l.guard_at k) ≡ true) (omega arith) (ap (literal_value v) (sym is) ∙ one.2)
        where
          only_one : (m k : Literal) → Contains (k ∷ []) m → m ≡ k
          only_one m k c = at c.0 c.1 c.2 where
            at : (p : ℕ) → p < 1 → slice_index_or (k ∷ []) p m ≡ m → m ≡ k
            at zero lt e = sym e
            at (suc p) lt e = absurd (omega (arith, lt))

      each : (c : List Literal) → Contains (frame_at l.frames i) c → clause_value v c ≡ true
      each c m =
          let u = are.has_frames i c some m in
          let on_there : v (l.guard_at (i + (u.at - i))) ≡ true = later (u.at - i) (within u.at i (length l.frames) u.from u.within) in
          let here : v (l.guard_at u.at) ≡ true = subst (λ k. v (l.guard_at k) ≡ true) (back u.at i u.from) on_there in
          unguards v (l.guard_at u.at) c here (member_true v added (under_guard (l.guard_at u.at) c) t u.is_added)
        where
          within : (k i n : ℕ) → i ≤ k → k < n → i + (k - i) < n
          within k i n le lt = omega (arith, le, lt)

          back : (k i : ℕ) → i ≤ k → i + (k - i) ≡ k
          back k i le = omega (arith, le)

  -- a core under guards that are asked about, without its guards
  pub core_follows : (q : Asked) (v : TotalAssignment) (guards assumptions core : List Literal) → AreAsked l q v → FollowsFrom added core →
      All (λ k. Contains (guards ++ assumptions) (opposite k)) core → ((g : Literal) → Contains guards g → literal_value (spread q l.role v) g ≡ true) → All (IsUpTo l.places) assumptions →
      clause_value v (unguarded l.places core) ≡ true
  core_follows q v guards assumptions core h follows negated on low =
      let one = true_literal w core (follows w (held_true q v h)) in
      by_order one.0 one.1 one.2 (order one.0.var l.places)
    where
      w : TotalAssignment
      w = spread q l.role v

      both : (b : Bool) → b ≡ true → not b ≡ true → ⊥
      both true a n = cc
      both false a n = cc

      high : (x : ℕ) → l.places < x → x ≤ l.places → ⊥
      high x lt le = omega (arith, lt, le)

      not_there : (m : Literal) → l.places < m.var → literal_value w m ≡ true → Contains guards (opposite m) ⊎ Contains assumptions (opposite m) → ⊥
      not_there m lt t (inl g) = both (literal_value w m) t (sym (literal_value-opposite w m) ∙ on (opposite m) g)
      not_there m lt t (inr a) = high m.var lt (All-contains (IsUpTo l.places) assumptions (opposite m) low a)

      by_order : (m : Literal) → Contains core m → literal_value w m ≡ true → (m.var ≤ l.places) ⊎ (l.places < m.var) → clause_value v (unguarded l.places core) ≡ true
      by_order m c t (inl le) =
          true_by v (unguarded l.places core) m (into_kept l.places m core c le)
          (sym (literal_value-same (l.places + 1) v w m (λ x lt. at_place q v x (omega (arith, lt))) (omega (arith, le))) ∙ t)
      by_order m c t (inr lt) = absurd (not_there m lt t
          (Contains-append_cases guards assumptions (opposite m) (All-contains (λ k. Contains (guards ++ assumptions) (opposite k)) core m negated c)))

-- the negated assumptions of a core under guards
pub core_negated : (places : ℕ) (guards assumptions core : List Literal) → ((g : Literal) → Contains guards g → places < g.var) → All (λ k. Contains (guards ++ assumptions) (opposite k)) core →
    All (λ k. Contains assumptions (opposite k)) (unguarded places core)
core_negated places guards assumptions core high negated = all_from (λ k. Contains assumptions (opposite k)) (unguarded places core) (λ k m. of_kept k (from_kept places k core m))
  where
    of_kept : (k : Literal) → Contains core k × (k.var ≤ places) → Contains assumptions (opposite k)
    of_kept k m = by_part (Contains-append_cases guards assumptions (opposite k) (All-contains (λ j. Contains (guards ++ assumptions) (opposite j)) core k negated m.0)) where
      over : (x : ℕ) → places < x → x ≤ places → ⊥
      over x lt le = omega (arith, lt, le)

      by_part : Contains guards (opposite k) ⊎ Contains assumptions (opposite k) → Contains assumptions (opposite k)
      by_part (inl g) = absurd (over k.var (high (opposite k) g) m.1)
      by_part (inr a) = a
