-- What the watches of a clause keep where a literal is made true.
use Rattle.std.proofs.Common.{◌≡◌, ◌≢◌, ◌⊎◌, inl, inr, ⊎_elim, ℕ, ◌+◌, ◌≤◌, Bool, true, false, not, List, [], ◌∷◌, ◌++◌, length, get_or, take, Contains, Option, Some, None, refl, sym, ap, ◌∙◌, subst, arith}
use Rattle.std.specs.Option.{option_map}
use Rattle.std.proofs.lemmas.Bool.{cases_eq, cases_lt}
use Rattle.std.proofs.lemmas.List.{take-append-le, take_all, take-take, length-take, length-append, get_or-set_same, get_or-set_other}
use Rattle.std.proofs.lemmas.List.Elements.{All-contains}
use Rattle.sat_clauses.specs.Literal.{Literal, opposite, signed}
use Rattle.sat_clauses.specs.Code.{code_of}
use Rattle.sat_clauses.specs.Assignment.{Assignment, all_free, value_of}
use Rattle.sat_clauses.specs.Trail.{assigned_by, IsTrail}
use Rattle.sat_clauses.proofs.CodeLemmas.{code_of-injective}
use Rattle.sat_clauses.proofs.TrailLemmas.{assigned_from_push, value_later, was_free, length-assigned_from}
use Rattle.sat_clauses.proofs.DeriveTrailLemmas.{None-from_value}
use Rattle.sat_solver.specs.Watch.{IsWatch, HasTrue, HasCode, OthersFalse, IsReady, IsWatched}
use Rattle.sat_solver.specs.Pass.{is_hit, CanVisit, IsKept, IsNewList}
use Rattle.sat_solver.proofs.VisitLemmas.{not_hit_true, not_hit_free}
use Rattle.sat_solver.proofs.ExplainLemmas.{signed_opposite}
use Rattle.sat_clauses.proofs.FalseLemmas.{same_or_opposite, signed_not as signed_itself}

pub swap_watch : (f s : ℕ) (m : Literal) → IsWatch f s m → IsWatch s f m
swap_watch f s m (inl e) = inr e
swap_watch f s m (inr e) = inl e

swap_others : (a : Assignment) (c : List Literal) (f s : ℕ) → OthersFalse a c f s → OthersFalse a c s f
swap_others a c f s all = λ k d lt. either (get_or c k d) (all k d lt) where
  either : (m : Literal) → IsWatch f s m ⊎ (value_of a m ≡ Some false) → IsWatch s f m ⊎ (value_of a m ≡ Some false)
  either m (inl w) = inl (swap_watch f s m w)
  either m (inr z) = inr z

-- the two watches are alike
pub swap_watched : (vars : ℕ) (t : List Literal) (c : List Literal) (f s : ℕ) → IsWatched vars t c f s → IsWatched vars t c s f
swap_watched vars t c f s w = record {
  one_side = w.other_side;
  other_side = w.one_side;
  ready = λ k. record { ready = λ m listed is false_m. ⊎_elim (λ h. inl h) (λ all. inr (swap_others (assigned_by vars (take k t)) c f s all)) ((w.ready k).ready m listed (swap_watch s f m is) false_m) };
}

-- the place of the literal that was just made true
set_place : (vars : ℕ) (t : List Literal) (l : Literal) → IsTrail vars (t ++ l ∷ []) → get_or (assigned_by vars (t ++ l ∷ [])) l.var None ≡ Some (not l.negated)
set_place vars t l trail =
    let w = was_free (all_free vars) t l trail in
    ap (λ (a : Assignment). get_or a l.var None) (assigned_from_push (all_free vars) t l)
    ∙ get_or-set_same (assigned_by vars t) l.var (Some (not l.negated)) None (omega (arith, w.in_range, length-assigned_from (all_free vars) t))

-- a value from before stays
pub stays : (vars : ℕ) (t : List Literal) (l : Literal) → IsTrail vars (t ++ l ∷ []) → (m : Literal) (b : Bool) → value_of (assigned_by vars t) m ≡ Some b → value_of (assigned_by vars (t ++ l ∷ [])) m ≡ Some b
stays vars t l trail m b e =
    let first : take (length t) (t ++ l ∷ []) ≡ t = take-append-le (length t) t (l ∷ []) (omega arith) ∙ take_all (length t) t (omega arith) in
    value_later (all_free vars) (length t) (t ++ l ∷ []) m b trail (subst (λ (x : List Literal). value_of (assigned_by vars x) m ≡ Some b) (sym first) e)

pub opposite_false : (vars : ℕ) (t : List Literal) (l : Literal) → IsTrail vars (t ++ l ∷ []) → value_of (assigned_by vars (t ++ l ∷ [])) (opposite l) ≡ Some false
opposite_false vars t l trail = ap (option_map (signed (not l.negated))) (set_place vars t l trail) ∙ ap Some (signed_opposite l.negated)

pub itself_true : (vars : ℕ) (t : List Literal) (l : Literal) → IsTrail vars (t ++ l ∷ []) → value_of (assigned_by vars (t ++ l ∷ [])) l ≡ Some true
itself_true vars t l trail = ap (option_map (signed l.negated)) (set_place vars t l trail) ∙ ap Some (signed_itself l.negated)

-- a literal other than the opposite that is false was false before
pub was_false : (vars : ℕ) (t : List Literal) (l : Literal) → IsTrail vars (t ++ l ∷ []) → (m : Literal) → m ≢ opposite l → value_of (assigned_by vars (t ++ l ∷ [])) m ≡ Some false → value_of (assigned_by vars t) m ≡ Some false
was_false vars t l trail m other e = ⊎_elim
    (λ same. ⊎_elim (λ is. absurd (differ (sym (itself_true vars t l trail) ∙ (ap (value_of (assigned_by vars (t ++ l ∷ []))) (sym is) ∙ e)))) (λ is. absurd (other is)) (same_or_opposite m l same))
    (λ ne. ap (option_map (signed m.negated)) (sym (ap (λ (a : Assignment). get_or a m.var None) (assigned_from_push (all_free vars) t l) ∙ get_or-set_other (assigned_by vars t) l.var m.var (Some (not l.negated)) None ne)) ∙ e)
    (cases_eq m.var l.var)
  where
    differ : ◌≡◌ {A = Option Bool} (Some true) (Some false) → ⊥
    differ e = cc

-- the opposite was free before
pub not_false_before : (vars : ℕ) (t : List Literal) (l : Literal) → IsTrail vars (t ++ l ∷ []) → value_of (assigned_by vars t) (opposite l) ≢ Some false
not_false_before vars t l trail e =
    let w = was_free (all_free vars) t l trail in
    let place = None-from_value l.negated (get_or (assigned_by vars t) l.var None) w.free in
    differ (sym (ap (option_map (signed (not l.negated))) place) ∙ e)
  where
    differ : ◌≡◌ {A = Option Bool} None (Some false) → ⊥
    differ e = cc

has_true_stays : (vars : ℕ) (t : List Literal) (l : Literal) (c : List Literal) → IsTrail vars (t ++ l ∷ []) → HasTrue (assigned_by vars t) c → HasTrue (assigned_by vars (t ++ l ∷ [])) c
has_true_stays vars t l c trail h = record { literal = h.literal; listed = h.listed; is_true = stays vars t l trail h.literal true h.is_true }

others_stay : (vars : ℕ) (t : List Literal) (l : Literal) (c : List Literal) (f s : ℕ) → IsTrail vars (t ++ l ∷ []) → OthersFalse (assigned_by vars t) c f s → OthersFalse (assigned_by vars (t ++ l ∷ [])) c f s
others_stay vars t l c f s trail all = λ k d lt. either (get_or c k d) (all k d lt) where
  either : (m : Literal) → IsWatch f s m ⊎ (value_of (assigned_by vars t) m ≡ Some false) → IsWatch f s m ⊎ (value_of (assigned_by vars (t ++ l ∷ [])) m ≡ Some false)
  either m (inl w) = inl w
  either m (inr z) = inr (stays vars t l trail m false z)

-- what the watches keep after the trail as it was
ready_before : (vars : ℕ) (t : List Literal) (c : List Literal) (f s : ℕ) → IsWatched vars t c f s → IsReady (assigned_by vars t) c f s
ready_before vars t c f s w = subst (λ (x : List Literal). IsReady (assigned_by vars x) c f s) (take_all (length t) t (omega arith)) (w.ready (length t))

-- after a beginning of the longer trail: one of the old trail, or all of it
by_beginning : (vars : ℕ) (t : List Literal) (l : Literal) (P : Assignment → Type 0) → ((k : ℕ) → P (assigned_by vars (take k t))) → P (assigned_by vars (t ++ l ∷ [])) → (k : ℕ) → P (assigned_by vars (take k (t ++ l ∷ [])))
by_beginning vars t l P old new k = ⊎_elim
    (λ lt. subst (λ (x : List Literal). P (assigned_by vars x)) (sym (take-append-le k t (l ∷ []) (omega arith))) (old k))
    (λ le. subst (λ (x : List Literal). P (assigned_by vars x)) (sym (take_all k (t ++ l ∷ []) (omega (arith, length-append t (l ∷ []))))) new)
    (cases_lt k (length t + 1))

-- a clause that watches the literal which became false can be visited
pub can_visit : (vars : ℕ) (t : List Literal) (l : Literal) (c : List Literal) (other : ℕ) → IsTrail vars (t ++ l ∷ []) → 2 ≤ code_of (opposite l) → other ≢ 1 → IsWatched vars t c (code_of (opposite l)) other
    → CanVisit (assigned_by vars (t ++ l ∷ [])) c (opposite l) other
can_visit vars t l c other trail real no_spare w =
    let some : code_of (opposite l) ≢ 0 = λ z. absurd (omega arith) in
    let h = w.one_side.has some in
    record {
      listed = subst (Contains c) (code_of-injective h.literal (opposite l) h.coded) h.listed;
      is_false = opposite_false vars t l trail;
      apart = w.one_side.apart some;
      no_spare = no_spare;
      has = w.other_side.has;
      alone = w.other_side.alone;
      ready = λ m listed coded e.
          let old = was_false vars t l trail m (λ same. w.one_side.apart some (sym (sym coded ∙ ap code_of same))) e in
          ⊎_elim (λ b. inl (has_true_stays vars t l c trail b)) (λ all. inr (others_stay vars t l c (code_of (opposite l)) other trail all))
          ((ready_before vars t c (code_of (opposite l)) other w).ready m listed (inr coded) old);
    }

-- where it stays, or goes to another literal's list, it is watched as it should be
pub still_watched : (vars : ℕ) (t : List Literal) (l : Literal) (c : List Literal) (other new : ℕ) → IsTrail vars (t ++ l ∷ []) → 2 ≤ code_of (opposite l) → other ≢ 1 → IsWatched vars t c (code_of (opposite l)) other
    → IsNewList (assigned_by vars (t ++ l ∷ [])) c other (code_of (opposite l)) new → IsWatched vars (t ++ l ∷ []) c new other
still_watched vars t l c other new trail real no_spare w (inl h) =
    subst (λ x. IsWatched vars (t ++ l ∷ []) c x other) (sym h.0) (record {
      one_side = w.one_side;
      other_side = w.other_side;
      ready = by_beginning vars t l (λ a. IsReady a c (code_of (opposite l)) other) w.ready (record { ready = λ m listed is e. kept h.1 });
    })
  where
    kept : IsKept (assigned_by vars (t ++ l ∷ [])) c other → HasTrue (assigned_by vars (t ++ l ∷ [])) c ⊎ OthersFalse (assigned_by vars (t ++ l ∷ [])) c (code_of (opposite l)) other
    kept (inl b) = inl b
    kept (inr all) = inr (λ k d lt. ⊎_elim (λ e. inl (inr e)) (λ z. inr z) (all k d lt))
still_watched vars t l c other new trail real no_spare w (inr h) = record {
  one_side = record { has = λ ne. record { literal = h.literal; listed = h.listed; coded = h.coded }; apart = λ ne. h.apart; alone = λ z. absurd (let r = h.real in omega arith) };
  other_side = record {
    has = w.other_side.has;
    apart = λ ne e. h.apart (sym e);
    alone = λ z. absurd (not_opposite (All-contains (λ (m : Literal). code_of m ≡ code_of (opposite l)) c h.literal (w.other_side.alone z) h.listed));
  };
  ready = by_beginning vars t l (λ a. IsReady a c new other) (λ k. old k) all_of_it;
} where
  a : Assignment
  a = assigned_by vars (t ++ l ∷ [])

  not_opposite : code_of h.literal ≡ code_of (opposite l) → ⊥
  not_opposite e = h.not_false (ap (value_of (assigned_by vars (t ++ l ∷ []))) (code_of-injective h.literal (opposite l) e) ∙ opposite_false vars t l trail)

  -- it can't be that all but the two old ones are false
  not_others : (b : Assignment) → (value_of b h.literal ≡ Some false → value_of (assigned_by vars (t ++ l ∷ [])) h.literal ≡ Some false) → OthersFalse b c (code_of (opposite l)) other → ⊥
  not_others b later all = ⊎_elim
      (λ (is : IsWatch (code_of (opposite l)) other h.literal). ⊎_elim not_opposite (λ e. h.apart (sym h.coded ∙ e)) is)
      (λ z. h.not_false (later z))
      (All-contains (λ (m : Literal). IsWatch (code_of (opposite l)) other m ⊎ (value_of b m ≡ Some false)) c h.literal all h.listed)

  by_watch : (b : Assignment) (m : Literal) → (value_of b h.literal ≡ Some false → value_of (assigned_by vars (t ++ l ∷ [])) h.literal ≡ Some false) → value_of b m ≡ Some false
      → (code_of m ≡ other → HasTrue b c ⊎ OthersFalse b c (code_of (opposite l)) other) → IsWatch new other m → HasTrue b c ⊎ OthersFalse b c new other
  by_watch b m later e rest (inl is) = absurd (h.not_false (later (ap (value_of b) (code_of-injective h.literal m (h.coded ∙ sym is)) ∙ e)))
  by_watch b m later e rest (inr is) = ⊎_elim (λ x. inl x) (λ all. absurd (not_others b later all)) (rest is)

  old : (k : ℕ) → IsReady (assigned_by vars (take k t)) c new other
  old k = record {
    ready = λ m listed is e. by_watch (assigned_by vars (take k t)) m
        (λ z. stays vars t l trail h.literal false (value_later (all_free vars) k t h.literal false (was_free (all_free vars) t l trail).fresh z)) e
        (λ coded. (w.ready k).ready m listed (inr coded) e) is;
  }

  all_of_it : IsReady (assigned_by vars (t ++ l ∷ [])) c new other
  all_of_it = record {
    ready = λ m listed is e. by_watch (assigned_by vars (t ++ l ∷ [])) m (λ z. z) e
        (λ coded. (can_visit vars t l c other trail real no_spare w).ready m listed coded e) is;
  }

-- where the opposite is not watched, nothing changes
pub untouched : (vars : ℕ) (t : List Literal) (l : Literal) (c : List Literal) (f s : ℕ) → IsTrail vars (t ++ l ∷ []) → f ≢ code_of (opposite l) → s ≢ code_of (opposite l) → IsWatched vars t c f s → IsWatched vars (t ++ l ∷ []) c f s
untouched vars t l c f s trail not_f not_s w = record {
  one_side = w.one_side;
  other_side = w.other_side;
  ready = by_beginning vars t l (λ a. IsReady a c f s) w.ready (record {
    ready = λ m listed is e. ⊎_elim (λ b. inl (has_true_stays vars t l c trail b)) (λ all. inr (others_stay vars t l c f s trail all))
        ((ready_before vars t c f s w).ready m listed is (was_false vars t l trail m (λ same. other m is same) e));
  });
} where
  other : (m : Literal) → IsWatch f s m → m ≢ opposite l
  other m (inl e) same = not_f (sym e ∙ ap code_of same)
  other m (inr e) same = not_s (sym e ∙ ap code_of same)

-- a clause that contains the opposite and is hit watches it
pub watched_if_hit : (vars : ℕ) (t : List Literal) (l : Literal) (c : List Literal) (f s : ℕ) → IsTrail vars (t ++ l ∷ []) → IsWatched vars t c f s → Contains c (opposite l)
    → is_hit (assigned_by vars (t ++ l ∷ [])) c ≡ true → f ≢ code_of (opposite l) → s ≢ code_of (opposite l) → ⊥
watched_if_hit vars t l c f s trail w listed hit not_f not_s = ⊎_elim
    (λ z. not_s (sym (All-contains (λ (m : Literal). code_of m ≡ s) c (opposite l) (w.one_side.alone z) listed)))
    (λ nf. ⊎_elim
    (λ z. not_f (sym (All-contains (λ (m : Literal). code_of m ≡ f) c (opposite l) (w.other_side.alone z) listed)))
    (λ ns. both (w.one_side.has nf) (w.other_side.has ns) (value_of (assigned_by vars (t ++ l ∷ [])) (w.one_side.has nf).literal) (value_of (assigned_by vars (t ++ l ∷ [])) (w.other_side.has ns).literal) refl refl (w.one_side.apart nf))
    (cases_eq s 0)) (cases_eq f 0)
  where
    not_hit : is_hit (assigned_by vars (t ++ l ∷ [])) c ≡ false → ⊥
    not_hit e = differ (sym hit ∙ e) where
      differ : true ≡ false → ⊥
      differ e = cc

    a_false_one : (m : Literal) → Contains c m → IsWatch f s m → m ≢ opposite l → value_of (assigned_by vars (t ++ l ∷ [])) m ≡ Some false → ⊥
    a_false_one m in_m is other e = ⊎_elim
        (λ b. not_hit (not_hit_true (assigned_by vars (t ++ l ∷ [])) c (has_true_stays vars t l c trail b)))
        (λ (all : OthersFalse (assigned_by vars t) c f s). ⊎_elim (λ (x : IsWatch f s (opposite l)). ⊎_elim (λ e. not_f (sym e)) (λ e. not_s (sym e)) x) (λ z. not_false_before vars t l trail z)
        (All-contains (λ (m : Literal). IsWatch f s m ⊎ (value_of (assigned_by vars t) m ≡ Some false)) c (opposite l) all listed))
        ((ready_before vars t c f s w).ready m in_m is (was_false vars t l trail m other e))

    both : (x : HasCode c f) (y : HasCode c s) (o p : Option Bool) → value_of (assigned_by vars (t ++ l ∷ [])) x.literal ≡ o → value_of (assigned_by vars (t ++ l ∷ [])) y.literal ≡ p → f ≢ s → ⊥
    both x y (Some true) p e g apart = not_hit (not_hit_true (assigned_by vars (t ++ l ∷ [])) c (record { literal = x.literal; listed = x.listed; is_true = e }))
    both x y (Some false) p e g apart = a_false_one x.literal x.listed (inl x.coded) (λ same. not_f (sym x.coded ∙ ap code_of same)) e
    both x y None (Some true) e g apart = not_hit (not_hit_true (assigned_by vars (t ++ l ∷ [])) c (record { literal = y.literal; listed = y.listed; is_true = g }))
    both x y None (Some false) e g apart = a_false_one y.literal y.listed (inr y.coded) (λ same. not_s (sym y.coded ∙ ap code_of same)) g
    both x y None None e g apart = not_hit (not_hit_free (assigned_by vars (t ++ l ∷ [])) c x.literal y.literal x.listed y.listed (λ same. apart (sym x.coded ∙ (same ∙ y.coded))) e g)

-- taking literals back leaves all as it is
pub watched_undone : (vars : ℕ) (t : List Literal) (keep : ℕ) (c : List Literal) (f s : ℕ) → IsWatched vars t c f s → IsWatched vars (take keep t) c f s
watched_undone vars t keep c f s w = record {
  one_side = w.one_side;
  other_side = w.other_side;
  ready = λ k. ⊎_elim
      (λ lt. subst (λ (x : List Literal). IsReady (assigned_by vars x) c f s) (sym (take-take k keep t (omega arith))) (w.ready k))
      (λ le. subst (λ (x : List Literal). IsReady (assigned_by vars x) c f s) (sym (take_all k (take keep t) (omega (arith, length-take keep t)))) (w.ready keep))
      (cases_lt k keep);
}
