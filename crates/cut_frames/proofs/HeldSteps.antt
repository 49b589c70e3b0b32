-- What a search over lists and frames under guards holds, after each change of it.
use Rattle.std.proofs.Common.{◌≡◌, ◌⊎◌, inl, inr, ◌≤◌, ◌<◌, ℕ, zero, suc, ◌+◌, ◌-◌, nat_le, Bool, true, false, List, [], ◌∷◌, ◌++◌, refl, sym, ◌∙◌, ap, subst, arith, length, if◌then◌else◌, length-append}
use Rattle.std.specs.Prelude.{Contains, All}
use Rattle.std.proofs.lemmas.Bool.{le-leb, lt-leb}
use Rattle.std.proofs.lemmas.Bool.Decides.{leb_tells}
use Rattle.std.proofs.lemmas.List.Elements.{Contains-push, Contains-push_cases, Contains-append_left, Contains-append_right, Contains-append_cases}
use Rattle.sat_clauses.specs.Literal.{Literal, plain, opposite}
use Rattle.sat_clauses.specs.Derivation.{IsUpTo}
use Rattle.cut_frames.specs.Chain.{IsPart}
use Rattle.cut_frames.specs.FrameLists.{frame_at}
use Rattle.cut_frames.specs.Roles.{Listed, bad, Role, place, list_guard, gate, retired, unused, renamed_clause, under_guard}
use Rattle.cut_frames.specs.Roles as roles
use Rattle.cut_frames.specs.Guards.{guards_next, IsCovered, IsCoveredUpTo, IsOld, IsPut, Layout, IsHeld, of_list, of_frame, of_next, of_retired, IsUnder, AreHeld}
use Rattle.cut_frames.proofs.Sets.{part_itself, part_more}
use Rattle.cut_frames.proofs.RoleLaws.{first_in}
use Rattle.cut_frames.proofs.Framing.{frame_grown as frame_more}

-- the roles up to a variable as a function changes them, and others above it
abbrev pub grown : ℕ → (Role → Role) → (ℕ → Role) → (ℕ → Role) → ℕ → Role
grown vars f role more x = if nat_le x vars then f (role x) else more x

pub grown_low : (vars : ℕ) (f : Role → Role) (role more : ℕ → Role) (x : ℕ) (r : Role) → x ≤ vars → role x ≡ r → grown vars f role more x ≡ f r
grown_low vars f role more x r le e = let t : nat_le x vars ≡ true = le-leb x vars le in rw t (ap f e)

pub grown_high : (vars : ℕ) (f : Role → Role) (role more : ℕ → Role) (x : ℕ) → vars < x → grown vars f role more x ≡ more x
grown_high vars f role more x lt = let t : nat_le x vars ≡ false = lt-leb x vars lt in rw t refl

abbrev pub is_used : Role → Bool
is_used unused = false
is_used place = true
is_used (roles.frame_guard j) = true
is_used (list_guard which) = true
is_used (gate which n) = true
is_used retired = true

-- a variable that stands for something is not above the highest
pub grown_used : (vars : ℕ) (f : Role → Role) (role more : ℕ → Role) (x : ℕ) (r : Role) → ((y : ℕ) → vars < y → role y ≡ unused) → is_used r ≡ true → role x ≡ r → grown vars f role more x ≡ f r
grown_used vars f role more x r above used e = by_test (leb_tells x vars) where
  differ : false ≡ true → ⊥
  differ e = cc

  by_test : ((nat_le x vars ≡ true) × (x ≤ vars)) ⊎ ((nat_le x vars ≡ false) × (vars < x)) → grown vars f role more x ≡ f r
  by_test (inl t) = grown_low vars f role more x r t.1 e
  by_test (inr t) = absurd (differ (ap is_used (sym (above x t.1) ∙ e) ∙ used))

abbrev pub same_role : Role → Role
same_role r = r

-- the bad states that were asked about are so no more
abbrev pub retire_bad : Role → Role
retire_bad (list_guard bad) = retired
retire_bad (gate bad n) = retired
retire_bad r = r

-- the frames are asked about no more
abbrev pub retire_frames : Role → Role
retire_frames (roles.frame_guard j) = retired
retire_frames r = r

-- a clause that is held anyway may be added
pub held_push : (l : Layout) (vars : ℕ) (added : List (List Literal)) (d : List Literal) → AreHeld l vars added → IsHeld l d → AreHeld l vars (added ++ d ∷ [])
held_push l vars added d are held = record {
  is_place = are.is_place;
  is_unused = are.is_unused;
  is_guard = are.is_guard;
  is_gate = are.is_gate;
  is_frame = are.is_frame;
  list_low = are.list_low;
  frames_low = are.frames_low;
  each = λ e m. by_push e (Contains-push_cases added d e m);
  has_list = λ which c m. Contains-append_left added (d ∷ []) (under_guard (l.guard which) (renamed_clause l.places (l.base which) c)) (are.has_list which c m);
  has_frames = λ i c some m. under i c (are.has_frames i c some m);
  has_next = λ j some lt. Contains-append_left added (d ∷ []) (guards_next (l.guard_at j) (l.guard_at (suc j))) (are.has_next j some lt);
}
  where
    by_push : (e : List Literal) → Contains added e ⊎ (d ≡ e) → IsHeld l e
    by_push e (inl m) = are.each e m
    by_push e (inr is) = subst (IsHeld l) is held

    under : (i : ℕ) (c : List Literal) → IsUnder l added i c → IsUnder l (added ++ d ∷ []) i c
    under i c u = record { at = u.at; from = u.from; within = u.within; is_added = Contains-append_left added (d ∷ []) (under_guard (l.guard_at u.at) c) u.is_added }

-- the guards may be told by other functions of the same values
pub held_as : (l : Layout) (vars : ℕ) (added : List (List Literal)) (guard : Listed → ℕ) (at : ℕ → ℕ) → ((which : Listed) → guard which ≡ l.guard which) → ((i : ℕ) → i < length l.frames → at i ≡ l.guard_at i) → AreHeld l vars added →
    AreHeld (record l { guard = guard; guard_at = at }) vars added
held_as l vars added guard at same_guard same_at are = record {
  is_place = are.is_place;
  is_unused = are.is_unused;
  is_guard = λ which. ap l.role (same_guard which) ∙ are.is_guard which;
  is_gate = are.is_gate;
  is_frame = λ i some lt. ap l.role (same_at i lt) ∙ are.is_frame i some lt;
  list_low = are.list_low;
  frames_low = are.frames_low;
  each = λ d m. kind d (are.each d m);
  has_list = λ which c m. subst (λ x. Contains added (under_guard x (renamed_clause l.places (l.base which) c))) (sym (same_guard which)) (are.has_list which c m);
  has_frames = λ i c some m. under i c (are.has_frames i c some m);
  has_next = λ j some lt. subst (λ y. Contains added (guards_next (at j) y)) (sym (same_at (suc j) lt))
      (subst (λ x. Contains added (guards_next x (l.guard_at (suc j)))) (sym (same_at j (below j (length l.frames) lt))) (are.has_next j some lt));
}
  where
    below : (j n : ℕ) → suc j < n → j < n
    below j n lt = omega (arith, lt)

    kind : (d : List Literal) → IsHeld l d → IsHeld (record l { guard = guard; guard_at = at }) d
    kind d (of_list which c e m) = of_list which c (e ∙ ap (λ x. under_guard x (renamed_clause l.places (l.base which) c)) (sym (same_guard which))) m
    kind d (of_frame x j c e r some s) = of_frame x j c e r some s
    kind d (of_next x y j e r s) = of_next x y j e r s
    kind d (of_retired x m r) = of_retired x m r

    under : (i : ℕ) (c : List Literal) → IsUnder l added i c → IsUnder (record l { guard = guard; guard_at = at }) added i c
    under i c u = record { at = u.at; from = u.from; within = u.within; is_added = subst (λ x. Contains added (under_guard x c)) (sym (same_at u.at u.within)) u.is_added }

-- a clause of a frame covers each clause of which it is a part, and itself
covered_by : (frame : List (List Literal)) (c d : List Literal) → Contains frame c → IsPart c d → IsCovered frame d
covered_by frame c d m part = (m.0, c, m.1, m.2, part)

covered_itself : (frame : List (List Literal)) (c : List Literal) → Contains frame c → IsCovered frame c
covered_itself frame c m = covered_by frame c c m (part_itself c)

-- a clause more in the frames up to a number
pub held_put : (l : Layout) (vars : ℕ) (added : List (List Literal)) (j : ℕ) (c : List Literal) (now : List (List (List Literal))) → AreHeld l vars added → 0 < j → All (IsUpTo l.places) c → IsPut j c l.frames now →
    AreHeld (record l { frames = now }) vars (added ++ under_guard (l.guard_at j) c ∷ [])
held_put l vars added j c now are some low put = record {
  is_place = are.is_place;
  is_unused = are.is_unused;
  is_guard = are.is_guard;
  is_gate = are.is_gate;
  is_frame = λ i s lt. are.is_frame i s (subst (λ n. i < n) put.same lt);
  list_low = are.list_low;
  frames_low = λ i d s m. is_low i d s (put.only i d s m);
  each = λ d m. by_push d (Contains-push_cases added (under_guard (l.guard_at j) c) d m);
  has_list = λ which d m. Contains-append_left added (under_guard (l.guard_at j) c ∷ []) (under_guard (l.guard which) (renamed_clause l.places (l.base which) d)) (are.has_list which d m);
  has_frames = λ i d s m. under i d s (put.only i d s m);
  has_next = λ k s lt. Contains-append_left added (under_guard (l.guard_at j) c ∷ []) (guards_next (l.guard_at k) (l.guard_at (suc k))) (are.has_next k s (subst (λ n. suc k < n) put.same lt));
}
  where
    is_low : (i : ℕ) (d : List Literal) → 0 < i → IsOld j c l.frames i d → All (IsUpTo l.places) d
    is_low i d s (inl m) = are.frames_low i d s m
    is_low i d s (inr e) = subst (All (IsUpTo l.places)) (sym e.0) low

    -- where what covers a clause went, the new one covers it
    still : (i : ℕ) (d : List Literal) → 0 < i → IsCovered (frame_at l.frames i) d → IsCovered (frame_at now i) d
    still i d from (p, e, lt, is, part) = by_case (put.stays i e from (p, lt, is))
      where
        by_case : Contains (frame_at now i) e ⊎ ((i ≤ j) × IsPart c e) → IsCovered (frame_at now i) d
        by_case (inl m) = covered_by (frame_at now i) e d m part
        by_case (inr q) = covered_by (frame_at now i) c d (put.here i from q.0) (part_more c e d q.1 part)

    kind : (d : List Literal) → IsHeld l d → IsHeld (record l { frames = now }) d
    kind d (of_list which e f m) = of_list which e f m
    kind d (of_frame x k e f r s t) = of_frame x k e f r s (λ i from le. still i e from (t i from le))
    kind d (of_next x y k e r s) = of_next x y k e r s
    kind d (of_retired x m r) = of_retired x m r

    by_push : (d : List Literal) → Contains added d ⊎ (under_guard (l.guard_at j) c ≡ d) → IsHeld (record l { frames = now }) d
    by_push d (inl m) = kind d (are.each d m)
    by_push d (inr e) = of_frame (l.guard_at j) j c (sym e) (are.is_frame j some put.within) some (λ i from le. covered_itself (frame_at now i) c (put.here i from le))

    under : (i : ℕ) (d : List Literal) → 0 < i → IsOld j c l.frames i d → IsUnder (record l { frames = now }) (added ++ under_guard (l.guard_at j) c ∷ []) i d
    under i d s (inl m) = let u = are.has_frames i d s m in record {
      at = u.at;
      from = u.from;
      within = subst (λ n. u.at < n) (sym put.same) u.within;
      is_added = Contains-append_left added (under_guard (l.guard_at j) c ∷ []) (under_guard (l.guard_at u.at) d) u.is_added;
    }
    under i d s (inr e) = record {
      at = j;
      from = e.1;
      within = subst (λ n. j < n) (sym put.same) put.within;
      is_added = subst (λ x. Contains (added ++ under_guard (l.guard_at j) c ∷ []) (under_guard (l.guard_at j) x)) (sym e.0) (Contains-push added (under_guard (l.guard_at j) c));
    }

-- the frame of number 0 alone
pub held_again : (l : Layout) (vars : ℕ) (added : List (List Literal)) → AreHeld l vars added → AreHeld (record l { frames = [] ∷ []; role = λ x. retire_frames (l.role x) }) vars added
held_again l vars added are = record {
  is_place = λ x le. ap retire_frames (are.is_place x le);
  is_unused = λ x lt. ap retire_frames (are.is_unused x lt);
  is_guard = λ which. ap retire_frames (are.is_guard which);
  is_gate = λ which x lt le. ap retire_frames (are.is_gate which x lt le);
  is_frame = λ i some lt. absurd (omega (arith, some, lt));
  list_low = are.list_low;
  frames_low = λ i c some m. absurd (none i c some m);
  each = λ d m. kind d (are.each d m);
  has_list = are.has_list;
  has_frames = λ i c some m. absurd (none i c some m);
  has_next = λ j some lt. absurd (omega (arith, lt));
}
  where
    none : (i : ℕ) (c : List Literal) → 0 < i → Contains (frame_at ([] ∷ []) i) c → ⊥
    none zero c some m = omega (arith, some)
    none (suc i) c some m = omega (arith, m.1)

    kind : (d : List Literal) → IsHeld l d → IsHeld (record l { frames = [] ∷ []; role = λ x. retire_frames (l.role x) }) d
    kind d (of_list which c e m) = of_list which c e m
    kind d (of_frame x j c e r some s) = of_retired x (subst (λ b. Contains b (opposite (plain x))) (sym e) (first_in (opposite (plain x)) c)) (ap retire_frames r)
    kind d (of_next x y j e r s) = of_retired x (subst (λ b. Contains b (opposite (plain x))) (sym e) (first_in (opposite (plain x)) (plain y ∷ []))) (ap retire_frames r)
    kind d (of_retired x m r) = of_retired x m (ap retire_frames r)

-- the guard of a frame is false from now on, where the frames are asked about no more
pub again_past : (l : Layout) (vars : ℕ) (added : List (List Literal)) (i : ℕ) → AreHeld l vars added → 0 < i → i < length l.frames →
    AreHeld (record l { frames = [] ∷ []; role = λ x. retire_frames (l.role x) }) vars (added ++ (opposite (plain (l.guard_at i)) ∷ []) ∷ [])
again_past l vars added i are some lt = held_push (record l { frames = [] ∷ []; role = λ x. retire_frames (l.role x) }) vars added (opposite (plain (l.guard_at i)) ∷ []) (held_again l vars added are)
    (of_retired (l.guard_at i) (first_in (opposite (plain (l.guard_at i))) []) (ap retire_frames (are.is_frame i some lt)))

abbrev pub one_more : ℕ → Role → ℕ → Role
one_more vars r x = if nat_le x (vars + 1) then r else unused

more_there : (vars : ℕ) (r : Role) → one_more vars r (vars + 1) ≡ r
more_there vars r = let t : nat_le (vars + 1) (vars + 1) ≡ true = le-leb (vars + 1) (vars + 1) (omega arith) in rw t refl

more_above : (vars : ℕ) (r : Role) (x : ℕ) → vars + 1 < x → one_more vars r x ≡ unused
more_above vars r x lt = let t : nat_le x (vars + 1) ≡ false = lt-leb x (vars + 1) lt in rw t refl

pub grown_there : (vars : ℕ) (f : Role → Role) (role : ℕ → Role) (r : Role) → grown vars f role (one_more vars r) (vars + 1) ≡ r
grown_there vars f role r = grown_high vars f role (one_more vars r) (vars + 1) (omega arith) ∙ more_there vars r

pub grown_above : (vars : ℕ) (f : Role → Role) (role : ℕ → Role) (r : Role) (x : ℕ) → vars + 1 < x → grown vars f role (one_more vars r) x ≡ unused
grown_above vars f role r x lt = grown_high vars f role (one_more vars r) x (omega (arith, lt)) ∙ more_above vars r x lt

-- the roles where there is the guard of a frame more
abbrev pub with_frame : Layout → ℕ → ℕ → Role
with_frame l vars = grown vars same_role l.role (one_more vars (roles.frame_guard (length l.frames)))

-- a frame more, which has no clause, and that the last guard implies its own where it is not that of number 0
pub held_more : (l : Layout) (vars : ℕ) (added more : List (List Literal)) (at : ℕ → ℕ) → AreHeld l vars added → 0 < length l.frames → ((i : ℕ) → i < length l.frames → at i ≡ l.guard_at i) → at (length l.frames) ≡ vars + 1 →
    ((d : List Literal) → Contains more d → (d ≡ guards_next (l.guard_at (length l.frames - 1)) (vars + 1)) × (0 < length l.frames - 1)) →
    (0 < length l.frames - 1 → Contains more (guards_next (l.guard_at (length l.frames - 1)) (vars + 1))) →
    AreHeld (record l { frames = l.frames ++ [] ∷ []; guard_at = at; role = with_frame l vars }) (vars + 1) (added ++ more)
held_more l vars added more at are filled same_at last_at only next = record {
  is_place = λ x le. stays x place refl (are.is_place x le);
  is_unused = λ x lt. grown_above vars same_role l.role (roles.frame_guard (length l.frames)) x lt;
  is_guard = λ which. stays (l.guard which) (list_guard which) refl (are.is_guard which);
  is_gate = λ which x lt le. stays (x - l.places + l.base which) (gate which x) refl (are.is_gate which x lt le);
  is_frame = λ i some lt. is_frame i some (last_or i lt);
  list_low = are.list_low;
  frames_low = λ i c some m. are.frames_low i c some (shorter i c m);
  each = λ d m. by_part d (Contains-append_cases added more d m);
  has_list = λ which c m. Contains-append_left added more (under_guard (l.guard which) (renamed_clause l.places (l.base which) c)) (are.has_list which c m);
  has_frames = λ i c some m. under i c (are.has_frames i c some (shorter i c m));
  has_next = λ j some lt. has_next j some (last_or (suc j) lt);
}
  where
    stays : (x : ℕ) (r : Role) → is_used r ≡ true → l.role x ≡ r → with_frame l vars x ≡ r
    stays x r used e = grown_used vars same_role l.role (one_more vars (roles.frame_guard (length l.frames))) x r are.is_unused used e

    there : with_frame l vars (vars + 1) ≡ roles.frame_guard (length l.frames)
    there = grown_there vars same_role l.role (roles.frame_guard (length l.frames))

    last_or : (i : ℕ) → i < length (l.frames ++ [] ∷ []) → (i < length l.frames) ⊎ (i ≡ length l.frames)
    last_or i lt = by_test (leb_tells (length l.frames) i) where
      last : (i n m : ℕ) → i < m → m ≡ n + 1 → n ≤ i → i ≡ n
      last i n m lt e le = omega (arith, lt, e, le)

      by_test : ((nat_le (length l.frames) i ≡ true) × (length l.frames ≤ i)) ⊎ ((nat_le (length l.frames) i ≡ false) × (i < length l.frames)) → (i < length l.frames) ⊎ (i ≡ length l.frames)
      by_test (inl t) = inr (last i (length l.frames) (length (l.frames ++ [] ∷ [])) lt (length-append l.frames ([] ∷ [])) t.1)
      by_test (inr t) = inl t.1

    is_frame : (i : ℕ) → 0 < i → (i < length l.frames) ⊎ (i ≡ length l.frames) → with_frame l vars (at i) ≡ roles.frame_guard i
    is_frame i some (inl lt) = ap (with_frame l vars) (same_at i lt) ∙ stays (l.guard_at i) (roles.frame_guard i) refl (are.is_frame i some lt)
    is_frame i some (inr e) = ap (with_frame l vars) (ap at e ∙ last_at) ∙ there ∙ ap (λ n. roles.frame_guard n) (sym e)

    shorter : (i : ℕ) (c : List Literal) → Contains (frame_at (l.frames ++ [] ∷ []) i) c → Contains (frame_at l.frames i) c
    shorter i c m = subst (λ f. Contains f c) (frame_more l.frames i) m

    stands : (j : ℕ) (c : List Literal) → IsCoveredUpTo l.frames j c → IsCoveredUpTo (l.frames ++ [] ∷ []) j c
    stands j c s i some le = subst (λ f. IsCovered f c) (sym (frame_more l.frames i)) (s i some le)

    kind : (d : List Literal) → IsHeld l d → IsHeld (record l { frames = l.frames ++ [] ∷ []; guard_at = at; role = with_frame l vars }) d
    kind d (of_list which c e m) = of_list which c e m
    kind d (of_frame x j c e r some s) = of_frame x j c e (stays x (roles.frame_guard j) refl r) some (stands j c s)
    kind d (of_next x y j e r s) = of_next x y j e (stays x (roles.frame_guard j) refl r) (stays y (roles.frame_guard (suc j)) refl s)
    kind d (of_retired x m r) = of_retired x m (stays x retired refl r)

    before : (n : ℕ) → 0 < n → n - 1 < n
    before n lt = omega (arith, lt)

    after : (n : ℕ) → 0 < n → n ≡ suc (n - 1)
    after n lt = omega (arith, lt)

    by_part : (d : List Literal) → Contains added d ⊎ Contains more d → IsHeld (record l { frames = l.frames ++ [] ∷ []; guard_at = at; role = with_frame l vars }) d
    by_part d (inl m) = kind d (are.each d m)
    by_part d (inr m) =
        let o = only d m in
        of_next (l.guard_at (length l.frames - 1)) (vars + 1) (length l.frames - 1) o.0
        (stays (l.guard_at (length l.frames - 1)) (roles.frame_guard (length l.frames - 1)) refl (are.is_frame (length l.frames - 1) o.1 (before (length l.frames) filled)))
        (there ∙ ap (λ n. roles.frame_guard n) (after (length l.frames) filled))

    under : (i : ℕ) (c : List Literal) → IsUnder l added i c → IsUnder (record l { frames = l.frames ++ [] ∷ []; guard_at = at; role = with_frame l vars }) (added ++ more) i c
    under i c u = record {
      at = u.at;
      from = u.from;
      within = wider u.at (length l.frames) (length (l.frames ++ [] ∷ [])) u.within (length-append l.frames ([] ∷ []));
      is_added = Contains-append_left added more (under_guard (at u.at) c) (subst (λ x. Contains added (under_guard x c)) (sym (same_at u.at u.within)) u.is_added);
    }
      where
        wider : (k n m : ℕ) → k < n → m ≡ n + 1 → k < m
        wider k n m lt e = omega (arith, lt, e)

    has_next : (j : ℕ) → 0 < j → (suc j < length l.frames) ⊎ (suc j ≡ length l.frames) → Contains (added ++ more) (guards_next (at j) (at (suc j)))
    has_next j some (inl lt) =
        Contains-append_left added more (guards_next (at j) (at (suc j)))
        (subst (λ y. Contains added (guards_next (at j) y)) (sym (same_at (suc j) lt))
        (subst (λ x. Contains added (guards_next x (l.guard_at (suc j)))) (sym (same_at j (below j (length l.frames) lt))) (are.has_next j some lt)))
      where
        below : (j n : ℕ) → suc j < n → j < n
        below j n lt = omega (arith, lt)
    has_next j some (inr e) =
        Contains-append_right added more (guards_next (at j) (at (suc j)))
        (subst (λ y. Contains more (guards_next (at j) y)) (sym (ap at e ∙ last_at))
        (subst (λ x. Contains more (guards_next x (vars + 1))) (sym (same_at j (below j (length l.frames) e) ∙ ap l.guard_at (back j (length l.frames) e))) (next (positive j (length l.frames) some e))))
      where
        below : (j n : ℕ) → suc j ≡ n → j < n
        below j n e = omega (arith, e)

        back : (j n : ℕ) → suc j ≡ n → j ≡ n - 1
        back j n e = omega (arith, e)

        positive : (j n : ℕ) → 0 < j → suc j ≡ n → 0 < n - 1
        positive j n some e = omega (arith, some, e)
