-- What a search over lists and frames under guards holds, after a list was taken.
use Rattle.std.proofs.Common.{◌≡◌, ◌⊎◌, inl, inr, ◌≤◌, ◌<◌, ℕ, zero, suc, ◌+◌, ◌-◌, nat_le, true, false, List, [], ◌∷◌, ◌++◌, refl, sym, ◌∙◌, ap, subst, arith, if◌then◌else◌}
use Rattle.std.specs.Prelude.{Contains, All}
use Rattle.std.proofs.lemmas.Bool.{le-leb, lt-leb}
use Rattle.std.proofs.lemmas.List.Elements.{All-contains, Contains-append_left, Contains-append_right, Contains-append_cases}
use Rattle.sat_clauses.specs.Literal.{Literal, plain, opposite}
use Rattle.sat_clauses.specs.Derivation.{IsUpTo}
use Rattle.cut_frames.specs.FrameLists.{frame_at}
use Rattle.cut_frames.specs.Roles.{Listed, first, step, bad, Role, place, list_guard, gate, retired, unused, renamed_clause, under_guard, under_list}
use Rattle.cut_frames.specs.Roles as roles
use Rattle.cut_frames.specs.Guards.{guards_next, Layout, IsHeld, of_list, of_frame, of_next, of_retired, IsUnder, AreHeld}
use Rattle.cut_frames.proofs.RoleLaws.{first_in}
use Rattle.cut_frames.proofs.HeldSteps.{grown, grown_high, grown_used, grown_there, grown_above, one_more, is_used, same_role, retire_bad, held_push}
use Rattle.sat_clauses.proofs.ClauseLists.{map_contains, from_mapped}

no_member : (cs : List (List Literal)) (c : List Literal) → cs ≡ [] → Contains cs c → ⊥
no_member cs c e m = none (subst (λ ds. Contains ds c) e m) where
  none : Contains [] c → ⊥
  none m = omega (arith, m.1)

-- the roles where there is another guard of bad states
abbrev pub with_bad : Layout → ℕ → ℕ → Role
with_bad l vars = grown vars retire_bad l.role (one_more vars (list_guard bad))

-- another number for the bad states
abbrev pub bad_at : (Listed → ℕ) → ℕ → Listed → ℕ
bad_at f n first = f first
bad_at f n step = f step
bad_at f n bad = n

-- another guard of bad states, of which there are none yet
abbrev pub renewed : Layout → ℕ → (Listed → List (List Literal)) → (Listed → ℕ) → Layout
renewed l vars list guard = record l { list = list; guard = guard; top = bad_at l.top l.places; role = with_bad l vars }

pub held_renewed : (l : Layout) (vars : ℕ) (added : List (List Literal)) (list : Listed → List (List Literal)) (guard : Listed → ℕ) → AreHeld l vars added →
    list first ≡ l.list first → list step ≡ l.list step → list bad ≡ [] → guard first ≡ l.guard first → guard step ≡ l.guard step → guard bad ≡ vars + 1 →
    AreHeld (renewed l vars list guard) (vars + 1) (added ++ (opposite (plain (l.guard bad)) ∷ []) ∷ [])
held_renewed l vars added list guard are same_first same_step none guard_first guard_step guard_bad =
    held_push (renewed l vars list guard) (vars + 1) added (opposite (plain (l.guard bad)) ∷ []) held
    (of_retired (l.guard bad) (first_in (opposite (plain (l.guard bad))) []) (changes (l.guard bad) (list_guard bad) refl (are.is_guard bad)))
  where
    changes : (x : ℕ) (r : Role) → is_used r ≡ true → l.role x ≡ r → with_bad l vars x ≡ retire_bad r
    changes x r used e = grown_used vars retire_bad l.role (one_more vars (list_guard bad)) x r are.is_unused used e

    is_guard : (which : Listed) → with_bad l vars (guard which) ≡ list_guard which
    is_guard first = ap (with_bad l vars) guard_first ∙ changes (l.guard first) (list_guard first) refl (are.is_guard first)
    is_guard step = ap (with_bad l vars) guard_step ∙ changes (l.guard step) (list_guard step) refl (are.is_guard step)
    is_guard bad = ap (with_bad l vars) guard_bad ∙ grown_there vars retire_bad l.role (list_guard bad)

    over : (x n : ℕ) → n < x → x ≤ n → ⊥
    over x n lt le = omega (arith, lt, le)

    is_gate : (which : Listed) (x : ℕ) → l.places < x → x ≤ bad_at l.top l.places which → with_bad l vars (x - l.places + l.base which) ≡ gate which x
    is_gate first x lt le = changes (x - l.places + l.base first) (gate first x) refl (are.is_gate first x lt le)
    is_gate step x lt le = changes (x - l.places + l.base step) (gate step x) refl (are.is_gate step x lt le)
    is_gate bad x lt le = absurd (over x l.places lt le)

    list_low : (which : Listed) (c : List Literal) → Contains (list which) c → All (IsUpTo (bad_at l.top l.places which)) c
    list_low first c m = are.list_low first c (subst (λ cs. Contains cs c) same_first m)
    list_low step c m = are.list_low step c (subst (λ cs. Contains cs c) same_step m)
    list_low bad c m = absurd (no_member (list bad) c none m)

    has_list : (which : Listed) (c : List Literal) → Contains (list which) c → Contains added (under_guard (guard which) (renamed_clause l.places (l.base which) c))
    has_list first c m = subst (λ x. Contains added (under_guard x (renamed_clause l.places (l.base first) c))) (sym guard_first) (are.has_list first c (subst (λ cs. Contains cs c) same_first m))
    has_list step c m = subst (λ x. Contains added (under_guard x (renamed_clause l.places (l.base step) c))) (sym guard_step) (are.has_list step c (subst (λ cs. Contains cs c) same_step m))
    has_list bad c m = absurd (no_member (list bad) c none m)

    of_kept : (which : Listed) (d c : List Literal) → d ≡ under_guard (l.guard which) (renamed_clause l.places (l.base which) c) → Contains (l.list which) c → IsHeld (renewed l vars list guard) d
    of_kept first d c e m = of_list first c (e ∙ ap (λ x. under_guard x (renamed_clause l.places (l.base first) c)) (sym guard_first)) (subst (λ cs. Contains cs c) (sym same_first) m)
    of_kept step d c e m = of_list step c (e ∙ ap (λ x. under_guard x (renamed_clause l.places (l.base step) c)) (sym guard_step)) (subst (λ cs. Contains cs c) (sym same_step) m)
    of_kept bad d c e m = of_retired (l.guard bad) (subst (λ b. Contains b (opposite (plain (l.guard bad)))) (sym e) (first_in (opposite (plain (l.guard bad))) (renamed_clause l.places (l.base bad) c)))
        (changes (l.guard bad) (list_guard bad) refl (are.is_guard bad))

    kind : (d : List Literal) → IsHeld l d → IsHeld (renewed l vars list guard) d
    kind d (of_list which c e m) = of_kept which d c e m
    kind d (of_frame x j c e r some s) = of_frame x j c e (changes x (roles.frame_guard j) refl r) some s
    kind d (of_next x y j e r s) = of_next x y j e (changes x (roles.frame_guard j) refl r) (changes y (roles.frame_guard (suc j)) refl s)
    kind d (of_retired x m r) = of_retired x m (changes x retired refl r)

    under : (i : ℕ) (c : List Literal) → IsUnder l added i c → IsUnder (renewed l vars list guard) added i c
    under i c u = record { at = u.at; from = u.from; within = u.within; is_added = u.is_added }

    held : AreHeld (renewed l vars list guard) (vars + 1) added
    held = record {
      is_place = λ x le. changes x place refl (are.is_place x le);
      is_unused = λ x lt. grown_above vars retire_bad l.role (list_guard bad) x lt;
      is_guard = is_guard;
      is_gate = is_gate;
      is_frame = λ i some lt. changes (l.guard_at i) (roles.frame_guard i) refl (are.is_frame i some lt);
      list_low = list_low;
      frames_low = are.frames_low;
      each = λ d m. kind d (are.each d m);
      has_list = has_list;
      has_frames = λ i c some m. under i c (are.has_frames i c some m);
      has_next = are.has_next;
    }

-- the roles of so many gates more of a list
abbrev pub gates_of : Listed → ℕ → ℕ → ℕ → ℕ → Role
gates_of which places vars n x = if nat_le x (vars + n) then gate which (x - vars + places) else unused

abbrev pub with_gates : Layout → ℕ → Listed → ℕ → ℕ → Role
with_gates l vars which n = grown vars same_role l.role (gates_of which l.places vars n)

-- so many gates more, of a list that has no clause yet
pub held_gates : (l : Layout) (vars : ℕ) (added : List (List Literal)) (which : Listed) (n : ℕ) (top base : Listed → ℕ) → AreHeld l vars added → l.list which ≡ [] → top which ≡ l.places + n → base which ≡ vars →
    ((u : Listed) → (u ≡ which) ⊎ ((top u ≡ l.top u) × (base u ≡ l.base u))) →
    AreHeld (record l { top = top; base = base; role = with_gates l vars which n }) (vars + n) added
held_gates l vars added which n top base are none top_here base_here same = record {
  is_place = λ x le. stays x place refl (are.is_place x le);
  is_unused = above;
  is_guard = λ u. stays (l.guard u) (list_guard u) refl (are.is_guard u);
  is_gate = λ u x lt le. is_gate u x lt le (same u);
  is_frame = λ i some lt. stays (l.guard_at i) (roles.frame_guard i) refl (are.is_frame i some lt);
  list_low = λ u c m. list_low u c m (same u);
  frames_low = are.frames_low;
  each = λ d m. kind d (are.each d m);
  has_list = λ u c m. has_list u c m (same u);
  has_frames = λ i c some m. under i c (are.has_frames i c some m);
  has_next = are.has_next;
}
  where
    stays : (x : ℕ) (r : Role) → is_used r ≡ true → l.role x ≡ r → with_gates l vars which n x ≡ r
    stays x r used e = grown_used vars same_role l.role (gates_of which l.places vars n) x r are.is_unused used e

    above : (x : ℕ) → vars + n < x → with_gates l vars which n x ≡ unused
    above x lt = grown_high vars same_role l.role (gates_of which l.places vars n) x (omega (arith, lt)) ∙ (let t : nat_le x (vars + n) ≡ false = lt-leb x (vars + n) lt in rw t refl)

    empty_there : (u : Listed) (c : List Literal) → u ≡ which → Contains (l.list u) c → ⊥
    empty_there u c e m = no_member (l.list u) c (ap l.list e ∙ none) m

    raised : (x p n v : ℕ) → p < x → v < x - p + v
    raised x p n v lt = omega (arith, lt)

    inside : (x p n v : ℕ) → x ≤ p + n → x - p + v ≤ v + n
    inside x p n v le = omega (arith, le)

    back : (x p v : ℕ) → p < x → x - p + v - v + p ≡ x
    back x p v lt = omega (arith, lt)

    gate_here : (x : ℕ) → l.places < x → x ≤ l.places + n → with_gates l vars which n (x - l.places + vars) ≡ gate which x
    gate_here x lt le =
        grown_high vars same_role l.role (gates_of which l.places vars n) (x - l.places + vars) (raised x l.places n vars lt)
        ∙ (let t : nat_le (x - l.places + vars) (vars + n) ≡ true = le-leb (x - l.places + vars) (vars + n) (inside x l.places n vars le) in rw t refl)
        ∙ ap (gate which) (back x l.places vars lt)

    is_gate : (u : Listed) (x : ℕ) → l.places < x → x ≤ top u → (u ≡ which) ⊎ ((top u ≡ l.top u) × (base u ≡ l.base u)) → with_gates l vars which n (x - l.places + base u) ≡ gate u x
    is_gate u x lt le (inl e) =
        ap (λ b. with_gates l vars which n (x - l.places + b)) (ap base e ∙ base_here) ∙ gate_here x lt (subst (λ t. x ≤ t) (ap top e ∙ top_here) le) ∙ ap (λ w. gate w x) (sym e)
    is_gate u x lt le (inr s) =
        ap (λ b. with_gates l vars which n (x - l.places + b)) s.1 ∙ stays (x - l.places + l.base u) (gate u x) refl (are.is_gate u x lt (subst (λ t. x ≤ t) s.0 le))

    list_low : (u : Listed) (c : List Literal) → Contains (l.list u) c → (u ≡ which) ⊎ ((top u ≡ l.top u) × (base u ≡ l.base u)) → All (IsUpTo (top u)) c
    list_low u c m (inl e) = absurd (empty_there u c e m)
    list_low u c m (inr s) = subst (λ t. All (IsUpTo t) c) (sym s.0) (are.list_low u c m)

    has_list : (u : Listed) (c : List Literal) → Contains (l.list u) c → (u ≡ which) ⊎ ((top u ≡ l.top u) × (base u ≡ l.base u)) → Contains added (under_guard (l.guard u) (renamed_clause l.places (base u) c))
    has_list u c m (inl e) = absurd (empty_there u c e m)
    has_list u c m (inr s) = subst (λ b. Contains added (under_guard (l.guard u) (renamed_clause l.places b c))) (sym s.1) (are.has_list u c m)

    of_kept : (u : Listed) (d c : List Literal) → d ≡ under_guard (l.guard u) (renamed_clause l.places (l.base u) c) → Contains (l.list u) c → (u ≡ which) ⊎ ((top u ≡ l.top u) × (base u ≡ l.base u)) →
        IsHeld (record l { top = top; base = base; role = with_gates l vars which n }) d
    of_kept u d c e m (inl is) = absurd (empty_there u c is m)
    of_kept u d c e m (inr s) = of_list u c (e ∙ ap (λ b. under_guard (l.guard u) (renamed_clause l.places b c)) (sym s.1)) m

    kind : (d : List Literal) → IsHeld l d → IsHeld (record l { top = top; base = base; role = with_gates l vars which n }) d
    kind d (of_list u c e m) = of_kept u d c e m (same u)
    kind d (of_frame x j c e r some s) = of_frame x j c e (stays x (roles.frame_guard j) refl r) some s
    kind d (of_next x y j e r s) = of_next x y j e (stays x (roles.frame_guard j) refl r) (stays y (roles.frame_guard (suc j)) refl s)
    kind d (of_retired x m r) = of_retired x m (stays x retired refl r)

    under : (i : ℕ) (c : List Literal) → IsUnder l added i c → IsUnder (record l { top = top; base = base; role = with_gates l vars which n }) added i c
    under i c u = record { at = u.at; from = u.from; within = u.within; is_added = u.is_added }

-- the clauses of a list that had none
pub held_list : (l : Layout) (vars : ℕ) (added : List (List Literal)) (which : Listed) (cs : List (List Literal)) (list : Listed → List (List Literal)) → AreHeld l vars added → l.list which ≡ [] → list which ≡ cs →
    ((u : Listed) → (u ≡ which) ⊎ (list u ≡ l.list u)) → All (All (IsUpTo (l.top which))) cs →
    AreHeld (record l { list = list }) vars (added ++ under_list l.places (l.base which) (l.guard which) cs)
held_list l vars added which cs list are none here same low = record {
  is_place = are.is_place;
  is_unused = are.is_unused;
  is_guard = are.is_guard;
  is_gate = are.is_gate;
  is_frame = are.is_frame;
  list_low = λ u c m. list_low u c m (same u);
  frames_low = are.frames_low;
  each = λ d m. by_part d (Contains-append_cases added more d m);
  has_list = λ u c m. has_list u c m (same u);
  has_frames = λ i c some m. under i c (are.has_frames i c some m);
  has_next = λ j some lt. Contains-append_left added more (guards_next (l.guard_at j) (l.guard_at (suc j))) (are.has_next j some lt);
}
  where
    made : List Literal → List Literal
    made c = under_guard (l.guard which) (renamed_clause l.places (l.base which) c)

    more : List (List Literal)
    more = under_list l.places (l.base which) (l.guard which) cs

    among : (u : Listed) (c : List Literal) → u ≡ which → Contains (list u) c → Contains cs c
    among u c e m = subst (λ ds. Contains ds c) (ap list e ∙ here) m

    list_low : (u : Listed) (c : List Literal) → Contains (list u) c → (u ≡ which) ⊎ (list u ≡ l.list u) → All (IsUpTo (l.top u)) c
    list_low u c m (inl e) = subst (λ w. All (IsUpTo (l.top w)) c) (sym e) (All-contains (All (IsUpTo (l.top which))) cs c low (among u c e m))
    list_low u c m (inr e) = are.list_low u c (subst (λ ds. Contains ds c) e m)

    has_list : (u : Listed) (c : List Literal) → Contains (list u) c → (u ≡ which) ⊎ (list u ≡ l.list u) → Contains (added ++ more) (under_guard (l.guard u) (renamed_clause l.places (l.base u) c))
    has_list u c m (inl e) = subst (λ w. Contains (added ++ more) (under_guard (l.guard w) (renamed_clause l.places (l.base w) c))) (sym e)
        (Contains-append_right added more (made c) (map_contains made cs c (among u c e m)))
    has_list u c m (inr e) = Contains-append_left added more (under_guard (l.guard u) (renamed_clause l.places (l.base u) c)) (are.has_list u c (subst (λ ds. Contains ds c) e m))

    of_kept : (u : Listed) (d c : List Literal) → d ≡ under_guard (l.guard u) (renamed_clause l.places (l.base u) c) → Contains (l.list u) c → (u ≡ which) ⊎ (list u ≡ l.list u) → IsHeld (record l { list = list }) d
    of_kept u d c e m (inl is) = absurd (no_member (l.list u) c (ap l.list is ∙ none) m)
    of_kept u d c e m (inr is) = of_list u c e (subst (λ ds. Contains ds c) (sym is) m)

    kind : (d : List Literal) → IsHeld l d → IsHeld (record l { list = list }) d
    kind d (of_list u c e m) = of_kept u d c e m (same u)
    kind d (of_frame x j c e r some s) = of_frame x j c e r some s
    kind d (of_next x y j e r s) = of_next x y j e r s
    kind d (of_retired x m r) = of_retired x m r

    by_part : (d : List Literal) → Contains added d ⊎ Contains more d → IsHeld (record l { list = list }) d
    by_part d (inl m) = kind d (are.each d m)
    by_part d (inr m) = let f = from_mapped made cs d m in of_list which f.0 (sym f.2) (subst (λ ds. Contains ds f.0) (sym here) f.1)

    under : (i : ℕ) (c : List Literal) → IsUnder l added i c → IsUnder (record l { list = list }) (added ++ more) i c
    under i c u = record { at = u.at; from = u.from; within = u.within; is_added = Contains-append_left added more (under_guard (l.guard_at u.at) c) u.is_added }

-- the roles of a search with no clause: the guards of the three lists stand above the places
abbrev pub starts : ℕ → ℕ → Role
starts places x =
    if nat_le x places then place
    else if nat_le x (places + 1) then list_guard first
    else if nat_le x (places + 2) then list_guard step
    else if nat_le x (places + 3) then list_guard bad
    else unused

abbrev pub no_list : Listed → List (List Literal)
no_list which = []

-- a search with no clause
pub held_empty : (places : ℕ) (guard base : Listed → ℕ) (at : ℕ → ℕ) → guard first ≡ places + 1 → guard step ≡ places + 2 → guard bad ≡ places + 3 →
    AreHeld (record { places = places; list = no_list; frames = [] ∷ []; guard = guard; top = λ which. places; base = base; guard_at = at; role = starts places }) (places + 3) []
held_empty places guard base at guard_first guard_step guard_bad = record {
  is_place = λ x le. (let t : nat_le x places ≡ true = le-leb x places le in rw t refl);
  is_unused = is_unused;
  is_guard = is_guard;
  is_gate = λ which x lt le. absurd (over x places lt le);
  is_frame = λ i some lt. absurd (omega (arith, some, lt));
  list_low = λ which c m. absurd (no_member [] c refl m);
  frames_low = λ i c some m. absurd (none i c some m);
  each = λ d m. absurd (no_member [] d refl m);
  has_list = λ which c m. absurd (no_member [] c refl m);
  has_frames = λ i c some m. absurd (none i c some m);
  has_next = λ j some lt. absurd (omega (arith, lt));
}
  where
    over : (x n : ℕ) → n < x → x ≤ n → ⊥
    over x n lt le = omega (arith, lt, le)

    none : (i : ℕ) (c : List Literal) → 0 < i → Contains (frame_at ([] ∷ []) i) c → ⊥
    none zero c some m = omega (arith, some)
    none (suc i) c some m = omega (arith, m.1)

    is_unused : (x : ℕ) → places + 3 < x → starts places x ≡ unused
    is_unused x lt =
        let a : nat_le x places ≡ false = lt-leb x places (omega (arith, lt)) in
        let b : nat_le x (places + 1) ≡ false = lt-leb x (places + 1) (omega (arith, lt)) in
        let c : nat_le x (places + 2) ≡ false = lt-leb x (places + 2) (omega (arith, lt)) in
        let d : nat_le x (places + 3) ≡ false = lt-leb x (places + 3) lt in
        rw (a, b, c, d) refl

    first_guard : starts places (places + 1) ≡ list_guard first
    first_guard =
        let a : nat_le (places + 1) places ≡ false = lt-leb (places + 1) places (omega arith) in
        let b : nat_le (places + 1) (places + 1) ≡ true = le-leb (places + 1) (places + 1) (omega arith) in
        rw (a, b) refl

    step_guard : starts places (places + 2) ≡ list_guard step
    step_guard =
        let a : nat_le (places + 2) places ≡ false = lt-leb (places + 2) places (omega arith) in
        let b : nat_le (places + 2) (places + 1) ≡ false = lt-leb (places + 2) (places + 1) (omega arith) in
        let c : nat_le (places + 2) (places + 2) ≡ true = le-leb (places + 2) (places + 2) (omega arith) in
        rw (a, b, c) refl

    bad_guard : starts places (places + 3) ≡ list_guard bad
    bad_guard =
        let a : nat_le (places + 3) places ≡ false = lt-leb (places + 3) places (omega arith) in
        let b : nat_le (places + 3) (places + 1) ≡ false = lt-leb (places + 3) (places + 1) (omega arith) in
        let c : nat_le (places + 3) (places + 2) ≡ false = lt-leb (places + 3) (places + 2) (omega arith) in
        let d : nat_le (places + 3) (places + 3) ≡ true = le-leb (places + 3) (places + 3) (omega arith) in
        rw (a, b, c, d) refl

    is_guard : (which : Listed) → starts places (guard which) ≡ list_guard which
    is_guard first = ap (starts places) guard_first ∙ first_guard
    is_guard step = ap (starts places) guard_step ∙ step_guard
    is_guard bad = ap (starts places) guard_bad ∙ bad_guard
