-- What a search over lists and frames under guards holds after a clause over states and inputs was added to the bad states' list.
use Rattle.std.proofs.Common.{◌≡◌, ◌⊎◌, inl, inr, ◌≤◌, ◌<◌, ◌^◌, ℕ, suc, ◌+◌, ◌-◌, nat_le, true, false, List, [], ◌∷◌, ◌++◌, refl, sym, ◌∙◌, ap, subst, arith, length, if◌then◌else◌}
use Rattle.std.specs.Prelude.{Contains, All}
use Rattle.std.proofs.lemmas.Bool.Decides.{leb_tells}
use Rattle.std.proofs.lemmas.List.Elements.{All-head, All-tail, All-nil, All-cons, All-append, Contains-push, Contains-push_cases, Contains-append_left}
use Rattle.sat_clauses.specs.Literal.{Literal}
use Rattle.sat_clauses.specs.Derivation.{IsUpTo}
use Rattle.cut_frames.specs.Roles.{Listed, first, step, bad, gate, renamed_clause, under_guard}
use Rattle.cut_frames.specs.Guards.{guards_next, Layout, IsHeld, of_list, of_frame, of_next, of_retired, IsUnder, AreHeld}
use Rattle.cut_frames.specs.Condition.{IsNear}
use Rattle.cut_frames.specs.GuardedSearch.{HasPut, IsSimple, AreSimple, IsWell, places_of, guard_of, guard_at, added_in, AddsBad}
use Rattle.cut_frames.specs.declared.guarded.Guarded.{Guarded}
use Rattle.cut_frames.specs.declared.simple.SimpleLists.{SimpleLists}
use Rattle.cut_frames.proofs.RoleLaws.{renamed_low}
use Rattle.cut_frames.proofs.HeldLists.{bad_at}
use Rattle.cut_frames.proofs.AlikeLaws.{alike_more}
use Rattle.cut_frames.proofs.GuardedLaws.{holding, layout_of, with_bad, alike_bad, guards_same, guard_same, with_simple, well_simple, guards_simple, simple_bad}
use Rattle.sat_simplify.proofs.UnreadLaws.{all_raised}

-- a clause over the places keeps its variables
pub renamed_places : (places base : ℕ) (c : List Literal) → All (IsUpTo places) c → renamed_clause places base c ≡ c
renamed_places places base [] low = refl
renamed_places places base (l ∷ c) low =
    ap (λ (x : ℕ). record { var = x; negated = l.negated } ∷ renamed_clause places base c) (renamed_low places base l.var (All-head (IsUpTo places) l c low))
    ∙ ap (λ (d : List Literal). l ∷ d) (renamed_places places base c (All-tail (IsUpTo places) l c low))

-- the later one of two numbers
abbrev pub later : ℕ → ℕ → ℕ
later a b = if nat_le a b then b else a

later_first : (a b : ℕ) → a ≤ later a b
later_first a b = by_test (leb_tells a b) where
  by_test : ((nat_le a b ≡ true) × (a ≤ b)) ⊎ ((nat_le a b ≡ false) × (b < a)) → a ≤ later a b
  by_test (inl t) = let e = t.0 in rw e t.1
  by_test (inr t) = let e = t.0 in rw e (omega arith)

later_second : (a b : ℕ) → b ≤ later a b
later_second a b = by_test (leb_tells a b) where
  by_test : ((nat_le a b ≡ true) × (a ≤ b)) ⊎ ((nat_le a b ≡ false) × (b < a)) → b ≤ later a b
  by_test (inl t) = let e = t.0 in rw e (omega arith)
  by_test (inr t) = let e = t.0 in let lt = t.1 in rw e (omega (arith, lt))

-- what is above the one and not above the later one is not above the other
later_other : (a b x : ℕ) → b < x → x ≤ later a b → x ≤ a
later_other a b x lt le = by_test (leb_tells a b) where
  at : later a b ≡ b → x ≤ a
  at e = absurd (omega (arith, lt, le, e))

  by_test : ((nat_le a b ≡ true) × (a ≤ b)) ⊎ ((nat_le a b ≡ false) × (b < a)) → x ≤ a
  by_test (inl t) = let e = t.0 in at (rw e refl)
  by_test (inr t) = let e = t.0 in let is : later a b ≡ a = rw e refl in omega (arith, le, is)

-- a clause over the places more in the list of the bad states
pub held_bad : (l : Layout) (vars : ℕ) (added : List (List Literal)) (c : List Literal) (list : Listed → List (List Literal)) → AreHeld l vars added → list first ≡ l.list first → list step ≡ l.list step →
    list bad ≡ l.list bad ++ c ∷ [] → All (IsUpTo l.places) c → AreHeld (record l { list = list; top = bad_at l.top (later (l.top bad) l.places) }) vars (added ++ under_guard (l.guard bad) c ∷ [])
held_bad l vars added c list are same_first same_step more low = record {
  is_place = are.is_place;
  is_unused = are.is_unused;
  is_guard = are.is_guard;
  is_gate = is_gate;
  is_frame = are.is_frame;
  list_low = list_low;
  frames_low = are.frames_low;
  each = λ d m. by_push d (Contains-push_cases added new d m);
  has_list = has_list;
  has_frames = λ i d some m. under i d (are.has_frames i d some m);
  has_next = λ j some lt. Contains-append_left added (new ∷ []) (guards_next (l.guard_at j) (l.guard_at (suc j))) (are.has_next j some lt);
}
  where
    new : List Literal
    new = under_guard (l.guard bad) c

    top : Listed → ℕ
    top = bad_at l.top (later (l.top bad) l.places)

    is_gate : (which : Listed) (x : ℕ) → l.places < x → x ≤ top which → l.role (x - l.places + l.base which) ≡ gate which x
    is_gate first x lt le = are.is_gate first x lt le
    is_gate step x lt le = are.is_gate step x lt le
    is_gate bad x lt le = are.is_gate bad x lt (later_other (l.top bad) l.places x lt le)

    low_bad : (d : List Literal) → Contains (l.list bad) d ⊎ (c ≡ d) → All (IsUpTo (later (l.top bad) l.places)) d
    low_bad d (inl m) = all_raised (l.top bad) (later (l.top bad) l.places) d (later_first (l.top bad) l.places) (are.list_low bad d m)
    low_bad d (inr e) = subst (All (IsUpTo (later (l.top bad) l.places))) e (all_raised l.places (later (l.top bad) l.places) c (later_second (l.top bad) l.places) low)

    list_low : (which : Listed) (d : List Literal) → Contains (list which) d → All (IsUpTo (top which)) d
    list_low first d m = are.list_low first d (subst (λ ds. Contains ds d) same_first m)
    list_low step d m = are.list_low step d (subst (λ ds. Contains ds d) same_step m)
    list_low bad d m = low_bad d (Contains-push_cases (l.list bad) c d (subst (λ ds. Contains ds d) more m))

    made : Listed → List Literal → List Literal
    made which d = under_guard (l.guard which) (renamed_clause l.places (l.base which) d)

    made_same : made bad c ≡ new
    made_same = ap (under_guard (l.guard bad)) (renamed_places l.places (l.base bad) c low)

    has_bad : (d : List Literal) → Contains (l.list bad) d ⊎ (c ≡ d) → Contains (added ++ new ∷ []) (made bad d)
    has_bad d (inl m) = Contains-append_left added (new ∷ []) (made bad d) (are.has_list bad d m)
    has_bad d (inr e) = subst (λ x. Contains (added ++ new ∷ []) (made bad x)) e (subst (Contains (added ++ new ∷ [])) (sym made_same) (Contains-push added new))

    has_list : (which : Listed) (d : List Literal) → Contains (list which) d → Contains (added ++ new ∷ []) (made which d)
    has_list first d m = Contains-append_left added (new ∷ []) (made first d) (are.has_list first d (subst (λ ds. Contains ds d) same_first m))
    has_list step d m = Contains-append_left added (new ∷ []) (made step d) (are.has_list step d (subst (λ ds. Contains ds d) same_step m))
    has_list bad d m = has_bad d (Contains-push_cases (l.list bad) c d (subst (λ ds. Contains ds d) more m))

    within : (which : Listed) (d : List Literal) → Contains (l.list which) d → Contains (list which) d
    within first d m = subst (λ ds. Contains ds d) (sym same_first) m
    within step d m = subst (λ ds. Contains ds d) (sym same_step) m
    within bad d m = subst (λ ds. Contains ds d) (sym more) (Contains-append_left (l.list bad) (c ∷ []) d m)

    kind : (d : List Literal) → IsHeld l d → IsHeld (record l { list = list; top = top }) d
    kind d (of_list which e f m) = of_list which e f (within which e m)
    kind d (of_frame x j e f r some s) = of_frame x j e f r some s
    kind d (of_next x y j e r s) = of_next x y j e r s
    kind d (of_retired x m r) = of_retired x m r

    by_push : (d : List Literal) → Contains added d ⊎ (new ≡ d) → IsHeld (record l { list = list; top = top }) d
    by_push d (inl m) = kind d (are.each d m)
    by_push d (inr e) = of_list bad c (sym e ∙ sym made_same) (subst (λ ds. Contains ds c) (sym more) (Contains-push (l.list bad) c))

    under : (i : ℕ) (d : List Literal) → IsUnder l added i d → IsUnder (record l { list = list; top = top }) (added ++ new ∷ []) i d
    under i d u = record { at = u.at; from = u.from; within = u.within; is_added = Contains-append_left added (new ∷ []) (under_guard (l.guard_at u.at) d) u.is_added }

-- a clause over the places more in a list that takes the place of another one
simple_more : (p : ℕ) (list simple : List (List Literal)) (c : List Literal) → p < 2 ^ 31 → All (IsUpTo p) c → IsSimple p list simple → IsSimple p (list ++ c ∷ []) (simple ++ c ∷ [])
simple_more p list simple c small low s = record {
  near = All-append (All IsNear) simple (c ∷ []) s.near (All-cons (All IsNear) c [] (λ k d lt. omega (arith, low k d lt, small)) (All-nil (All IsNear)));
  alike = alike_more p list simple c low s.alike;
}

-- after a clause over the places was added under the guard of the bad states
pub adds_bad : (old new : Guarded) (c : List Literal) → IsWell old → All (IsUpTo old.places) c → HasPut old new ((record { var = old.bad.var; negated = true } ∷ c) ∷ []) → AddsBad old (with_simple new (record new.simple { bad = new.simple.bad ++ c ∷ [] })) c
adds_bad old new c w low p system list frames h =
    holding system (list ++ c ∷ []) frames (with_simple new more) simple (with_bad h.lists (h.lists bad ++ c ∷ [])) (alike_bad system list (list ++ c ∷ []) (h.lists bad ++ c ∷ []) h.lists h.alike (alike_more (places_of system) list (h.lists bad) c (subst (λ (k : ℕ). All (IsUpTo k) c) h.places low) (h.alike bad))) old.places old.search.kept.vars (added_in old ++ under_guard old.bad.var c ∷ []) (guard_of old) (bad_at h.top (later (h.top bad) old.places)) h.base (guard_at old) h.role (well_simple new more p.well) h.places p.guards.places
    (ap (λ (ls : List Literal). length ls) p.guards.frames ∙ h.count) (λ which. guards_simple new more which ∙ guards_same old new which p.guards) (λ i lt. guard_same old new i p.guards.step p.guards.frames) p.vars p.added
    (held_bad (layout_of old.places h.lists frames (guard_of old) h.top h.base (guard_at old) h.role) old.search.kept.vars (added_in old) c (with_bad h.lists (h.lists bad ++ c ∷ [])) h.held refl refl refl low)
  where
    more : SimpleLists
    more = record new.simple { bad = new.simple.bad ++ c ∷ [] }

    simple : AreSimple system (list ++ c ∷ []) more
    simple = simple_bad system list (list ++ c ∷ []) (new.simple.bad ++ c ∷ []) old.simple new.simple p.guards.simple h.simple
        (subst (λ (s : SimpleLists). IsSimple (places_of system) (list ++ c ∷ []) (s.bad ++ c ∷ [])) (sym p.guards.simple)
        (simple_more (places_of system) list old.simple.bad c (subst (λ (k : ℕ). k < 2 ^ 31) h.places w.low) (subst (λ (k : ℕ). All (IsUpTo k) c) h.places low) h.simple.bad))
