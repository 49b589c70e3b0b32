-- What a search over the lists of a system and frames holds after each call, and what its verdicts say.
use Rattle.std.proofs.Common.{◌≡◌, ◌⊎◌, inl, inr, ◌≤◌, ◌<◌, ℕ, zero, suc, ◌+◌, ◌-◌, ◌^◌, Bool, false, List, [], ◌∷◌, ◌++◌, length, refl, sym, ◌∙◌, ap, subst, arith, length-append, take}
use Rattle.std.specs.Prelude.{slice_index_or, All, Contains}
use Rattle.std.proofs.lemmas.List.{get_or_append_left, get_or-append_right, append-nil, map-append}
use Rattle.std.proofs.lemmas.List.Elements.{All-cons, All-nil, All-head, All-tail}
use Rattle.sat_clauses.specs.Literal.{Literal, plain, opposite}
use Rattle.sat_clauses.specs.Derivation.{IsUpTo}
use Rattle.sat_solver.specs.LearnedClauses.{added_of}
use Rattle.cut_frames.specs.Condition.{IsNear}
use Rattle.sat_clauses.specs.declared.system.System.{System}
use Rattle.cut_frames.specs.Roles.{Listed, first, step, bad, Role, renamed, renamed_literal, renamed_clause, under_guard, under_list}
use Rattle.cut_frames.specs.Guards.{Layout, AreHeld, guards_next}
use Rattle.cut_frames.specs.GuardedSearch.{places_of, AreSimple, added_in, IsGuardIn, IsWell, HasSameGuards, HasPut, HasWidened, HasNewBad, HasNewFrame, IsEmpty, HasRoomFor, guard_at, guard_of, lists_of, MeetAlike, IsSimple, IsHolding, HasAsked, TakesBad, Puts, Grows, BeginsAgain}
use Rattle.cut_frames.specs.declared.guarded.Guarded.{Guarded}
use Rattle.cut_frames.specs.declared.simple.SimpleLists.{SimpleLists}
use Rattle.cut_frames.proofs.RoleLaws.{order, renamed_low, renamed_high}
use Rattle.cut_frames.proofs.GuardedSteps.{equal_most, guard_raised, guards_raised, put_none, put_both}
use Rattle.cut_frames.proofs.HeldSteps.{held_as, held_put, held_again, again_past, held_more, with_frame, retire_frames}
use Rattle.cut_frames.proofs.HeldLists.{held_renewed, renewed, bad_at, held_gates, with_gates, held_list, starts, no_list, held_empty}

-- where the lists of a system and frames stand
abbrev pub layout_of : ℕ → (Listed → List (List Literal)) → List (List (List Literal)) → (Listed → ℕ) → (Listed → ℕ) → (Listed → ℕ) → (ℕ → ℕ) → (ℕ → Role) → Layout
layout_of places lists frames guard top base at role =
    record { places = places; list = lists; frames = frames; guard = guard; top = top; base = base; guard_at = at; role = role }

module _ (system : System) (list : List (List Literal)) (frames : List (List (List Literal))) where
  -- what is held of a layout is of a search whose guards stand there
  pub holding : (g : Guarded) → AreSimple system list g.simple → (lists : Listed → List (List Literal)) → ((which : Listed) → MeetAlike (places_of system) (lists_of system list which) (lists which)) → (places vars : ℕ) (added : List (List Literal)) (guard top base : Listed → ℕ) (at : ℕ → ℕ) (role : ℕ → Role) → IsWell g → places ≡ places_of system → g.places ≡ places →
      length g.frames.items ≡ length frames → ((which : Listed) → guard_of g which ≡ guard which) → ((i : ℕ) → i < length frames → guard_at g i ≡ at i) → g.search.kept.vars ≡ vars → added_in g ≡ added →
      AreHeld (layout_of places lists frames guard top base at role) vars added → IsHolding system list frames g
  holding g simple lists alike places vars added guard top base at role well is_places same_places count same_guard same_at same_vars same_added are = record {
    well = well;
    places = same_places ∙ is_places;
    simple = simple;
    count = count;
    lists = lists;
    alike = alike;
    top = top;
    base = base;
    role = role;
    held =
        subst (λ (a : List (List Literal)). AreHeld (layout_of g.places lists frames (guard_of g) top base (guard_at g) role) g.search.kept.vars a) (sym same_added)
        (subst (λ (v : ℕ). AreHeld (layout_of g.places lists frames (guard_of g) top base (guard_at g) role) v added) (sym same_vars)
        (subst (λ (p : ℕ). AreHeld (layout_of p lists frames (guard_of g) top base (guard_at g) role) vars added) (sym same_places)
        (held_as (layout_of places lists frames guard top base at role) vars added (guard_of g) (guard_at g) same_guard same_at are)));
  }

-- the guards of frames and lists where the fields are the same
pub guard_same : (old new : Guarded) (i : ℕ) → new.step ≡ old.step → new.frames.items ≡ old.frames.items → guard_at new i ≡ guard_at old i
guard_same old new i steps frames = ap (λ (ls : List Literal). (slice_index_or ls i new.step).var) frames ∙ ap (λ (s : Literal). (slice_index_or old.frames.items i s).var) steps

pub guards_same : (old new : Guarded) (which : Listed) → HasSameGuards old new → guard_of new which ≡ guard_of old which
guards_same old new first s = guard_same old new 0 s.step s.frames
guards_same old new step s = ap (λ (l : Literal). l.var) s.step
guards_same old new bad s = ap (λ (l : Literal). l.var) s.bad

-- the search with other simple lists beside it
abbrev pub with_simple : Guarded → SimpleLists → Guarded
with_simple g s = record g { simple = s }

pub well_simple : (g : Guarded) (s : SimpleLists) → IsWell g → IsWell (with_simple g s)
well_simple g s w = record { low = w.low; vars = w.vars; small = w.small; room = w.room; some = w.some; frames = w.frames; step = w.step; bad = w.bad; marked = w.marked }

pub guards_simple : (g : Guarded) (s : SimpleLists) (which : Listed) → guard_of (with_simple g s) which ≡ guard_of g which
guards_simple g s first = refl
guards_simple g s step = refl
guards_simple g s bad = refl

-- the simple lists, with another one of the bad states
pub simple_bad : (system : System) (was list cs : List (List Literal)) (old new : SimpleLists) → new ≡ old → AreSimple system was old → IsSimple (places_of system) list cs → AreSimple system list (record new { bad = cs })
simple_bad system was list cs old new e a b = record {
  first = subst (λ (s : SimpleLists). IsSimple (places_of system) system.first s.first) (sym e) a.first;
  step = subst (λ (s : SimpleLists). IsSimple (places_of system) system.step s.step) (sym e) a.step;
  bad = b;
}

-- a guard is the plain literal of its variable
pub plain_guard : (l : Literal) → l.negated ≡ false → l ≡ plain l.var
plain_guard l e = ap (λ (b : Bool). record { var = l.var; negated = b }) e

pub frame_plain : (g : Guarded) (i : ℕ) → IsWell g → i < length g.frames.items → slice_index_or g.frames.items i g.step ≡ plain (guard_at g i)
frame_plain g i w lt = plain_guard (slice_index_or g.frames.items i g.step) (w.frames i g.step lt).positive

-- the simple lists where they are the same
pub simple_same : (system : System) (list : List (List Literal)) (old new : Guarded) → new.simple ≡ old.simple → AreSimple system list old.simple → AreSimple system list new.simple
simple_same system list old new e s = subst (AreSimple system list) (sym e) s

-- after a question
pub asks : (old new : Guarded) → HasPut old new [] → HasAsked old new
asks old new p system list frames h =
    holding system list frames new (simple_same system list old new p.guards.simple h.simple) h.lists h.alike old.places old.search.kept.vars (added_in old) (guard_of old) h.top h.base (guard_at old) h.role p.well h.places p.guards.places
    (ap (λ (ls : List Literal). length ls) p.guards.frames ∙ h.count) (λ which. guards_same old new which p.guards) (λ i lt. guard_same old new i p.guards.step p.guards.frames) p.vars
    (p.added ∙ append-nil (added_in old)) h.held

-- after a clause was put into the frames up to a number
pub puts : (old new : Guarded) (j : ℕ) (c : List Literal) → IsWell old → 0 < j → j < length old.frames.items → All (IsUpTo old.places) c →
    HasPut old new ((opposite (slice_index_or old.frames.items j old.step) ∷ c) ∷ []) → Puts old new j c
puts old new j c w some lt low p system list frames now h put =
    holding system list now new (simple_same system list old new p.guards.simple h.simple) h.lists h.alike old.places old.search.kept.vars (added_in old ++ under_guard (guard_at old j) c ∷ []) (guard_of old) h.top h.base (guard_at old) h.role p.well h.places p.guards.places
    (ap (λ (ls : List Literal). length ls) p.guards.frames ∙ h.count ∙ sym put.same) (λ which. guards_same old new which p.guards) (λ i lt. guard_same old new i p.guards.step p.guards.frames) p.vars
    (p.added ∙ ap (λ (l : Literal). added_in old ++ (opposite l ∷ c) ∷ []) (frame_plain old j w lt))
    (held_put (layout_of old.places h.lists frames (guard_of old) h.top h.base (guard_at old) h.role) old.search.kept.vars (added_in old) j c now h.held some low put)

-- the guard of a frame that stood before there was one more
guard_before : (old new : Guarded) (l : Literal) (i : ℕ) → new.step ≡ old.step → new.frames.items ≡ old.frames.items ++ l ∷ [] → i < length old.frames.items → guard_at new i ≡ guard_at old i
guard_before old new l i steps frames lt =
    ap (λ (ls : List Literal). (slice_index_or ls i new.step).var) frames ∙ ap (λ (s : Literal). (slice_index_or (old.frames.items ++ l ∷ []) i s).var) steps
    ∙ ap (λ (k : Literal). k.var) (get_or_append_left old.frames.items (l ∷ []) old.step i lt)

guard_last : (old new : Guarded) (l : Literal) (i : ℕ) → new.step ≡ old.step → new.frames.items ≡ old.frames.items ++ l ∷ [] → i ≡ length old.frames.items → guard_at new i ≡ l.var
guard_last old new l i steps frames e =
    ap (λ (ls : List Literal). (slice_index_or ls i new.step).var) frames ∙ ap (λ (s : Literal). (slice_index_or (old.frames.items ++ l ∷ []) i s).var) steps
    ∙ ap (λ (k : Literal). k.var) (get_or-append_right old.frames.items (l ∷ []) (length old.frames.items) i old.step refl (most i (length old.frames.items) e))
    ∙ ap (λ (n : ℕ). (slice_index_or (l ∷ []) n old.step).var) (none i (length old.frames.items) e)
  where
    most : (i n : ℕ) → i ≡ n → n ≤ i
    most i n e = omega (arith, e)

    none : (i n : ℕ) → i ≡ n → i - n ≡ 0
    none i n e = omega (arith, e)

guards_before : (old new : Guarded) (l : Literal) (which : Listed) → IsWell old → new.step ≡ old.step → new.bad ≡ old.bad → new.frames.items ≡ old.frames.items ++ l ∷ [] → guard_of new which ≡ guard_of old which
guards_before old new l first w steps bads frames = guard_before old new l 0 steps frames w.some
guards_before old new l step w steps bads frames = ap (λ (k : Literal). k.var) steps
guards_before old new l bad w steps bads frames = ap (λ (k : Literal). k.var) bads

-- a frame more: after its guard, and after the clause that the last one implies it, where there is one
pub grows : (old a new : Guarded) (more : List (List Literal)) → IsWell old → HasNewFrame old a → HasPut a new more →
    ((d : List Literal) → Contains more d → (d ≡ guards_next (guard_at old (length old.frames.items - 1)) (old.search.kept.vars + 1)) × (0 < length old.frames.items - 1)) →
    (0 < length old.frames.items - 1 → Contains more (guards_next (guard_at old (length old.frames.items - 1)) (old.search.kept.vars + 1))) → Grows old new
grows old a new more w n p only next system list frames h =
    holding system list (frames ++ [] ∷ []) new (simple_same system list old new (p.guards.simple ∙ n.simple) h.simple) h.lists h.alike old.places (old.search.kept.vars + 1) (added_in old ++ more) (guard_of old) h.top h.base (guard_at a) role p.well h.places (p.guards.places ∙ n.places)
    longer (λ which. guards_same a new which p.guards ∙ guards_before old a (plain (old.search.kept.vars + 1)) which w n.step n.bad n.frames) (λ i lt. guard_same a new i p.guards.step p.guards.frames)
    (p.vars ∙ n.vars) (p.added ∙ ap (λ (cs : List (List Literal)). cs ++ more) n.added)
    (held_more layout old.search.kept.vars (added_in old) more (guard_at a) h.held (subst (λ (k : ℕ). 0 < k) h.count w.some)
    (λ i lt. guard_before old a (plain (old.search.kept.vars + 1)) i n.step n.frames (subst (λ (k : ℕ). i < k) (sym h.count) lt))
    (guard_last old a (plain (old.search.kept.vars + 1)) (length frames) n.step n.frames (sym h.count))
    (λ d m. subst (λ (k : ℕ). (d ≡ guards_next (guard_at old (k - 1)) (old.search.kept.vars + 1)) × (0 < k - 1)) h.count (only d m))
    (λ some. subst (λ (k : ℕ). Contains more (guards_next (guard_at old (k - 1)) (old.search.kept.vars + 1))) h.count (next (subst (λ (k : ℕ). 0 < k - 1) (sym h.count) some))))
  where
    layout : Layout
    layout = layout_of old.places h.lists frames (guard_of old) h.top h.base (guard_at old) h.role

    role : ℕ → Role
    role = with_frame layout old.search.kept.vars

    longer : length new.frames.items ≡ length (frames ++ [] ∷ [])
    longer =
        ap (λ (ls : List Literal). length ls) (p.guards.frames ∙ n.frames) ∙ length-append old.frames.items (plain (old.search.kept.vars + 1) ∷ []) ∙ ap (λ (k : ℕ). k + 1) h.count
        ∙ sym (length-append frames ([] ∷ []))

-- the frame of number 0 alone, where there are others
pub again : (old new : Guarded) (i : ℕ) → IsWell old → IsWell new → 0 < i → i < length old.frames.items → new.places ≡ old.places → new.simple ≡ old.simple → new.step ≡ old.step → new.bad ≡ old.bad → length new.frames.items ≡ 1 →
    guard_at new 0 ≡ guard_at old 0 → new.search.kept.vars ≡ old.search.kept.vars → added_in new ≡ added_in old ++ (opposite (slice_index_or old.frames.items i old.step) ∷ []) ∷ [] → BeginsAgain old new
again old new i w well some lt places same_simple same_step same_bad count same_first vars added system list frames h =
    holding system list ([] ∷ []) new (simple_same system list old new same_simple h.simple) h.lists h.alike old.places old.search.kept.vars (added_in old ++ (opposite (plain (guard_at old i)) ∷ []) ∷ []) (guard_of old) h.top h.base (guard_at old) (λ x. retire_frames (h.role x)) well h.places
    places count same_guard at_none vars (added ∙ ap (λ (l : Literal). added_in old ++ (opposite l ∷ []) ∷ []) (frame_plain old i w lt))
    (again_past (layout_of old.places h.lists frames (guard_of old) h.top h.base (guard_at old) h.role) old.search.kept.vars (added_in old) i h.held some (subst (λ (k : ℕ). i < k) h.count lt))
  where
    same_guard : (which : Listed) → guard_of new which ≡ guard_of old which
    same_guard first = same_first
    same_guard step = ap (λ (l : Literal). l.var) same_step
    same_guard bad = ap (λ (l : Literal). l.var) same_bad

    at_none : (k : ℕ) → k < 1 → guard_at new k ≡ guard_at old k
    at_none zero lt = same_first
    at_none (suc k) lt = absurd (omega (arith, lt))

-- and where there are none
pub again_same : (g : Guarded) → length g.frames.items ≡ 1 → BeginsAgain g g
again_same g count system list frames h =
    holding system list ([] ∷ []) g h.simple h.lists h.alike g.places g.search.kept.vars (added_in g) (guard_of g) h.top h.base (guard_at g) (λ x. retire_frames (h.role x)) h.well h.places refl count (λ which. refl) (λ i lt. refl) refl refl
    (held_again (layout_of g.places h.lists frames (guard_of g) h.top h.base (guard_at g) h.role) g.search.kept.vars (added_in g) h.held)

-- which list, where one is taken
bad_or_not : (top f : Listed → ℕ) (n m : ℕ) (u : Listed) → (u ≡ bad) ⊎ ((bad_at top n u ≡ top u) × (bad_at f m u ≡ f u))
bad_or_not top f n m first = inr (refl, refl)
bad_or_not top f n m step = inr (refl, refl)
bad_or_not top f n m bad = inl refl

-- the lists, with another one of the bad states
abbrev pub with_bad : (Listed → List (List Literal)) → List (List Literal) → Listed → List (List Literal)
with_bad lists list first = lists first
with_bad lists list step = lists step
with_bad lists list bad = list

only_bad : (lists : Listed → List (List Literal)) (a b : List (List Literal)) (u : Listed) → (u ≡ bad) ⊎ (with_bad lists a u ≡ with_bad lists b u)
only_bad lists a b first = inr refl
only_bad lists a b step = inr refl
only_bad lists a b bad = inl refl

pub alike_bad : (system : System) (was list now : List (List Literal)) (lists : Listed → List (List Literal)) → ((which : Listed) → MeetAlike (places_of system) (lists_of system was which) (lists which)) → MeetAlike (places_of system) list now →
    (which : Listed) → MeetAlike (places_of system) (lists_of system list which) (with_bad lists now which)
alike_bad system was list now lists alike same first = alike first
alike_bad system was list now lists alike same step = alike step
alike_bad system was list now lists alike same bad = same

-- these bad states in the place of others
pub takes : (old a b new : Guarded) (n : ℕ) (list cs : List (List Literal)) → All (All IsNear) cs → MeetAlike old.places list cs → IsWell old → HasNewBad old a → HasWidened a b n → All (All (IsUpTo (old.places + n))) cs →
    HasPut b new (under_list old.places (old.search.kept.vars + 1) (old.search.kept.vars + 1) cs) → TakesBad old (with_simple new (record new.simple { bad = cs })) list
takes old a b new n list cs near same w r h low p system was frames held =
    holding system list frames (with_simple new (record new.simple { bad = cs })) simple (with_bad held.lists cs) (alike_bad system was list cs held.lists held.alike (subst (λ (k : ℕ). MeetAlike k list cs) held.places same)) old.places (old.search.kept.vars + 1 + n) ((added_in old ++ (opposite (plain old.bad.var) ∷ []) ∷ []) ++ under_list old.places base base cs) (guard_of a) top' base' (guard_at old) role' (well_simple new (record new.simple { bad = cs }) p.well)
    held.places (p.guards.places ∙ h.guards.places ∙ r.places) count (λ which. guards_simple new (record new.simple { bad = cs }) which ∙ guards_same b new which p.guards ∙ guards_same a b which h.guards)
    (λ i lt. guard_same b new i p.guards.step p.guards.frames ∙ guard_same a b i h.guards.step h.guards.frames ∙ guard_same old a i r.step r.frames)
    (p.vars ∙ h.vars ∙ ap (λ (k : ℕ). k + n) r.vars) added filled
  where
    simple : AreSimple system list (record new.simple { bad = cs })
    simple = simple_bad system was list cs old.simple new.simple (p.guards.simple ∙ h.guards.simple ∙ r.simple) held.simple (record { near = near; alike = subst (λ (k : ℕ). MeetAlike k list cs) held.places same })

    base : ℕ
    base = old.search.kept.vars + 1

    layout : Layout
    layout = layout_of old.places held.lists frames (guard_of old) held.top held.base (guard_at old) held.role

    renewed_layout : Layout
    renewed_layout = renewed layout old.search.kept.vars (with_bad held.lists []) (guard_of a)

    top' : Listed → ℕ
    top' = bad_at (bad_at held.top old.places) (old.places + n)

    base' : Listed → ℕ
    base' = bad_at held.base base

    role' : ℕ → Role
    role' = with_gates renewed_layout base bad n

    one : AreHeld renewed_layout base (added_in old ++ (opposite (plain old.bad.var) ∷ []) ∷ [])
    one = held_renewed layout old.search.kept.vars (added_in old) (with_bad held.lists []) (guard_of a) held.held refl refl refl (guard_same old a 0 r.step r.frames) (ap (λ (l : Literal). l.var) r.step) (ap (λ (l : Literal). l.var) r.bad)

    two : AreHeld (record renewed_layout { top = top'; base = base'; role = role' }) (base + n) (added_in old ++ (opposite (plain old.bad.var) ∷ []) ∷ [])
    two = held_gates renewed_layout base (added_in old ++ (opposite (plain old.bad.var) ∷ []) ∷ []) bad n top' base' one refl refl refl (bad_or_not (bad_at held.top old.places) held.base (old.places + n) base)

    three : AreHeld (layout_of old.places (with_bad held.lists cs) frames (guard_of a) top' base' (guard_at old) role') (base + n) ((added_in old ++ (opposite (plain old.bad.var) ∷ []) ∷ []) ++ under_list old.places base (guard_of a bad) cs)
    three = held_list (record renewed_layout { top = top'; base = base'; role = role' }) (base + n) (added_in old ++ (opposite (plain old.bad.var) ∷ []) ∷ []) bad cs (with_bad held.lists cs) two refl refl (only_bad held.lists cs []) low

    filled : AreHeld (layout_of old.places (with_bad held.lists cs) frames (guard_of a) top' base' (guard_at old) role') (base + n) ((added_in old ++ (opposite (plain old.bad.var) ∷ []) ∷ []) ++ under_list old.places base base cs)
    filled = subst (λ (ds : List (List Literal)). AreHeld (layout_of old.places (with_bad held.lists cs) frames (guard_of a) top' base' (guard_at old) role') (base + n) ds)
        (ap (λ (x : ℕ). (added_in old ++ (opposite (plain old.bad.var) ∷ []) ∷ []) ++ under_list old.places base x cs) (ap (λ (l : Literal). l.var) r.bad))
        three

    count : length new.frames.items ≡ length frames
    count = ap (λ (ls : List Literal). length ls) (p.guards.frames ∙ h.guards.frames ∙ r.frames) ∙ held.count

    added : added_in new ≡ (added_in old ++ (opposite (plain old.bad.var) ∷ []) ∷ []) ++ under_list old.places base base cs
    added =
        p.added ∙ ap (λ (ds : List (List Literal)). ds ++ under_list old.places base base cs) (h.added ∙ r.added)
        ∙ ap (λ (l : Literal). (added_in old ++ (opposite l ∷ []) ∷ []) ++ under_list old.places base base cs) (plain_guard old.bad w.bad.positive)

-- the lists of a search that was just made
abbrev pub made_lists : List (List Literal) → List (List Literal) → Listed → List (List Literal)
made_lists fs ss first = fs
made_lists fs ss step = ss
made_lists fs ss bad = []

made_alike : (system : System) (fs ss : List (List Literal)) → MeetAlike (places_of system) system.first fs → MeetAlike (places_of system) system.step ss → (which : Listed) → MeetAlike (places_of system) (lists_of system [] which) (made_lists fs ss which)
made_alike system fs ss f s first = f
made_alike system fs ss f s step = s
made_alike system fs ss f s bad = record { stays = λ v m. m; back = λ v m. m }

-- the simple lists of a search that was just made
abbrev pub simple_of : List (List Literal) → List (List Literal) → SimpleLists
simple_of fs ss = record { first = fs; step = ss; bad = [] }

-- the search over the first states and the steps
pub made : (system : System) (fs ss : List (List Literal)) (a b new : Guarded) (n m : ℕ) → All (All IsNear) fs → All (All IsNear) ss → MeetAlike (places_of system) system.first fs → MeetAlike (places_of system) system.step ss → IsEmpty (places_of system) (places_of system + 3 + n + m) a → All (All (IsUpTo (places_of system + n))) fs → All (All (IsUpTo (places_of system + m))) ss →
    HasPut a b (under_list (places_of system) (places_of system + 3) (places_of system + 1) fs) → HasPut b new (under_list (places_of system) (places_of system + 3 + n) (places_of system + 2) ss) →
    IsHolding system [] ([] ∷ []) (with_simple new (simple_of fs ss))
made system fs ss a b new n m near_first near_step alike_first alike_step e low_first low_step p q =
    holding system [] ([] ∷ []) (with_simple new (simple_of fs ss)) simple (made_lists fs ss) (made_alike system fs ss alike_first alike_step) places (places + 3 + n + m) (under_list places (places + 3) (guard_of a first) fs ++ under_list places (places + 3 + n) (guard_of a step) ss) (guard_of a) two_top two_base
    (guard_at a) two_role (well_simple new (simple_of fs ss) q.well) refl (q.guards.places ∙ p.guards.places ∙ e.places) (ap (λ (ls : List Literal). length ls) (q.guards.frames ∙ p.guards.frames ∙ e.frames))
    (λ which. guards_simple new (simple_of fs ss) which ∙ guards_same b new which q.guards ∙ guards_same a b which p.guards) (λ i lt. guard_same b new i q.guards.step q.guards.frames ∙ guard_same a b i p.guards.step p.guards.frames)
    (q.vars ∙ p.vars ∙ e.vars) added four
  where
    places : ℕ
    places = places_of system

    simple : AreSimple system [] (simple_of fs ss)
    simple = record {
      first = record { near = near_first; alike = alike_first };
      step = record { near = near_step; alike = alike_step };
      bad = record { near = All-nil (All IsNear); alike = made_alike system fs ss alike_first alike_step bad };
    }

    at_first : guard_of a first ≡ places + 1
    at_first = ap (λ (ls : List Literal). (slice_index_or ls 0 a.step).var) e.frames

    at_step : guard_of a step ≡ places + 2
    at_step = ap (λ (l : Literal). l.var) e.step

    at_bad : guard_of a bad ≡ places + 3
    at_bad = ap (λ (l : Literal). l.var) e.bad

    zero_layout : Layout
    zero_layout = record { places = places; list = no_list; frames = [] ∷ []; guard = guard_of a; top = λ which. places; base = λ which. places; guard_at = guard_at a; role = starts places }

    one_top : Listed → ℕ
    one_top first = places + n
    one_top step = places
    one_top bad = places

    one_base : Listed → ℕ
    one_base first = places + 3
    one_base step = places
    one_base bad = places

    one_same : (u : Listed) → (u ≡ first) ⊎ ((one_top u ≡ places) × (one_base u ≡ places))
    one_same first = inl refl
    one_same step = inr (refl, refl)
    one_same bad = inr (refl, refl)

    one_layout : Layout
    one_layout = record zero_layout { top = one_top; base = one_base; role = with_gates zero_layout (places + 3) first n }

    one : AreHeld one_layout (places + 3 + n) []
    one = held_gates zero_layout (places + 3) [] first n one_top one_base (held_empty places (guard_of a) (λ which. places) (guard_at a) at_first at_step at_bad) refl refl refl one_same

    two_top : Listed → ℕ
    two_top first = places + n
    two_top step = places + m
    two_top bad = places

    two_base : Listed → ℕ
    two_base first = places + 3
    two_base step = places + 3 + n
    two_base bad = places

    two_same : (u : Listed) → (u ≡ step) ⊎ ((two_top u ≡ one_top u) × (two_base u ≡ one_base u))
    two_same first = inr (refl, refl)
    two_same step = inl refl
    two_same bad = inr (refl, refl)

    two_role : ℕ → Role
    two_role = with_gates one_layout (places + 3 + n) step m

    two_layout : Layout
    two_layout = record one_layout { top = two_top; base = two_base; role = two_role }

    two : AreHeld two_layout (places + 3 + n + m) []
    two = held_gates one_layout (places + 3 + n) [] step m two_top two_base one refl refl refl two_same

    first_list : Listed → List (List Literal)
    first_list first = fs
    first_list step = []
    first_list bad = []

    first_same : (u : Listed) → (u ≡ first) ⊎ (first_list u ≡ [])
    first_same first = inl refl
    first_same step = inr refl
    first_same bad = inr refl

    three_layout : Layout
    three_layout = record two_layout { list = first_list }

    three : AreHeld three_layout (places + 3 + n + m) (under_list places (places + 3) (guard_of a first) fs)
    three = held_list two_layout (places + 3 + n + m) [] first fs first_list two refl refl first_same low_first

    step_same : (u : Listed) → (u ≡ step) ⊎ (made_lists fs ss u ≡ first_list u)
    step_same first = inr refl
    step_same step = inl refl
    step_same bad = inr refl

    four : AreHeld (layout_of places (made_lists fs ss) ([] ∷ []) (guard_of a) two_top two_base (guard_at a) two_role) (places + 3 + n + m)
        (under_list places (places + 3) (guard_of a first) fs ++ under_list places (places + 3 + n) (guard_of a step) ss)
    four = held_list three_layout (places + 3 + n + m) (under_list places (places + 3) (guard_of a first) fs) step ss (made_lists fs ss) three refl refl step_same low_step

    added : added_in new ≡ under_list places (places + 3) (guard_of a first) fs ++ under_list places (places + 3 + n) (guard_of a step) ss
    added =
        q.added ∙ ap (λ (ds : List (List Literal)). ds ++ under_list places (places + 3 + n) (places + 2) ss) (p.added ∙ ap (λ (ds : List (List Literal)). ds ++ under_list places (places + 3) (places + 1) fs) e.added)
        ∙ ap (λ (x : ℕ). under_list places (places + 3) x fs ++ under_list places (places + 3 + n) (places + 2) ss) (sym at_first)
        ∙ ap (λ (x : ℕ). under_list places (places + 3) (guard_of a first) fs ++ under_list places (places + 3 + n) x ss) (sym at_step)

-- the frame of number 0 was the last, so nothing implies the new one
pub grows_first : (old a : Guarded) → IsWell old → HasNewFrame old a → length old.frames.items - 1 ≡ 0 → Grows old a
grows_first old a w n last = grows old a a [] w n (put_none a n.well) (λ d m. absurd (none d m)) (λ some. absurd (zero_over (length old.frames.items - 1) last some))
  where
    none : (d : List Literal) → Contains [] d → ⊥
    none d m = omega (arith, m.1)

    zero_over : (k : ℕ) → k ≡ 0 → 0 < k → ⊥
    zero_over k e lt = omega (arith, e, lt)

-- the last frame implies the new one
pub grows_next : (old a new : Guarded) (last : ℕ) (l k : Literal) → IsWell old → HasNewFrame old a → last ≡ length old.frames.items - 1 → 0 < last → l ≡ slice_index_or old.frames.items last old.step → k ≡ plain a.vars →
    HasPut a new ((opposite l ∷ k ∷ []) ∷ []) → Grows old new
grows_next old a new last l k w n at_last some is_guard is_new p =
    grows old a new (guards_next (guard_at old (length old.frames.items - 1)) (old.search.kept.vars + 1) ∷ []) w n
    (subst (λ (d : List Literal). HasPut a new (d ∷ [])) same p)
    (λ d m. (only d m, subst (λ (i : ℕ). 0 < i) at_last some)) (λ lt. here)
  where
    inside : (i n : ℕ) → i ≡ n - 1 → 0 < i → i < n
    inside i n e lt = omega (arith, e, lt)

    same : opposite l ∷ k ∷ [] ≡ guards_next (guard_at old (length old.frames.items - 1)) (old.search.kept.vars + 1)
    same =
        ap (λ (j : Literal). opposite j ∷ k ∷ []) (is_guard ∙ frame_plain old last w (inside last (length old.frames.items) at_last some) ∙ ap (λ (i : ℕ). plain (guard_at old i)) at_last)
        ∙ ap (λ (j : Literal). opposite (plain (guard_at old (length old.frames.items - 1))) ∷ j ∷ []) (is_new ∙ ap plain (n.well.vars ∙ n.vars))

    here : Contains (guards_next (guard_at old (length old.frames.items - 1)) (old.search.kept.vars + 1) ∷ []) (guards_next (guard_at old (length old.frames.items - 1)) (old.search.kept.vars + 1))
    here = (0, (omega arith), refl)

    only : (d : List Literal) → Contains (guards_next (guard_at old (length old.frames.items - 1)) (old.search.kept.vars + 1) ∷ []) d → d ≡ guards_next (guard_at old (length old.frames.items - 1)) (old.search.kept.vars + 1)
    only d m = at m.0 m.1 m.2 where
      at : (i : ℕ) → i < 1 → slice_index_or (guards_next (guard_at old (length old.frames.items - 1)) (old.search.kept.vars + 1) ∷ []) i d ≡ d → d ≡ guards_next (guard_at old (length old.frames.items - 1)) (old.search.kept.vars + 1)
      at zero lt e = sym e
      at (suc i) lt e = absurd (omega (arith, lt))

-- no frame but that of number 0
pub again_none : (g : Guarded) → IsWell g → length g.frames.items - 1 ≡ 0 → BeginsAgain g g
again_none g w last = again_same g (one (length g.frames.items) w.some last) where
  one : (n : ℕ) → 0 < n → n - 1 ≡ 0 → n ≡ 1
  one n lt e = omega (arith, lt, e)

-- the frames but that of number 0 go
pub again_from : (old a new : Guarded) (last : ℕ) (l : Literal) → IsWell old → last ≡ length old.frames.items - 1 → 0 < last → l ≡ slice_index_or old.frames.items last old.step → HasPut old a ((opposite l ∷ []) ∷ []) →
    new.search ≡ a.search → new.vars ≡ a.vars → new.places ≡ a.places → new.simple ≡ a.simple → new.step ≡ a.step → new.bad ≡ a.bad → new.frames.items ≡ take 1 a.frames.items → BeginsAgain old new
again_from old a new last l w at_last some is_guard p search vars places simple steps bads frames =
    again old new last w well some (inside last (length old.frames.items) at_last some) (places ∙ p.guards.places) (simple ∙ p.guards.simple) (steps ∙ p.guards.step) (bads ∙ p.guards.bad)
    (ap (λ (ls : List Literal). length ls) (frames ∙ ap (λ (ls : List Literal). take 1 ls) p.guards.frames) ∙ one_taken old.frames.items w.some) first_kept (ap (λ s. s.kept.vars) search ∙ p.vars)
    (ap (λ s. added_of s.kept.clauses s.kept.marks) search ∙ p.added ∙ ap (λ (j : Literal). added_in old ++ (opposite j ∷ []) ∷ []) is_guard)
  where
    inside : (i n : ℕ) → i ≡ n - 1 → 0 < i → i < n
    inside i n e lt = omega (arith, e, lt)

    one_taken : (ls : List Literal) → 0 < length ls → length (take 1 ls) ≡ 1
    one_taken [] lt = absurd (omega (arith, lt))
    one_taken (k ∷ ls) lt = refl

    first_taken : (ls : List Literal) (d : Literal) → slice_index_or (take 1 ls) 0 d ≡ slice_index_or ls 0 d
    first_taken [] d = refl
    first_taken (k ∷ ls) d = refl

    first_kept : guard_at new 0 ≡ guard_at old 0
    first_kept =
        ap (λ (ls : List Literal). (slice_index_or ls 0 new.step).var) (frames ∙ ap (λ (ls : List Literal). take 1 ls) p.guards.frames)
        ∙ ap (λ (k : Literal). k.var) (first_taken old.frames.items new.step) ∙ ap (λ (s : Literal). (slice_index_or old.frames.items 0 s).var) (steps ∙ p.guards.step)

    le : a.search.kept.vars ≤ new.search.kept.vars
    le = equal_most a.search.kept.vars new.search.kept.vars (ap (λ s. s.kept.vars) search)

    equal_all : (P : Literal → Type 0) (ls : List Literal) → All P ls → All P (take 1 ls)
    equal_all P [] all = all
    equal_all P (k ∷ ls) all = λ i d lt. at i d lt where
      at : (i : ℕ) (d : Literal) → i < 1 → P (slice_index_or (k ∷ []) i d)
      at zero d lt = all 0 d (some_first ls) where
        some_first : (ls : List Literal) → 0 < length (k ∷ ls)
        some_first ls = grind arith
      at (suc i) d lt = absurd (omega (arith, lt))

    well : IsWell new
    well = record {
      low = subst (λ (n : ℕ). n < 2 ^ 31) (sym places) p.well.low;
      vars = vars ∙ p.well.vars ∙ sym (ap (λ s. s.kept.vars) search);
      small = subst (λ (n : ℕ). n < 2 ^ 62) (sym (ap (λ s. s.kept.vars) search)) p.well.small;
      room = subst (λ (n : ℕ). n ≤ new.search.kept.vars) (sym places) (subst (λ (n : ℕ). a.places ≤ n) (sym (ap (λ s. s.kept.vars) search)) p.well.room);
      some = subst (λ (ls : List Literal). 0 < length ls) (sym (frames ∙ ap (λ (ls : List Literal). take 1 ls) p.guards.frames))
          (subst (λ (n : ℕ). 0 < n) (sym (one_taken old.frames.items w.some)) (omega arith));
      frames = subst (All (IsGuardIn new.places new.search.kept.vars)) (sym frames) (equal_all (IsGuardIn new.places new.search.kept.vars) a.frames.items
          (guards_raised a.places new.places a.search.kept.vars new.search.kept.vars a.frames.items places le p.well.frames));
      step = subst (IsGuardIn new.places new.search.kept.vars) (sym steps) (guard_raised a.places new.places a.search.kept.vars new.search.kept.vars a.step places le p.well.step);
      bad = subst (IsGuardIn new.places new.search.kept.vars) (sym bads) (guard_raised a.places new.places a.search.kept.vars new.search.kept.vars a.bad places le p.well.bad);
      marked = ap (λ s. length s.kept.marks) search ∙ p.well.marked ∙ sym (ap (λ s. length s.kept.clauses) search);
    }

-- a literal of a list has a variable in the search, where the list's gates do
pub all_room : (places base vars n : ℕ) (cs : List (List Literal)) → All (All (IsUpTo (places + n))) cs → base + n ≤ vars → places ≤ vars → All (All (HasRoomFor places base vars)) cs
all_room places base vars n cs low room le = λ k d lt i e li. one (slice_index_or (slice_index_or cs k d) i e).var (low k d lt i e li)
  where
    up : (x : ℕ) → x ≤ places → x ≤ vars
    up x a = omega (arith, a, le)

    over : (x : ℕ) → x ≤ places + n → x - places + base ≤ vars
    over x a = omega (arith, a, room)

    one : (x : ℕ) → x ≤ places + n → renamed places base x ≤ vars
    one x a = by_order (order x places) where
      by_order : (x ≤ places) ⊎ (places < x) → renamed places base x ≤ vars
      by_order (inl b) = subst (λ (y : ℕ). y ≤ vars) (sym (renamed_low places base x b)) (up x b)
      by_order (inr b) = subst (λ (y : ℕ). y ≤ vars) (sym (renamed_high places base x b)) (over x a)

-- these bad states, where their gates stand above the new guard
pub takes_from : (old a b new : Guarded) (p base x n : ℕ) (list cs : List (List Literal)) → All (All IsNear) cs → MeetAlike old.places list cs → IsWell old → HasNewBad old a → HasWidened a b n → All (All (IsUpTo (old.places + n))) cs → p ≡ b.places → base ≡ a.vars → x ≡ b.bad.var →
    HasPut b new (under_list p base x cs) → TakesBad old (with_simple new (record new.simple { bad = cs })) list
takes_from old a b new p base x n list cs near same w r h low is_places is_base is_guard put =
    takes old a b new n list cs near same w r h low
    (subst (λ (q : ℕ). HasPut b new (under_list q (old.search.kept.vars + 1) (old.search.kept.vars + 1) cs)) (is_places ∙ h.guards.places ∙ r.places)
    (subst (λ (q : ℕ). HasPut b new (under_list p q (old.search.kept.vars + 1) cs)) (is_base ∙ r.well.vars ∙ r.vars)
    (subst (λ (q : ℕ). HasPut b new (under_list p base q cs)) (is_guard ∙ ap (λ (l : Literal). l.var) (h.guards.bad ∙ r.bad)) put)))

-- the clauses of a list, one more of which was put under its guard
pub fill_more : (a b c : Guarded) (base : ℕ) (guard : Literal) (done : List (List Literal)) (d under : List Literal) → guard.negated ≡ false → HasPut a b (under_list a.places base guard.var done) → HasPut b c (under ∷ []) →
    under ≡ opposite guard ∷ renamed_clause b.places base d → HasPut a c (under_list a.places base guard.var (done ++ d ∷ []))
fill_more a b c base guard done d under positive p q e =
    subst (HasPut a c) (sym (map-append made done (d ∷ []))) (put_both a b c (under_list a.places base guard.var done) (made d ∷ []) p (subst (λ (u : List Literal). HasPut b c (u ∷ [])) same q))
  where
    made : List Literal → List Literal
    made k = under_guard guard.var (renamed_clause a.places base k)

    same : under ≡ made d
    same = e ∙ ap (λ (l : Literal). opposite l ∷ renamed_clause b.places base d) (plain_guard guard positive) ∙ ap (λ (n : ℕ). under_guard guard.var (renamed_clause n base d)) p.guards.places

-- the search over the first states and the steps, where their gates stand one after the other
pub made_from : (system : System) (fs ss : List (List Literal)) (a b new : Guarded) (p n m x y : ℕ) → All (All IsNear) fs → All (All IsNear) ss → p ≡ places_of system → MeetAlike p system.first fs → MeetAlike p system.step ss → IsEmpty p (p + 3 + n + m) a → All (All (IsUpTo (p + n))) fs → All (All (IsUpTo (p + m))) ss → x ≡ p + 1 → y ≡ p + 2 →
    HasPut a b (under_list a.places (p + 3) x fs) → HasPut b new (under_list b.places (p + 3 + n) y ss) → IsHolding system [] ([] ∷ []) (with_simple new (simple_of fs ss))
made_from system fs ss a b new p n m x y near_first near_step e alike_first alike_step empty low_first low_step at_first at_step one two =
    made system fs ss a b new n m near_first near_step (subst (λ (q : ℕ). MeetAlike q system.first fs) e alike_first) (subst (λ (q : ℕ). MeetAlike q system.step ss) e alike_step) (subst (λ (q : ℕ). IsEmpty q (q + 3 + n + m) a) e empty) (subst (λ (q : ℕ). All (All (IsUpTo (q + n))) fs) e low_first) (subst (λ (q : ℕ). All (All (IsUpTo (q + m))) ss) e low_step)
    (subst (λ (q : ℕ). HasPut a b (under_list q (q + 3) (q + 1) fs)) e (subst (λ (q : ℕ). HasPut a b (under_list q (p + 3) (p + 1) fs)) empty.places
    (subst (λ (q : ℕ). HasPut a b (under_list a.places (p + 3) q fs)) at_first one)))
    (subst (λ (q : ℕ). HasPut b new (under_list q (q + 3 + n) (q + 2) ss)) e (subst (λ (q : ℕ). HasPut b new (under_list q (p + 3 + n) (p + 2) ss)) (one.guards.places ∙ empty.places)
    (subst (λ (q : ℕ). HasPut b new (under_list b.places (p + 3 + n) q ss)) at_step two)))

-- a renamed clause under a guard is over the variables of the search
renamed_up_to : (places base vars : ℕ) (c : List Literal) → All (HasRoomFor places base vars) c → All (IsUpTo vars) (renamed_clause places base c)
renamed_up_to places base vars [] all = All-nil (IsUpTo vars)
renamed_up_to places base vars (l ∷ c) all = All-cons (IsUpTo vars) (renamed_literal places base l) (renamed_clause places base c) (All-head (HasRoomFor places base vars) l c all)
    (renamed_up_to places base vars c (All-tail (HasRoomFor places base vars) l c all))

pub fill_up_to : (a b : Guarded) (base : ℕ) (guard : Literal) (d under : List Literal) → under ≡ opposite guard ∷ renamed_clause b.places base d → IsGuardIn a.places a.search.kept.vars guard → All (HasRoomFor a.places base a.search.kept.vars) d →
    b.places ≡ a.places → b.search.kept.vars ≡ a.search.kept.vars → All (IsUpTo b.search.kept.vars) under
fill_up_to a b base guard d under e g room places vars =
    subst (λ (v : ℕ). All (IsUpTo v) under) (sym vars) (subst (All (IsUpTo a.search.kept.vars)) (sym (e ∙ ap (λ (p : ℕ). opposite guard ∷ renamed_clause p base d) places))
    (All-cons (IsUpTo a.search.kept.vars) (opposite guard) (renamed_clause a.places base d) g.in_range (renamed_up_to a.places base a.search.kept.vars d room)))
