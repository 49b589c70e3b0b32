-- The search puts into one component what leads to one another, and nothing else.
use Rattle.std.proofs.Common.{◌≡◌, ℕ, zero, suc, ◌+◌, ◌<◌, ◌≤◌, ◌==◌, ◌||◌, eqb-true, eq-eqb, arith, Bool, true, false, List, [], ◌∷◌, ◌++◌, length, set, replicate, reverse, Option, Some, None, refl, ap, ◌∙◌, sym, subst, ◌⊎◌, inl, inr}
use Rattle.std.proofs.lemmas.Bool.{cases_lt}
use Rattle.std.proofs.lemmas.List.{length-replicate, length-set, length-append, length-map, append_assoc, reverse-append}
use Rattle.std.proofs.lemmas.Option.{same_Some as some_same}
use Rattle.std.specs.Prelude.{slice_get, ◌↔◌}
use Rattle.std.specs.List.{list_any}
use Rattle.smv_language.specs.Trace.{Each}
use Rattle.smv_scope.specs.declared.circles.CircleMember.{CircleMember}
use Rattle.smv_scope.specs.Links.{Graph, Has, Reaches, start, further, IsWithin, IsCircle}
use Rattle.smv_scope.specs.WorkLeft.{open_work}
use Rattle.smv_scope.specs.Components.{Leads, IsEnded, IsFinished, component_at, joined, member_of, members, with_own, owns, Joined, join_by, IsIn, AreComponents, is_same, is_back, Covers, Follows, Waits, IsJoining, IsJoined, is_none, left_to_join}
use Rattle.smv_scope.proofs.LayLaws.{same_or}
use Rattle.smv_scope.proofs.LeftLaws.{work_taken, work_not_more, unlinked}
use Rattle.smv_scope.proofs.LeadLaws.{leads_self, leads_to, leads_on, leads_after, leads_split}
use Rattle.base_values.proofs.ListLaws.{get_within}

-- components after one is set
pub set_same : (cs : List (Option ℕ)) (k n : ℕ) → k < length cs → component_at (set cs k (Some n)) k ≡ Some n
set_same [] k n within = absurd (omega arith)
set_same (c ∷ cs) zero n within = refl
set_same (c ∷ cs) (suc k) n within = set_same cs k n (omega arith)

set_other : (cs : List (Option ℕ)) (k j n : ℕ) → (k ≡ j → ⊥) → component_at (set cs k (Some n)) j ≡ component_at cs j
set_other [] k j n other = refl
set_other (c ∷ cs) zero zero n other = absurd (other refl)
set_other (c ∷ cs) zero (suc j) n other = refl
set_other (c ∷ cs) (suc k) zero n other = refl
set_other (c ∷ cs) (suc k) (suc j) n other = set_other cs k j n (λ e. other (ap suc e))

none_in : (n k m : ℕ) → component_at (replicate n None) k ≡ Some m → ⊥
none_in zero k m e = cc
none_in (suc n) zero m e = cc
none_in (suc n) (suc k) m e = none_in n k m e

none_some : (o : Option ℕ) (n : ℕ) → o ≡ None → o ≡ Some n → ⊥
none_some o n e f = cc

in_or : (cs : List (Option ℕ)) (k : ℕ) → IsIn cs k ⊎ (component_at cs k ≡ None)
in_or cs k = by_value (component_at cs k) refl
  where
    by_value : (o : Option ℕ) → component_at cs k ≡ o → IsIn cs k ⊎ (component_at cs k ≡ None)
    by_value None e = inr e
    by_value (Some n) e = inl (n, e)

-- what was in a component before one is set stays there
pub set_keeps : (cs : List (Option ℕ)) (k n j m : ℕ) → component_at cs k ≡ None → component_at cs j ≡ Some m → component_at (set cs k (Some n)) j ≡ Some m
set_keeps cs k n j m none is = set_other cs k j n (λ e. none_some (component_at cs k) m none (subst (λ i. component_at cs i ≡ Some m) (sym e) is)) ∙ is

-- a number is in the component that was set, or where it was
pub set_is : (cs : List (Option ℕ)) (k n j m : ℕ) → k < length cs → component_at (set cs k (Some n)) j ≡ Some m → ((k ≡ j) × (n ≡ m)) ⊎ (component_at cs j ≡ Some m)
set_is cs k n j m within is = by_place (same_or k j)
  where
    by_place : (k ≡ j) ⊎ (k ≡ j → ⊥) → ((k ≡ j) × (n ≡ m)) ⊎ (component_at cs j ≡ Some m)
    by_place (inl e) = inl (e, some_same n m (sym (set_same cs k n within) ∙ subst (λ i. component_at (set cs k (Some n)) i ≡ Some m) (sym e) is))
    by_place (inr other) = inr (sym (set_other cs k j n other) ∙ is)

covers_has : (g : Graph) (r : ℕ) (order : List ℕ) (a : ℕ) → Covers g r order a → Has order a
covers_has g r [] a h = absurd h
covers_has g r (c ∷ order) a (lead, inl e) = inl e
covers_has g r (c ∷ order) a (lead, inr h) = inr (covers_has g r order a h)

covers_leads : (g : Graph) (r : ℕ) (order : List ℕ) (a : ℕ) → Covers g r order a → Leads g r a
covers_leads g r [] a h = absurd h
covers_leads g r (c ∷ order) a (lead, inl e) = subst (Leads g r) e lead
covers_leads g r (c ∷ order) a (lead, inr h) = covers_leads g r order a h

covers_from : (g : Graph) (k r : ℕ) (order : List ℕ) (a : ℕ) → Leads g k r → Covers g r order a → Covers g k order a
covers_from g k r [] a to h = absurd h
covers_from g k r (c ∷ order) a to (lead, inl e) = (leads_on g k r c to lead, inl e)
covers_from g k r (c ∷ order) a to (lead, inr h) = (leads_on g k r c to lead, inr (covers_from g k r order a to h))

-- what is linked to a number that was ended later
covers_below : (g : Graph) (r f a : ℕ) (order : List ℕ) → IsEnded g order → (Has order f → ⊥) → Leads g r f → Has (g a) f → Has order a → Covers g r order a
covers_below g r f a [] ended out lead to h = absurd h
covers_below g r f a (c ∷ order) ended out lead to h = (leads_on g r f c lead (by_end (ended.1 a f h to)), by_side (covers_below g r f a order ended.2 (λ j. out (inr j)) lead to) h)
  where
    by_end : Has order f ⊎ Leads g f c → Leads g f c
    by_end (inl i) = absurd (out (inr i))
    by_end (inr l) = l

    by_side : (Has order a → Covers g r order a) → Has (c ∷ order) a → (c ≡ a) ⊎ Covers g r order a
    by_side more (inl e) = inl e
    by_side more (inr i) = inr (more i)

-- what is linked to a number that is led to with all since it ended
covers_more : (g : Graph) (r f a : ℕ) (order : List ℕ) → IsEnded g order → Has (g a) f → Has order a → Covers g r order f → Covers g r order a
covers_more g r f a [] ended to h covers = absurd h
covers_more g r f a (c ∷ order) ended to (inl e) (lead, covers) = (lead, inl e)
covers_more g r f a (c ∷ order) ended to (inr h) (lead, inr covers) = (lead, inr (covers_more g r f a order ended.2 to h covers))
covers_more g r f a (c ∷ order) ended to (inr h) (lead, inl e) =
    (lead, inr (covers_below g r f a order ended.2 (subst (λ i. Has order i → ⊥) e ended.0) (subst (Leads g r) e lead) to h))

waits_left : (ms ns : List CircleMember) (k : ℕ) → Waits ms k → Waits (ms ++ ns) k
waits_left [] ns k h = absurd h
waits_left (m ∷ ms) ns k (inl e) = inl e
waits_left (m ∷ ms) ns k (inr h) = inr (waits_left ms ns k h)

waits_right : (ms ns : List CircleMember) (k : ℕ) → Waits ns k → Waits (ms ++ ns) k
waits_right [] ns k h = h
waits_right (m ∷ ms) ns k h = inr (waits_right ms ns k h)

waits_members : (n : ℕ) (ks : List ℕ) (k : ℕ) → Has ks k → Waits (members n ks) k
waits_members n [] k h = absurd h
waits_members n (j ∷ ks) k (inl e) = inl e
waits_members n (j ∷ ks) k (inr h) = inr (waits_members n ks k h)

each_both : (P : CircleMember → Type 0) (ms ns : List CircleMember) → Each P ms → Each P ns → Each P (ms ++ ns)
each_both P [] ns h more = more
each_both P (m ∷ ms) ns h more = (h.0, each_both P ms ns h.1 more)

each_on : (P Q : CircleMember → Type 0) → ((m : CircleMember) → P m → Q m) → (ms : List CircleMember) → Each P ms → Each Q ms
each_on P Q on [] h = tt
each_on P Q on (m ∷ ms) h = (on m h.0, each_on P Q on ms h.1)

each_member : (P : CircleMember → Type 0) (n : ℕ) (ks : List ℕ) → ((k : ℕ) → Has ks k → P (member_of n k)) → Each P (members n ks)
each_member P n [] h = tt
each_member P n (k ∷ ks) h = (h k (inl refl), each_member P n ks (λ j i. h j (inr i)))

-- A number was taken that is in no component yet: all that is said of the search but what it is linked to.
record IsTaken (g : Graph) (count : ℕ) (cs : List (Option ℕ)) (found : List CircleMember) (order : List ℕ) (now k : ℕ) : Type 0 where
  size : length cs ≡ count
  ended : IsEnded g order
  within : (j : ℕ) → Has order j → j < count
  below : length order ≤ now
  each : Each (λ m. Follows g cs order m × (m.component ≡ now)) found
  lowest : (j n : ℕ) → component_at cs j ≡ Some n → now ≤ n
  rest : (j : ℕ) → j < count → (IsIn cs j ⊎ Has order j) ⊎ (k ≡ j)
  joined : (a b n : ℕ) → component_at cs a ≡ Some n → component_at cs b ≡ Some n → Leads g a b
  falls : (a b m : ℕ) → Has (g a) b → component_at cs b ≡ Some m → ((n : ℕ) × (component_at cs a ≡ Some n) × (m ≤ n)) ⊎ ((m ≤ now) × ((k ≡ a) ⊎ Waits found a))
  new : component_at cs k ≡ None
  inside : k < count
  there : (j : ℕ) → component_at cs j ≡ Some now → Leads g k j × Leads g j k
  covers : (a : ℕ) → Has (g a) k → Has order a → Covers g k order a

module _ (g : Graph) (count : ℕ) (within : IsWithin g count) (back : Graph) (turned : (a b : ℕ) → b < count → Has (back b) a ↔ Has (g a) b) where
  -- it is put into the component
  taken : (cs : List (Option ℕ)) (found : List CircleMember) (order : List ℕ) (now k : ℕ) → IsTaken g count cs found order now k →
      IsJoining g count (set cs k (Some now)) (members now (back k) ++ found) order now
  taken cs found order now k t =
      record {
        size = length-set cs k (Some now) ∙ t.size;
        ended = t.ended;
        within = t.within;
        below = t.below;
        each = each_both (λ m. Follows g after order m × (m.component ≡ now)) (members now (back k)) found
            (each_member (λ m. Follows g after order m × (m.component ≡ now)) now (back k) (λ a h. (follows a ((turned a k t.inside).0 h), refl)))
            (each_on (λ m. Follows g cs order m × (m.component ≡ now)) (λ m. Follows g after order m × (m.component ≡ now)) (λ m h. (follows_on m h.0, h.1)) found t.each);
        lowest = λ j n e. lowest j n (set_is cs k now j n fits e);
        rest = λ j i. rest j (t.rest j i);
        joined = λ a b n e f. joined_on a b n (set_is cs k now a n fits e) (set_is cs k now b n fits f);
        falls = λ a b m to e. falls a b m to (set_is cs k now b m fits e);
      }
    where
      after : List (Option ℕ)
      after = set cs k (Some now)

      fits : k < length cs
      fits = let i : k < count = t.inside in omega (arith, i, t.size)

      is_now : component_at after k ≡ Some now
      is_now = set_same cs k now fits

      in_after : (j : ℕ) → IsIn cs j → IsIn after j
      in_after j (n, e) = (n, set_keeps cs k now j n t.new e)

      by_rest : (a : ℕ) → Has (g a) k → (IsIn cs a ⊎ Has order a) ⊎ (k ≡ a) → IsIn after a ⊎ Covers g k order a
      by_rest a to (inl (inl i)) = inl (in_after a i)
      by_rest a to (inl (inr h)) = inr (t.covers a to h)
      by_rest a to (inr e) = inl (now, subst (λ i. component_at after i ≡ Some now) e is_now)

      follows : (a : ℕ) → Has (g a) k → Follows g after order (member_of now a)
      follows a to = record { root = k; is = is_now; leads = leads_to g a k to; back = by_rest a to (t.rest a (within a k to)) }

      back_on : (r j : ℕ) → IsIn cs j ⊎ Covers g r order j → IsIn after j ⊎ Covers g r order j
      back_on r j (inl i) = inl (in_after j i)
      back_on r j (inr h) = inr h

      follows_on : (m : CircleMember) → Follows g cs order m → Follows g after order m
      follows_on m f = record { root = f.root; is = set_keeps cs k now f.root m.component t.new f.is; leads = f.leads; back = back_on f.root m.definition f.back }

      lowest : (j n : ℕ) → ((k ≡ j) × (now ≡ n)) ⊎ (component_at cs j ≡ Some n) → now ≤ n
      lowest j n (inl e) = let same : now ≡ n = e.1 in omega (arith, same)
      lowest j n (inr e) = t.lowest j n e

      rest : (j : ℕ) → (IsIn cs j ⊎ Has order j) ⊎ (k ≡ j) → IsIn after j ⊎ Has order j
      rest j (inl (inl i)) = inl (in_after j i)
      rest j (inl (inr h)) = inr h
      rest j (inr e) = inl (now, subst (λ i. component_at after i ≡ Some now) e is_now)

      joined_on : (a b n : ℕ) → ((k ≡ a) × (now ≡ n)) ⊎ (component_at cs a ≡ Some n) → ((k ≡ b) × (now ≡ n)) ⊎ (component_at cs b ≡ Some n) → Leads g a b
      joined_on a b n (inl e) (inl f) = subst (λ i. Leads g i b) e.0 (subst (Leads g k) f.0 (leads_self g k))
      joined_on a b n (inl e) (inr f) = subst (λ i. Leads g i b) e.0 (t.there b (subst (λ i. component_at cs b ≡ Some i) (sym e.1) f)).0
      joined_on a b n (inr e) (inl f) = subst (Leads g a) f.0 (t.there a (subst (λ i. component_at cs a ≡ Some i) (sym f.1) e)).1
      joined_on a b n (inr e) (inr f) = t.joined a b n e f

      Falls : ℕ → ℕ → Type 0
      Falls a m = ((n : ℕ) × (component_at after a ≡ Some n) × (m ≤ n)) ⊎ ((m ≤ now) × Waits (members now (back k) ++ found) a)

      old_falls : (a m : ℕ) → ((n : ℕ) × (component_at cs a ≡ Some n) × (m ≤ n)) ⊎ ((m ≤ now) × ((k ≡ a) ⊎ Waits found a)) → Falls a m
      old_falls a m (inl (n, e, le)) = inl (n, set_keeps cs k now a n t.new e, le)
      old_falls a m (inr (le, inl e)) = inl (now, subst (λ i. component_at after i ≡ Some now) e is_now, le)
      old_falls a m (inr (le, inr h)) = inr (le, waits_right (members now (back k)) found a h)

      falls : (a b m : ℕ) → Has (g a) b → ((k ≡ b) × (now ≡ m)) ⊎ (component_at cs b ≡ Some m) → Falls a m
      falls a b m to (inr e) = old_falls a m (t.falls a b m to e)
      falls a b m to (inl e) = inr (le, waits_left (members now (back k)) found a (waits_members now (back k) a ((turned a k t.inside).1 (subst (Has (g a)) (sym e.0) to))))
        where
          le : m ≤ now
          le = let same : now ≡ m = e.1 in omega (arith, same)

  -- the next number that was found is in a component already
  found_known : (cs : List (Option ℕ)) (m : CircleMember) (found : List CircleMember) (order : List ℕ) (now n : ℕ) → component_at cs m.definition ≡ Some n → IsJoining g count cs (m ∷ found) order now → IsJoining g count cs found order now
  found_known cs m found order now n is j =
      record {
        size = j.size;
        ended = j.ended;
        within = j.within;
        below = j.below;
        each = j.each.1;
        lowest = j.lowest;
        rest = j.rest;
        joined = j.joined;
        falls = λ a b i to e. by_side a i (j.falls a b i to e);
      }
    where
      by_side : (a i : ℕ) → ((n : ℕ) × (component_at cs a ≡ Some n) × (i ≤ n)) ⊎ ((i ≤ now) × Waits (m ∷ found) a) → ((n : ℕ) × (component_at cs a ≡ Some n) × (i ≤ n)) ⊎ ((i ≤ now) × Waits found a)
      by_side a i (inl h) = inl h
      by_side a i (inr (le, inl e)) = inl (n, subst (λ d. component_at cs d ≡ Some n) e is, not_below)
        where
          not_below : i ≤ n
          not_below = let low : now ≤ n = j.lowest m.definition n is in omega (arith, le, low)
      by_side a i (inr (le, inr h)) = inr (le, h)

  -- the next number that was found is in none yet
  found_new : (cs : List (Option ℕ)) (m : CircleMember) (found : List CircleMember) (order : List ℕ) (now : ℕ) → component_at cs m.definition ≡ None → IsJoining g count cs (m ∷ found) order now → IsTaken g count cs found order now m.definition
  found_new cs m found order now new j =
      record {
        size = j.size;
        ended = j.ended;
        within = j.within;
        below = j.below;
        each = j.each.1;
        lowest = j.lowest;
        rest = λ i h. inl (j.rest i h);
        joined = j.joined;
        falls = j.falls;
        new = new;
        inside = j.within m.definition (covers_has g f.root order m.definition covers);
        there = λ i e. (leads_on g m.definition f.root i f.leads (j.joined f.root i now is_now e), leads_on g i f.root m.definition (j.joined i f.root now e is_now) (covers_leads g f.root order m.definition covers));
        covers = λ a to h. covers_from g m.definition f.root order a f.leads (covers_more g f.root m.definition a order j.ended to h covers);
      }
    where
      f : Follows g cs order m
      f = j.each.0.0

      is_now : component_at cs f.root ≡ Some now
      is_now = f.is ∙ ap Some j.each.0.1

      by_side : IsIn cs m.definition ⊎ Covers g f.root order m.definition → Covers g f.root order m.definition
      by_side (inl (n, e)) = absurd (none_some (component_at cs m.definition) n new e)
      by_side (inr h) = h

      covers : Covers g f.root order m.definition
      covers = by_side f.back

  -- nothing is found any more, and the next number of the order is in a component already
  first_known : (cs : List (Option ℕ)) (k : ℕ) (order : List ℕ) (now n : ℕ) → component_at cs k ≡ Some n → IsJoining g count cs [] (k ∷ order) now → IsJoining g count cs [] order now
  first_known cs k order now n is j =
      record {
        size = j.size;
        ended = j.ended.2;
        within = λ i h. j.within i (inr h);
        below = let b : suc (length order) ≤ now = j.below in omega (arith, b);
        each = tt;
        lowest = j.lowest;
        rest = λ i h. by_side i (j.rest i h);
        joined = j.joined;
        falls = j.falls;
      }
    where
      by_side : (i : ℕ) → IsIn cs i ⊎ Has (k ∷ order) i → IsIn cs i ⊎ Has order i
      by_side i (inl h) = inl h
      by_side i (inr (inl e)) = inl (n, subst (λ d. component_at cs d ≡ Some n) e is)
      by_side i (inr (inr h)) = inr h

  -- the next number of the order is in none yet
  first_new : (cs : List (Option ℕ)) (k : ℕ) (order : List ℕ) (now : ℕ) → component_at cs k ≡ None → IsJoining g count cs [] (k ∷ order) now → IsTaken g count cs [] order (length order) k
  first_new cs k order now new j =
      record {
        size = j.size;
        ended = j.ended.2;
        within = λ i h. j.within i (inr h);
        below = same_size;
        each = tt;
        lowest = λ i n e. lower i n e;
        rest = λ i h. by_side i (j.rest i h);
        joined = j.joined;
        falls = λ a b m to e. old_falls a m (j.falls a b m to e);
        new = new;
        inside = j.within k (inl refl);
        there = λ i e. absurd (none_there i e);
        covers = λ a to h. covers_below g k k a order j.ended.2 j.ended.0 (leads_self g k) to h;
      }
    where
      same_size : length order ≤ length order
      same_size = omega arith

      lower : (i n : ℕ) → component_at cs i ≡ Some n → length order ≤ n
      lower i n e = let b : suc (length order) ≤ now = j.below in let low : now ≤ n = j.lowest i n e in omega (arith, b, low)

      none_there : (i : ℕ) → component_at cs i ≡ Some (length order) → ⊥
      none_there i e = let b : suc (length order) ≤ now = j.below in let low : now ≤ length order = j.lowest i (length order) e in omega (arith, b, low)

      by_side : (i : ℕ) → IsIn cs i ⊎ Has (k ∷ order) i → (IsIn cs i ⊎ Has order i) ⊎ (k ≡ i)
      by_side i (inl h) = inl (inl h)
      by_side i (inr (inl e)) = inr e
      by_side i (inr (inr h)) = inl (inr h)

      old_falls : (a m : ℕ) → ((n : ℕ) × (component_at cs a ≡ Some n) × (m ≤ n)) ⊎ ((m ≤ now) × Waits [] a) →
          ((n : ℕ) × (component_at cs a ≡ Some n) × (m ≤ n)) ⊎ ((m ≤ length order) × ((k ≡ a) ⊎ Waits [] a))
      old_falls a m (inl h) = inl h
      old_falls a m (inr (le, n)) = absurd n

  -- what waits first is looked at
  pub join_next : (cs : List (Option ℕ)) (m : CircleMember) (w : List CircleMember) → IsJoined g count (record { of = cs; waiting = m ∷ w }) → IsJoined g count (join_by back (record { of = cs; waiting = w }) m)
  join_next cs m w j = by_found j.found j.order j.is j.joining
    where
      After : Type 0
      After = IsJoined g count (join_by back (record { of = cs; waiting = w }) m)

      head_is : (x : CircleMember) (xs : List CircleMember) → m ∷ w ≡ x ∷ xs → x ≡ m
      head_is x xs e = cc

      tail_is : (x : CircleMember) (xs : List CircleMember) → m ∷ w ≡ x ∷ xs → xs ≡ w
      tail_is x xs e = cc

      heads : (x : CircleMember) (xs : List CircleMember) → m ∷ w ≡ x ∷ xs → (x ≡ m) × (xs ≡ w)
      heads x xs e = (head_is x xs e, tail_is x xs e)

      no_heads : m ∷ w ≡ [] → ⊥
      no_heads e = cc

      same : (found : List CircleMember) (order : List ℕ) (now n : ℕ) → component_at cs m.definition ≡ Some n → found ++ owns order ≡ w → IsJoining g count cs found order now → After
      same found order now n e is h = rw e (record { found = found; order = order; now = now; is = sym is; joining = h })

      more : (found : List CircleMember) (order : List ℕ) → component_at cs m.definition ≡ None → found ++ owns order ≡ w → IsTaken g count cs found order m.component m.definition → After
      more found order e is t =
          rw e
          (record {
            found = members m.component (back m.definition) ++ found;
            order = order;
            now = m.component;
            is = ap (λ ms. members m.component (back m.definition) ++ ms) (sym is) ∙ sym (append_assoc (members m.component (back m.definition)) found (owns order));
            joining = taken cs found order m.component m.definition t;
          })

      by_value_found : (found : List CircleMember) (order : List ℕ) (now : ℕ) → found ++ owns order ≡ w → IsJoining g count cs (m ∷ found) order now → IsIn cs m.definition ⊎ (component_at cs m.definition ≡ None) → After
      by_value_found found order now is h (inl (n, e)) = same found order now n e is (found_known cs m found order now n e h)
      by_value_found found order now is h (inr e) = more found order e is (subst (λ n. IsTaken g count cs found order n m.definition) (sym h.each.0.1) (found_new cs m found order now e h))

      by_value_first : (order : List ℕ) (now : ℕ) → owns order ≡ w → IsJoining g count cs [] (m.definition ∷ order) now → m.component ≡ length order → IsIn cs m.definition ⊎ (component_at cs m.definition ≡ None) → After
      by_value_first order now is h e (inl (n, f)) = same [] order now n f is (first_known cs m.definition order now n f h)
      by_value_first order now is h e (inr f) = more [] order f is (subst (λ n. IsTaken g count cs [] order n m.definition) (sym e) (first_new cs m.definition order now f h))

      by_found : (found : List CircleMember) (order : List ℕ) → m ∷ w ≡ found ++ owns order → IsJoining g count cs found order j.now → After
      by_found (x ∷ found) order e h =
          let same_head : (x ≡ m) × (found ++ owns order ≡ w) = heads x (found ++ owns order) e in
          by_value_found found order j.now same_head.1 (subst (λ y. IsJoining g count cs (y ∷ found) order j.now) same_head.0 h) (in_or cs m.definition)
      by_found [] (c ∷ order) e h =
          let same_head : (member_of (length order) c ≡ m) × (owns order ≡ w) = heads (member_of (length order) c) (owns order) e in
          by_value_first order j.now same_head.1 (subst (λ i. IsJoining g count cs [] (i ∷ order) j.now) (ap (λ (y : CircleMember). y.definition) same_head.0) h) (sym (ap (λ (y : CircleMember). y.component) same_head.0)) (in_or cs m.definition)
      by_found [] [] e h = absurd (no_heads e)

-- each waits for one of its own, the last one first
owns_from : (cs ks : List ℕ) → with_own (owns cs) (length cs) ks ≡ owns (reverse ks ++ cs)
owns_from cs [] = refl
owns_from cs (k ∷ ks) =
    owns_from (k ∷ cs) ks ∙ ap owns (sym (ap (λ ys. ys ++ cs) (reverse-append (k ∷ []) ks) ∙ append_assoc (reverse ks) (k ∷ []) cs))

no_tail : (ks : List ℕ) → ks ++ [] ≡ ks
no_tail [] = refl
no_tail (k ∷ ks) = ap (λ js. k ∷ js) (no_tail ks)

pub join_first : (g : Graph) (count : ℕ) (order : List ℕ) → IsFinished g count order → IsJoined g count (record { of = replicate count None; waiting = with_own [] 0 order })
join_first g count order f =
    record {
      found = [];
      order = reverse order;
      now = length (reverse order);
      is = owns_from [] order ∙ ap owns (no_tail (reverse order));
      joining =
          record {
            size = length-replicate count None;
            ended = f.ended;
            within = f.within;
            below = same_size;
            each = tt;
            lowest = λ k n e. absurd (none_in count k n e);
            rest = λ k h. inr (f.all k h);
            joined = λ a b n e. absurd (none_in count a n e);
            falls = λ a b m to e. absurd (none_in count b m e);
          };
    }
  where
    same_size : length (reverse order) ≤ length (reverse order)
    same_size = omega arith

-- nothing waits any more
pub join_last : (g : Graph) (count : ℕ) (cs : List (Option ℕ)) → IsJoined g count (record { of = cs; waiting = [] }) → AreComponents g count cs
join_last g count cs j = by_found j.found j.order j.is j.joining
  where
    in_one : (k : ℕ) → IsIn cs k ⊎ Has [] k → IsIn cs k
    in_one k (inl i) = i
    in_one k (inr n) = absurd n

    by_fall : (a n m : ℕ) → component_at cs a ≡ Some n → ((i : ℕ) × (component_at cs a ≡ Some i) × (m ≤ i)) ⊎ ((m ≤ j.now) × Waits [] a) → m ≤ n
    by_fall a n m e (inl (i, f, le)) = subst (λ x. m ≤ x) (some_same i n (sym f ∙ e)) le
    by_fall a n m e (inr (le, w)) = absurd w

    filled : (x : CircleMember) (xs : List CircleMember) → [] ≡ x ∷ xs → ⊥
    filled x xs e = cc

    by_found : (found : List CircleMember) (order : List ℕ) → [] ≡ found ++ owns order → IsJoining g count cs found order j.now → AreComponents g count cs
    by_found [] [] e h = record { all = λ k i. in_one k (h.rest k i); joined = h.joined; falls = λ a b n m to e f. by_fall a n m e (h.falls a b m to f) }
    by_found [] (c ∷ order) e h = absurd (filled (member_of (length order) c) (owns order) e)
    by_found (x ∷ found) order e h = absurd (filled x (found ++ owns order) e)

-- Along links the components fall, so that a number that leads back stays in its own.
falls_on : (g : Graph) (count : ℕ) → IsWithin g count → (cs : List (Option ℕ)) → AreComponents g count cs → (b k n m : ℕ) → Leads g b k → component_at cs b ≡ Some n → component_at cs k ≡ Some m → m ≤ n
falls_on g count within cs h b k n m (start (inl e)) is_b is_k = let same : n ≡ m = some_same n m (sym is_b ∙ subst (λ i. component_at cs i ≡ Some m) (sym e) is_k) in omega (arith, same)
falls_on g count within cs h b k n m (start (inr none)) is_b is_k = absurd none
falls_on g count within cs h b k n m (further {a = a} more to) is_b is_k =
    let middle : IsIn cs a = h.all a (within a k to) in
    let first : middle.0 ≤ n = falls_on g count within cs h b a n middle.0 more is_b middle.1 in
    let last : m ≤ middle.0 = h.falls a k middle.0 m to middle.1 is_k in
    omega (arith, first, last)

same_is : (o : Option ℕ) (p : Option ℕ) → is_same o p ≡ true → (n : ℕ) × (o ≡ Some n) × (p ≡ Some n)
same_is None p e = cc
same_is (Some n) None e = cc
same_is (Some n) (Some m) e = (n, refl, ap Some (sym same))
  where
    same : n ≡ m
    same = eqb-true n m e

any_has : (f : ℕ → Bool) (ks : List ℕ) (k : ℕ) → Has ks k → f k ≡ true → list_any f ks ≡ true
any_has f [] k h e = absurd h
any_has f (j ∷ ks) k (inl same) e = rw (ap f same ∙ e) refl
any_has f (j ∷ ks) k (inr h) e = by_first (any_has f ks k h e) (f j) refl
  where
    by_first : list_any f ks ≡ true → (b : Bool) → f j ≡ b → list_any f (j ∷ ks) ≡ true
    by_first more true t = rw t refl
    by_first more false t = rw t more

has_any : (f : ℕ → Bool) (ks : List ℕ) → list_any f ks ≡ true → (k : ℕ) × Has ks k × (f k ≡ true)
has_any f [] e = cc
has_any f (j ∷ ks) e = by_first (has_any f ks) (f j) refl
  where
    in_rest : f j ≡ false → list_any f ks ≡ true
    in_rest t = sym (ap (λ b. b || list_any f ks) t) ∙ e

    one_on : (k : ℕ) × Has ks k × (f k ≡ true) → (k : ℕ) × Has (j ∷ ks) k × (f k ≡ true)
    one_on (k, h, t) = (k, inr h, t)

    by_first : (list_any f ks ≡ true → (k : ℕ) × Has ks k × (f k ≡ true)) → (b : Bool) → f j ≡ b → (k : ℕ) × Has (j ∷ ks) k × (f k ≡ true)
    by_first more true t = (j, inl refl, t)
    by_first more false t = one_on (more (in_rest t))

begins_within : (g : Graph) (count : ℕ) → IsWithin g count → (a c : ℕ) → Leads g a c → c < count → a < count
begins_within g count within a c (start (inl same)) i = subst (λ x. x < count) (sym same) i
begins_within g count within a c (start (inr none)) i = absurd none
begins_within g count within a c (further {a = d} more to) i = begins_within g count within a d more (within d c to)

-- a number is linked to one of its own component where it leads back to itself
pub back_is : (g : Graph) (count : ℕ) → IsWithin g count → (cs : List (Option ℕ)) → AreComponents g count cs → (k : ℕ) → k < count → IsCircle g true k (is_back g cs k)
back_is g count within cs h k inside = record { told = λ t. (there, back); none = λ f. absurd (differs f) }
  where
    differs : true ≡ false → ⊥
    differs e = cc

    same_at : ℕ → Bool
    same_at b = is_same (component_at cs k) (component_at cs b)

    by_link : (b : ℕ) × Has (g k) b × (same_at b ≡ true) → Reaches g (g k) k
    by_link (b, to, e) = let same : (n : ℕ) × (component_at cs k ≡ Some n) × (component_at cs b ≡ Some n) = same_is (component_at cs k) (component_at cs b) e in
        leads_after g k b k to (h.joined b k same.0 same.2 same.1)

    there : is_back g cs k ≡ true → Reaches g (g k) k
    there e = by_link (has_any same_at (g k) e)

    in_one : (b : ℕ) → Leads g b k → IsIn cs b
    in_one b lead = h.all b (begins_within g count within b k lead inside)

    same_back : (b : ℕ) → Has (g k) b → Leads g b k → IsIn cs k → IsIn cs b → same_at b ≡ true
    same_back b to lead (n, is_k) (m, is_b) = rw (is_k, is_b) (equal up down)
      where
        up : m ≤ n
        up = h.falls k b n m to is_k is_b

        down : n ≤ m
        down = falls_on g count within cs h b k m n lead is_b is_k

        equal : m ≤ n → n ≤ m → (n == m) ≡ true
        equal le ge = let same : n ≡ m = omega (arith, le, ge) in eq-eqb n m same

    by_split : (b : ℕ) × Has (g k) b × Leads g b k → is_back g cs k ≡ true
    by_split (b, to, lead) = any_has same_at (g k) b to (same_back b to lead (h.all k inside) (in_one b lead))

    back : Reaches g (g k) k → is_back g cs k ≡ true
    back r = by_split (leads_split g k k r)

-- a number that is in no component yet is put into one
links_taken : (back : Graph) (count : ℕ) → IsWithin back count → (cs : List (Option ℕ)) (k n : ℕ) → length cs ≡ count → component_at cs k ≡ None →
    length (back k) + open_work is_none (λ i. length (back i)) (set cs k (Some n)) ≤ open_work is_none (λ i. length (back i)) cs
links_taken back count within cs k n size new = by_place (cases_lt k (length cs))
  where
    no_more : length cs ≤ k → length (back k) ≡ 0
    no_more past = unlinked (back k) (λ b h. let inside : k < count = within k b h in absurd (omega (arith, inside, past, size)))

    by_value : (o : Option ℕ) × (slice_get cs k ≡ Some o) → length (back k) + open_work is_none (λ i. length (back i)) (set cs k (Some n)) ≤ open_work is_none (λ i. length (back i)) cs
    by_value (o, e) =
        let is = work_taken is_none (λ i. length (back i)) cs k o (Some n) e (ap is_none (sym (ap joined e) ∙ new)) refl in
        omega (arith, is)

    by_place : (k < length cs) ⊎ (length cs ≤ k) → length (back k) + open_work is_none (λ i. length (back i)) (set cs k (Some n)) ≤ open_work is_none (λ i. length (back i)) cs
    by_place (inl inside) = by_value (get_within cs k inside)
    by_place (inr past) =
        let same = work_not_more is_none (λ i. length (back i)) cs k (Some n) refl in
        let none = no_more past in
        omega (arith, same, none)

-- what waits first is looked at: less is left
pub join_less : (back : Graph) (count : ℕ) → IsWithin back count → (now new : Joined) (m : CircleMember) (w : List CircleMember) → length now.of ≡ count → now.waiting ≡ m ∷ w →
    new ≡ join_by back (record { of = now.of; waiting = w }) m → left_to_join back new < left_to_join back now
join_less back count within now new m w size waits turn = subst (λ (s : Joined). left_to_join back s < left_to_join back now) (sym turn) (by_value (component_at now.of m.definition) refl)
  where
    with_first : length now.waiting ≡ suc (length w)
    with_first = ap (λ (ms : List CircleMember). length ms) waits

    with_links : length (members m.component (back m.definition) ++ w) ≡ length (back m.definition) + length w
    with_links = length-append (members m.component (back m.definition)) w ∙ ap (λ n. n + length w) (length-map (back m.definition) (member_of m.component))

    by_value : (o : Option ℕ) → component_at now.of m.definition ≡ o → left_to_join back (join_by back (record { of = now.of; waiting = w }) m) < left_to_join back now
    by_value (Some n) e = rw e (omega (arith, with_first))
    by_value None e = let taken = links_taken back count within now.of m.definition m.component size e in rw e (omega (arith, with_first, with_links, taken))
