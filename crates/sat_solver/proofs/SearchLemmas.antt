-- What a sound trail gives, and how soundness lasts.
use Rattle.std.proofs.Common.{◌≡◌, ◌≢◌, ℕ, ◌+◌, ◌-◌, ◌<◌, ◌≤◌, eqb, Bool, true, false, not, cond, List, [], ◌∷◌, ◌++◌, length, get_or, take, drop, replicate, reverse, count_by, is_none, Option, Some, None, Result, Ok, Err, OnOk, OnErr, All, refl, sym, ap, ◌∙◌, subst, append_assoc, arith}
use Rattle.std.specs.Prelude.{slice_get}
use Rattle.std.specs.Option.{option_map}
use Rattle.std.proofs.lemmas.Bool.{eqb-true, eq-eqb, both_ways}
use Rattle.std.proofs.lemmas.Option.{none-some, slice_get_within}
use Rattle.std.proofs.lemmas.List.{get_or-reverse, length-reverse, reverse-reverse, reverse-append, take-append-drop}
use Rattle.std.proofs.lemmas.List.Elements.{All-nil, All-cons, All-push}
use Rattle.sat_clauses.specs.Literal.{Literal}
use Rattle.sat_clauses.specs.Assignment.{Assignment, IsInRange, value_of}
use Rattle.sat_clauses.specs.Truth.{truth_of}
use Rattle.sat_clauses.specs.declared.clause.Truth.{Truth}
use Rattle.sat_clauses.specs.declared.clause.Truth.TheVariants.{Unit as UnitClause}
use Rattle.sat_clauses.specs.Hints.{truth_at}
use Rattle.sat_clauses.specs.declared.step.Step.{Step}
use Rattle.sat_clauses.proofs.DeriveTrailLemmas.{count_less, count-free, None-from_value}
use Rattle.sat_solver.specs.declared.trail.TrailEntry.{TrailEntry}
use Rattle.sat_solver.specs.declared.trail.Reason.{Reason}
use Rattle.sat_solver.specs.declared.trail.Reason.TheVariants.{Assumed, Chosen, Implied}
use Rattle.sat_solver.specs.Trail.{assigned, IsFresh, below}
use Rattle.sat_solver.specs.TrailRecord.{TrailValue}
use Rattle.sat_solver.specs.Analysis.{IsWithin, NamesOne}
use Rattle.sat_solver.specs.Search.{IsReason, IsJustified, IsSound, IsStep, AreSteps, with_steps, Grows, Extends}
use Rattle.sat_solver.proofs.TrailLemmas.{length-assigned}
use Rattle.sat_solver.proofs.LearnLemmas.{fresh_after, justified_after}
use Rattle.base_values.proofs.ListLaws.{get_left}

pub OnOk-more : {T E P Q : Type 0} (r : Result T E) → OnOk r P → (P → Q) → OnOk r Q
OnOk-more (Ok x) p f = f p
OnOk-more (Err e) p f = tt

pub All-reverse : {X : Type 0} (P : X → Type 0) (xs : List X) → All P xs → All P (reverse xs)
All-reverse P xs all = λ k d lt.
    let le : k < length xs = omega (arith, length-reverse xs) in
    subst P (sym (get_or-reverse xs k d le)) (all (length xs - 1 - k) d (omega arith))

pub All-from_reverse : {X : Type 0} (P : X → Type 0) (xs : List X) → All P (reverse xs) → All P xs
All-from_reverse P xs all = subst (All P) (reverse-reverse xs) (All-reverse P (reverse xs) all)

fresh_in_range : (n : ℕ) (es : List TrailEntry) → IsFresh n es → All (λ (e : TrailEntry). e.lit.var < n) es
fresh_in_range n [] fresh = All-nil (λ (e : TrailEntry). e.lit.var < n)
fresh_in_range n (e ∷ es) fresh = All-cons (λ (d : TrailEntry). d.lit.var < n) e es fresh.1 (fresh_in_range n es fresh.0)

pub entries_in_range : (n : ℕ) (xs : List TrailEntry) → IsFresh n (reverse xs) → All (λ (e : TrailEntry). e.lit.var < n) xs
entries_in_range n xs fresh = All-from_reverse (λ (e : TrailEntry). e.lit.var < n) xs (fresh_in_range n (reverse xs) fresh)

-- a hint that has a truth names a clause
pub names_one : (cs : List (List Literal)) (a : Assignment) (r : ℕ) (t : Truth) → truth_at cs a r ≡ Some t → NamesOne (length cs) r
names_one cs a r t e = by_test (eqb r 0) refl e where
  by_test : (b : Bool) → eqb r 0 ≡ b → option_map (truth_of a) (cond b None (slice_get cs (r - 1))) ≡ Some t → NamesOne (length cs) r
  by_test true is f = absurd (none-some t f)
  by_test false is f = by_clause (slice_get cs (r - 1)) refl f where
    positive : r ≢ 0
    positive zero_is = both_ways (eqb r 0) is (eq-eqb r 0 zero_is)

    by_clause : (o : Option (List Literal)) → slice_get cs (r - 1) ≡ o → option_map (truth_of a) o ≡ Some t → NamesOne (length cs) r
    by_clause None g h = absurd (none-some t h)
    by_clause (Some c) g h = record {
      positive = omega (arith, positive);
      within = omega (arith, slice_get_within cs (r - 1) c g);
    }

justified_within : (cs : List (List Literal)) (assumptions : List Literal) (n : ℕ) (es : List TrailEntry) → IsJustified cs assumptions n es → All (λ (e : TrailEntry). IsWithin (length cs) e.reason) es
justified_within cs assumptions n [] j = All-nil (λ (e : TrailEntry). IsWithin (length cs) e.reason)
justified_within cs assumptions n (e ∷ es) j =
    All-cons (λ (d : TrailEntry). IsWithin (length cs) d.reason) e es (by_reason e.reason j.1) (justified_within cs assumptions n es j.0)
  where
    by_reason : (q : Reason) → IsReason cs assumptions (assigned n es) e.lit q → IsWithin (length cs) q
    by_reason (Assumed k) h = tt
    by_reason Chosen h = tt
    by_reason (Implied r) h = names_one cs (assigned n es) r (UnitClause e.lit) h

pub reasons_within : (cs : List (List Literal)) (assumptions : List Literal) (n : ℕ) (xs : List TrailEntry) → IsJustified cs assumptions n (reverse xs) → All (λ (e : TrailEntry). IsWithin (length cs) e.reason) xs
reasons_within cs assumptions n xs j = All-from_reverse (λ (e : TrailEntry). IsWithin (length cs) e.reason) xs (justified_within cs assumptions n (reverse xs) j)

-- each entry takes one free place
counted : (n : ℕ) (es : List TrailEntry) → IsFresh n es → length es + count_by is_none (assigned n es) ≡ n
counted n [] fresh = omega (arith, count-free (replicate n None) n refl)
counted n (e ∷ es) fresh =
    omega (
      arith,
      counted n es fresh.0,
      count_less (assigned n es) e.lit.var (not e.lit.negated) (omega (arith, fresh.1, length-assigned n es)) (None-from_value e.lit.negated (get_or (assigned n es) e.lit.var None) fresh.2),
    )

pub has_room : (n : ℕ) (xs : List TrailEntry) (l : Literal) → IsFresh n (reverse xs) → l.var < n → value_of (assigned n (reverse xs)) l ≡ None → length xs < n
has_room n xs l fresh inside free =
    omega (
      arith,
      length-reverse xs,
      counted n (reverse xs) fresh,
      count_less (assigned n (reverse xs)) l.var true (omega (arith, inside, length-assigned n (reverse xs))) (None-from_value l.negated (get_or (assigned n (reverse xs)) l.var None) free),
    )

pub truth_at_more : (cs ds : List (List Literal)) (a : Assignment) (r : ℕ) (t : Truth) → truth_at cs a r ≡ Some t → truth_at (cs ++ ds) a r ≡ Some t
truth_at_more cs ds a r t e = by_test (eqb r 0) e where
  by_test : (b : Bool) → option_map (truth_of a) (cond b None (slice_get cs (r - 1))) ≡ Some t → option_map (truth_of a) (cond b None (slice_get (cs ++ ds) (r - 1))) ≡ Some t
  by_test true f = f
  by_test false f = by_clause (slice_get cs (r - 1)) refl f where
    by_clause : (o : Option (List Literal)) → slice_get cs (r - 1) ≡ o → option_map (truth_of a) o ≡ Some t → option_map (truth_of a) (slice_get (cs ++ ds) (r - 1)) ≡ Some t
    by_clause None g h = absurd (none-some t h)
    by_clause (Some c) g h = ap (option_map (truth_of a)) (get_left cs ds (r - 1) c g) ∙ h

pub justified_more : (cs ds : List (List Literal)) (assumptions : List Literal) (n : ℕ) (es : List TrailEntry) → IsJustified cs assumptions n es → IsJustified (cs ++ ds) assumptions n es
justified_more cs ds assumptions n [] j = tt
justified_more cs ds assumptions n (e ∷ es) j = (justified_more cs ds assumptions n es j.0, by_reason e.reason j.1) where
  by_reason : (q : Reason) → IsReason cs assumptions (assigned n es) e.lit q → IsReason (cs ++ ds) assumptions (assigned n es) e.lit q
  by_reason (Assumed k) h = h
  by_reason Chosen h = h
  by_reason (Implied r) h = truth_at_more cs ds (assigned n es) r (UnitClause e.lit) h

-- the clause that was appended last
pub truth_at_last : (cs : List (List Literal)) (c : List Literal) (a : Assignment) (r : ℕ) → r ≡ length cs + 1 → truth_at (cs ++ c ∷ []) a r ≡ Some (truth_of a c)
truth_at_last cs c a r e = ap (λ k. truth_at (cs ++ c ∷ []) a k) e ∙ by_test (eqb (length cs + 1) 0) refl where
  last : (ds : List (List Literal)) → slice_get (ds ++ c ∷ []) (length ds) ≡ Some c
  last [] = refl
  last (d ∷ ds) = last ds

  by_test : (b : Bool) → eqb (length cs + 1) 0 ≡ b → option_map (truth_of a) (cond b None (slice_get (cs ++ c ∷ []) (length cs + 1 - 1))) ≡ Some (truth_of a c)
  by_test true is = absurd (omega (arith, eqb-true (length cs + 1) 0 is))
  by_test false is = ap (option_map (truth_of a)) (ap (slice_get (cs ++ c ∷ [])) (one_less (length cs)) ∙ last cs) where
    one_less : (k : ℕ) → k + 1 - 1 ≡ k
    one_less k = omega arith

-- a trail that is cut stays sound
pub split_reverse : (xs : List TrailEntry) (k : ℕ) → reverse xs ≡ reverse (drop k xs) ++ below xs k
split_reverse xs k = ap reverse (sym (take-append-drop k xs)) ∙ reverse-append (take k xs) (drop k xs)

pub sound_undone : (cs : List (List Literal)) (assumptions : List Literal) (old new : TrailValue) (k : ℕ) → IsSound cs assumptions old → length new.values ≡ length old.values → new.entries ≡ take k old.entries → new.values ≡ assigned (length old.values) (reverse (take k old.entries)) → IsSound cs assumptions new
sound_undone cs assumptions old new k sound same entries values =
    let n = length old.values in
    let turned : reverse new.entries ≡ below old.entries k = ap reverse entries in
    record {
      lawful = record {
        matches = values ∙ (ap (assigned n) (sym turned) ∙ ap (λ m. assigned m (reverse new.entries)) (sym same));
        fresh = subst (λ m. IsFresh m (reverse new.entries)) (sym same) (subst (IsFresh n) (sym turned)
            (fresh_after n (reverse (drop k old.entries)) (below old.entries k) (subst (IsFresh n) (split_reverse old.entries k) sound.lawful.fresh)));
      };
      in_range = λ i d lt j l lt'. omega (arith, sound.in_range i d lt j l lt', same);
      justified = subst (λ m. IsJustified cs assumptions m (reverse new.entries)) (sym same) (subst (IsJustified cs assumptions n) (sym turned)
          (justified_after cs assumptions n (reverse (drop k old.entries)) (below old.entries k) (subst (IsJustified cs assumptions n) (split_reverse old.entries k) sound.justified)));
    }

-- a clause more, and the trail stays sound
pub sound_more : (cs : List (List Literal)) (c : List Literal) (assumptions : List Literal) (t : TrailValue) → IsSound cs assumptions t → All (IsInRange t.values) c → IsSound (cs ++ c ∷ []) assumptions t
sound_more cs c assumptions t sound in_range = record {
  lawful = sound.lawful;
  in_range = All-push (All (IsInRange t.values)) cs c sound.in_range in_range;
  justified = justified_more cs (c ∷ []) assumptions (length t.values) (reverse t.entries) sound.justified;
}

-- growth
AreSteps-append : (vars : ℕ) (ss ts : List Step) (cs : List (List Literal)) → AreSteps vars cs ss → AreSteps vars (with_steps cs ss) ts → AreSteps vars cs (ss ++ ts)
AreSteps-append vars [] ts cs a b = b
AreSteps-append vars (s ∷ ss) ts cs a b = (a.0, AreSteps-append vars ss ts (cs ++ s.clause ∷ []) a.1 b)

with_steps-append : (ss ts : List Step) (cs : List (List Literal)) → with_steps cs (ss ++ ts) ≡ with_steps (with_steps cs ss) ts
with_steps-append [] ts cs = refl
with_steps-append (s ∷ ss) ts cs = with_steps-append ss ts (cs ++ s.clause ∷ [])

kept_twice : (o : Option (List Step)) (ss ts : List Step) → option_map (λ ks. ks ++ ts) (option_map (λ ks. ks ++ ss) o) ≡ option_map (λ ks. ks ++ (ss ++ ts)) o
kept_twice None ss ts = refl
kept_twice (Some ks) ss ts = ap Some (append_assoc ks ss ts)

pub grows_one : (vars : ℕ) (cs ds : List (List Literal)) (k l : Option (List Step)) (s : Step) → IsStep vars cs s → ds ≡ cs ++ s.clause ∷ [] → l ≡ option_map (λ ks. ks ++ s ∷ []) k → Grows vars cs k ds l
grows_one vars cs ds k l s is clauses kept = record { steps = s ∷ []; are_steps = (is, tt); clauses = clauses; kept = kept }

pub grows_more : (vars : ℕ) (as' bs cs : List (List Literal)) (j k l : Option (List Step)) → Grows vars as' j bs k → Grows vars bs k cs l → Grows vars as' j cs l
grows_more vars as' bs cs j k l g h = record {
  steps = g.steps ++ h.steps;
  are_steps = AreSteps-append vars g.steps h.steps as' g.are_steps (subst (λ xs. AreSteps vars xs h.steps) g.clauses h.are_steps);
  clauses = h.clauses ∙ (ap (λ xs. with_steps xs h.steps) g.clauses ∙ sym (with_steps-append g.steps h.steps as'));
  kept = h.kept ∙ (ap (option_map (λ ks. ks ++ h.steps)) g.kept ∙ kept_twice j g.steps h.steps);
}

pub counted_most : (n : ℕ) (xs : List TrailEntry) → IsFresh n (reverse xs) → length xs ≤ n
counted_most n xs fresh = omega (arith, length-reverse xs, counted n (reverse xs) fresh)

pub extends_one : (vars : ℕ) (cs ds : List (List Literal)) (s : Step) → IsStep vars cs s → ds ≡ cs ++ s.clause ∷ [] → Extends vars cs ds
extends_one vars cs ds s is clauses = record { steps = s ∷ []; are_steps = (is, tt); clauses = clauses }

pub extends_more : (vars : ℕ) (as' bs cs : List (List Literal)) (j k : Option (List Step)) → Grows vars as' j bs k → Extends vars bs cs → Extends vars as' cs
extends_more vars as' bs cs j k g h = record {
  steps = g.steps ++ h.steps;
  are_steps = AreSteps-append vars g.steps h.steps as' g.are_steps (subst (λ xs. AreSteps vars xs h.steps) g.clauses h.are_steps);
  clauses = h.clauses ∙ (ap (λ xs. with_steps xs h.steps) g.clauses ∙ sym (with_steps-append g.steps h.steps as'));
}

pub OnErr_from : {T E P : Type 0} (r : Result T E) → P → OnErr r P
OnErr_from (Ok x) p = tt
OnErr_from (Err e) p = p
