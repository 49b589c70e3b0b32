-- Changes of slots, and what they are worth.
use Rattle.std.proofs.Common.{◌≡◌, ◌⊎◌, inl, inr, ⊎_elim, ℕ, ◌<◌, ◌≤◌, Bool, true, false, List, [], ◌∷◌, ◌++◌, length, get_or, Some, None, All, Contains, refl, sym, ap, ◌∙◌, subst, arith}
use Rattle.std.specs.Prelude.{slice_get}
use Rattle.std.proofs.lemmas.Bool.{cases_Bool, cases_eq, cases_lt, cond-true, cond-false}
use Rattle.std.proofs.lemmas.Option.{none-some, same_Some, get_or_from_slice_get, slice_get_within, slice_get-get_or}
use Rattle.std.proofs.lemmas.List.{get_or-set_same, get_or-set_other, get_or_default, set_past, length-set, get_or_past, get_or_append_left, length_push, get_or_push}
use Rattle.std.proofs.lemmas.List.Elements.{All-set, All-contains}
use Rattle.std.proofs.lemmas.List.Sums.{AllPass-from_list_all}
use Rattle.sat_clauses.specs.Literal.{Literal}
use Rattle.sat_clauses.specs.Code.{code_of}
use Rattle.sat_clauses.specs.Models.{TotalAssignment, literal_value, clause_value}
use Rattle.sat_simplify.specs.Resolution.{has_literal, subsumes, without, each_once}
use Rattle.sat_simplify.specs.Slots.{Slot, IsMade, IsOver, IsSlotOver, AreNoted}
use Rattle.sat_simplify.specs.Changes.{slot_at, changed_at, changed, dropped, shrunk, covered}
use Rattle.sat_simplify.specs.OccurrenceLists.{noted_at, HasNoted, IsNotedAt}
use Rattle.sat_simplify.proofs.Members.{contains_from_has, from_without, from_once}
use Rattle.sat_simplify.proofs.ClauseLaws.{true_by, true_in_more, true_without, true_with, true_once, once_true}

-- what each change keeps holds of all slots after as before
pub all_after : (P : Slot → Type 0) (f : Slot → Slot) → P None → ((o : Slot) → P o → P (f o)) → (slots : List Slot) (at : List ℕ) → All P slots → All P (changed f slots at)
all_after P f none step slots [] all = all
all_after P f none step slots (i ∷ at) all = all_after P f none step (changed_at f slots i) at (All-set P slots i (f (slot_at slots i)) (step (slot_at slots i) (by_place (cases_lt i (length slots)))) all) where
  by_place : (i < length slots) ⊎ (length slots ≤ i) → P (slot_at slots i)
  by_place (inl lt) = all i None lt
  by_place (inr ge) = subst P (sym (get_or_past slots i None ge)) none

pub all_before_one : (P : Slot → Type 0) (f : Slot → Slot) → ((o : Slot) → P (f o) → P o) → (slots : List Slot) (i : ℕ) → All P (changed_at f slots i) → All P slots
all_before_one P f step slots i all k d lt = by_place (cases_eq k i) where
  by_place : (k ≡ i) ⊎ (k ≡ i → ⊥) → P (get_or slots k d)
  by_place (inl e) =
      let inside : i < length slots = omega (arith, e, lt) in
      let there : P (get_or (changed_at f slots i) i d) = all i d (omega (arith, inside, length-set slots i (f (slot_at slots i)))) in
      subst P (get_or_default slots k None d lt) (subst (λ n. P (slot_at slots n)) (sym e) (step (slot_at slots i) (subst P (get_or-set_same slots i (f (slot_at slots i)) d inside) there)))
  by_place (inr ne) = subst P (get_or-set_other slots i k (f (slot_at slots i)) d ne) (all k d (omega (arith, lt, length-set slots i (f (slot_at slots i)))))

pub all_before : (P : Slot → Type 0) (f : Slot → Slot) → ((o : Slot) → P (f o) → P o) → (slots : List Slot) (at : List ℕ) → All P (changed f slots at) → All P slots
all_before P f step slots [] all = all
all_before P f step slots (i ∷ at) all = all_before_one P f step slots i (all_before P f step (changed_at f slots i) at all)

-- a clause that has the literal is dropped, and no other is
pub dropped_cases : (l : Literal) (c : List Literal) → ((dropped l (Some c) ≡ None) × Contains c l) ⊎ (dropped l (Some c) ≡ Some c)
dropped_cases l c = by_test (cases_Bool (has_literal l c)) where
  by_test : (has_literal l c ≡ true) ⊎ (has_literal l c ≡ false) → ((dropped l (Some c) ≡ None) × Contains c l) ⊎ (dropped l (Some c) ≡ Some c)
  by_test (inl has) = inl (cond-true (has_literal l c) None (Some c) has, contains_from_has l c has)
  by_test (inr lacks) = inr (cond-false (has_literal l c) None (Some c) lacks)

pub shrunk_cases : (l : Literal) (c : List Literal) → (shrunk l (Some c) ≡ Some (each_once (without l c))) ⊎ (shrunk l (Some c) ≡ Some c)
shrunk_cases l c = by_test (cases_Bool (has_literal l c)) where
  by_test : (has_literal l c ≡ true) ⊎ (has_literal l c ≡ false) → (shrunk l (Some c) ≡ Some (each_once (without l c))) ⊎ (shrunk l (Some c) ≡ Some c)
  by_test (inl has) = inl (cond-true (has_literal l c) (Some (each_once (without l c))) (Some c) has)
  by_test (inr lacks) = inr (cond-false (has_literal l c) (Some (each_once (without l c))) (Some c) lacks)

-- what is dropped is made true no less
pub dropped_made : (v : TotalAssignment) (l : Literal) (o : Slot) → IsMade v o → IsMade v (dropped l o)
dropped_made v l None made = tt
dropped_made v l (Some c) made = ⊎_elim (λ gone. subst (IsMade v) (sym gone.0) tt) (λ same. subst (IsMade v) (sym same) made) (dropped_cases l c)

-- where the literal is true, what was dropped is
pub dropped_back : (v : TotalAssignment) (l : Literal) → literal_value v l ≡ true → (o : Slot) → IsMade v (dropped l o) → IsMade v o
dropped_back v l on None made = tt
dropped_back v l on (Some c) made = ⊎_elim (λ gone. true_by v c l gone.1 on) (λ same. subst (IsMade v) same made) (dropped_cases l c)

-- a false literal is taken out of a true clause
pub shrunk_made : (v : TotalAssignment) (l : Literal) → literal_value v l ≡ false → (o : Slot) → IsMade v o → IsMade v (shrunk l o)
shrunk_made v l off None made = tt
shrunk_made v l off (Some c) made = ⊎_elim (λ less. subst (IsMade v) (sym less) (true_once v (without l c) (true_without v l c off made))) (λ same. subst (IsMade v) (sym same) made) (shrunk_cases l c)

pub shrunk_back : (v : TotalAssignment) (l : Literal) (o : Slot) → IsMade v (shrunk l o) → IsMade v o
shrunk_back v l None made = tt
shrunk_back v l (Some c) made = ⊎_elim (λ less. true_with v l c (once_true v (without l c) (subst (IsMade v) less made))) (λ same. subst (IsMade v) same made) (shrunk_cases l c)

-- a clause is taken out where another subsumes it, and only there
pub covered_cases : (c d : List Literal) → ((covered c (Some d) ≡ None) × (subsumes c d ≡ true)) ⊎ (covered c (Some d) ≡ Some d)
covered_cases c d = by_test (cases_Bool (subsumes c d)) where
  by_test : (subsumes c d ≡ true) ⊎ (subsumes c d ≡ false) → ((covered c (Some d) ≡ None) × (subsumes c d ≡ true)) ⊎ (covered c (Some d) ≡ Some d)
  by_test (inl there) = inl (cond-true (subsumes c d) None (Some d) there, there)
  by_test (inr lacks) = inr (cond-false (subsumes c d) None (Some d) lacks)

-- a subsumed clause is true where the other is
pub subsumed_true : (v : TotalAssignment) (c d : List Literal) → subsumes c d ≡ true → clause_value v c ≡ true → clause_value v d ≡ true
subsumed_true v c d e on = true_in_more v c d (λ m has. contains_from_has m d (All-contains (λ l. has_literal l d ≡ true) c m (AllPass-from_list_all (λ l. has_literal l d) c e) has)) on

pub covered_made : (v : TotalAssignment) (c : List Literal) (o : Slot) → IsMade v o → IsMade v (covered c o)
covered_made v c None made = tt
covered_made v c (Some d) made = ⊎_elim (λ gone. subst (IsMade v) (sym gone.0) tt) (λ same. subst (IsMade v) (sym same) made) (covered_cases c d)

pub covered_back : (v : TotalAssignment) (c : List Literal) → clause_value v c ≡ true → (o : Slot) → IsMade v (covered c o) → IsMade v o
covered_back v c on None made = tt
covered_back v c on (Some d) made = ⊎_elim (λ gone. subsumed_true v c d gone.1 on) (λ same. subst (IsMade v) same made) (covered_cases c d)

pub covered_over : (test : ℕ → Bool) (c : List Literal) (o : Slot) → IsSlotOver test o → IsSlotOver test (covered c o)
covered_over test c None over = tt
covered_over test c (Some d) over = ⊎_elim (λ gone. subst (IsSlotOver test) (sym gone.0) tt) (λ same. subst (IsSlotOver test) (sym same) over) (covered_cases c d)

-- a clause with literals of another has variables of it
pub over_fewer : (test : ℕ → Bool) (c d : List Literal) → ((m : Literal) → Contains d m → Contains c m) → IsOver test c → IsOver test d
over_fewer test c d inside over k e lt = All-contains (λ m. test m.var ≡ true) c (get_or d k e) over (inside (get_or d k e) (k, lt, get_or_default d k (get_or d k e) e lt))

pub dropped_over : (test : ℕ → Bool) (l : Literal) (o : Slot) → IsSlotOver test o → IsSlotOver test (dropped l o)
dropped_over test l None over = tt
dropped_over test l (Some c) over = ⊎_elim (λ gone. subst (IsSlotOver test) (sym gone.0) tt) (λ same. subst (IsSlotOver test) (sym same) over) (dropped_cases l c)

pub shrunk_over : (test : ℕ → Bool) (l : Literal) (o : Slot) → IsSlotOver test o → IsSlotOver test (shrunk l o)
shrunk_over test l None over = tt
shrunk_over test l (Some c) over = ⊎_elim (λ less. subst (IsSlotOver test) (sym less) (over_fewer test c (each_once (without l c)) (λ m has. (from_without l c m (from_once (without l c) m has)).0) over)) (λ same. subst (IsSlotOver test) (sym same) over) (shrunk_cases l c)

-- the clause of each slot after a change has literals of the clause before
pub record Lessens (f : Slot → Slot) : Type 0 where
  pub at : (o : Slot) (c : List Literal) (l : Literal) → f o ≡ Some c → Contains c l → (d : List Literal) × (o ≡ Some d) × Contains d l

pub dropped_lessens : (l : Literal) → Lessens (dropped l)
dropped_lessens l = record { at = by_slot } where
  by_slot : (o : Slot) (c : List Literal) (m : Literal) → dropped l o ≡ Some c → Contains c m → (d : List Literal) × (o ≡ Some d) × Contains d m
  by_slot None c m e has = absurd (none-some c e)
  by_slot (Some d) c m e has = ⊎_elim (λ gone. absurd (none-some c (sym gone.0 ∙ e))) (λ same. (d, refl, subst (λ x. Contains x m) (sym (same_Some d c (sym same ∙ e))) has)) (dropped_cases l d)

pub covered_lessens : (c : List Literal) → Lessens (covered c)
covered_lessens c = record { at = by_slot } where
  by_slot : (o : Slot) (e : List Literal) (m : Literal) → covered c o ≡ Some e → Contains e m → (d : List Literal) × (o ≡ Some d) × Contains d m
  by_slot None e m is has = absurd (none-some e is)
  by_slot (Some d) e m is has = ⊎_elim (λ gone. absurd (none-some e (sym gone.0 ∙ is))) (λ same. (d, refl, subst (λ x. Contains x m) (sym (same_Some d e (sym same ∙ is))) has)) (covered_cases c d)

pub shrunk_lessens : (l : Literal) → Lessens (shrunk l)
shrunk_lessens l = record { at = by_slot } where
  by_slot : (o : Slot) (c : List Literal) (m : Literal) → shrunk l o ≡ Some c → Contains c m → (d : List Literal) × (o ≡ Some d) × Contains d m
  by_slot None c m e has = absurd (none-some c e)
  by_slot (Some d) c m e has =
      ⊎_elim (λ less. (d, refl, (from_without l d m (from_once (without l d) m (subst (λ x. Contains x m) (sym (same_Some (each_once (without l d)) c (sym less ∙ e))) has))).0)) (λ same. (d, refl, subst (λ x. Contains x m) (sym (same_Some d c (sym same ∙ e))) has)) (shrunk_cases l d)

-- what a slot has that is looked up
pub slot_from : (slots : List Slot) (i : ℕ) (c : List Literal) → slice_get slots i ≡ Some (Some c) → slot_at slots i ≡ Some c
slot_from slots i c e = get_or_from_slice_get slots i (Some c) None e

pub slot_to : (slots : List Slot) (i : ℕ) (c : List Literal) → slot_at slots i ≡ Some c → slice_get slots i ≡ Some (Some c)
slot_to slots i c e = by_place (cases_lt i (length slots)) where
  by_place : (i < length slots) ⊎ (length slots ≤ i) → slice_get slots i ≡ Some (Some c)
  by_place (inl lt) = slice_get-get_or slots i None lt ∙ ap Some e
  by_place (inr ge) = absurd (none-some c (sym (get_or_past slots i None ge) ∙ e))

-- fewer literals leave all clauses noted
pub noted_changed_one : (f : Slot → Slot) → Lessens f → (occurrences : List (List ℕ)) (slots : List Slot) (i : ℕ) → AreNoted occurrences slots → AreNoted occurrences (changed_at f slots i)
noted_changed_one f less occurrences slots i noted = record { at = λ k c l e has. by_place k c l (slot_from (changed_at f slots i) k c e) has (cases_eq k i) (cases_lt i (length slots)) } where
  by_place : (k : ℕ) (c : List Literal) (l : Literal) → slot_at (changed_at f slots i) k ≡ Some c → Contains c l → (k ≡ i) ⊎ (k ≡ i → ⊥) → (i < length slots) ⊎ (length slots ≤ i) → Contains (noted_at occurrences (code_of l)) k
  by_place k c l e has (inl same) (inl lt) =
      let here : f (slot_at slots i) ≡ Some c = sym (get_or-set_same slots i (f (slot_at slots i)) None lt) ∙ (ap (slot_at (changed_at f slots i)) (sym same) ∙ e) in
      let before = less.at (slot_at slots i) c l here has in
      noted.at k before.0 l (slot_to slots k before.0 (ap (slot_at slots) same ∙ before.1)) before.2
  by_place k c l e has (inr other) _ = noted.at k c l (slot_to slots k c (sym (get_or-set_other slots i k (f (slot_at slots i)) None other) ∙ e)) has
  by_place k c l e has (inl same) (inr ge) = noted.at k c l (slot_to slots k c (ap (λ s. slot_at s k) (sym (set_past slots i (f (slot_at slots i)) ge)) ∙ e)) has

pub noted_changed : (f : Slot → Slot) → Lessens f → (occurrences : List (List ℕ)) (slots : List Slot) (at : List ℕ) → AreNoted occurrences slots → AreNoted occurrences (changed f slots at)
noted_changed f less occurrences slots [] noted = noted
noted_changed f less occurrences slots (i ∷ at) noted = noted_changed f less occurrences (changed_at f slots i) at (noted_changed_one f less occurrences slots i noted)

-- a clause more, whose literals were noted
pub noted_pushed : (old new : List (List ℕ)) (slots : List Slot) (c : List Literal) → HasNoted old new c (length slots) → AreNoted old slots → AreNoted new (slots ++ Some c ∷ [])
noted_pushed old new slots c notes noted = record { at = λ i d l e has. by_place i d l (slice_get_within (slots ++ Some c ∷ []) i (Some d) e) (slot_from (slots ++ Some c ∷ []) i d e) has (cases_lt i (length slots)) } where
  by_place : (i : ℕ) (d : List Literal) (l : Literal) → i < length (slots ++ Some c ∷ []) → slot_at (slots ++ Some c ∷ []) i ≡ Some d → Contains d l → (i < length slots) ⊎ (length slots ≤ i) → Contains (noted_at new (code_of l)) i
  by_place i d l within e has (inl lt) = notes.keeps.at (code_of l) i (noted.at i d l (slot_to slots i d (sym (get_or_append_left slots (Some c ∷ []) None i lt) ∙ e)) has)
  by_place i d l within e has (inr ge) =
      let last : i ≡ length slots = omega (arith, within, ge, length_push slots (Some c)) in
      let same : Some c ≡ Some d = sym (get_or_push slots (Some c) None i (sym last)) ∙ e in
      subst (Contains (noted_at new (code_of l))) (sym last) (All-contains (IsNotedAt new (length slots)) c l notes.has (subst (λ x. Contains x l) (sym (same_Some c d same)) has))
