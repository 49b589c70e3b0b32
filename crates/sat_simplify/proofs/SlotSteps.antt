-- Steps of the loops over slots.
use Rattle.std.proofs.Common.{◌≡◌, ℕ, ◌+◌, ◌<◌, ◌≤◌, true, false, List, [], ◌∷◌, ◌++◌, length, get_or, set, take, Some, None, refl, sym, ap, ◌∙◌}
use Rattle.std.proofs.lemmas.Bool.{cond-true, cond-false}
use Rattle.std.proofs.lemmas.List.{set_past, set-get_or, append-nil, take_all, take_more, flat_map_more}
use Rattle.std.proofs.lemmas.List.Sums.{fold_more}
use Rattle.sat_clauses.specs.Literal.{Literal}
use Rattle.std.specs.Option.{option_to_list}
use Rattle.std.specs.List.{filter}
use Rattle.sat_simplify.specs.Slots.{Slot, standing, has_clause}
use Rattle.sat_simplify.specs.Resolution.{has_literal, subsumes, each_once, resolvent}
use Rattle.sat_simplify.specs.Elimination.{unless_tautology, resolvents_with, resolvents}
use Rattle.sat_simplify.specs.Changes.{slot_at, changed_at, changed, slot_has, dropped, covered, slot_covered, picked, gathered, entered}

-- no slot past the end is changed, and none by a change that leaves it as it is
pub changed_past : (f : Slot → Slot) (slots : List Slot) (i : ℕ) → length slots ≤ i → changed_at f slots i ≡ slots
changed_past f slots i over = set_past slots i (f (slot_at slots i)) over

pub changed_same : (f : Slot → Slot) (slots : List Slot) (i : ℕ) → f (slot_at slots i) ≡ slot_at slots i → changed_at f slots i ≡ slots
changed_same f slots i same = ap (set slots i) same ∙ set-get_or slots i None

pub changed_to : (f : Slot → Slot) (slots : List Slot) (i : ℕ) (o : Slot) → f (slot_at slots i) ≡ o → changed_at f slots i ≡ set slots i o
changed_to f slots i o e = ap (set slots i) e

pub dropped_has : (l : Literal) (o : Slot) → slot_has l o ≡ true → dropped l o ≡ None
dropped_has l None e = refl
dropped_has l (Some c) e = cond-true (has_literal l c) None (Some c) e

pub dropped_lacks : (l : Literal) (o : Slot) → slot_has l o ≡ false → dropped l o ≡ o
dropped_lacks l None e = refl
dropped_lacks l (Some c) e = cond-false (has_literal l c) None (Some c) e

pub covered_has : (c : List Literal) (o : Slot) → slot_covered c o ≡ true → covered c o ≡ None
covered_has c None e = refl
covered_has c (Some d) e = cond-true (subsumes c d) None (Some d) e

pub covered_lacks : (c : List Literal) (o : Slot) → slot_covered c o ≡ false → covered c o ≡ o
covered_lacks c None e = refl
covered_lacks c (Some d) e = cond-false (subsumes c d) None (Some d) e

-- one clause more is looked at
pub changed_more : (f : Slot → Slot) (slots : List Slot) (at : List ℕ) (k i : ℕ) (now next : List Slot) → k < length at → i ≡ get_or at k 0 → now ≡ changed f slots (take k at) → next ≡ changed_at f now i → next ≡ changed f slots (take (k + 1) at)
changed_more f slots at k i now next lt is e step =
    step ∙ (ap (λ s. changed_at f s i) e ∙ (ap (changed_at f (changed f slots (take k at))) is ∙ sym (fold_more (changed_at f) slots at k 0 lt)))

pub gathered_more : (l : Literal) (slots : List Slot) (at : List ℕ) (k i : ℕ) (now next : List (List Literal)) → k < length at → i ≡ get_or at k 0 → now ≡ gathered l slots (take k at) → next ≡ now ++ picked l (slot_at slots i) → next ≡ gathered l slots (take (k + 1) at)
gathered_more l slots at k i now next lt is e step =
    step ∙ (ap (λ r. r ++ picked l (slot_at slots i)) e ∙ (flat_map_more (λ i. picked l (slot_at slots i)) [] (take k at) i ∙ ap (gathered l slots) (ap (λ n. take k at ++ n ∷ []) is ∙ sym (take_more at k 0 lt))))

-- one clause more is resolved with
pub resolved_none : (l : Literal) (c : List Literal) (now : List (List Literal)) → now ≡ now ++ resolvents_with l [] c
resolved_none l c now = sym (append-nil now)

pub resolved_more : (l : Literal) (c d : List Literal) (ds : List (List Literal)) (i : ℕ) (start now next : List (List Literal)) → i < length ds → d ≡ get_or ds i d → now ≡ start ++ resolvents_with l (take i ds) c → next ≡ now ++ unless_tautology (resolvent l c d) → next ≡ start ++ resolvents_with l (take (i + 1) ds) c
resolved_more l c d ds i start now next lt is e step =
    step ∙ (ap (λ r. r ++ unless_tautology (resolvent l c d)) e ∙ (flat_map_more (λ d. unless_tautology (resolvent l c d)) start (take i ds) d ∙ ap (λ r. start ++ resolvents_with l r c) (ap (λ x. take i ds ++ x ∷ []) is ∙ sym (take_more ds i d lt))))

pub resolved_all : (l : Literal) (c : List Literal) (ds : List (List Literal)) (i : ℕ) (start now : List (List Literal)) → length ds ≤ i → now ≡ start ++ resolvents_with l (take i ds) c → now ≡ start ++ resolvents_with l ds c
resolved_all l c ds i start now over e = e ∙ ap (λ r. start ++ resolvents_with l r c) (take_all i ds over)

pub resolvents_more : (l : Literal) (c : List Literal) (cs ds : List (List Literal)) (i : ℕ) (now next : List (List Literal)) → i < length cs → c ≡ get_or cs i c → now ≡ resolvents l (take i cs) ds → next ≡ now ++ resolvents_with l ds c → next ≡ resolvents l (take (i + 1) cs) ds
resolvents_more l c cs ds i now next lt is e step =
    step ∙ (ap (λ r. r ++ resolvents_with l ds c) e ∙ (flat_map_more (resolvents_with l ds) [] (take i cs) c ∙ ap (λ r. resolvents l r ds) (ap (λ x. take i cs ++ x ∷ []) is ∙ sym (take_more cs i c lt))))

-- one clause more is entered, and one slot more is listed
pub entered_more : (c d : List Literal) (list : List (List Literal)) (i : ℕ) (now next : List (List Literal)) → i < length list → c ≡ get_or list i c → now ≡ entered (take i list) → d ≡ each_once c → next ≡ now ++ unless_tautology d → next ≡ entered (take (i + 1) list)
entered_more c d list i now next lt is e once step =
    step ∙ (ap (λ x. now ++ unless_tautology x) once ∙ (ap (λ r. r ++ unless_tautology (each_once c)) e ∙ (flat_map_more (λ c. unless_tautology (each_once c)) [] (take i list) c ∙ ap entered (ap (λ x. take i list ++ x ∷ []) is ∙ sym (take_more list i c lt)))))

pub standing_more : (o : Slot) (slots : List Slot) (i : ℕ) (now next : List (List Literal)) → i < length slots → o ≡ get_or slots i o → now ≡ standing (take i slots) → next ≡ now ++ option_to_list o → next ≡ standing (take (i + 1) slots)
standing_more o slots i now next lt is e step =
    step ∙ (ap (λ r. r ++ option_to_list o) e ∙ (flat_map_more option_to_list [] (take i slots) o ∙ ap standing (ap (λ x. take i slots ++ x ∷ []) is ∙ sym (take_more slots i o lt))))

-- slots without a clause go
pub closed_up : (slots : List Slot) → standing (filter has_clause slots) ≡ standing slots
closed_up [] = refl
closed_up (None ∷ slots) = closed_up slots
closed_up (Some c ∷ slots) = ap (λ cs. c ∷ cs) (closed_up slots)

pub ruleset dropped_rules = (changed_past, changed_same, changed_to, dropped_has, dropped_lacks)

pub ruleset covered_rules = (changed_past, changed_same, changed_to, covered_has, covered_lacks)

pub ruleset resolved_steps = (resolved_none, resolved_more, resolved_all)
