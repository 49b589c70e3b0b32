-- Steps of the loops that mark variables and count what is not marked.
use Rattle.std.proofs.Common.{◌≡◌, ◌⊎◌, inl, inr, ℕ, ◌+◌, ◌-◌, ◌<◌, ◌≤◌, Bool, true, false, IsTrue, List, [], ◌∷◌, ◌++◌, length, get_or, set, take, drop, All, sym, ap, ◌∙◌, subst, arith}
use Rattle.std.proofs.lemmas.Bool.{cases_eq, cases_lt, false≢true}
use Rattle.std.proofs.lemmas.List.{get_or-set_same, get_or-set_other, get_or_append_left, get_or_past, take_all}
use Rattle.std.proofs.lemmas.List.Elements.{All-more, All-weaker, All-nil}
use Rattle.sat_clauses.specs.Literal.{Literal}
use Rattle.sat_simplify.specs.CompactNumbers.{KeepsMarks, IsMarked, HasMarked}

-- a place more, a mark more and other changes after these keep all marks
pub marks_itself : (a : List Bool) → KeepsMarks a a
marks_itself a = record { at = λ i has. has }

pub marks_all : (a b c : List Bool) → KeepsMarks a b → KeepsMarks b c → KeepsMarks a c
marks_all a b c f g = record { at = λ i has. g.at i (f.at i has) }

pub marks_grown : (a : List Bool) → KeepsMarks a (a ++ false ∷ [])
marks_grown a = record { at = λ i has. by_place i has (cases_lt i (length a)) } where
  by_place : (i : ℕ) → IsTrue (get_or a i false) → (i < length a) ⊎ (length a ≤ i) → IsTrue (get_or (a ++ false ∷ []) i false)
  by_place i has (inl lt) = get_or_append_left a (false ∷ []) false i lt ∙ has
  by_place i has (inr ge) = absurd (false≢true (sym (get_or_past a i false ge) ∙ has))

pub set_marked : (a : List Bool) (i : ℕ) → i < length a → IsTrue (get_or (set a i true) i false)
set_marked a i lt = get_or-set_same a i true false lt

pub marks_set : (a : List Bool) (i : ℕ) → i < length a → KeepsMarks a (set a i true)
marks_set a i lt = record { at = λ k has. by_place k has (cases_eq k i) } where
  by_place : (k : ℕ) → IsTrue (get_or a k false) → (k ≡ i) ⊎ (k ≡ i → ⊥) → IsTrue (get_or (set a i true) k false)
  by_place k has (inl e) = ap (λ n. get_or (set a i true) n false) e ∙ set_marked a i lt
  by_place k has (inr ne) = get_or-set_other a i k true false ne ∙ has

pub kept_mark : (places : ℕ) (a b : List Bool) → KeepsMarks a b → (l : Literal) → IsMarked places a l → IsMarked places b l
kept_mark places a b keeps l m = record { at = λ lt. keeps.at (l.var - places - 1) (m.at lt) }

-- a clause is marked literal by literal
pub marked_none : (places : ℕ) (a : List Bool) → HasMarked places a a []
marked_none places a = record { has = All-nil (IsMarked places a); keeps = marks_itself a }

pub marked_more : (places : ℕ) (a b c : List Bool) (lits : List Literal) (i : ℕ) (l : Literal) → i < length lits → l ≡ get_or lits i l → HasMarked places a b (take i lits) → IsMarked places c l → KeepsMarks b c → HasMarked places a c (take (i + 1) lits)
marked_more places a b c lits i l lt is before here keeps = record {
  has = All-more (IsMarked places c) lits i l lt (All-weaker (IsMarked places b) (IsMarked places c) (kept_mark places b c keeps) (take i lits) before.has) (subst (IsMarked places c) is here);
  keeps = marks_all a b c before.keeps keeps;
}

pub marked_all : (places : ℕ) (a b : List Bool) (lits : List Literal) (i : ℕ) → length lits ≤ i → HasMarked places a b (take i lits) → HasMarked places a b lits
marked_all places a b lits i over h = subst (HasMarked places a b) (take_all i lits over) h

-- a list is marked clause by clause
pub listed_none : (places : ℕ) (a : List Bool) → All (All (IsMarked places a)) []
listed_none places a = All-nil (All (IsMarked places a))

pub listed_more : (places : ℕ) (a b : List Bool) (list : List (List Literal)) (i : ℕ) (c : List Literal) → i < length list → c ≡ get_or list i c → All (All (IsMarked places a)) (take i list) → HasMarked places a b c → All (All (IsMarked places b)) (take (i + 1) list)
listed_more places a b list i c lt is before h =
    All-more (All (IsMarked places b)) list i c lt
    (All-weaker (All (IsMarked places a)) (All (IsMarked places b)) (λ d m. All-weaker (IsMarked places a) (IsMarked places b) (kept_mark places a b h.keeps) d m) (take i list) before)
    (subst (All (IsMarked places b)) is h.has)

pub listed_all : (places : ℕ) (a : List Bool) (list : List (List Literal)) (i : ℕ) → length list ≤ i → All (All (IsMarked places a)) (take i list) → All (All (IsMarked places a)) list
listed_all places a list i over h = subst (All (All (IsMarked places a))) (take_all i list over) h

pub ruleset growing_rules = (marks_grown, marks_itself, marks_all)

pub ruleset setting_rules = (marks_set, marks_all, set_marked)

pub ruleset marked_steps = (marked_none, marked_more, marked_all)

pub ruleset listed_steps = (listed_none, listed_more, listed_all)
