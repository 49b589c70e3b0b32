-- What is known of a trail from its free choices, and from a variable below which none is free.
use Rattle.std.proofs.Common.{zero, suc, ◌≡◌, ◌≢◌, ◌<◌, ◌≤◌, ◌+◌, ◌⊎◌, inl, inr, ⊎_elim, ℕ, true, List, [], ◌∷◌, ◌++◌, All, length, reverse, take, replicate, set, Some, None, sym, ap, ◌∙◌, subst, arith}
use Rattle.std.specs.Prelude.{slice_get}
use Rattle.std.proofs.lemmas.List.{reverse-append, length-set, length-replicate, get_or-set_other}
use Rattle.std.proofs.lemmas.List.Elements.{All-weaker}
use Rattle.sat_clauses.specs.Literal.{Literal}
use Rattle.sat_clauses.specs.Assignment.{Assignment, all_free, value_of}
use Rattle.sat_clauses.specs.Derivation.{IsUpTo}
use Rattle.sat_solver.specs.declared.trail.TrailEntry.{TrailEntry}
use Rattle.sat_solver.specs.declared.trail.Reason.{Reason}
use Rattle.sat_solver.specs.declared.trail.Reason.TheVariants.{Assumed, Chosen}
use Rattle.sat_solver.specs.TrailRecord.{TrailValue}
use Rattle.sat_solver.specs.Trail.{assigned, IsFresh, HasChoice, HasAssumed, IsLeast}
use Rattle.sat_solver.specs.Search.{IsReason, IsJustified, IsSound}
use Rattle.sat_solver.proofs.ExplainLemmas.{value_part, IsPart-more}

-- one of these was made true for this reason
abbrev HasReason : Reason → List TrailEntry → Type 0
HasReason q [] = ⊥
HasReason q (e ∷ es) = (e.reason ≡ q) ⊎ HasReason q es

reason_left : (q : Reason) (xs ys : List TrailEntry) → HasReason q xs → HasReason q (xs ++ ys)
reason_left q [] ys h = absurd h
reason_left q (x ∷ xs) ys h = ⊎_elim (λ here. inl here) (λ later. inr (reason_left q xs ys later)) h

reason_right : (q : Reason) (xs ys : List TrailEntry) → HasReason q ys → HasReason q (xs ++ ys)
reason_right q [] ys h = h
reason_right q (x ∷ xs) ys h = inr (reason_right q xs ys h)

reason_reverse : (q : Reason) (xs : List TrailEntry) → HasReason q xs → HasReason q (reverse xs)
reason_reverse q [] h = h
reason_reverse q (x ∷ xs) h =
    subst (HasReason q) (sym (reverse-append (x ∷ []) xs))
    (⊎_elim (λ here. reason_right q (reverse xs) (x ∷ []) (inl here)) (λ later. reason_left q (reverse xs) (x ∷ []) (reason_reverse q xs later)) h)

reason_at : (q : Reason) (xs : List TrailEntry) (i : ℕ) (e : TrailEntry) → slice_get xs i ≡ Some e → e.reason ≡ q → HasReason q xs
reason_at q [] i e is same = cc
reason_at q (x ∷ xs) zero e is here = inl (same x e is ∙ here)
  where
    same : (x e : TrailEntry) → Some x ≡ Some e → x.reason ≡ e.reason
    same x e is = cc
reason_at q (x ∷ xs) (suc i) e is same = inr (reason_at q xs i e is same)

-- where the reason says that these literals were true, they still are
true_since : (clauses : List (List Literal)) (assumptions : List Literal) (n : ℕ) (q : Reason) (ls : List Literal) →
    ((a : Assignment) (l : Literal) → IsReason clauses assumptions a l q → All (λ p. value_of a p ≡ Some true) ls) →
    (es : List TrailEntry) → IsFresh n es → IsJustified clauses assumptions n es → HasReason q es → All (λ p. value_of (assigned n es) p ≡ Some true) ls
true_since clauses assumptions n q ls tells [] fresh just h = absurd h
true_since clauses assumptions n q ls tells (e ∷ es) fresh just h =
    All-weaker (λ p. value_of (assigned n es) p ≡ Some true) (λ p. value_of (assigned n (e ∷ es)) p ≡ Some true)
    (λ p was. value_part (assigned n es) (assigned n (e ∷ es)) p true (IsPart-more (assigned n es) e.lit fresh.2) was) ls
    (⊎_elim
    (λ here. tells (assigned n es) e.lit (subst (IsReason clauses assumptions (assigned n es) e.lit) here just.1))
    (λ later. true_since clauses assumptions n q ls tells es fresh.0 just.0 later)
    h)

true_in : (clauses : List (List Literal)) (assumptions : List Literal) (t : TrailValue) (q : Reason) (ls : List Literal) →
    ((a : Assignment) (l : Literal) → IsReason clauses assumptions a l q → All (λ p. value_of a p ≡ Some true) ls) →
    IsSound clauses assumptions t → HasReason q t.entries → All (λ p. value_of t.values p ≡ Some true) ls
true_in clauses assumptions t q ls tells sound has =
    subst (λ (a : Assignment). All (λ p. value_of a p ≡ Some true) ls) (sym sound.lawful.matches)
    (true_since clauses assumptions (length t.values) q ls tells (reverse t.entries) sound.lawful.fresh sound.justified (reason_reverse q t.entries has))

-- where a choice was made, the assumptions are true
pub choice_assumes : (clauses : List (List Literal)) (assumptions : List Literal) (t : TrailValue) → IsSound clauses assumptions t → HasChoice t →
    All (λ p. value_of t.values p ≡ Some true) assumptions
choice_assumes clauses assumptions t sound has =
    true_in clauses assumptions t Chosen assumptions (λ a l all. all) sound (reason_at Chosen t.entries has.place has.entry has.is_there has.chosen)

-- and where an assumption was made true, the first ones that its reason counts
pub assumed_assumes : (clauses : List (List Literal)) (assumptions : List Literal) (t : TrailValue) (count : ℕ) → IsSound clauses assumptions t → HasAssumed t count →
    All (λ p. value_of t.values p ≡ Some true) (take count assumptions)
assumed_assumes clauses assumptions t count sound has =
    true_in clauses assumptions t (Assumed count) (take count assumptions) (λ a l so. so.1) sound (reason_at (Assumed count) t.entries has.place has.entry has.is_there has.assumed)

-- a variable that is freed may be the least free one
pub least_freed : (a : Assignment) (n v : ℕ) → IsLeast a n → 1 ≤ v → v < n → IsLeast (set a v None) v
least_freed a n v least positive below = record {
  positive = positive;
  within = subst (λ (m : ℕ). v ≤ m) (sym (length-set a v None)) (omega (arith, below, least.within));
  taken = λ x some lt. λ is. least.taken x some (omega (arith, lt, below)) (sym (get_or-set_other a v x None None (other x lt)) ∙ is);
}
  where
    other : (x : ℕ) → x < v → x ≢ v
    other x lt same = omega (arith, lt, same)

pub least_kept : (a : Assignment) (n v : ℕ) → IsLeast a n → n ≤ v → IsLeast (set a v None) n
least_kept a n v least above = record {
  positive = least.positive;
  within = subst (λ (m : ℕ). n ≤ m) (sym (length-set a v None)) least.within;
  taken = λ x some lt. λ is. least.taken x some lt (sym (get_or-set_other a v x None None (other x lt)) ∙ is);
}
  where
    other : (x : ℕ) → x < n → x ≢ v
    other x lt same = omega (arith, lt, same, above)

-- a trail without literals is sound
pub sound_first : (clauses : List (List Literal)) (assumptions : List Literal) (vars : ℕ) (t : TrailValue) → t.values ≡ all_free vars → t.entries ≡ [] → All (All (IsUpTo vars)) clauses → IsSound clauses assumptions t
sound_first clauses assumptions vars t free none up_to = record {
  lawful = record {
    matches = free ∙ (ap (λ n. replicate n None) (sym places) ∙ ap (λ es. assigned (length t.values) (reverse es)) (sym none));
    fresh = subst (λ es. IsFresh (length t.values) (reverse es)) (sym none) tt;
  };
  in_range = All-weaker (All (IsUpTo vars)) (All (λ (l : Literal). l.var < length t.values))
      (λ c each. All-weaker (IsUpTo vars) (λ (l : Literal). l.var < length t.values) (λ l up. subst (λ n. l.var < n) (sym places) (omega (arith, up))) c each) clauses up_to;
  justified = subst (λ es. IsJustified clauses assumptions (length t.values) (reverse es)) (sym none) tt;
}
  where
    places : length t.values ≡ vars + 1
    places = ap length free ∙ length-replicate (vars + 1) None
