-- What a lesson does to the trail, and which assumptions refute the rest.
use Rattle.std.proofs.Common.{◌≡◌, ◌≢◌, ⊎_elim, ℕ, ◌+◌, ◌<◌, ◌≤◌, Bool, true, false, cond, List, [], ◌∷◌, ◌++◌, length, get_or, take, drop, reverse, Some, None, All, Contains, refl, sym, ap, ◌∙◌, subst, length-append, arith}
use Rattle.std.specs.Prelude.{slice_get}
use Rattle.std.specs.Option.{option_map}
use Rattle.std.proofs.lemmas.Option.{none-some, slice_get_within, get_or_from_slice_get}
use Rattle.std.proofs.lemmas.List.Elements.{All-nil, All-cons, All-push, All-head, All-tail, All-contains}
use Rattle.sat_clauses.specs.Literal.{Literal, opposite, signed}
use Rattle.sat_clauses.specs.Assignment.{Assignment, IsInRange, value_of, made_true}
use Rattle.sat_clauses.specs.Models.{FollowsFrom, clause_value}
use Rattle.sat_clauses.specs.Truth.{truth_of}
use Rattle.sat_clauses.specs.declared.clause.Truth.TheVariants.{False, Unit as UnitClause}
use Rattle.sat_clauses.proofs.ModelLemmas.{All-from_Satisfies}
use Rattle.sat_clauses.proofs.TruthLemmas.{truth_of-False, truth_of-Unit}
use Rattle.sat_clauses.specs.Hints.{truth_at, HasNoOpposites, LacksOpposite}
use Rattle.sat_clauses.proofs.FalseLemmas.{made_true_true, opposite-opposite}
use Rattle.sat_solver.specs.declared.trail.TrailEntry.{TrailEntry}
use Rattle.sat_solver.specs.declared.trail.Reason.{Reason}
use Rattle.sat_solver.specs.declared.trail.Reason.TheVariants.{Assumed, Chosen, Implied}
use Rattle.sat_solver.specs.Trail.{assigned, IsFresh, IsLawful, below}
use Rattle.sat_solver.specs.TrailRecord.{TrailValue}
use Rattle.sat_solver.specs.AnalysisRecord.{AnalysisValue}
use Rattle.sat_solver.specs.Analysis.{numbered, may_resolve, visited, visited_by, passed, resolver, analysed, begun}
use Rattle.sat_solver.specs.Search.{IsReason, IsJustified, IsSound, IsDecision}
use Rattle.sat_solver.specs.Score.{score}
use Rattle.sat_solver.specs.Verdict.{IsCore}
use Rattle.sat_solver.proofs.TrailLemmas.{below_more}
use Rattle.sat_solver.proofs.ExplainLemmas.{value_at, value_part, false_here, IsPart-more}
use Rattle.sat_solver.proofs.OpenLemmas.{None_part, hinted, numbered_all}
use Rattle.sat_solver.proofs.StepLemmas.{nothing_free}
use Rattle.sat_solver.proofs.LearnLemmas.{Turns, learned_turns, fresh_after, justified_after}
use Rattle.sat_solver.proofs.ScoreLemmas.{score_turn}
use Rattle.sat_solver.proofs.SearchLemmas.{split_reverse, All-reverse, counted_most}
use Rattle.sat_clauses.proofs.DeriveTrailLemmas.{None-from_value}

-- a unit clause's literal is in range and free
pub unit_in_range : (cs : List (List Literal)) (a : Assignment) (r : ℕ) (l : Literal) → All (All (IsInRange a)) cs → truth_at cs a r ≡ Some (UnitClause l) → l.var < length a
unit_in_range cs a r l in_range e =
    let h = hinted cs a r (UnitClause l) e in
    All-contains (IsInRange a) (numbered cs r) l (numbered_all (All (IsInRange a)) cs r h.0 in_range) ((truth_of-Unit a (numbered cs r) l).0 h.1).in_clause

pub unit_free : (cs : List (List Literal)) (a : Assignment) (r : ℕ) (l : Literal) → truth_at cs a r ≡ Some (UnitClause l) → value_of a l ≡ None
unit_free cs a r l e =
    let h = hinted cs a r (UnitClause l) e in
    ((truth_of-Unit a (numbered cs r) l).0 h.1).free

-- the first literal of a lesson, under the trail that is kept
pub record IsTurned (n : ℕ) (xs : List TrailEntry) (clause : List Literal) (target : ℕ) (l : Literal) : Type 0 where
  pub decision : TrailEntry
  pub after : List TrailEntry
  pub in_turn : xs ≡ (take target xs ++ decision ∷ []) ++ after
  pub is_decision : IsDecision decision.reason
  pub places : length (take target xs) ≡ target
  pub is_unit : truth_of (assigned n (below xs target)) clause ≡ UnitClause l
  pub in_range : l.var < n
  pub free : value_of (assigned n (below xs target)) l ≡ None

first_of : (c : List Literal) (l : Literal) → length c ≢ 0 → l ≡ get_or c 0 l → (rest : List Literal) × (c ≡ l ∷ rest)
first_of [] l some e = absurd (some refl)
first_of (m ∷ ms) l some e = (ms, ap (λ x. x ∷ ms) (sym e))

pub lesson_turns : (cs : List (List Literal)) (assumptions : List Literal) (t : TrailValue) (number : ℕ) (clause : List Literal) (target : ℕ) (l : Literal) → IsSound cs assumptions t → clause ≡ (analysed cs false (begun (length t.values) cs number) (reverse t.entries)).lits → target ≡ (analysed cs false (begun (length t.values) cs number) (reverse t.entries)).target → length clause ≢ 0 → l ≡ get_or clause 0 l → IsTurned (length t.values) t.entries clause target l
lesson_turns cs assumptions t number clause target l sound lits at some first =
    let n = length t.values in
    let xs = t.entries in
    let s = analysed cs false (begun n cs number) (reverse xs) in
    let f = first_of clause l some first in
    let w : Turns n xs s l = learned_turns cs n xs number sound.lawful.fresh f.0 l (sym lits ∙ f.1) in
    let turned : IsTurned n xs s.lits s.target l = record {
      decision = w.decision;
      after = w.after;
      in_turn = w.in_turn;
      is_decision = w.is_decision;
      places = w.places;
      is_unit = w.is_unit;
      in_range = w.in_range;
      free = w.free;
    } in
    subst (λ (c : List Literal). IsTurned n xs c target l) (sym lits) (subst (λ (k : ℕ). IsTurned n xs s.lits k l) (sym at) turned)

pub turned_within : (n : ℕ) (xs : List TrailEntry) (clause : List Literal) (target : ℕ) (l : Literal) → IsTurned n xs clause target l → target + 1 ≤ length xs
turned_within n xs clause target l w =
    let whole : length xs ≡ length (take target xs ++ w.decision ∷ []) + length w.after = ap length w.in_turn ∙ length-append (take target xs ++ w.decision ∷ []) w.after in
    omega (arith, whole, length-append (take target xs) (w.decision ∷ []), w.places)

-- an implied literal in place of a decision
pub turned_rises : (n : ℕ) (xs ys : List TrailEntry) (clause : List Literal) (target : ℕ) (l : Literal) (number : ℕ) → IsTurned n xs clause target l → IsFresh n (reverse xs) → ys ≡ take target xs ++ (record { lit = l; reason = Implied number }) ∷ [] → score n xs + 1 ≤ score n ys
turned_rises n xs ys clause target l number w fresh is =
    let e : TrailEntry = record { lit = l; reason = Implied number } in
    let room : length (take target xs) < n = omega (arith, turned_within n xs clause target l w, w.places, counted_most n xs fresh) in
    omega (arith, ap (score n) w.in_turn, ap (score n) is, score_turn n (take target xs) w.after w.decision e number w.is_decision refl room)

-- a true literal stands on the trail
pub true_listed : (n : ℕ) (es : List TrailEntry) (l : Literal) → All (λ (e : TrailEntry). e.lit ≢ l) es → value_of (assigned n es) l ≡ Some true → ⊥
true_listed n [] l none e = let w = value_at (assigned n []) l true e in nothing_free n l.var w.0 w.1
true_listed n (d ∷ es) l none e =
    ⊎_elim (λ was. true_listed n es l (All-tail (λ (e : TrailEntry). e.lit ≢ l) d es none) was) (λ same. All-head (λ (e : TrailEntry). e.lit ≢ l) d es none (sym same)) (made_true_true (assigned n es) d.lit l e)

pub not_listed : (t : TrailValue) (l : Literal) → IsLawful t → value_of t.values l ≡ Some true → All (λ (e : TrailEntry). e.lit ≢ l) t.entries → ⊥
not_listed t l lawful is none =
    true_listed (length t.values) (reverse t.entries) l (All-reverse (λ (e : TrailEntry). e.lit ≢ l) t.entries none)
    (ap (λ (a : Assignment). value_of a l) (sym lawful.matches) ∙ is)

-- an entry of a sound trail, over those before it
pub fresh_at : (n : ℕ) (xs : List TrailEntry) (i : ℕ) (e : TrailEntry) → slice_get xs i ≡ Some e → IsFresh n (reverse xs) → IsFresh n (e ∷ below xs i)
fresh_at n xs i e at fresh =
    subst (IsFresh n) (below_more xs i e at) (fresh_after n (reverse (drop (i + 1) xs)) (below xs (i + 1)) (subst (IsFresh n) (split_reverse xs (i + 1)) fresh))

pub justified_at : (cs : List (List Literal)) (assumptions : List Literal) (n : ℕ) (xs : List TrailEntry) (i : ℕ) (e : TrailEntry) → slice_get xs i ≡ Some e → IsJustified cs assumptions n (reverse xs) → IsJustified cs assumptions n (e ∷ below xs i)
justified_at cs assumptions n xs i e at justified =
    subst (IsJustified cs assumptions n) (below_more xs i e at) (justified_after cs assumptions n (reverse (drop (i + 1) xs)) (below xs (i + 1)) (subst (IsJustified cs assumptions n) (split_reverse xs (i + 1)) justified))

-- before its opposite, a literal is free
pub free_before : (n : ℕ) (p : Literal) (e : TrailEntry) (es : List TrailEntry) → e.lit ≡ opposite p → IsFresh n (e ∷ es) → value_of (assigned n es) p ≡ None
free_before n p e es is fresh =
    ap (option_map (signed p.negated)) (ap (λ x. get_or (assigned n es) x None) (ap (λ (l : Literal). l.var) (sym is)) ∙ None-from_value e.lit.negated (get_or (assigned n es) e.lit.var None) fresh.2)

-- an assumption's opposite was made true by a clause
pub only_implied : (cs : List (List Literal)) (assumptions : List Literal) (n : ℕ) (p : Literal) (e : TrailEntry) (es : List TrailEntry) → HasNoOpposites assumptions → Contains assumptions p → e.lit ≡ opposite p → IsFresh n (e ∷ es) → IsJustified cs assumptions n (e ∷ es) → ((x : ℕ) → e.reason ≡ Implied x → ⊥) → ⊥
only_implied cs assumptions n p e es apart has is fresh justified other = by_reason e.reason refl justified.1 where
  by_reason : (q : Reason) → e.reason ≡ q → IsReason cs assumptions (assigned n es) e.lit q → ⊥
  by_reason (Assumed k) same h = (All-contains (LacksOpposite assumptions) assumptions p apart has).absent (subst (Contains assumptions) is h.0)
  by_reason Chosen same h = none-some true (sym (free_before n p e es is fresh) ∙ All-contains (λ l. value_of (assigned n es) l ≡ Some true) assumptions p h has)
  by_reason (Implied x) same h = other x same

-- where an assumption is free, no free choice was made
none_chosen : (cs : List (List Literal)) (assumptions : List Literal) (n : ℕ) (p : Literal) (es : List TrailEntry) → Contains assumptions p → IsFresh n es → IsJustified cs assumptions n es → value_of (assigned n es) p ≡ None → All (λ (e : TrailEntry). e.reason ≢ Chosen) es
none_chosen cs assumptions n p [] has fresh justified free = All-nil (λ (e : TrailEntry). e.reason ≢ Chosen)
none_chosen cs assumptions n p (e ∷ es) has fresh justified free =
    let was = None_part (assigned n es) (assigned n (e ∷ es)) p (IsPart-more (assigned n es) e.lit fresh.2) free in
    All-cons (λ (d : TrailEntry). d.reason ≢ Chosen) e es
    (λ same. none-some true (sym was ∙ All-contains (λ l. value_of (assigned n es) l ≡ Some true) assumptions p (subst (IsReason cs assumptions (assigned n es) e.lit) same justified.1) has))
    (none_chosen cs assumptions n p es has fresh.0 justified.0 was)

-- fully analysed, a clause has negated assumptions alone
core_lits : (cs : List (List Literal)) (assumptions : List Literal) (n : ℕ) (es : List TrailEntry) (s : AnalysisValue) → IsJustified cs assumptions n es → All (λ (e : TrailEntry). e.reason ≢ Chosen) es → All (λ l. Contains assumptions (opposite l)) s.lits → All (λ l. Contains assumptions (opposite l)) (analysed cs true s es).lits
core_lits cs assumptions n [] s justified none all = all
core_lits cs assumptions n (e ∷ es) s justified none all =
    core_lits cs assumptions n es (visited cs true s e es) justified.0 (All-tail (λ (d : TrailEntry). d.reason ≢ Chosen) e es none)
    (by_mark (get_or s.marks e.lit.var false))
  where
    by_reason : (q : Reason) → IsReason cs assumptions (assigned n es) e.lit q → q ≢ Chosen → All (λ l. Contains assumptions (opposite l)) (visited_by cs s e (length es) (resolver q true)).lits
    by_reason (Implied r) h ne = all
    by_reason Chosen h ne = absurd (ne refl)
    by_reason (Assumed k) h ne =
        All-push (λ l. Contains assumptions (opposite l)) s.lits (opposite e.lit) all (subst (Contains assumptions) (sym (opposite-opposite e.lit)) h.0)

    by_mark : (m : Bool) → All (λ l. Contains assumptions (opposite l)) (cond m (visited_by cs s e (length es) (resolver e.reason (may_resolve true s es))) (passed s e (length es))).lits
    by_mark false = all
    by_mark true = by_reason e.reason justified.1 (All-head (λ (d : TrailEntry). d.reason ≢ Chosen) e es none)

-- the trail on which an assumption stands in place of its opposite
pub core_negated : (cs : List (List Literal)) (assumptions : List Literal) (n : ℕ) (p : Literal) (e : TrailEntry) (es : List TrailEntry) (number k : ℕ) → Contains assumptions p → e.reason ≡ Assumed k → IsFresh n es → IsJustified cs assumptions n (e ∷ es) → value_of (assigned n es) p ≡ None → All (λ l. Contains assumptions (opposite l)) (analysed cs true (begun n cs number) (e ∷ es)).lits
core_negated cs assumptions n p e es number k has is fresh justified free =
    core_lits cs assumptions n (e ∷ es) (begun n cs number) justified
    (All-cons (λ (d : TrailEntry). d.reason ≢ Chosen) e es (λ same. differs (sym is ∙ same)) (none_chosen cs assumptions n p es has fresh justified.0 free))
    (All-nil (λ l. Contains assumptions (opposite l)))
  where
    differs : Assumed k ≡ Chosen → ⊥
    differs e = cc

-- and there the clause that implied the opposite is false
pub refuted_false : (cs : List (List Literal)) (a : Assignment) (r : ℕ) (p : Literal) → p.var < length a → value_of a p ≡ None → truth_at cs a r ≡ Some (UnitClause (opposite p)) → truth_at cs (made_true a p) r ≡ Some False
refuted_false cs a r p inside free e =
    let h = hinted cs a r (UnitClause (opposite p)) e in
    let c = numbered cs r in
    let unit = (truth_of-Unit a c (opposite p)).0 h.1 in
    ap (option_map (truth_of (made_true a p))) h.0
    ∙ ap Some ((truth_of-False (made_true a p) c).1
    (λ k d lt.
    ⊎_elim (λ same. ap (value_of (made_true a p)) same ∙ false_here a p inside)
    (λ is_false. value_part a (made_true a p) (get_or c k d) false (IsPart-more a p free) is_false)
    (unit.others_false k d lt)))

-- each of some clauses follows from them
pub listed_follows : (cs : List (List Literal)) (c : List Literal) → Contains cs c → FollowsFrom cs c
listed_follows cs c listed = λ v model. All-contains (λ d. clause_value v d ≡ true) cs c (All-from_Satisfies v cs model) listed

-- an empty clause is a core
pub empty_core : (cs : List (List Literal)) (assumptions : List Literal) (c : List Literal) → Contains cs c → length c ≡ 0 → IsCore true cs assumptions c
empty_core cs assumptions c listed empty = record {
  listed = λ _. listed;
  negated = λ k d lt. absurd (omega arith);
  follows = listed_follows cs c listed;
}

pub listed_at : (cs : List (List Literal)) (i : ℕ) (c : List Literal) → slice_get cs i ≡ Some c → Contains cs c
listed_at cs i c e = (i, slice_get_within cs i c e, get_or_from_slice_get cs i c c e)

pub nothing_in : (c : List Literal) → length c ≡ 0 → c ≡ []
nothing_in [] e = refl
nothing_in (l ∷ ls) e = absurd (omega arith)
