-- What resolvents and tautologies are worth where every variable has a value.
use Rattle.std.proofs.Common.{◌≡◌, ◌⊎◌, inl, inr, ⊎_elim, ℕ, true, false, not, cond, List, [], ◌∷◌, Contains, eqb, refl, sym, ap, ◌∙◌, subst, eq-eqb}
use Rattle.std.specs.Prelude.{Any}
use Rattle.std.proofs.lemmas.Bool.{cases_Bool, cases_eq, cond-true, cond-false, both_ways, ne_eqb, not_from_true, not_from_false, false_from_ne_true}
use Rattle.std.proofs.lemmas.List.Folds.{Any-from_list_any, list_any-from_Any}
use Rattle.sat_clauses.specs.Literal.{Literal, opposite, signed}
use Rattle.sat_clauses.specs.Models.{TotalAssignment, literal_value, clause_value}
use Rattle.sat_clauses.specs.Truth.{is_same}
use Rattle.sat_clauses.proofs.ModelLemmas.{literal_value-opposite}
use Rattle.sat_clauses.proofs.FalseLemmas.{opposite-opposite, signed_not, same_or_opposite}
use Rattle.sat_clauses.proofs.ListLemmas.{Contains-cons}
use Rattle.sat_simplify.specs.Resolution.{has_literal, without, each_once, resolvent, is_tautology}
use Rattle.sat_simplify.specs.Elimination.{unless_tautology, resolvents_with, resolvents}
use Rattle.sat_simplify.proofs.Members.{cons_cases, from_flat_map, in_flat_map, is_same-refl, same_literal, contains_from_has, from_without, in_without, from_joined, joined_left, joined_right, from_once, in_once}
use Rattle.base_values.proofs.ListLaws.{none_contained, contains_here}

-- a clause is true exactly where one of its literals is
pub true_literal : (v : TotalAssignment) (c : List Literal) → clause_value v c ≡ true → (m : Literal) × Contains c m × (literal_value v m ≡ true)
true_literal v c e =
    let some : Any (λ l. literal_value v l ≡ true) c = Any-from_list_any (literal_value v) c e in
    (some.1, (some.0, some.2, some.3), some.4)

pub true_by : (v : TotalAssignment) (c : List Literal) (m : Literal) → Contains c m → literal_value v m ≡ true → clause_value v c ≡ true
true_by v c m has e = list_any-from_Any (literal_value v) c (has.0, m, has.1, has.2, e)

-- a clause with all literals of one that is true is true
pub true_in_more : (v : TotalAssignment) (c d : List Literal) → ((m : Literal) → Contains c m → Contains d m) → clause_value v c ≡ true → clause_value v d ≡ true
true_in_more v c d inside e = let t = true_literal v c e in true_by v d t.0 (inside t.0 t.1) t.2

-- a false literal may go
pub true_without : (v : TotalAssignment) (l : Literal) (c : List Literal) → literal_value v l ≡ false → clause_value v c ≡ true → clause_value v (without l c) ≡ true
true_without v l c off e =
    let t = true_literal v c e in
    true_by v (without l c) t.0 (in_without l c t.0 t.1 (false_from_ne_true (is_same t.0 l) (λ same. both_ways (literal_value v l) off (subst (λ x. literal_value v x ≡ true) (same_literal t.0 l same) t.2)))) t.2

pub true_with : (v : TotalAssignment) (l : Literal) (c : List Literal) → clause_value v (without l c) ≡ true → clause_value v c ≡ true
true_with v l c e = true_in_more v (without l c) c (λ m has. (from_without l c m has).0) e

pub true_once : (v : TotalAssignment) (c : List Literal) → clause_value v c ≡ true → clause_value v (each_once c) ≡ true
true_once v c e = true_in_more v c (each_once c) (in_once c) e

pub once_true : (v : TotalAssignment) (c : List Literal) → clause_value v (each_once c) ≡ true → clause_value v c ≡ true
once_true v c e = true_in_more v (each_once c) c (from_once c) e

-- a tautology is true
pub tautology_true : (v : TotalAssignment) (c : List Literal) → is_tautology c ≡ true → clause_value v c ≡ true
tautology_true v c e =
    let some : Any (λ l. has_literal (opposite l) c ≡ true) c = Any-from_list_any (λ l. has_literal (opposite l) c) c e in
    by_value (cases_Bool (literal_value v some.1)) some.1 (some.0, some.2, some.3) (contains_from_has (opposite some.1) c some.4)
  where
    by_value : {l : Literal} → (literal_value v l ≡ true) ⊎ (literal_value v l ≡ false) → (k : Literal) → Contains c l → Contains c (opposite l) → clause_value v c ≡ true
    by_value {l} (inl on) k has other = true_by v c l has on
    by_value {l} (inr off) k has other = true_by v c (opposite l) other (literal_value-opposite v l ∙ not_from_false (literal_value v l) off)

-- a resolvent follows from its two clauses
pub resolvent_follows : (v : TotalAssignment) (l : Literal) (c d : List Literal) → clause_value v c ≡ true → clause_value v d ≡ true → clause_value v (resolvent l c d) ≡ true
resolvent_follows v l c d e f = by_value (cases_Bool (literal_value v l)) where
  by_value : (literal_value v l ≡ true) ⊎ (literal_value v l ≡ false) → clause_value v (resolvent l c d) ≡ true
  by_value (inl on) = true_in_more v (without (opposite l) d) (resolvent l c d) (joined_right (each_once (without l c)) (without (opposite l) d)) (true_without v (opposite l) d (literal_value-opposite v l ∙ not_from_true (literal_value v l) on) f)
  by_value (inr off) = true_in_more v (without l c) (resolvent l c d) (λ m has. joined_left (each_once (without l c)) (without (opposite l) d) m (in_once (without l c) m has)) (true_without v l c off e)

-- where it is true, what is left of one of the two is
pub resolvent_gives : (v : TotalAssignment) (l : Literal) (c d : List Literal) → clause_value v (resolvent l c d) ≡ true → (clause_value v (without l c) ≡ true) ⊎ (clause_value v (without (opposite l) d) ≡ true)
resolvent_gives v l c d e =
    let t = true_literal v (resolvent l c d) e in
    ⊎_elim (λ has. inl (true_by v (without l c) t.0 (from_once (without l c) t.0 has) t.2)) (λ has. inr (true_by v (without (opposite l) d) t.0 has t.2)) (from_joined (each_once (without l c)) (without (opposite l) d) t.0 t.1)

-- each clause of a list is true
abbrev pub AreTrue : TotalAssignment → List (List Literal) → Type 0
AreTrue v cs = (c : List Literal) → Contains cs c → clause_value v c ≡ true

-- a list of a clause but for tautologies is true where the clause is
pub unless_true : (v : TotalAssignment) (c : List Literal) → clause_value v c ≡ true → AreTrue v (unless_tautology c)
unless_true v c e d has = by_test (cases_Bool (is_tautology c)) where
  by_test : (is_tautology c ≡ true) ⊎ (is_tautology c ≡ false) → clause_value v d ≡ true
  by_test (inl always) = absurd (none_contained d (subst (λ r. Contains r d) (cond-true (is_tautology c) [] (c ∷ []) always) has))
  by_test (inr open') = ⊎_elim (λ same. subst (λ x. clause_value v x ≡ true) same e) (λ none. absurd (none_contained d none)) (cons_cases c [] d (subst (λ r. Contains r d) (cond-false (is_tautology c) [] (c ∷ []) open') has))

pub true_unless : (v : TotalAssignment) (c : List Literal) → AreTrue v (unless_tautology c) → clause_value v c ≡ true
true_unless v c all = by_test (cases_Bool (is_tautology c)) where
  by_test : (is_tautology c ≡ true) ⊎ (is_tautology c ≡ false) → clause_value v c ≡ true
  by_test (inl always) = tautology_true v c always
  by_test (inr open') = all c (subst (λ r. Contains r c) (sym (cond-false (is_tautology c) [] (c ∷ []) open')) (contains_here c []))

-- all resolvents follow
pub resolvents_follow : (v : TotalAssignment) (l : Literal) (cs ds : List (List Literal)) → AreTrue v cs → AreTrue v ds → AreTrue v (resolvents l cs ds)
resolvents_follow v l cs ds left right r has =
    let c = from_flat_map (resolvents_with l ds) cs r has in
    let d = from_flat_map (λ d. unless_tautology (resolvent l c.0 d)) ds r c.2 in
    unless_true v (resolvent l c.0 d.0) (resolvent_follows v l c.0 d.0 (left c.0 c.1) (right d.0 d.1)) r d.2

pub resolvents_give : (v : TotalAssignment) (l : Literal) (cs ds : List (List Literal)) (c d : List Literal) → AreTrue v (resolvents l cs ds) → Contains cs c → Contains ds d → clause_value v (resolvent l c d) ≡ true
resolvents_give v l cs ds c d all has other =
    true_unless v (resolvent l c d) (λ r in'. all r (in_flat_map (resolvents_with l ds) cs c r has (in_flat_map (λ d. unless_tautology (resolvent l c d)) ds d r other in')))

-- the assignment, with the literal made true
abbrev pub turned : TotalAssignment → Literal → TotalAssignment
turned v l x = cond (eqb x l.var) (not l.negated) (v x)

pub turned_other : (v : TotalAssignment) (l : Literal) (x : ℕ) → (x ≡ l.var → ⊥) → turned v l x ≡ v x
turned_other v l x other = cond-false (eqb x l.var) (not l.negated) (v x) (ne_eqb x l.var other)

pub turned_true : (v : TotalAssignment) (l : Literal) → literal_value (turned v l) l ≡ true
turned_true v l = ap (signed l.negated) (cond-true (eqb l.var l.var) (not l.negated) (v l.var) (eq-eqb l.var l.var refl)) ∙ signed_not l.negated

-- a true literal that is not the opposite stays true
pub stays_true : (v : TotalAssignment) (l m : Literal) → literal_value v m ≡ true → is_same m (opposite l) ≡ false → literal_value (turned v l) m ≡ true
stays_true v l m e other = by_var (cases_eq m.var l.var) where
  by_kind : (m ≡ l) ⊎ (m ≡ opposite l) → literal_value (turned v l) m ≡ true
  by_kind (inl same) = subst (λ x. literal_value (turned v l) x ≡ true) (sym same) (turned_true v l)
  by_kind (inr opp) = absurd (both_ways (is_same m (opposite l)) other (subst (λ x. is_same m x ≡ true) opp (is_same-refl m)))

  by_var : (m.var ≡ l.var) ⊎ (m.var ≡ l.var → ⊥) → literal_value (turned v l) m ≡ true
  by_var (inl same) = by_kind (same_or_opposite m l same)
  by_var (inr apart) = ap (signed m.negated) (turned_other v l m.var apart) ∙ e

-- what is left of a clause without the opposite is true still
pub rest_stays : (v : TotalAssignment) (l : Literal) (c : List Literal) → clause_value v (without (opposite l) c) ≡ true → clause_value (turned v l) c ≡ true
rest_stays v l c e =
    let t = true_literal v (without (opposite l) c) e in
    let there = from_without (opposite l) c t.0 t.1 in
    true_by (turned v l) c t.0 there.0 (stays_true v l t.0 t.2 there.1)

-- a true clause that lacks the opposite stays true
pub lacking_stays : (v : TotalAssignment) (l : Literal) (c : List Literal) → (Contains c (opposite l) → ⊥) → clause_value v c ≡ true → clause_value (turned v l) c ≡ true
lacking_stays v l c lacks e =
    let t = true_literal v c e in
    true_by (turned v l) c t.0 t.1 (stays_true v l t.0 t.2 (false_from_ne_true (is_same t.0 (opposite l)) (λ same. lacks (subst (Contains c) (same_literal t.0 (opposite l) same) t.1))))

-- where all resolvents are true, a value of the variable makes all clauses of the literal and of its opposite true
pub record HasTurn (v : TotalAssignment) (l : Literal) (cs ds : List (List Literal)) : Type 0 where
  pub literal : Literal
  pub is : (literal ≡ l) ⊎ (literal ≡ opposite l)
  pub left : AreTrue (turned v literal) cs
  pub right : AreTrue (turned v literal) ds

first_false : (v : TotalAssignment) (l : Literal) (cs : List (List Literal)) → ((c : List Literal) → Contains cs c → clause_value v (without l c) ≡ true) ⊎ ((c : List Literal) × Contains cs c × (clause_value v (without l c) ≡ false))
first_false v l [] = inl (λ c has. absurd (none_contained c has))
first_false v l (c ∷ cs) = by_value (cases_Bool (clause_value v (without l c))) (first_false v l cs) where
  by_value : (clause_value v (without l c) ≡ true) ⊎ (clause_value v (without l c) ≡ false) → ((d : List Literal) → Contains cs d → clause_value v (without l d) ≡ true) ⊎ ((d : List Literal) × Contains cs d × (clause_value v (without l d) ≡ false)) → ((d : List Literal) → Contains (c ∷ cs) d → clause_value v (without l d) ≡ true) ⊎ ((d : List Literal) × Contains (c ∷ cs) d × (clause_value v (without l d) ≡ false))
  by_value (inr off) more = inr (c, contains_here c cs, off)
  by_value (inl on) (inl all) = inl (λ d has. ⊎_elim (λ same. subst (λ x. clause_value v (without l x) ≡ true) same on) (λ h. all d h) (cons_cases c cs d has))
  by_value (inl on) (inr one) = inr (one.0, Contains-cons c cs one.0 one.1, one.2)

pub has_turn : (v : TotalAssignment) (l : Literal) (cs ds : List (List Literal)) → ((c : List Literal) → Contains cs c → Contains c l) → ((d : List Literal) → Contains ds d → Contains d (opposite l)) → AreTrue v (resolvents l cs ds) → HasTurn v l cs ds
has_turn v l cs ds have other all = by_first (first_false v l cs) where
  by_first : ((c : List Literal) → Contains cs c → clause_value v (without l c) ≡ true) ⊎ ((c : List Literal) × Contains cs c × (clause_value v (without l c) ≡ false)) → HasTurn v l cs ds
  by_first (inl each) = record {
    literal = opposite l;
    is = inr refl;
    left = λ c has. rest_stays v (opposite l) c (subst (λ x. clause_value v (without x c) ≡ true) (sym (opposite-opposite l)) (each c has));
    right = λ d has. true_by (turned v (opposite l)) d (opposite l) (other d has) (turned_true v (opposite l));
  }
  by_first (inr one) = record {
    literal = l;
    is = inl refl;
    left = λ c has. true_by (turned v l) c l (have c has) (turned_true v l);
    right = λ d has. rest_stays v l d (⊎_elim (λ on. absurd (both_ways (clause_value v (without l one.0)) one.2 on)) (λ rest. rest) (resolvent_gives v l one.0 d (resolvents_give v l cs ds one.0 d all one.1 has)));
  }
