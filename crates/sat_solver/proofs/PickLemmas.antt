-- The literals of a new clause that became false last.
use Rattle.std.proofs.Common.{◌≡◌, ◌≢◌, ◌⊎◌, inl, inr, ⊎_elim, ℕ, ◌+◌, ◌<◌, ◌≤◌, false, List, [], ◌∷◌, ◌++◌, length, get_or, take, Some, None, sym, ap, ◌∙◌, subst, arith}
use Rattle.std.specs.Option.{option_map}
use Rattle.std.proofs.lemmas.Bool.{cases_eq}
use Rattle.std.proofs.lemmas.List.{get_or_push, get_or_append_left, length-append, replicate_more, length-replicate}
use Rattle.std.proofs.lemmas.List.Elements.{All-contains}
use Rattle.sat_clauses.specs.Literal.{Literal, signed}
use Rattle.sat_clauses.specs.Code.{code_of}
use Rattle.sat_clauses.specs.Models.{ClauseBelow, ClausesBelow}
use Rattle.sat_clauses.specs.Assignment.{Assignment, all_free, value_of}
use Rattle.sat_clauses.specs.Trail.{assigned_by, assigned_from, IsTrail}
use Rattle.sat_clauses.proofs.CodeLemmas.{code_of-injective}
use Rattle.sat_clauses.proofs.TrailLemmas.{value_later, AreFresh_take, assigned_from_more, length-assigned_from}
use Rattle.sat_solver.specs.Threads.{at}
use Rattle.sat_solver.specs.Watch.{IsWatch, IsReady, IsWatched}
use Rattle.sat_solver.specs.Pass.{clause_of}
use Rattle.sat_solver.specs.Pick.{IsFalseAfter, IsRank, IsRankedUpTo, IsBest, IsPick}
use Rattle.sat_solver.specs.Arena.{AreWatched}

-- a literal that is not false
pub rank_open : (vars : ℕ) (t : List Literal) (m : Literal) → IsTrail vars t → value_of (assigned_by vars t) m ≢ Some false → IsRank vars t m (length t)
rank_open vars t m trail ne = record {
  less = λ k e. absurd (ne (value_later (all_free vars) k t m false trail e));
  within = λ k e. absurd (ne (value_later (all_free vars) k t m false trail e));
  false_if = λ k lt within. absurd (omega arith);
}

module _ (vars : ℕ) (t : List Literal) (but : ℕ) where
  pub pick_from_best : (c : List Literal) (p r : ℕ) → IsBest vars t but c p r → IsPick vars t c but p
  pick_from_best c p r b = record {
    none = b.none;
    has = λ ne. let h = b.some ne in record { literal = h.literal; listed = h.listed; coded = h.coded };
    not_spare = λ e. let h = (b.some (λ z. absurd (omega arith))).real in absurd (omega arith);
    apart = λ ne. (b.some ne).apart;
    real = b.real;
    latest = λ k x listed coded e. ⊎_elim
        (λ z. λ i d lt. inl (b.none z i d lt))
        (λ ne. let h = b.some ne in
        let same : x ≡ h.literal = code_of-injective x h.literal (coded ∙ sym h.coded) in
        let false_one = subst (λ y. IsFalseAfter vars t k y) same e in
        λ i d lt. lower (get_or c i d) k (h.is_rank.less k false_one) (h.is_rank.within k false_one) (b.all i d lt))
        (cases_eq p 0);
  } where
    lower : (m : Literal) (k : ℕ) → r < k → r < length t → (code_of m ≡ but) ⊎ IsRankedUpTo vars t r m → (code_of m ≡ but) ⊎ IsFalseAfter vars t k m
    lower m k lt within (inl e) = inl e
    lower m k lt within (inr h) = inr (h.is_rank.false_if k (let z = h.at_most in omega arith) (let z = h.at_most in omega arith))

-- the two picks watch the clause
pub picks_watch : (vars : ℕ) (t c : List Literal) (f s : ℕ) → IsPick vars t c 0 f → IsPick vars t c f s → IsWatched vars t c f s
picks_watch vars t c f s one two = record {
  one_side = record {
    has = one.has;
    apart = λ ne e. ⊎_elim (λ z. ne (e ∙ z)) (λ some. two.apart some (sym e)) (cases_eq s 0);
    alone = λ z i d lt. absurd (let n = one.none z i d lt in let r = one.real i d lt in omega arith);
  };
  other_side = record { has = two.has; apart = two.apart; alone = two.none };
  ready = λ k. record {
    ready = λ m listed is e. ⊎_elim
        (λ at_f. inr (λ i d lt. by_first (get_or c i d) k (one.real i d lt) (one.latest k m listed at_f e i d lt)))
        (λ at_s. inr (λ i d lt. by_second (get_or c i d) k (two.latest k m listed at_s e i d lt))) is;
  };
} where
  by_first : (m : Literal) (k : ℕ) → 2 ≤ code_of m → (code_of m ≡ 0) ⊎ IsFalseAfter vars t k m → IsWatch f s m ⊎ (value_of (assigned_by vars (take k t)) m ≡ Some false)
  by_first m k real (inl z) = absurd (omega arith)
  by_first m k real (inr e) = inr e

  by_second : (m : Literal) (k : ℕ) → (code_of m ≡ f) ⊎ IsFalseAfter vars t k m → IsWatch f s m ⊎ (value_of (assigned_by vars (take k t)) m ≡ Some false)
  by_second m k (inl z) = inl (inl z)
  by_second m k (inr e) = inr e

-- a new clause, filed under its two picks
pub tables_pushed : (vars : ℕ) (t : List Literal) (cs : List (List Literal)) (c : List Literal) (fs ss fs' ss' : List ℕ) (f s n : ℕ) → AreWatched vars t cs fs ss → length cs ≡ n → IsWatched vars t c f s → f ≢ 1 → s ≢ 1
    → at fs' n ≡ f → ((i : ℕ) → i ≢ n → at fs' i ≡ at fs i) → at ss' n ≡ s → ((i : ℕ) → i ≢ n → at ss' i ≡ at ss i) → AreWatched vars t (cs ++ c ∷ []) fs' ss'
tables_pushed vars t cs c fs ss fs' ss' f s n w count new not_f not_s here_f others_f here_s others_s =
    let longer = length-append cs (c ∷ []) in
    record {
      no_spare_first = λ i. ⊎_elim (λ e z. not_f (sym here_f ∙ (ap (at fs') (sym e) ∙ z))) (λ ne z. w.no_spare_first i (sym (others_f i ne) ∙ z)) (cases_eq i n);
      no_spare_second = λ i. ⊎_elim (λ e z. not_s (sym here_s ∙ (ap (at ss') (sym e) ∙ z))) (λ ne z. w.no_spare_second i (sym (others_s i ne) ∙ z)) (cases_eq i n);
      unused_first = λ i le. others_f i (λ e. absurd (omega arith)) ∙ w.unused_first i (omega arith);
      unused_second = λ i le. others_s i (λ e. absurd (omega arith)) ∙ w.unused_second i (omega arith);
      watched = λ i lt. ⊎_elim
          (λ e.
          let clause : clause_of (cs ++ c ∷ []) i ≡ c = get_or_push cs c [] i (omega arith) in
          subst (λ x. IsWatched vars t x (at fs' i) (at ss' i)) (sym clause)
          (subst (λ x. IsWatched vars t c x (at ss' i)) (sym (ap (at fs') e ∙ here_f)) (subst (λ x. IsWatched vars t c f x) (sym (ap (at ss') e ∙ here_s)) new)))
          (λ ne.
          let less : i < length cs = omega arith in
          let clause : clause_of (cs ++ c ∷ []) i ≡ clause_of cs i = get_or_append_left cs (c ∷ []) [] i less in
          subst (λ x. IsWatched vars t x (at fs' i) (at ss' i)) (sym clause)
          (subst (λ x. IsWatched vars t (clause_of cs i) x (at ss' i)) (sym (others_f i ne)) (subst (λ x. IsWatched vars t (clause_of cs i) (at fs i) x) (sym (others_s i ne)) (w.watched i less))))
          (cases_eq i n);
    }

-- one more variable
value_more : (a : Assignment) (m : Literal) → m.var < length a → value_of (a ++ None ∷ []) m ≡ value_of a m
value_more a m lt = ap (option_map (signed m.negated)) (get_or_append_left a (None ∷ []) None m.var lt)

ready_more : (a : Assignment) (c : List Literal) (f s : ℕ) → ClauseBelow (length a) c → IsReady a c f s → IsReady (a ++ None ∷ []) c f s
ready_more a c f s below r = record {
  ready = λ m listed is e. ⊎_elim
      (λ h. inl (record { literal = h.literal; listed = h.listed; is_true = value_more a h.literal (All-contains (λ (x : Literal). x.var < length a) c h.literal below h.listed) ∙ h.is_true }))
      (λ all. inr (λ k d lt. either (get_or c k d) (below k d lt) (all k d lt)))
      (r.ready m listed is (sym (value_more a m (All-contains (λ (x : Literal). x.var < length a) c m below listed)) ∙ e));
} where
  either : (m : Literal) → m.var < length a → IsWatch f s m ⊎ (value_of a m ≡ Some false) → IsWatch f s m ⊎ (value_of (a ++ None ∷ []) m ≡ Some false)
  either m lt (inl w) = inl w
  either m lt (inr e) = inr (value_more a m lt ∙ e)

watched_more : (vars : ℕ) (t c : List Literal) (f s : ℕ) → IsTrail vars t → ClauseBelow (vars + 1) c → IsWatched vars t c f s → IsWatched (vars + 1) t c f s
watched_more vars t c f s trail below w = record {
  one_side = w.one_side;
  other_side = w.other_side;
  ready = λ k.
      let a : Assignment = assigned_by vars (take k t) in
      let many : vars + 1 ≡ length a = sym (length-assigned_from (all_free vars) (take k t) ∙ length-replicate (vars + 1) None) in
      let grown : assigned_by (vars + 1) (take k t) ≡ a ++ None ∷ [] =
      ap (λ (x : Assignment). assigned_from x (take k t)) (sym (replicate_more (vars + 1) None)) ∙ assigned_from_more (all_free vars) (take k t) (AreFresh_take (all_free vars) k t trail) in
      subst (λ (x : Assignment). IsReady x c f s) (sym grown) (ready_more a c f s (subst (λ (n : ℕ). ClauseBelow n c) many below) (w.ready k));
}

pub tables_more : (vars : ℕ) (t : List Literal) (cs : List (List Literal)) (fs ss : List ℕ) → IsTrail vars t → ClausesBelow (vars + 1) cs → AreWatched vars t cs fs ss → AreWatched (vars + 1) t cs fs ss
tables_more vars t cs fs ss trail below w = record {
  no_spare_first = w.no_spare_first;
  no_spare_second = w.no_spare_second;
  unused_first = w.unused_first;
  unused_second = w.unused_second;
  watched = λ i lt. watched_more vars t (clause_of cs i) (at fs i) (at ss i) trail (below i [] lt) (w.watched i lt);
}

pub below_more : (n : ℕ) (cs : List (List Literal)) → ClausesBelow n cs → ClausesBelow (n + 1) cs
below_more n cs below = λ k d lt j e within. let z = below k d lt j e within in omega arith
