-- Where the search goes back to: there what was learned is unit.
use Rattle.std.proofs.Common.{◌≡◌, ◌⊎◌, inl, inr, ℕ, ◌<◌, ◌≤◌, ◌&&◌, eqb, Bool, true, false, not, cond, List, [], ◌∷◌, ◌++◌, length, get_or, take, reverse, Option, Some, None, All, refl, sym, ap, ◌∙◌, subst, append_assoc, append-nil, length-append, arith}
use Rattle.std.specs.Option.{option_map}
use Rattle.std.proofs.lemmas.Bool.{both_ways, eqb-true}
use Rattle.std.proofs.lemmas.Option.{none-some}
use Rattle.std.proofs.lemmas.List.{reverse-append, reverse-reverse, length-reverse}
use Rattle.std.proofs.Math.Seq.{take-append_seam}
use Rattle.std.proofs.lemmas.List.Elements.{All-nil, All-cons}
use Rattle.sat_clauses.specs.Literal.{Literal, opposite, signed}
use Rattle.sat_clauses.specs.Assignment.{value_of}
use Rattle.sat_clauses.specs.Truth.{truth_of, IsUnit}
use Rattle.sat_clauses.specs.declared.clause.Truth.TheVariants.{Unit as UnitClause}
use Rattle.sat_clauses.proofs.TruthLemmas.{truth_of-Unit}
use Rattle.sat_solver.specs.declared.trail.TrailEntry.{TrailEntry}
use Rattle.sat_solver.specs.declared.trail.Reason.{Reason}
use Rattle.sat_solver.specs.declared.trail.Reason.TheVariants.{Assumed, Chosen, Implied}
use Rattle.sat_solver.specs.Trail.{assigned, IsFresh, below}
use Rattle.sat_solver.specs.Search.{IsJustified, IsDecision}
use Rattle.sat_solver.specs.AnalysisRecord.{AnalysisValue}
use Rattle.sat_solver.specs.Analysis.{is_decision, is_alone, may_resolve, visited_by, passed, resolver, analysed, begun}
use Rattle.sat_solver.proofs.TrailLemmas.{length-assigned}
use Rattle.sat_solver.proofs.OpenLemmas.{None_part}
use Rattle.sat_solver.proofs.ExplainLemmas.{IsPart, value_part, false_here, IsPart-more}
use Rattle.sat_clauses.proofs.DeriveTrailLemmas.{None-from_value}

resolver_false : (q : Reason) → resolver q false ≡ None
resolver_false (Implied x) = refl
resolver_false (Assumed k) = refl
resolver_false Chosen = refl

resolver_None : (q : Reason) → resolver q true ≡ None → IsDecision q
resolver_None (Implied x) e = absurd (none-some x (sym e))
resolver_None (Assumed k) e = tt
resolver_None Chosen e = tt

not_empty : (k : ℕ) → 0 < k → eqb k 0 ≡ false
not_empty k lt = by (eqb k 0) refl where
  by : (b : Bool) → eqb k 0 ≡ b → b ≡ false
  by false e = refl
  by true e = absurd (omega (arith, eqb-true k 0 e))

false_in_more : (n : ℕ) (e : TrailEntry) (es : List TrailEntry) (c : List Literal) → IsFresh n (e ∷ es) → All (λ m. value_of (assigned n es) m ≡ Some false) c → All (λ m. value_of (assigned n (e ∷ es)) m ≡ Some false) c
false_in_more n e es c fresh all = λ k d lt. value_part (assigned n es) (assigned n (e ∷ es)) (get_or c k d) false (IsPart-more (assigned n es) e.lit fresh.2) (all k d lt)

not_one : (k : ℕ) → 2 ≤ k → eqb k 1 ≡ false
not_one k le = by (eqb k 1) refl where
  by : (b : Bool) → eqb k 1 ≡ b → b ≡ false
  by false e = refl
  by true e = absurd (omega (arith, eqb-true k 1 e))

decision_is : (q : Reason) → is_decision q ≡ true → IsDecision q
decision_is (Assumed k) e = tt
decision_is Chosen e = tt
decision_is (Implied x) e = absurd (both_ways false refl e)

-- once the clause has two literals, only literals that are false join it
pub record Joins (n : ℕ) (es : List TrailEntry) (s t : AnalysisValue) : Type 0 where
  pub more : List Literal
  pub lits : t.lits ≡ s.lits ++ more
  pub are_false : All (λ m. value_of (assigned n es) m ≡ Some false) more
  pub target : t.target ≡ s.target

joins : (cs : List (List Literal)) (n : ℕ) (es : List TrailEntry) (s : AnalysisValue) → IsFresh n es → 2 ≤ length s.lits → Joins n es s (analysed cs false s es)
joins cs n [] s fresh some = record { more = []; lits = sym (append-nil s.lits); are_false = All-nil (λ m. value_of (assigned n []) m ≡ Some false); target = refl }
joins cs n (e ∷ es) s fresh some =
    by_mark (get_or s.marks e.lit.var false) (λ s' some'. joins cs n es s' fresh.0 some')
  where
    filled : eqb (length s.lits) 0 ≡ false
    filled = not_empty (length s.lits) (omega arith)

    none : resolver e.reason (may_resolve false s es) ≡ None
    none = ap (λ b. resolver e.reason (b && not (is_alone s.marks es))) filled ∙ resolver_false e.reason

    kept : AnalysisValue
    kept = record s { lits = s.lits ++ opposite e.lit ∷ []; target = cond (eqb (length s.lits) 0) (length es) s.target }

    with_kept : Joins n es kept (analysed cs false kept es) → Joins n (e ∷ es) s (analysed cs false kept es)
    with_kept j = record {
      more = opposite e.lit ∷ j.more;
      lits = j.lits ∙ append_assoc s.lits (opposite e.lit ∷ []) j.more;
      are_false = All-cons (λ m. value_of (assigned n (e ∷ es)) m ≡ Some false) (opposite e.lit) j.more
          (false_here (assigned n es) e.lit (omega (arith, fresh.1, length-assigned n es)))
          (false_in_more n e es j.more fresh j.are_false);
      target = j.target ∙ ap (λ b. cond b (length es) s.target) filled;
    }

    by_mark : (m : Bool) → ((s' : AnalysisValue) → 2 ≤ length s'.lits → Joins n es s' (analysed cs false s' es)) → Joins n (e ∷ es) s (analysed cs false (cond m (visited_by cs s e (length es) (resolver e.reason (may_resolve false s es))) (passed s e (length es))) es)
    by_mark false go =
        let j = go (passed s e (length es)) some in
        record {
          more = j.more;
          lits = j.lits;
          are_false = false_in_more n e es j.more fresh j.are_false;
          target = j.target ∙ ap (λ b. cond (b && is_decision e.reason) (length es) s.target) (not_one (length s.lits) some);
        }
    by_mark true go =
        subst (λ p. Joins n (e ∷ es) s (analysed cs false (visited_by cs s e (length es) p) es)) (sym none)
        (with_kept (go kept (omega (arith, length-append s.lits (opposite e.lit ∷ [])))))

-- with one literal l, the target stays
pub record Stays (n : ℕ) (es : List TrailEntry) (s t : AnalysisValue) (l : Literal) : Type 0 where
  pub more : List Literal
  pub lits : t.lits ≡ l ∷ more
  pub are_false : All (λ m. value_of (assigned n es) m ≡ Some false) more
  pub target : t.target ≡ s.target
  pub not_alone : is_alone s.marks es ≡ false

-- or the target comes to be at a decision of es, beneath which the other literals are false
pub record Aims (n : ℕ) (es : List TrailEntry) (t : AnalysisValue) (l : Literal) : Type 0 where
  pub above : List TrailEntry
  pub decision : TrailEntry
  pub beneath : List TrailEntry
  pub in_turn : es ≡ above ++ decision ∷ beneath
  pub is_decision : IsDecision decision.reason
  pub rest : List Literal
  pub lits : t.lits ≡ l ∷ rest
  pub are_false : All (λ m. value_of (assigned n beneath) m ≡ Some false) rest
  pub target : t.target ≡ length beneath

stays_or_aims : (cs : List (List Literal)) (n : ℕ) (l : Literal) (es : List TrailEntry) (s : AnalysisValue) → IsFresh n es → s.lits ≡ l ∷ [] → Stays n es s (analysed cs false s es) l ⊎ Aims n es (analysed cs false s es) l
stays_or_aims cs n l [] s fresh one = inl (record { more = []; lits = one; are_false = All-nil (λ m. value_of (assigned n []) m ≡ Some false); target = refl; not_alone = refl })
stays_or_aims cs n l (e ∷ es) s fresh one =
    by_mark (get_or s.marks e.lit.var false) refl (λ s' one'. stays_or_aims cs n l es s' fresh.0 one')
  where
    filled : eqb (length s.lits) 0 ≡ false
    filled = ap (λ (c : List Literal). eqb (length c) 0) one

    single : eqb (length s.lits) 1 ≡ true
    single = ap (λ (c : List Literal). eqb (length c) 1) one

    none : resolver e.reason (may_resolve false s es) ≡ None
    none = ap (λ b. resolver e.reason (b && not (is_alone s.marks es))) filled ∙ resolver_false e.reason

    kept : AnalysisValue
    kept = record s { lits = s.lits ++ opposite e.lit ∷ []; target = cond (eqb (length s.lits) 0) (length es) s.target }

    with_kept : get_or s.marks e.lit.var false ≡ true → Stays n (e ∷ es) s (analysed cs false kept es) l
    with_kept mark =
        let j = joins cs n es kept fresh.0 (omega (arith, length-append s.lits (opposite e.lit ∷ []), ap length one)) in
        record {
          more = opposite e.lit ∷ j.more;
          lits = j.lits ∙ ap (λ c. (c ++ opposite e.lit ∷ []) ++ j.more) one;
          are_false = All-cons (λ m. value_of (assigned n (e ∷ es)) m ≡ Some false) (opposite e.lit) j.more
              (false_here (assigned n es) e.lit (omega (arith, fresh.1, length-assigned n es)))
              (false_in_more n e es j.more fresh j.are_false);
          target = j.target ∙ ap (λ b. cond b (length es) s.target) filled;
          not_alone = ap (λ b. cond b false (cond (is_decision e.reason) true (is_alone s.marks es))) mark;
        }

    later : (t : AnalysisValue) → Aims n es t l → Aims n (e ∷ es) t l
    later t w = record {
      above = e ∷ w.above;
      decision = w.decision;
      beneath = w.beneath;
      in_turn = ap (λ ys. e ∷ ys) w.in_turn;
      is_decision = w.is_decision;
      rest = w.rest;
      lits = w.lits;
      are_false = w.are_false;
      target = w.target;
    }

    passing : AnalysisValue
    passing = passed s e (length es)

    by_pass : (d : Bool) → is_decision e.reason ≡ d → get_or s.marks e.lit.var false ≡ false → Stays n es passing (analysed cs false passing es) l ⊎ Aims n es (analysed cs false passing es) l → Stays n (e ∷ es) s (analysed cs false passing es) l ⊎ Aims n (e ∷ es) (analysed cs false passing es) l
    by_pass d is unmarked (inr w) = inr (later _ w)
    by_pass true is unmarked (inl w) = inr (record {
      above = [];
      decision = e;
      beneath = es;
      in_turn = refl;
      is_decision = decision_is e.reason is;
      rest = w.more;
      lits = w.lits;
      are_false = w.are_false;
      target = w.target ∙ (ap (λ b. cond (b && is_decision e.reason) (length es) s.target) single ∙ ap (λ b. cond b (length es) s.target) is);
    })
    by_pass false is unmarked (inl w) = inl (record {
      more = w.more;
      lits = w.lits;
      are_false = false_in_more n e es w.more fresh w.are_false;
      target = w.target ∙ (ap (λ b. cond (b && is_decision e.reason) (length es) s.target) single ∙ ap (λ b. cond b (length es) s.target) is);
      not_alone = ap (λ b. cond b false (cond (is_decision e.reason) true (is_alone s.marks es))) unmarked
          ∙ (ap (λ b. cond b true (is_alone s.marks es)) is ∙ w.not_alone);
    })

    by_mark : (m : Bool) → get_or s.marks e.lit.var false ≡ m → ((s' : AnalysisValue) → s'.lits ≡ l ∷ [] → Stays n es s' (analysed cs false s' es) l ⊎ Aims n es (analysed cs false s' es) l) → Stays n (e ∷ es) s (analysed cs false (cond m (visited_by cs s e (length es) (resolver e.reason (may_resolve false s es))) (passed s e (length es))) es) l ⊎ Aims n (e ∷ es) (analysed cs false (cond m (visited_by cs s e (length es) (resolver e.reason (may_resolve false s es))) (passed s e (length es))) es) l
    by_mark false is go = by_pass (is_decision e.reason) refl is (go passing one)
    by_mark true is go =
        subst (λ p. Stays n (e ∷ es) s (analysed cs false (visited_by cs s e (length es) p) es) l ⊎ Aims n (e ∷ es) (analysed cs false (visited_by cs s e (length es) p) es) l) (sym none)
        (inl (with_kept is))

pub fresh_after : (n : ℕ) (above es : List TrailEntry) → IsFresh n (above ++ es) → IsFresh n es
fresh_after n [] es fresh = fresh
fresh_after n (e ∷ above) es fresh = fresh_after n above es fresh.0

part_after : (n : ℕ) (above es : List TrailEntry) → IsFresh n (above ++ es) → IsPart (assigned n es) (assigned n (above ++ es))
part_after n [] es fresh = λ x v h. h
part_after n (e ∷ above) es fresh = λ x v h. IsPart-more (assigned n (above ++ es)) e.lit fresh.2 x v (part_after n above es fresh.0 x v h)

-- a decision above `beneath`: the first literal of the clause is free beneath it, and the others are false
pub record Asserts (n : ℕ) (es : List TrailEntry) (t : AnalysisValue) : Type 0 where
  pub above : List TrailEntry
  pub decision : TrailEntry
  pub beneath : List TrailEntry
  pub in_turn : es ≡ above ++ decision ∷ beneath
  pub is_decision : IsDecision decision.reason
  pub first : Literal
  pub rest : List Literal
  pub lits : t.lits ≡ first ∷ rest
  pub in_range : first.var < n
  pub free : value_of (assigned n beneath) first ≡ None
  pub are_false : All (λ m. value_of (assigned n beneath) m ≡ Some false) rest
  pub target : t.target ≡ length beneath

asserts : (cs : List (List Literal)) (n : ℕ) (es : List TrailEntry) (s : AnalysisValue) → IsFresh n es → s.lits ≡ [] → ((analysed cs false s es).lits ≡ []) ⊎ Asserts n es (analysed cs false s es)
asserts cs n [] s fresh empty = inl empty
asserts cs n (e ∷ es) s fresh empty =
    by_mark (get_or s.marks e.lit.var false) (λ s' empty'. asserts cs n es s' fresh.0 empty')
  where
    start : eqb (length s.lits) 0 ≡ true
    start = ap (λ (c : List Literal). eqb (length c) 0) empty

    later : (t : AnalysisValue) → (t.lits ≡ []) ⊎ Asserts n es t → (t.lits ≡ []) ⊎ Asserts n (e ∷ es) t
    later t (inl none) = inl none
    later t (inr w) = inr (record {
      above = e ∷ w.above;
      decision = w.decision;
      beneath = w.beneath;
      in_turn = ap (λ ys. e ∷ ys) w.in_turn;
      is_decision = w.is_decision;
      first = w.first;
      rest = w.rest;
      lits = w.lits;
      in_range = w.in_range;
      free = w.free;
      are_false = w.are_false;
      target = w.target;
    })

    kept : AnalysisValue
    kept = record s { lits = s.lits ++ opposite e.lit ∷ []; target = cond (eqb (length s.lits) 0) (length es) s.target }

    free_here : value_of (assigned n es) (opposite e.lit) ≡ None
    free_here = ap (option_map (signed (not e.lit.negated))) (None-from_value e.lit.negated (get_or (assigned n es) e.lit.var None) fresh.2)

    by_aim : resolver e.reason (may_resolve false s es) ≡ None → Stays n es kept (analysed cs false kept es) (opposite e.lit) ⊎ Aims n es (analysed cs false kept es) (opposite e.lit) → Asserts n (e ∷ es) (analysed cs false kept es)
    by_aim is (inl w) = record {
      above = [];
      decision = e;
      beneath = es;
      in_turn = refl;
      is_decision = resolver_None e.reason (ap (λ b. resolver e.reason (true && not b)) (sym w.not_alone) ∙ (ap (λ b. resolver e.reason (b && not (is_alone s.marks es))) (sym start) ∙ is));
      first = opposite e.lit;
      rest = w.more;
      lits = w.lits;
      in_range = fresh.1;
      free = free_here;
      are_false = w.are_false;
      target = w.target ∙ ap (λ b. cond b (length es) s.target) start;
    }
    by_aim is (inr w) =
        let split : IsFresh n (w.above ++ w.decision ∷ w.beneath) = subst (IsFresh n) w.in_turn fresh.0 in
        let at = fresh_after n w.above (w.decision ∷ w.beneath) split in
        record {
          above = e ∷ w.above;
          decision = w.decision;
          beneath = w.beneath;
          in_turn = ap (λ ys. e ∷ ys) w.in_turn;
          is_decision = w.is_decision;
          first = opposite e.lit;
          rest = w.rest;
          lits = w.lits;
          in_range = fresh.1;
          free = None_part (assigned n w.beneath) (assigned n es) (opposite e.lit)
              (λ x v h. subst (λ ys. get_or (assigned n ys) x None ≡ Some v) (sym w.in_turn) (part_after n w.above (w.decision ∷ w.beneath) split x v (IsPart-more (assigned n w.beneath) w.decision.lit at.2 x v h)))
              free_here;
          are_false = w.are_false;
          target = w.target;
        }

    by_resolver : ((s' : AnalysisValue) → s'.lits ≡ [] → ((analysed cs false s' es).lits ≡ []) ⊎ Asserts n es (analysed cs false s' es)) → (p : Option ℕ) → resolver e.reason (may_resolve false s es) ≡ p → ((analysed cs false (visited_by cs s e (length es) p) es).lits ≡ []) ⊎ Asserts n (e ∷ es) (analysed cs false (visited_by cs s e (length es) p) es)
    by_resolver go None is = inr (by_aim is (stays_or_aims cs n (opposite e.lit) es kept fresh.0 (ap (λ c. c ++ opposite e.lit ∷ []) empty)))
    by_resolver go (Some r) is = later _ (go (visited_by cs s e (length es) (Some r)) empty)

    by_mark : (m : Bool) → ((s' : AnalysisValue) → s'.lits ≡ [] → ((analysed cs false s' es).lits ≡ []) ⊎ Asserts n es (analysed cs false s' es)) → ((analysed cs false (cond m (visited_by cs s e (length es) (resolver e.reason (may_resolve false s es))) (passed s e (length es))) es).lits ≡ []) ⊎ Asserts n (e ∷ es) (analysed cs false (cond m (visited_by cs s e (length es) (resolver e.reason (may_resolve false s es))) (passed s e (length es))) es)
    by_mark false go = later _ (go (passed s e (length es)) empty)
    by_mark true go = by_resolver go (resolver e.reason (may_resolve false s es)) refl

pub justified_after : (cs : List (List Literal)) (assumptions : List Literal) (n : ℕ) (above es : List TrailEntry) → IsJustified cs assumptions n (above ++ es) → IsJustified cs assumptions n es
justified_after cs assumptions n [] es justified = justified
justified_after cs assumptions n (e ∷ above) es justified = justified_after cs assumptions n above es justified.0

-- the first literal of what is learned becomes true in place of the decision
pub record Turns (n : ℕ) (xs : List TrailEntry) (t : AnalysisValue) (l : Literal) : Type 0 where
  pub decision : TrailEntry
  pub after : List TrailEntry
  pub in_turn : xs ≡ (take t.target xs ++ decision ∷ []) ++ after
  pub is_decision : IsDecision decision.reason
  pub places : length (take t.target xs) ≡ t.target
  pub is_unit : truth_of (assigned n (below xs t.target)) t.lits ≡ UnitClause l
  pub in_range : l.var < n
  pub free : value_of (assigned n (below xs t.target)) l ≡ None

turned : (n : ℕ) (xs : List TrailEntry) (t : AnalysisValue) → IsFresh n (reverse xs) → Asserts n (reverse xs) t → (rest : List Literal) (l : Literal) → t.lits ≡ l ∷ rest → Turns n xs t l
turned n xs t fresh w rest l is =
    record {
      decision = w.decision;
      after = reverse w.above;
      in_turn = split ∙ ap (λ ys. (ys ++ w.decision ∷ []) ++ reverse w.above) (sym front);
      is_decision = w.is_decision;
      places = ap length front ∙ (length-reverse w.beneath ∙ sym w.target);
      is_unit = subst (λ ys. truth_of (assigned n ys) t.lits ≡ UnitClause l) (sym there)
          (subst (λ (c : List Literal). truth_of (assigned n w.beneath) c ≡ UnitClause l) (sym w.lits)
          (subst (λ (m : Literal). truth_of (assigned n w.beneath) (w.first ∷ w.rest) ≡ UnitClause m) (sym first)
          ((truth_of-Unit (assigned n w.beneath) (w.first ∷ w.rest) w.first).1 unit)));
      in_range = omega (arith, w.in_range, ap (λ (m : Literal). m.var) first);
      free = subst (λ ys. value_of (assigned n ys) l ≡ None) (sym there)
          (subst (λ (m : Literal). value_of (assigned n w.beneath) m ≡ None) (sym first) unit.free);
    }
  where
    heads : (x y : Literal) (ps qs : List Literal) → x ∷ ps ≡ y ∷ qs → x ≡ y
    heads x y ps qs e = cc

    first : l ≡ w.first
    first = heads l w.first rest w.rest (sym is ∙ w.lits)

    split : xs ≡ (reverse w.beneath ++ w.decision ∷ []) ++ reverse w.above
    split = sym (reverse-reverse xs) ∙ (ap reverse w.in_turn ∙ (reverse-append w.above (w.decision ∷ w.beneath) ∙ ap (λ ys. ys ++ reverse w.above) (reverse-append (w.decision ∷ []) w.beneath)))

    front : take t.target xs ≡ reverse w.beneath
    front =
        ap (λ k. take k xs) (w.target ∙ sym (length-reverse w.beneath))
        ∙ (ap (take (length (reverse w.beneath))) (split ∙ append_assoc (reverse w.beneath) (w.decision ∷ []) (reverse w.above))
        ∙ take-append_seam (reverse w.beneath) ((w.decision ∷ []) ++ reverse w.above))

    there : below xs t.target ≡ w.beneath
    there = ap reverse front ∙ reverse-reverse w.beneath

    by_place : (P : Literal → Type 0) (m : Literal) (ms : List Literal) → P m → All P ms → All P (m ∷ ms)
    by_place P m ms h all = All-cons P m ms h all

    unit : IsUnit (assigned n w.beneath) (w.first ∷ w.rest) w.first
    unit = record {
      free = w.free;
      in_clause = (0, omega arith, refl);
      others_false = All-cons (λ m. (m ≡ w.first) ⊎ (value_of (assigned n w.beneath) m ≡ Some false)) w.first w.rest
          (inl refl) (λ k d lt. inr (w.are_false k d lt));
    }

-- what is learned has no literal, or its first one turns a decision
pub learned_turns : (cs : List (List Literal)) (n : ℕ) (xs : List TrailEntry) (conflict : ℕ) → IsFresh n (reverse xs) → (rest : List Literal) (l : Literal) → (analysed cs false (begun n cs conflict) (reverse xs)).lits ≡ l ∷ rest → Turns n xs (analysed cs false (begun n cs conflict) (reverse xs)) l
learned_turns cs n xs conflict fresh rest l is = by_outcome (asserts cs n (reverse xs) (begun n cs conflict) fresh refl) where
  empty_or_not : (ps : List Literal) → ps ≡ [] → ps ≡ l ∷ rest → ⊥
  empty_or_not ps e f = cc

  by_outcome : ((analysed cs false (begun n cs conflict) (reverse xs)).lits ≡ []) ⊎ Asserts n (reverse xs) (analysed cs false (begun n cs conflict) (reverse xs)) → Turns n xs (analysed cs false (begun n cs conflict) (reverse xs)) l
  by_outcome (inl none) = absurd (empty_or_not _ none is)
  by_outcome (inr w) = turned n xs (analysed cs false (begun n cs conflict) (reverse xs)) fresh w rest l is
