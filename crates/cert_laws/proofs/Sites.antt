-- The lines of sites rise, so the first site that breaks a rule is the objection's.
use Rattle.std.proofs.Common.{◌≡◌, ◌⊎◌, inl, inr, ℕ, zero, suc, ◌+◌, ◌≤◌, ◌<◌, List, [], ◌∷◌, ◌++◌, length, take, Some, refl, sym, ◌∙◌, ap, subst, arith, append_assoc}
use Rattle.std.specs.Prelude.{slice_get}
use Rattle.std.specs.List.{AllByRecursion}
use Rattle.std.proofs.lemmas.Bool.{cases_lt}
use Rattle.std.proofs.lemmas.List.Sums.{sum_by-cons, sum_by-append}
use Rattle.sat_clauses.specs.Literal.{Literal}
use Rattle.sat_clauses.specs.declared.step.Step.{Step}
use Rattle.cert_laws.specs.Certificate.{Certificate, Part, part_first, part_next, part_bad, Site, the_numbers, a_set, a_trace, a_clause, a_step, an_end, steps_in, lines_of_sets, invariant_line, head_line, first_line, next_line, IsSite, line_of}
use Rattle.cut_text_laws.specs.Lines.{Line}
use Rattle.cert_laws.specs.Acceptance.{Subject, Rule, number_of, Keeps}
use Rattle.cert_laws.specs.Sites.{set_sites, clause_sites, step_sites, sites_of, KeepsAll, BreaksFirst, FirstBrokenIsObjection}
use Rattle.std.proofs.Math.Seq.{take-append_seam}
use Rattle.std.proofs.Math.Nat.{add-zero}

-- Members by recursion.
abbrev In : {A : Type 0} → A → List A → Type 0
In x [] = ⊥
In x (y ∷ ys) = (y ≡ x) ⊎ In x ys

in_left : {A : Type 0} (x : A) (xs ys : List A) → In x xs → In x (xs ++ ys)
in_left x [] ys h = absurd h
in_left x (z ∷ xs) ys (inl e) = inl e
in_left x (z ∷ xs) ys (inr h) = inr (in_left x xs ys h)

in_right : {A : Type 0} (x : A) (xs ys : List A) → In x ys → In x (xs ++ ys)
in_right x [] ys h = h
in_right x (z ∷ xs) ys h = inr (in_right x xs ys h)

in_cases : {A : Type 0} (x : A) (xs ys : List A) → In x (xs ++ ys) → In x xs ⊎ In x ys
in_cases x [] ys h = inr h
in_cases x (z ∷ xs) ys (inl e) = inl (inl e)
in_cases x (z ∷ xs) ys (inr h) = further (in_cases x xs ys h)
  where
    further : In x xs ⊎ In x ys → In x (z ∷ xs) ⊎ In x ys
    further (inl g) = inl (inr g)
    further (inr g) = inr g

holds_in : {A : Type 0} (P : A → Type 0) (x : A) (xs : List A) → AllByRecursion P xs → In x xs → P x
holds_in P x [] f h = absurd h
holds_in P x (y ∷ ys) f (inl e) = subst P e f.0
holds_in P x (y ∷ ys) f (inr h) = holds_in P x ys f.1 h

-- Each site is listed.
module _ (c : Certificate) where
  set_listed : (k : ℕ) (sets : List (List ℕ)) (texts : List (List Line)) (j : ℕ) (set : List ℕ) → length texts ≡ length sets → slice_get sets j ≡ Some set → In (a_set (k + j) set) (set_sites k sets texts)
  set_listed k [] texts j set l e = cc
  set_listed k (s ∷ sets) [] j set l e = absurd (omega (arith, l))
  set_listed k (s ∷ sets) (t ∷ texts) zero set l e = inl (here (k + 0) s set (omega arith) e)
    where
      here : (n : ℕ) (s set : List ℕ) → k ≡ n → Some s ≡ Some set → a_set k s ≡ a_set n set
      here n s set p e = cc
  set_listed k (s ∷ sets) (t ∷ texts) (suc j) set l e =
      inr (inr (subst (λ n. In (a_set n set) (set_sites (suc k) sets texts)) (moved j) (set_listed (suc k) sets texts j set (omega (arith, l)) e)))
    where
      moved : (j : ℕ) → suc k + j ≡ k + suc j
      moved j = omega arith

  trace_listed : (k : ℕ) (sets : List (List ℕ)) (texts : List (List Line)) (j : ℕ) (set : List ℕ) (text : List Line) → slice_get sets j ≡ Some set → slice_get texts j ≡ Some text →
      In (a_trace (k + j) set text) (set_sites k sets texts)
  trace_listed k [] texts j set text e f = cc
  trace_listed k (s ∷ sets) [] j set text e f = cc
  trace_listed k (s ∷ sets) (t ∷ texts) zero set text e f = inr (inl (here (k + 0) s set t text (omega arith) e f))
    where
      here : (n : ℕ) (s set : List ℕ) (t text : List Line) → k ≡ n → Some s ≡ Some set → Some t ≡ Some text → a_trace k s t ≡ a_trace n set text
      here n s set t text p e f = cc
  trace_listed k (s ∷ sets) (t ∷ texts) (suc j) set text e f =
      inr (inr (subst (λ n. In (a_trace n set text) (set_sites (suc k) sets texts)) (moved j) (trace_listed (suc k) sets texts j set text e f)))
    where
      moved : (j : ℕ) → suc k + j ≡ k + suc j
      moved j = omega arith

  clause_listed : (k : ℕ) (clauses : List (List Literal)) (j : ℕ) (clause : List Literal) → slice_get clauses j ≡ Some clause → In (a_clause (k + j) clause) (clause_sites k clauses)
  clause_listed k [] j clause e = cc
  clause_listed k (d ∷ clauses) zero clause e = inl (here (k + 0) d clause (omega arith) e)
    where
      here : (n : ℕ) (d clause : List Literal) → k ≡ n → Some d ≡ Some clause → a_clause k d ≡ a_clause n clause
      here n d clause p e = cc
  clause_listed k (d ∷ clauses) (suc j) clause e = inr (subst (λ n. In (a_clause n clause) (clause_sites (suc k) clauses)) (moved j) (clause_listed (suc k) clauses j clause e))
    where
      moved : (j : ℕ) → suc k + j ≡ k + suc j
      moved j = omega arith

  step_listed : (part : Part) (k : ℕ) (steps : List Step) (j : ℕ) (s : Step) → slice_get steps j ≡ Some s → In (a_step part (k + j) s) (step_sites part k steps)
  step_listed part k [] j s e = cc
  step_listed part k (t ∷ steps) zero s e = inl (here (k + 0) t s (omega arith) e)
    where
      here : (n : ℕ) (t s : Step) → k ≡ n → Some t ≡ Some s → a_step part k t ≡ a_step part n s
      here n t s p e = cc
  step_listed part k (t ∷ steps) (suc j) s e = inr (subst (λ n. In (a_step part n s) (step_sites part (suc k) steps)) (moved j) (step_listed part (suc k) steps j s e))
    where
      moved : (j : ℕ) → suc k + j ≡ k + suc j
      moved j = omega arith

  end_listed : (part : Part) (k : ℕ) (steps : List Step) → In (an_end part) (step_sites part k steps)
  end_listed part k [] = inl refl
  end_listed part k (s ∷ steps) = inr (end_listed part (suc k) steps)

  part_listed : (part : Part) (x : Site) → In x (step_sites part 0 (steps_in c part)) → In x (sites_of c)
  part_listed part x h = inr (in_right x (set_sites 0 c.sets c.traces) _ (in_right x (clause_sites 0 c.invariant) _ (by_part part h)))
    where
      by_part : (part : Part) → In x (step_sites part 0 (steps_in c part)) → In x (step_sites part_first 0 c.first ++ (step_sites part_next 0 c.next ++ step_sites part_bad 0 c.bad))
      by_part part_first h = in_left x (step_sites part_first 0 c.first) _ h
      by_part part_next h = in_right x (step_sites part_first 0 c.first) _ (in_left x (step_sites part_next 0 c.next) _ h)
      by_part part_bad h = in_right x (step_sites part_first 0 c.first) _ (in_right x (step_sites part_next 0 c.next) _ h)

  listed : length c.traces ≡ length c.sets → (x : Site) → IsSite c x → In x (sites_of c)
  listed l the_numbers is = inl refl
  listed l (a_set k set) is = inr (in_left (a_set k set) (set_sites 0 c.sets c.traces) _ (subst (λ n. In (a_set n set) (set_sites 0 c.sets c.traces)) (from_none k) (set_listed 0 c.sets c.traces k set l is)))
    where
      from_none : (k : ℕ) → 0 + k ≡ k
      from_none k = omega arith
  listed l (a_trace k set text) is =
      inr (in_left (a_trace k set text) (set_sites 0 c.sets c.traces) _ (subst (λ n. In (a_trace n set text) (set_sites 0 c.sets c.traces)) (from_none k) (trace_listed 0 c.sets c.traces k set text is.0 is.1)))
    where
      from_none : (k : ℕ) → 0 + k ≡ k
      from_none k = omega arith
  listed l (a_clause i clause) is =
      inr (in_right (a_clause i clause) (set_sites 0 c.sets c.traces) _ (in_left (a_clause i clause) (clause_sites 0 c.invariant) _
      (subst (λ n. In (a_clause n clause) (clause_sites 0 c.invariant)) (from_none i) (clause_listed 0 c.invariant i clause is))))
    where
      from_none : (k : ℕ) → 0 + k ≡ k
      from_none k = omega arith
  listed l (a_step part i s) is =
      part_listed part (a_step part i s) (subst (λ n. In (a_step part n s) (step_sites part 0 (steps_in c part))) (from_none i) (step_listed part 0 (steps_in c part) i s is))
    where
      from_none : (k : ℕ) → 0 + k ≡ k
      from_none k = omega arith
  listed l (an_end part) is = part_listed part (an_end part) (end_listed part 0 (steps_in c part))

-- Their lines rise.
pub lines_first : (x : List Line) (xs : List (List Line)) → lines_of_sets (x ∷ xs) ≡ length x + 2 + lines_of_sets xs
lines_first x xs = sum_by-cons (λ text. length text + 2) x xs

lines_none : lines_of_sets [] ≡ 0
lines_none = refl

pub lines_joined : (xs ys : List (List Line)) → lines_of_sets (xs ++ ys) ≡ lines_of_sets xs + lines_of_sets ys
lines_joined xs ys = sum_by-append (λ text. length text + 2) xs ys

module _ (c : Certificate) where
  -- lines from one on, each below the next
  abbrev Rise : ℕ → List Site → Type 0
  Rise l [] = Unit {0}
  Rise l (s ∷ ss) = (l ≤ line_of c s) × Rise (suc (line_of c s)) ss

  rise_sooner : (l k : ℕ) (xs : List Site) → l ≤ k → Rise k xs → Rise l xs
  rise_sooner l k [] h r = tt
  rise_sooner l k (x ∷ xs) h r = (through (line_of c x) h r.0, r.1)
    where
      through : (n : ℕ) → l ≤ k → k ≤ n → l ≤ n
      through n a b = omega (arith, a, b)

  rise_in : (l : ℕ) (xs : List Site) (x : Site) → Rise l xs → In x xs → l ≤ line_of c x
  rise_in l [] x r h = absurd h
  rise_in l (y ∷ ys) x r (inl e) = subst (λ z. l ≤ line_of c z) e r.0
  rise_in l (y ∷ ys) x r (inr h) = through (line_of c y) (line_of c x) r.0 (rise_in (suc (line_of c y)) ys x r.1 h)
    where
      through : (n k : ℕ) → l ≤ n → suc n ≤ k → l ≤ k
      through n k a b = omega (arith, a, b)

  rise_after : (l : ℕ) (before : List Site) (s : Site) (after : List Site) (x : Site) → Rise l (before ++ s ∷ after) → In x after → line_of c s < line_of c x
  rise_after l [] s after x r h = rise_in (suc (line_of c s)) after x r.1 h
  rise_after l (y ∷ before) s after x r h = rise_after (suc (line_of c y)) before s after x r.1 h

  step_rise : (part : Part) (k : ℕ) (steps : List Step) (tail : List Site) (l : ℕ) → k + length steps ≡ length (steps_in c part) → l ≤ head_line c part + 1 + k →
      Rise (head_line c part + 2 + length (steps_in c part)) tail → Rise l (step_sites part k steps ++ tail)
  step_rise part k [] tail l e h r = (omega (arith, e, h), rise_sooner (suc (head_line c part + 1 + length (steps_in c part))) (head_line c part + 2 + length (steps_in c part)) tail (omega arith) r)
  step_rise part k (s ∷ steps) tail l e h r = (h, step_rise part (suc k) steps tail (suc (head_line c part + 1 + k)) (omega (arith, e)) (omega arith) r)

  clause_rise : (k : ℕ) (clauses : List (List Literal)) (tail : List Site) (l : ℕ) → k + length clauses ≡ length c.invariant → l ≤ invariant_line c + 1 + k → Rise (first_line c) tail → Rise l (clause_sites k clauses ++ tail)
  clause_rise k [] tail l e h r = rise_sooner l (first_line c) tail (omega (arith, e, h)) r
  clause_rise k (d ∷ clauses) tail l e h r = (h, clause_rise (suc k) clauses tail (suc (invariant_line c + 1 + k)) (omega (arith, e)) (omega arith) r)

  set_rise : (k : ℕ) (sets : List (List ℕ)) (pre texts : List (List Line)) (tail : List Site) (l : ℕ) → c.traces ≡ pre ++ texts → k ≡ length pre → l ≤ 4 + lines_of_sets pre → Rise (invariant_line c) tail →
      Rise l (set_sites k sets texts ++ tail)
  set_rise k [] pre texts tail l e p h r = rise_sooner l (invariant_line c) tail (low (ap lines_of_sets e ∙ lines_joined pre texts)) r
    where
      low : lines_of_sets c.traces ≡ lines_of_sets pre + lines_of_sets texts → l ≤ invariant_line c
      low q = omega (arith, q, h)
  set_rise k (s ∷ sets) pre [] tail l e p h r = rise_sooner l (invariant_line c) tail (low (ap lines_of_sets e ∙ lines_joined pre [])) r
    where
      low : lines_of_sets c.traces ≡ lines_of_sets pre + lines_of_sets [] → l ≤ invariant_line c
      low q = omega (arith, q, h)
  set_rise k (s ∷ sets) pre (text ∷ texts) tail l e p h r = (
    subst (λ n. l ≤ 4 + n) (sym same) h,
    (
      omega arith,
      set_rise (suc k) sets (pre ++ text ∷ []) texts tail (suc (5 + lines_of_sets (take k c.traces))) (e ∙ sym (append_assoc pre (text ∷ []) texts)) (p_more p) (further same (lines_joined pre (text ∷ []))) r,
    ),
  )
    where
      same : lines_of_sets (take k c.traces) ≡ lines_of_sets pre
      same = ap lines_of_sets (ap (λ n. take n c.traces) p ∙ ap (take (length pre)) e ∙ take-append_seam pre (text ∷ texts))

      length_more : (xs : List (List Line)) → length (xs ++ text ∷ []) ≡ suc (length xs)
      length_more [] = refl
      length_more (x ∷ xs) = ap suc (length_more xs)

      p_more : k ≡ length pre → suc k ≡ length (pre ++ text ∷ [])
      p_more q = ap suc q ∙ sym (length_more pre)

      further : lines_of_sets (take k c.traces) ≡ lines_of_sets pre → lines_of_sets (pre ++ text ∷ []) ≡ lines_of_sets pre + lines_of_sets (text ∷ []) →
          suc (5 + lines_of_sets (take k c.traces)) ≤ 4 + lines_of_sets (pre ++ text ∷ [])
      further a b = omega (arith, a, b, lines_first text [], lines_none)

  append_none : (xs : List Site) → xs ++ [] ≡ xs
  append_none [] = refl
  append_none (x ∷ xs) = ap (λ ys. x ∷ ys) (append_none xs)

  all_rise : Rise 2 (sites_of c)
  all_rise = (
    omega arith,
    set_rise 0 c.sets [] c.traces _ 3 refl refl (omega (arith, lines_none))
        (clause_rise 0 c.invariant _ (invariant_line c) (omega arith) (omega arith)
        (step_rise part_first 0 c.first _ (first_line c) (omega arith) (omega arith)
        (step_rise part_next 0 c.next _ (first_line c + 2 + length c.first) (omega arith) (omega arith)
        (subst (Rise (next_line c + 2 + length c.next)) (append_none (step_sites part_bad 0 c.bad)) (step_rise part_bad 0 c.bad [] (next_line c + 2 + length c.next) (omega arith) (omega arith) tt))))),
  )

add_next : (k j : ℕ) → k + suc j ≡ suc k + j
add_next k j = omega arith

-- the list goes on in another from a place on
abbrev GoesOn : {A : Type 0} → ℕ → List A → List A → Type 0
GoesOn {A} k xs all = (j : ℕ) (x : A) → slice_get xs j ≡ Some x → slice_get all (k + j) ≡ Some x

goes_here : {A : Type 0} (k : ℕ) (x : A) (xs all : List A) → GoesOn k (x ∷ xs) all → slice_get all k ≡ Some x
goes_here k x xs all f = ap (slice_get all) (sym (add-zero k)) ∙ f zero x refl

goes_later : {A : Type 0} (k : ℕ) (x : A) (xs all : List A) → GoesOn k (x ∷ xs) all → GoesOn (suc k) xs all
goes_later k x xs all f = λ j y e. ap (slice_get all) (sym (add_next k j)) ∙ f (suc j) y e

goes_whole : {A : Type 0} (all : List A) → GoesOn 0 all all
goes_whole all = λ j x e. ap (slice_get all) (from_none j) ∙ e
  where
    from_none : (j : ℕ) → 0 + j ≡ j
    from_none j = omega arith

module _ (c : Certificate) where
  set_sited : (k : ℕ) (sets : List (List ℕ)) (texts : List (List Line)) (x : Site) → GoesOn k sets c.sets → GoesOn k texts c.traces → In x (set_sites k sets texts) → IsSite c x
  set_sited k [] texts x f g h = absurd h
  set_sited k (set ∷ sets) [] x f g h = absurd h
  set_sited k (set ∷ sets) (text ∷ texts) x f g (inl e) = subst (IsSite c) e (goes_here k set sets c.sets f)
  set_sited k (set ∷ sets) (text ∷ texts) x f g (inr (inl e)) = subst (IsSite c) e (goes_here k set sets c.sets f, goes_here k text texts c.traces g)
  set_sited k (set ∷ sets) (text ∷ texts) x f g (inr (inr h)) = set_sited (suc k) sets texts x (goes_later k set sets c.sets f) (goes_later k text texts c.traces g) h

  clause_sited : (k : ℕ) (clauses : List (List Literal)) (x : Site) → GoesOn k clauses c.invariant → In x (clause_sites k clauses) → IsSite c x
  clause_sited k [] x f h = absurd h
  clause_sited k (d ∷ clauses) x f (inl e) = subst (IsSite c) e (goes_here k d clauses c.invariant f)
  clause_sited k (d ∷ clauses) x f (inr h) = clause_sited (suc k) clauses x (goes_later k d clauses c.invariant f) h

  step_sited : (part : Part) (k : ℕ) (steps : List Step) (x : Site) → GoesOn k steps (steps_in c part) → In x (step_sites part k steps) → IsSite c x
  step_sited part k [] x f (inl e) = subst (IsSite c) e tt
  step_sited part k [] x f (inr h) = absurd h
  step_sited part k (s ∷ steps) x f (inl e) = subst (IsSite c) e (goes_here k s steps (steps_in c part) f)
  step_sited part k (s ∷ steps) x f (inr h) = step_sited part (suc k) steps x (goes_later k s steps (steps_in c part) f) h

  sited : (x : Site) → In x (sites_of c) → IsSite c x
  sited x (inl e) = subst (IsSite c) e tt
  sited x (inr h) = of_sets (in_cases x (set_sites 0 c.sets c.traces) _ h)
    where
      of_bads : In x (step_sites part_next 0 c.next) ⊎ In x (step_sites part_bad 0 c.bad) → IsSite c x
      of_bads (inl g) = step_sited part_next 0 c.next x (goes_whole c.next) g
      of_bads (inr g) = step_sited part_bad 0 c.bad x (goes_whole c.bad) g

      of_parts : In x (step_sites part_first 0 c.first) ⊎ In x (step_sites part_next 0 c.next ++ step_sites part_bad 0 c.bad) → IsSite c x
      of_parts (inl g) = step_sited part_first 0 c.first x (goes_whole c.first) g
      of_parts (inr g) = of_bads (in_cases x (step_sites part_next 0 c.next) (step_sites part_bad 0 c.bad) g)

      of_clauses : In x (clause_sites 0 c.invariant) ⊎ In x (step_sites part_first 0 c.first ++ (step_sites part_next 0 c.next ++ step_sites part_bad 0 c.bad)) → IsSite c x
      of_clauses (inl g) = clause_sited 0 c.invariant x (goes_whole c.invariant) g
      of_clauses (inr g) = of_parts (in_cases x (step_sites part_first 0 c.first) (step_sites part_next 0 c.next ++ step_sites part_bad 0 c.bad) g)

      of_sets : In x (set_sites 0 c.sets c.traces) ⊎ In x (clause_sites 0 c.invariant ++ (step_sites part_first 0 c.first ++ (step_sites part_next 0 c.next ++ step_sites part_bad 0 c.bad))) → IsSite c x
      of_sets (inl g) = set_sited 0 c.sets c.traces x (goes_whole c.sets) (goes_whole c.traces) g
      of_sets (inr g) = of_clauses (in_cases x (clause_sites 0 c.invariant) (step_sites part_first 0 c.first ++ (step_sites part_next 0 c.next ++ step_sites part_bad 0 c.bad)) g)

-- The first broken one.
module _ (T : Type 0) (reads : List Line → T → Type 0) (is_trace reaches : T → Type 0) (has_failed : T → ℕ → Type 0) (subject : Subject) (c : Certificate) where
  -- a rule that is broken at a site of the list is broken at the first such site or later
  not_sooner : (before after : List Site) (site : Site) (rule : Rule) → sites_of c ≡ before ++ site ∷ after → AllByRecursion (KeepsAll T reads is_trace reaches has_failed subject c) before →
      BreaksFirst T reads is_trace reaches has_failed subject c site rule → (x : Site) (r : Rule) → In x (before ++ site ∷ after) → (Keeps T reads is_trace reaches has_failed subject c x r → ⊥) →
      (line_of c site < line_of c x) ⊎ ((line_of c site ≡ line_of c x) × (number_of rule ≤ number_of r))
  not_sooner before after site rule is kept first x r inside broken = by_side (in_cases x before (site ∷ after) inside)
    where
      by_rule : (site ≡ x) → (number_of r < number_of rule) ⊎ (number_of rule ≤ number_of r) → (line_of c site < line_of c x) ⊎ ((line_of c site ≡ line_of c x) × (number_of rule ≤ number_of r))
      by_rule e (inl less) = absurd (broken (subst (λ z. Keeps T reads is_trace reaches has_failed subject c z r) e (first.smaller r less)))
      by_rule e (inr more) = inr (ap (line_of c) e, more)

      by_side : In x before ⊎ In x (site ∷ after) → (line_of c site < line_of c x) ⊎ ((line_of c site ≡ line_of c x) × (number_of rule ≤ number_of r))
      by_side (inl h) = absurd (broken (holds_in (KeepsAll T reads is_trace reaches has_failed subject c) x before kept h r))
      by_side (inr (inl e)) = by_rule e (cases_lt (number_of r) (number_of rule))
      by_side (inr (inr h)) = inl (rise_after c 2 before site after x (subst (Rise c 2) is (all_rise c)) h)

  pub first_broken : FirstBrokenIsObjection T reads is_trace reaches has_failed subject c
  first_broken one_each = (
    λ kept x is rule. holds_in (KeepsAll T reads is_trace reaches has_failed subject c) x (sites_of c) kept (listed c one_each x is) rule,
    λ before after site rule is kept first. record {
      broken = record { site = site; is_site = sited c site (subst (In site) (sym is) (in_right site before (site ∷ after) (inl refl))); at_line = refl; broken = first.broken };
      first = λ other r b.
          subst (λ n. (line_of c site < n) ⊎ ((line_of c site ≡ n) × (number_of rule ≤ number_of r))) b.at_line
          (not_sooner before after site rule is kept first b.site r (subst (In b.site) is (listed c one_each b.site b.is_site)) b.broken);
    },
  )
