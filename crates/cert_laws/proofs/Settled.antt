-- What the rules ask is settled.
use Rattle.std.proofs.Common.{◌≡◌, ◌⊎◌, inl, inr, ℕ, zero, suc, ◌+◌, ◌≤◌, ◌<◌, Bool, true, false, List, [], ◌∷◌, length, Option, Some, None, refl, sym, ◌∙◌, ap, subst, arith}
use Rattle.std.specs.Prelude.{Contains, All, Any, IsTrue, slice_get, slice_index_or}
use Rattle.std.proofs.lemmas.Bool.{cases_eq, cases_lt}
use Rattle.std.proofs.lemmas.List.Elements.{All-contains, All-head, All-tail, All-nil, All-cons, Contains-get_or}
use Rattle.sat_clauses.specs.Literal.{Literal, opposite}
use Rattle.sat_clauses.specs.Derivation.{IsUpTo}
use Rattle.sat_clauses.specs.Hints.{LacksOpposite, HasNoOpposites, assumed_false}
use Rattle.sat_clauses.specs.Fault.{fault_of}
use Rattle.sat_clauses.specs.declared.step.Step.{Step}
use Rattle.sat_clauses.specs.declared.step.StepFault.{StepFault}
use Rattle.sat_clauses.specs.declared.step.StepFault.TheVariants.{BadHint, NoConflict}
use Rattle.sat_clauses.proofs.FaultLemmas.{fault-BadHint, fault-NoConflict}
use Rattle.sat_clauses.specs.States.{IsOverBits}
use Rattle.cut_right_laws.specs.Sets.{IsRising, stands_before}
use Rattle.cut_right_laws.specs.Right.{IsContained}
use Rattle.cert_laws.specs.Certificate.{Certificate, Part, steps_in}
use Rattle.cert_laws.specs.Acceptance.{Subject, Covers, HasNumbers, IsSetAt, IsApart, HasLiterals, HasGoodHints, HasConflict, IsCovered, known_at, vars_of, goals}
use Rattle.cert_laws.specs.Judgement.{IsSettled}

-- Settled facts.
both_settled : {A B : Type 0} → IsSettled A → IsSettled B → IsSettled (A × B)
both_settled (inl a) (inl b) = inl (a, b)
both_settled (inl a) (inr b) = inr (λ h. b h.1)
both_settled (inr a) s = inr (λ h. a h.0)

same_settled : {A B : Type 0} → (A → B) → (B → A) → IsSettled A → IsSettled B
same_settled f g (inl a) = inl (f a)
same_settled f g (inr a) = inr (λ b. a (g b))

not_settled : {A : Type 0} → IsSettled A → IsSettled (A → ⊥)
not_settled (inl a) = inr (λ h. h a)
not_settled (inr a) = inl a

true_settled : (b : Bool) → IsSettled (b ≡ true)
true_settled true = inl refl
true_settled false = inr (λ e. bad e)
  where
    bad : false ≡ true → ⊥
    bad e = cc

least_settled : (a b : ℕ) → IsSettled (a ≤ b)
least_settled a b = by_order (cases_lt b a)
  where
    by_order : (b < a) ⊎ (a ≤ b) → IsSettled (a ≤ b)
    by_order (inl h) = inr (λ g. absurd (omega (arith, h, g)))
    by_order (inr h) = inl h

equal_settled : (a b : ℕ) → IsSettled (a ≡ b)
equal_settled a b = cases_eq a b

-- Of members.
all_settled : {A : Type 0} (P : A → Type 0) → ((x : A) → IsSettled (P x)) → (xs : List A) → IsSettled (All P xs)
all_settled P d [] = inl (All-nil P)
all_settled P d (x ∷ xs) = same_settled (λ h. All-cons P x xs h.0 h.1) (λ h. (All-head P x xs h, All-tail P x xs h)) (both_settled (d x) (all_settled P d xs))

members_settled : {A : Type 0} (P : A → Type 0) → ((x : A) → IsSettled (P x)) → (xs : List A) → IsSettled ((x : A) → Contains xs x → P x)
members_settled P d xs = same_settled (λ h x m. All-contains P xs x h m) (λ h k y within. h (slice_index_or xs k y) (Contains-get_or xs k y within)) (all_settled P d xs)

any_settled : {A : Type 0} (P : A → Type 0) → ((x : A) → IsSettled (P x)) → (xs : List A) → IsSettled (Any P xs)
any_settled P d [] = inr (λ h. absurd (omega (arith, h.2)))
any_settled {A = A} P d (x ∷ xs) = by_first (d x) (any_settled P d xs)
  where
    further : Any P xs → Any P (x ∷ xs)
    further h = (suc h.0, h.1, omega (arith, h.2), h.3, h.4)

    back : (i : ℕ) (y : A) → i < length (x ∷ xs) → slice_index_or (x ∷ xs) i y ≡ y → P y → P x ⊎ Any P xs
    back zero y within e p = inl (subst P (sym e) p)
    back (suc i) y within e p = inr (i, y, omega (arith, within), e, p)

    by_first : IsSettled (P x) → IsSettled (Any P xs) → IsSettled (Any P (x ∷ xs))
    by_first (inl p) s = inl (0, x, omega arith, refl, p)
    by_first (inr n) (inl h) = inl (further h)
    by_first (inr n) (inr m) = inr (λ h. neither (back h.0 h.1 h.2 h.3 h.4))
      where
        neither : P x ⊎ Any P xs → ⊥
        neither (inl p) = n p
        neither (inr q) = m q

contains_settled : {A : Type 0} → ((x y : A) → IsSettled (x ≡ y)) → (xs : List A) (x : A) → IsSettled (Contains xs x)
contains_settled {A = A} d xs x = same_settled to back (any_settled (λ y. y ≡ x) (λ y. d y x) xs)
  where
    to : Any (λ y. y ≡ x) xs → Contains xs x
    to h = (h.0, h.2, subst (λ z. slice_index_or xs h.0 z ≡ z) h.4 h.3)

    back : Contains xs x → Any (λ y. y ≡ x) xs
    back h = (h.0, x, h.1, h.2, refl)

literals_settled : (l m : Literal) → IsSettled (l ≡ m)
literals_settled l m = same_settled (λ h. one l.var m.var l.negated m.negated h.0 h.1) (λ e. (ap (λ (k : Literal). k.var) e, ap (λ (k : Literal). k.negated) e)) (both_settled (equal_settled l.var m.var) (signs l.negated m.negated))
  where
    one : (x y : ℕ) (n o : Bool) → x ≡ y → n ≡ o → (let r : Literal = record { var = x; negated = n } in r) ≡ (let r : Literal = record { var = y; negated = o } in r)
    one x y n o e f = rw (e, f) refl

    signs : (n o : Bool) → IsSettled (n ≡ o)
    signs true true = inl refl
    signs true false = inr (λ e. bad e)
      where
        bad : true ≡ false → ⊥
        bad e = cc
    signs false true = inr (λ e. bad e)
      where
        bad : false ≡ true → ⊥
        bad e = cc
    signs false false = inl refl

opposites_settled : (c : List Literal) → IsSettled (HasNoOpposites c)
opposites_settled c =
    all_settled (LacksOpposite c) (λ l. same_settled (λ h. record { absent = h }) (λ (h : LacksOpposite c l). h.absent) (not_settled (contains_settled literals_settled c (opposite l)))) c

contained_settled : (s t : List ℕ) → IsSettled (IsContained s t)
contained_settled s t = members_settled (Contains t) (contains_settled equal_settled t) s

rising_settled : (s : List ℕ) → IsSettled (IsRising s)
rising_settled [] = inl tt
rising_settled (i ∷ []) = inl tt
rising_settled (i ∷ j ∷ s) = both_settled (least_settled (suc i) j) (rising_settled (j ∷ s))

below_settled : (Q : ℕ → Type 0) → ((j : ℕ) → IsSettled (Q j)) → (k : ℕ) → IsSettled ((j : ℕ) → j < k → Q j)
below_settled Q d zero = inl (λ j h. absurd (omega (arith, h)))
below_settled Q d (suc k) = same_settled (λ h j less. by_order h j less (cases_eq j k)) (λ h. (λ j less. h j (omega (arith, less)), h k (omega arith))) (both_settled (below_settled Q d k) (d k))
  where
    by_order : ((j : ℕ) → j < k → Q j) × Q k → (j : ℕ) → j < suc k → (j ≡ k) ⊎ (j ≡ k → ⊥) → Q j
    by_order h j less (inl e) = subst Q (sym e) h.1
    by_order h j less (inr n) = h.0 j (strict j n less)
      where
        strict : (j : ℕ) → (j ≡ k → ⊥) → j < suc k → j < k
        strict j n less = grind (arith, n, less)

at_settled : {A : Type 0} (P : A → Type 0) → ((x : A) → IsSettled (P x)) → (xs : List A) (j : ℕ) → IsSettled ((x : A) → slice_get xs j ≡ Some x → P x)
at_settled {A = A} P d xs j = by_place (slice_get xs j) refl
  where
    none : (x : A) → None ≡ Some x → ⊥
    none x e = cc

    same : (x y : A) → Some x ≡ Some y → x ≡ y
    same x y e = cc

    by_place : (o : Option A) → slice_get xs j ≡ o → IsSettled ((x : A) → slice_get xs j ≡ Some x → P x)
    by_place None e = inl (λ x h. absurd (none x (sym e ∙ h)))
    by_place (Some y) e = same_settled (λ p x h. subst P (same y x (sym e ∙ h)) p) (λ f. f y e) (d y)

module _ (subject : Subject) (c : Certificate) where
  pub numbers_settled : IsSettled (HasNumbers subject c)
  numbers_settled =
      same_settled (λ h. record { bits = h.0; faults = h.1.0; size = h.1.1 }) (λ (h : HasNumbers subject c). (h.bits, (h.faults, h.size)))
      (both_settled (equal_settled c.bits subject.system.state_bits) (both_settled (equal_settled c.faults subject.faults) (least_settled c.size c.faults)))

  after_settled : (k : ℕ) (set : List ℕ) → IsSettled ((j : ℕ) (before : List ℕ) → k ≡ suc j → slice_get c.sets j ≡ Some before → IsTrue (stands_before before set))
  after_settled zero set = inl (λ j before e at. absurd (omega (arith, e)))
  after_settled (suc k) set =
      same_settled (λ f j before e at. f before (subst (λ n. slice_get c.sets n ≡ Some before) (back j e) at)) (λ f before at. f k before refl at)
      (at_settled (λ before. stands_before before set ≡ true) (λ before. true_settled (stands_before before set)) c.sets k)
    where
      back : (j : ℕ) → suc k ≡ suc j → j ≡ k
      back j e = omega (arith, e)

  pub set_settled : (k : ℕ) (set : List ℕ) → IsSettled (IsSetAt subject c k set)
  set_settled k set =
      same_settled (λ h. record { rises = h.0; names = h.1.0; small = h.1.1.0; after = h.1.1.1 }) (λ (h : IsSetAt subject c k set). (h.rises, (h.names, (h.small, h.after))))
      (both_settled (rising_settled set) (both_settled (members_settled (λ i. (1 ≤ i) × (i ≤ subject.faults)) (λ i. both_settled (least_settled 1 i) (least_settled i subject.faults)) set)
      (both_settled (least_settled (length set) c.size) (after_settled k set))))

  pub apart_settled : (k : ℕ) (set : List ℕ) → IsSettled (IsApart subject c k set)
  apart_settled k set =
      same_settled (λ f j other less at. f j less other at) (λ f j less other at. f j other less at)
      (below_settled (λ j. (other : List ℕ) → slice_get c.sets j ≡ Some other → (IsContained other set → ⊥) × (IsContained set other → ⊥))
      (λ j. at_settled (λ other. (IsContained other set → ⊥) × (IsContained set other → ⊥)) (λ other. both_settled (not_settled (contained_settled other set)) (not_settled (contained_settled set other))) c.sets j) k)

  pub literals_of_step : (part : Part) (s : Step) → IsSettled (HasLiterals subject c part s)
  literals_of_step part s = both_settled (all_settled (IsUpTo (vars_of subject c part)) (λ l. least_settled l.var (vars_of subject c part)) s.clause) (opposites_settled s.clause)

  pub clause_settled : (clause : List Literal) → IsSettled (IsOverBits subject.system clause × HasNoOpposites clause)
  clause_settled clause =
      both_settled (all_settled (λ l. (2 ≤ l.var) × (l.var < subject.system.state_bits + 2)) (λ l. both_settled (least_settled 2 l.var) (least_settled (suc l.var) (subject.system.state_bits + 2))) clause) (opposites_settled clause)

  pub hints_settled : (part : Part) (i : ℕ) (s : Step) → IsSettled (HasGoodHints subject c part i s) × IsSettled (HasConflict subject c part i s)
  hints_settled part i s = by_fault (fault_of (known_at subject c part i) (assumed_false (vars_of subject c part) s.clause) 1 s.hints) refl
    where
      none_bad : (n : ℕ) → None ≡ Some (BadHint n) → ⊥
      none_bad n e = cc

      none_open : None ≡ Some NoConflict → ⊥
      none_open e = cc

      differ : (n : ℕ) → Some NoConflict ≡ Some (BadHint n) → ⊥
      differ n e = cc

      by_fault : (o : Option StepFault) → fault_of (known_at subject c part i) (assumed_false (vars_of subject c part) s.clause) 1 s.hints ≡ o →
          IsSettled (HasGoodHints subject c part i s) × IsSettled (HasConflict subject c part i s)
      by_fault None e = (
        inl (λ n f. none_bad n (sym e ∙ (fault-BadHint (known_at subject c part i) (assumed_false (vars_of subject c part) s.clause) s.hints n).1 f)),
        inl (λ f. none_open (sym e ∙ (fault-NoConflict (known_at subject c part i) (assumed_false (vars_of subject c part) s.clause) s.hints).1 f)),
      )
      by_fault (Some (BadHint n)) e = (
        inr (λ good. good n ((fault-BadHint (known_at subject c part i) (assumed_false (vars_of subject c part) s.clause) s.hints n).0 e)),
        inl (λ f. differ n (sym ((fault-NoConflict (known_at subject c part i) (assumed_false (vars_of subject c part) s.clause) s.hints).1 f) ∙ e)),
      )
      by_fault (Some NoConflict) e = (
        inl (λ n f. differ n (sym e ∙ (fault-BadHint (known_at subject c part i) (assumed_false (vars_of subject c part) s.clause) s.hints n).1 f)),
        inr (λ closed. closed ((fault-NoConflict (known_at subject c part i) (assumed_false (vars_of subject c part) s.clause) s.hints).0 e)),
      )

  pub covered_settled : (part : Part) → IsSettled (IsCovered subject c part)
  covered_settled part =
      members_settled (Covers (known_at subject c part (length (steps_in c part))))
      (λ needed. any_settled (λ k. All (Contains needed) k) (λ k. all_settled (Contains needed) (contains_settled literals_settled needed) k) (known_at subject c part (length (steps_in c part)))) (goals subject c part)
