-- How circuits built one after another extend assignments and give values.
use Rattle.std.proofs.Common.{◌≡◌, ℕ, ◌+◌, ◌≤◌, Bool, true, false, cond, eqb, List, [], ◌∷◌, ◌++◌, refl, sym, ◌∙◌, ap, subst, arith, eq-eqb, append_assoc, take, inl, inr}
use Rattle.std.proofs.lemmas.Bool.{ne_eqb, and_parts, or_cases, false≢true}
use Rattle.std.proofs.lemmas.List.{append-nil}
use Rattle.std.proofs.lemmas.List.Elements.{All-append, All-nil, All-weaker, All-from_recursion}
use Rattle.std.specs.List.{AllByRecursion}
use Rattle.std.specs.Prelude.{Result, Ok, Err, OnOk, IfOk, OnErr}
use Rattle.sat_clauses.specs.Literal.{Literal}
use Rattle.sat_clauses.specs.Models.{TotalAssignment, clause_value, Satisfies, SameBelow, IsBelow, ClauseBelow, ClausesBelow}
use Rattle.sat_clauses.proofs.ModelLemmas.{Satisfies-front, Satisfies-append, all_true-same}
use Rattle.sat_circuits.specs.Circuit.{Circuit, with_gate, after, fold_gates}
use Rattle.sat_circuits.specs.Gates.{constant_lit}
use Rattle.sat_circuits.specs.Meaning.{AllBelow, BeginsWith, Extends, Means, HasTruth, StopsWithin}
use Rattle.base_values.proofs.ListLaws.{all_more, all_joined}

-- ---- facts on each item

pub AllBelow-more : (m n : ℕ) → m ≤ n → (w : List Literal) → AllBelow m w → AllBelow n w
AllBelow-more m n h w b = all_more (IsBelow m) (IsBelow n) (λ l k. omega arith) w b

pub AllBelow-append : (n : ℕ) (w u : List Literal) → AllBelow n w → AllBelow n u → AllBelow n (w ++ u)
AllBelow-append n w u b d = all_joined (IsBelow n) w u b d

-- a list of clauses that is written out
pub ClausesBelow-from : (n : ℕ) (cs : List (List Literal)) → AllByRecursion (λ c. AllBelow n c) cs → ClausesBelow n cs
ClausesBelow-from n cs b = All-from_recursion (ClauseBelow n) cs (all_more (λ c. AllBelow n c) (ClauseBelow n) (λ c k. All-from_recursion (IsBelow n) c k) cs b)

pub ClausesBelow-more : (m n : ℕ) → m ≤ n → (cs : List (List Literal)) → ClausesBelow m cs → ClausesBelow n cs
ClausesBelow-more m n h cs b = All-weaker (ClauseBelow m) (ClauseBelow n) (λ c k. All-weaker (IsBelow m) (IsBelow n) (λ l j. omega arith) c k) cs b

-- ---- what is built later

pub BeginsWith-refl : (cs : List (List Literal)) → BeginsWith cs cs
BeginsWith-refl cs = record { more = []; same = sym (append-nil cs) }

pub BeginsWith-trans : (front mid back : List (List Literal)) → BeginsWith mid front → BeginsWith back mid → BeginsWith back front
BeginsWith-trans front mid back h k = record {
  more = h.more ++ k.more;
  same = k.same ∙ ap (λ x. x ++ k.more) h.same ∙ append_assoc front h.more k.more;
}

pub Satisfies-earlier : (old new : Circuit) → Extends old new → (v : TotalAssignment) → Satisfies v new.clauses → Satisfies v old.clauses
Satisfies-earlier old new e v h = Satisfies-front v old.clauses e.begins.more (subst (λ (cs : List (List Literal)). Satisfies v cs) e.begins.same h)

pub Extends-refl : (s : Circuit) → Extends s s
Extends-refl s = record {
  begins = record { more = []; same = sym (append-nil s.clauses) };
  counted = omega arith;
  below = All-nil (ClauseBelow s.free);
  extends = λ v. (v, (λ x k. refl), refl);
}

pub Extends-trans : (a b c : Circuit) → Extends a b → Extends b c → Extends a c
Extends-trans a b c e f = record {
  begins = record {
    more = e.begins.more ++ f.begins.more;
    same = f.begins.same ∙ ap (λ x. x ++ f.begins.more) e.begins.same ∙ append_assoc a.clauses e.begins.more f.begins.more;
  };
  counted = omega (arith, e.counted, f.counted);
  below = All-append (ClauseBelow c.free) e.begins.more f.begins.more (ClausesBelow-more b.free c.free f.counted e.begins.more e.below) f.below;
  extends = λ v.
      let first : (w : TotalAssignment) × SameBelow a.free v w × Satisfies w e.begins.more = e.extends v in
      let second : (w : TotalAssignment) × SameBelow b.free first.0 w × Satisfies w f.begins.more = f.extends first.0 in (
        second.0,
        (λ x k. second.1 x (omega (arith, e.counted)) ∙ first.1 x k),
        Satisfies-append second.0 e.begins.more f.begins.more
            (all_true-same b.free first.0 second.0 e.begins.more second.1 e.below ∙ first.2) second.2,
      );
}

-- ---- one gate

-- v, with b in place of the value of n
changed : TotalAssignment → ℕ → Bool → TotalAssignment
changed v n b x = cond (eqb x n) b (v x)

changed-at : (v : TotalAssignment) (n : ℕ) (b : Bool) → changed v n b n ≡ b
unfolding changed
changed-at v n b = rw (eq-eqb n n refl) refl

changed-other : (v : TotalAssignment) (n : ℕ) (b : Bool) → SameBelow n v (changed v n b)
unfolding changed
changed-other v n b x h = rw (ne_eqb x n (λ e. omega arith)) refl

-- clauses that are true wherever the next variable has the value f define it
pub Extends-gate : (s : Circuit) (cs : List (List Literal)) (f : TotalAssignment → Bool)
    → ClausesBelow (s.free + 1) cs
    → ((v w : TotalAssignment) → SameBelow s.free v w → w s.free ≡ f v → Satisfies w cs)
    → Extends s (with_gate s cs)
unfolding with_gate
Extends-gate s cs f below true_with = record {
  begins = record { more = cs; same = refl };
  counted = omega arith;
  below = below;
  extends = λ v.
      let w : TotalAssignment = changed v s.free (f v) in
      let same : SameBelow s.free v w = changed-other v s.free (f v) in
      (w, same, true_with v w same (changed-at v s.free (f v)));
}

-- ---- the composition law

-- To show R of what is built by r and then k, show it of k alone: of any a that r may give, in any circuit t that r may
-- leave, where S holds of them, with P of a as one more premise of R.
pub Means-after : {A B : Type 0} (s : Circuit) (r : Circuit × A) (k : A → Circuit → Circuit × B)
    (S : Circuit → A → Type 0) (P : TotalAssignment → A → Type 0) (S' : Circuit → B → Type 0) (R : TotalAssignment → B → Type 0)
    → Means s r S P
    → ((a : A) (t : Circuit) → S t a → Extends s t → Means t (k a t) S' (λ v b. P v a → R v b))
    → Means s (after r k) S' R
unfolding after
Means-after s r k S P S' R m n =
    let rest : Means r.0 (k r.1 r.0) S' (λ v b. P v r.1 → R v b) = n r.1 r.0 m.shape m.extends in
    record {
      extends = Extends-trans s r.0 (k r.1 r.0).0 m.extends rest.extends;
      shape = rest.shape;
      means = λ v h. rest.means v h (m.means v (Satisfies-earlier r.0 (k r.1 r.0).0 rest.extends v h));
    }

-- nothing more is built
pub Means-done : {A : Type 0} (s : Circuit) (a : A) (S : Circuit → A → Type 0) (R : TotalAssignment → A → Type 0)
    → S s a → ((v : TotalAssignment) → Satisfies v s.clauses → R v a) → Means s (s, a) S R
Means-done s a S R shape holds = record { extends = Extends-refl s; shape = shape; means = holds }

-- another shape and meaning, which follow from those
pub Means-weaker : {A : Type 0} (s : Circuit) (r : Circuit × A) (S S' : Circuit → A → Type 0) (P Q : TotalAssignment → A → Type 0)
    → Means s r S P → (S r.0 r.1 → S' r.0 r.1) → ((v : TotalAssignment) → Satisfies v s.clauses → P v r.1 → Q v r.1) → Means s r S' Q
Means-weaker s r S S' P Q m keep weaken = record {
  extends = m.extends;
  shape = keep m.shape;
  means = λ v h. weaken v (Satisfies-earlier s r.0 m.extends v h) (m.means v h);
}

-- one more fact on the shape
pub Means-keep : {A : Type 0} (s : Circuit) (r : Circuit × A) (S S' : Circuit → A → Type 0) (P : TotalAssignment → A → Type 0)
    → Means s r S P → (S r.0 r.1 → S' r.0 r.1) → Means s r S' P
Means-keep s r S S' P m keep = record { extends = m.extends; shape = keep m.shape; means = m.means }

-- The items in turn: S and P speak of what is left and of what was given so far, and each item's step keeps them.
pub Means-fold : {X A : Type 0} (step : X → A → Circuit → Circuit × A)
    (S : List X → Circuit → A → Type 0) (P : List X → TotalAssignment → A → Type 0)
    → ((x : X) (xs : List X) (a : A) (t : Circuit) → S (x ∷ xs) t a → Means t (step x a t) (S xs) (λ v b. P (x ∷ xs) v a → P xs v b))
    → (xs : List X) (a : A) (s : Circuit) → S xs s a
    → Means s (fold_gates step xs a s) (S []) (λ v b. P xs v a → P [] v b)
unfolding fold_gates
Means-fold step S P turn [] a s shape = Means-done s a _ _ shape (λ v h p. p)
Means-fold step S P turn (x ∷ xs) a s shape =
    Means-after s _ _ _ _ _ _ (turn x xs a s shape) (λ b t hb et.
    Means-weaker t _ _ (S []) _ _ (Means-fold step S P turn xs b t hb) (λ h. h) (λ v h k p q. k (p q)))

pub HasTruth-later : (old new : Circuit) → Extends old new → HasTruth old → HasTruth new
HasTruth-later old new e t v h = t v (Satisfies-earlier old new e v h)

-- ---- want of memory

-- what holds anyway holds at an error
pub OnErr-from : {T E : Type 0} (r : Result T E) (P : Type 0) → P → OnErr r P
OnErr-from (Ok x) P p = tt
OnErr-from (Err e) P p = p

-- a gate of which only the clauses of the front were appended
pub StopsWithin-front : (s new : Circuit) (front rest whole : List (List Literal)) → new.clauses ≡ s.clauses ++ front → front ++ rest ≡ whole → StopsWithin s new (with_gate s whole)
unfolding with_gate
StopsWithin-front s new front rest whole e k = record {
  begins = record { more = front; same = e };
  within = record { more = rest; same = ap (λ x. s.clauses ++ x) (sym k) ∙ sym (append_assoc s.clauses front rest) ∙ ap (λ x. x ++ rest) (sym e) };
}

-- what is built only adds clauses
pub begins-after : {A B : Type 0} (s : Circuit) (r : Circuit × A) (k : A → Circuit → Circuit × B)
    → BeginsWith r.0.clauses s.clauses → ((a : A) (t : Circuit) → BeginsWith (k a t).0.clauses t.clauses) → BeginsWith (after r k).0.clauses s.clauses
unfolding after
begins-after s r k h rest = BeginsWith-trans s.clauses r.0.clauses (k r.1 r.0).0.clauses h (rest r.1 r.0)

-- a call that stopped within r stopped within r and what follows it
pub StopsWithin-here : {A B : Type 0} (s new : Circuit) (r : Circuit × A) (k : A → Circuit → Circuit × B)
    → StopsWithin s new r.0 → ((a : A) (u : Circuit) → BeginsWith (k a u).0.clauses u.clauses) → StopsWithin s new (after r k).0
unfolding after
StopsWithin-here s new r k w rest = record {
  begins = w.begins;
  within = BeginsWith-trans new.clauses r.0.clauses (k r.1 r.0).0.clauses w.within (rest r.1 r.0);
}

-- a call that did r and stopped within what follows it
pub StopsWithin-later : {A B : Type 0} (s new t : Circuit) (r : Circuit × A) (a : A) (k : A → Circuit → Circuit × B)
    → r ≡ (t, a) → BeginsWith t.clauses s.clauses → StopsWithin t new (k a t).0 → StopsWithin s new (after r k).0
unfolding after
StopsWithin-later s new t r a k e h w =
    subst (λ (x : Circuit × _). StopsWithin s new (k x.1 x.0).0) (sym e)
    (record { begins = BeginsWith-trans s.clauses t.clauses new.clauses h w.begins; within = w.within })

-- a call that stopped where it had done some already
pub StopsWithin-from : (s t new full : Circuit) → BeginsWith t.clauses s.clauses → StopsWithin t new full → StopsWithin s new full
StopsWithin-from s t new full h w = record { begins = BeginsWith-trans s.clauses t.clauses new.clauses h w.begins; within = w.within }

-- nothing was built yet
pub StopsWithin-none : (s full : Circuit) → BeginsWith full.clauses s.clauses → StopsWithin s s full
StopsWithin-none s full h = record { begins = BeginsWith-refl s.clauses; within = h }

-- what holds of what was to be built holds of what a call gave
pub IfOk-built : {A E : Type 0} (r : Result A E) (new : Circuit) (built : Circuit × A) (P : Circuit → A → Type 0)
    → IfOk r (λ a. built ≡ (new, a)) → P built.0 built.1 → IfOk r (λ a. P new a)
IfOk-built (Ok a) new built P is p = subst (λ (x : Circuit × _). P x.0 x.1) is p
IfOk-built (Err e) new built P is p = tt

pub OnOk-free : {A E : Type 0} (r : Result A E) (new : Circuit) (n : ℕ) (built : Circuit × A) → IfOk r (λ a. built ≡ (new, a)) → built.0.free ≡ n → OnOk r (new.free ≡ n)
OnOk-free (Ok a) new n built is e = sym (ap (λ (x : Circuit × _). x.0.free) is) ∙ e
OnOk-free (Err x) new n built is e = tt

-- ---- the constants

truth_first : (v : TotalAssignment) (cs : List (List Literal)) → take 1 cs ≡ (constant_lit true ∷ []) ∷ [] → Satisfies v cs → v 1 ≡ true
truth_first v [] e h = cc
truth_first v (c ∷ cs) e h =
    let this : c ≡ constant_lit true ∷ [] = cc in
    let holds : clause_value v (constant_lit true ∷ []) ≡ true = ap (clause_value v) (sym this) ∙ (and_parts _ _ h).0 in
    elim (or_cases (v 1) false holds) [ inl is ↦ is | inr never ↦ absurd (false≢true never) ]

pub HasTruth-from : (s : Circuit) → take 1 s.clauses ≡ (constant_lit true ∷ []) ∷ [] → HasTruth s
HasTruth-from s e v h = truth_first v s.clauses e h
