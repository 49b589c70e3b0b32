-- Each gate's clauses make the next variable the gate's value.
use Rattle.std.proofs.Common.{◌≡◌, ◌+◌, Bool, true, false, not, cond, ◌&&◌, ◌||◌, List, refl, sym, ◌∙◌, ap, subst, arith}
use Rattle.std.specs.List.{AllByRecursion, list_all}
use Rattle.std.specs.Prelude.{Result, Ok, Err, OnOk, OnErr, IfOk}
use Rattle.sat_clauses.specs.Literal.{Literal, plain, opposite}
use Rattle.sat_clauses.specs.Models.{TotalAssignment, literal_value, clause_value, Satisfies, SameBelow, IsBelow}
use Rattle.sat_clauses.proofs.ModelLemmas.{literal_value-same, literal_value-opposite, Satisfies-back}
use Rattle.sat_circuits.specs.Circuit.{Circuit, with_gate}
use Rattle.sat_circuits.specs.Gates.{differ, and_clauses, xor_clauses, mux_clauses, and_gate, or_gate, xor_gate, mux_gate}
use Rattle.sat_circuits.specs.Meaning.{AllBelow, BeginsWith, GivesBool, Means, StopsWithin}
use Rattle.sat_circuits.proofs.Extension.{Extends-gate, ClausesBelow-from, Means-keep, begins-after, BeginsWith-refl}

-- ---- the clauses, as tests of the values of g, a, b and c

and_test : Bool → Bool → Bool → Bool
and_test g a b = (not g || (a || false)) && ((not g || (b || false)) && ((g || (not a || (not b || false))) && true))

and_test-row : (a b : Bool) → and_test (a && b) a b ≡ true
unfolding and_test
and_test-row true true = refl
and_test-row true false = refl
and_test-row false true = refl
and_test-row false false = refl

and_test-value : (g a b : Bool) → and_test g a b ≡ true → g ≡ (a && b)
unfolding and_test
and_test-value true true true h = refl
and_test-value true true false h = cc
and_test-value true false b h = cc
and_test-value false true true h = cc
and_test-value false true false h = refl
and_test-value false false b h = refl

and_clauses-test : (v : TotalAssignment) (g a b : Literal) → list_all (clause_value v) (and_clauses g a b) ≡ and_test (literal_value v g) (literal_value v a) (literal_value v b)
unfolding and_test
and_clauses-test v g a b = simp literal_value-opposite

xor_test : Bool → Bool → Bool → Bool
xor_test g a b =
    (not g || (a || (b || false)))
    && ((not g || (not a || (not b || false))) && ((g || (not a || (b || false))) && ((g || (a || (not b || false))) && true)))

xor_test-row : (a b : Bool) → xor_test (differ a b) a b ≡ true
unfolding xor_test
xor_test-row true true = refl
xor_test-row true false = refl
xor_test-row false true = refl
xor_test-row false false = refl

xor_test-value : (g a b : Bool) → xor_test g a b ≡ true → g ≡ differ a b
unfolding xor_test
xor_test-value true true true h = cc
xor_test-value true true false h = refl
xor_test-value true false true h = refl
xor_test-value true false false h = cc
xor_test-value false true true h = refl
xor_test-value false true false h = cc
xor_test-value false false true h = cc
xor_test-value false false false h = refl

xor_clauses-test : (v : TotalAssignment) (g a b : Literal) → list_all (clause_value v) (xor_clauses g a b) ≡ xor_test (literal_value v g) (literal_value v a) (literal_value v b)
unfolding xor_test
xor_clauses-test v g a b = simp literal_value-opposite

mux_test : Bool → Bool → Bool → Bool → Bool
mux_test g c a b =
    (not g || (not c || (a || false)))
    && ((not g || (c || (b || false))) && ((g || (not c || (not a || false))) && ((g || (c || (not b || false))) && true)))

mux_test-row : (c a b : Bool) → mux_test (cond c a b) c a b ≡ true
unfolding mux_test
mux_test-row true true true = refl
mux_test-row true true false = refl
mux_test-row true false true = refl
mux_test-row true false false = refl
mux_test-row false true true = refl
mux_test-row false true false = refl
mux_test-row false false true = refl
mux_test-row false false false = refl

mux_test-value : (g c a b : Bool) → mux_test g c a b ≡ true → g ≡ cond c a b
unfolding mux_test
mux_test-value true true true true h = refl
mux_test-value true true true false h = refl
mux_test-value true true false true h = cc
mux_test-value true true false false h = cc
mux_test-value true false true true h = refl
mux_test-value true false true false h = cc
mux_test-value true false false true h = refl
mux_test-value true false false false h = cc
mux_test-value false true true true h = cc
mux_test-value false true true false h = cc
mux_test-value false true false true h = refl
mux_test-value false true false false h = refl
mux_test-value false false true true h = cc
mux_test-value false false true false h = refl
mux_test-value false false false true h = cc
mux_test-value false false false false h = refl

mux_clauses-test : (v : TotalAssignment) (g c a b : Literal) → list_all (clause_value v) (mux_clauses g c a b) ≡ mux_test (literal_value v g) (literal_value v c) (literal_value v a) (literal_value v b)
unfolding mux_test
mux_clauses-test v g c a b = simp literal_value-opposite

-- ---- a gate of the next variable

-- clauses that are true exactly where the next variable has the value f give f
gate_gives : (s : Circuit) (cs : List (List Literal)) (f : TotalAssignment → Bool)
    → AllByRecursion (λ c. AllBelow (s.free + 1) c) cs
    → ((v w : TotalAssignment) → SameBelow s.free v w → f w ≡ f v)
    → ((v : TotalAssignment) → literal_value v (plain s.free) ≡ f v → Satisfies v cs)
    → ((v : TotalAssignment) → Satisfies v cs → literal_value v (plain s.free) ≡ f v)
    → GivesBool s (with_gate s cs) (plain s.free) f
unfolding with_gate
gate_gives s cs f below same row value = record {
  extends = Extends-gate s cs f (ClausesBelow-from (s.free + 1) cs below) (λ v w k e. row w (e ∙ sym (same v w k)));
  shape = omega arith;
  means = λ v h. value v (Satisfies-back v s.clauses cs h);
}

pub and_gate-gives : (s : Circuit) (a b : Literal) → IsBelow s.free a → IsBelow s.free b → GivesBool s (and_gate a b s).0 (and_gate a b s).1 (λ v. literal_value v a && literal_value v b)
unfolding and_gate
and_gate-gives s a b ha hb =
    let g : Literal = plain s.free in
    let hg : IsBelow (s.free + 1) g = omega arith in
    let ka : IsBelow (s.free + 1) a = omega arith in
    let kb : IsBelow (s.free + 1) b = omega arith in
    gate_gives s (and_clauses g a b) (λ v. literal_value v a && literal_value v b)
    ((hg, (ka, tt)), ((hg, (kb, tt)), ((hg, (ka, (kb, tt))), tt)))
    (λ v w k. rw (literal_value-same s.free v w a k ha, literal_value-same s.free v w b k hb) refl)
    (λ v e. and_clauses-test v g a b ∙ (rw e (and_test-row (literal_value v a) (literal_value v b))))
    (λ v h. and_test-value (literal_value v g) (literal_value v a) (literal_value v b) (sym (and_clauses-test v g a b) ∙ h))

pub xor_gate-gives : (s : Circuit) (a b : Literal) → IsBelow s.free a → IsBelow s.free b → GivesBool s (xor_gate a b s).0 (xor_gate a b s).1 (λ v. differ (literal_value v a) (literal_value v b))
unfolding xor_gate
xor_gate-gives s a b ha hb =
    let g : Literal = plain s.free in
    let hg : IsBelow (s.free + 1) g = omega arith in
    let ka : IsBelow (s.free + 1) a = omega arith in
    let kb : IsBelow (s.free + 1) b = omega arith in
    gate_gives s (xor_clauses g a b) (λ v. differ (literal_value v a) (literal_value v b))
    ((hg, (ka, (kb, tt))), ((hg, (ka, (kb, tt))), ((hg, (ka, (kb, tt))), ((hg, (ka, (kb, tt))), tt))))
    (λ v w k. rw (literal_value-same s.free v w a k ha, literal_value-same s.free v w b k hb) refl)
    (λ v e. xor_clauses-test v g a b ∙ (rw e (xor_test-row (literal_value v a) (literal_value v b))))
    (λ v h. xor_test-value (literal_value v g) (literal_value v a) (literal_value v b) (sym (xor_clauses-test v g a b) ∙ h))

pub mux_gate-gives : (s : Circuit) (c a b : Literal) → IsBelow s.free c → IsBelow s.free a → IsBelow s.free b → GivesBool s (mux_gate c a b s).0 (mux_gate c a b s).1 (λ v. cond (literal_value v c) (literal_value v a) (literal_value v b))
unfolding mux_gate
mux_gate-gives s c a b hc ha hb =
    let g : Literal = plain s.free in
    let hg : IsBelow (s.free + 1) g = omega arith in
    let kc : IsBelow (s.free + 1) c = omega arith in
    let ka : IsBelow (s.free + 1) a = omega arith in
    let kb : IsBelow (s.free + 1) b = omega arith in
    gate_gives s (mux_clauses g c a b) (λ v. cond (literal_value v c) (literal_value v a) (literal_value v b))
    ((hg, (kc, (ka, tt))), ((hg, (kc, (kb, tt))), ((hg, (kc, (ka, tt))), ((hg, (kc, (kb, tt))), tt))))
    (λ v w k. rw (literal_value-same s.free v w c k hc, literal_value-same s.free v w a k ha, literal_value-same s.free v w b k hb) refl)
    (λ v e. mux_clauses-test v g c a b ∙ (rw e (mux_test-row (literal_value v c) (literal_value v a) (literal_value v b))))
    (λ v h. mux_test-value (literal_value v g) (literal_value v c) (literal_value v a) (literal_value v b) (sym (mux_clauses-test v g c a b) ∙ h))

-- a negated literal has the other value
pub GivesBool-opposite : (s t : Circuit) (l : Literal) (f : TotalAssignment → Bool) → GivesBool s t l f → GivesBool s t (opposite l) (λ v. not (f v))
GivesBool-opposite s t l f m = record {
  extends = m.extends;
  shape = m.shape;
  means = λ v h. literal_value-opposite v l ∙ ap not (m.means v h);
}

not_and_not : (a b : Bool) → not (not a && not b) ≡ (a || b)
not_and_not true b = refl
not_and_not false true = refl
not_and_not false false = refl

pub or_gate-gives : (s : Circuit) (a b : Literal) → IsBelow s.free a → IsBelow s.free b → GivesBool s (or_gate a b s).0 (or_gate a b s).1 (λ v. literal_value v a || literal_value v b)
unfolding or_gate
or_gate-gives s a b ha hb =
    let m : GivesBool s _ _ _ = GivesBool-opposite s _ _ _ (and_gate-gives s (opposite a) (opposite b) ha hb) in
    record {
      extends = m.extends;
      shape = m.shape;
      means = λ v h. m.means v h ∙ rw (literal_value-opposite v a, literal_value-opposite v b) (not_and_not (literal_value v a) (literal_value v b));
    }

-- ---- from what was appended to what a gate's call ensures

pub gate_exact : {E : Type 0} (r : Result Literal E) (s new : Circuit) (g : Literal) (cs : List (List Literal)) (gate : Circuit × Literal)
    → gate ≡ (with_gate s cs, g) → OnOk r (new ≡ with_gate s cs) → IfOk r (λ l. l ≡ g) → IfOk r (λ l. gate ≡ (new, l))
gate_exact (Ok l) s new g cs gate is e k = cc
gate_exact (Err x) s new g cs gate is e k = tt

pub gate_value : {E : Type 0} (r : Result Literal E) (s new : Circuit) (gate : Circuit × Literal) (f : TotalAssignment → Bool)
    → IfOk r (λ l. gate ≡ (new, l)) → GivesBool s gate.0 gate.1 f → IfOk r (λ l. GivesBool s new l f)
gate_value (Ok l) s new gate f is m = subst (λ (x : Circuit × Literal). GivesBool s x.0 x.1 f) is m
gate_value (Err x) s new gate f is m = tt

pub gate_err : {E : Type 0} (r : Result Literal E) (s new : Circuit) (g : Literal) (cs : List (List Literal)) (gate : Circuit × Literal)
    → gate ≡ (with_gate s cs, g) → OnErr r (StopsWithin s new (with_gate s cs)) → OnErr r (StopsWithin s new gate.0)
gate_err (Ok l) s new g cs gate is h = tt
gate_err (Err x) s new g cs gate is h = subst (λ (x : Circuit × Literal). StopsWithin s new x.0) (sym is) h

-- ---- each gate only adds clauses

pub and_gate-begins : (a b : Literal) (s : Circuit) → BeginsWith (and_gate a b s).0.clauses s.clauses
unfolding and_gate with_gate
and_gate-begins a b s = record { more = and_clauses (plain s.free) a b; same = refl }

pub xor_gate-begins : (a b : Literal) (s : Circuit) → BeginsWith (xor_gate a b s).0.clauses s.clauses
unfolding xor_gate with_gate
xor_gate-begins a b s = record { more = xor_clauses (plain s.free) a b; same = refl }

pub mux_gate-begins : (c a b : Literal) (s : Circuit) → BeginsWith (mux_gate c a b s).0.clauses s.clauses
unfolding mux_gate with_gate
mux_gate-begins c a b s = record { more = mux_clauses (plain s.free) c a b; same = refl }

pub or_gate-begins : (a b : Literal) (s : Circuit) → BeginsWith (or_gate a b s).0.clauses s.clauses
unfolding or_gate
or_gate-begins a b s = and_gate-begins (opposite a) (opposite b) s

-- ---- how many variables each gate takes

pub and_gate-free : (a b : Literal) (s : Circuit) → (and_gate a b s).0.free ≡ s.free + 1
unfolding and_gate with_gate
and_gate-free a b s = refl

pub xor_gate-free : (a b : Literal) (s : Circuit) → (xor_gate a b s).0.free ≡ s.free + 1
unfolding xor_gate with_gate
xor_gate-free a b s = refl

pub mux_gate-free : (c a b : Literal) (s : Circuit) → (mux_gate c a b s).0.free ≡ s.free + 1
unfolding mux_gate with_gate
mux_gate-free c a b s = refl

pub or_gate-free : (a b : Literal) (s : Circuit) → (or_gate a b s).0.free ≡ s.free + 1
unfolding or_gate
or_gate-free a b s = and_gate-free (opposite a) (opposite b) s

-- ---- each gate, with the number of variables that it takes

-- the literal's variable is the next one
pub record IsNext (s t : Circuit) (l : Literal) : Type 0 where
  pub below : IsBelow t.free l
  pub next : t.free ≡ s.free + 1

pub and_gate-means : (s : Circuit) (a b : Literal) → IsBelow s.free a → IsBelow s.free b
    → Means s (and_gate a b s) (IsNext s) (λ v l. literal_value v l ≡ (literal_value v a && literal_value v b))
and_gate-means s a b ha hb = Means-keep s _ _ _ _ (and_gate-gives s a b ha hb) (λ h. record { below = h; next = and_gate-free a b s })

pub or_gate-means : (s : Circuit) (a b : Literal) → IsBelow s.free a → IsBelow s.free b
    → Means s (or_gate a b s) (IsNext s) (λ v l. literal_value v l ≡ (literal_value v a || literal_value v b))
or_gate-means s a b ha hb = Means-keep s _ _ _ _ (or_gate-gives s a b ha hb) (λ h. record { below = h; next = or_gate-free a b s })

pub xor_gate-means : (s : Circuit) (a b : Literal) → IsBelow s.free a → IsBelow s.free b
    → Means s (xor_gate a b s) (IsNext s) (λ v l. literal_value v l ≡ differ (literal_value v a) (literal_value v b))
xor_gate-means s a b ha hb = Means-keep s _ _ _ _ (xor_gate-gives s a b ha hb) (λ h. record { below = h; next = xor_gate-free a b s })

pub mux_gate-means : (s : Circuit) (c a b : Literal) → IsBelow s.free c → IsBelow s.free a → IsBelow s.free b
    → Means s (mux_gate c a b s) (IsNext s) (λ v l. literal_value v l ≡ cond (literal_value v c) (literal_value v a) (literal_value v b))
mux_gate-means s c a b hc ha hb = Means-keep s _ _ _ _ (mux_gate-gives s c a b hc ha hb) (λ h. record { below = h; next = mux_gate-free c a b s })

-- that a sequence of gates only adds clauses, for `search`
pub ruleset gates_begin = (begins-after, xor_gate-begins, and_gate-begins, or_gate-begins, mux_gate-begins, BeginsWith-refl)
