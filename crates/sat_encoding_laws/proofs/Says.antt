-- What a list of clauses under construction says of the variables that no gate defines.
use Rattle.std.proofs.Common.{◌≡◌, ℕ, ◌<◌, ◌≤◌, Bool, true, false, ◌&&◌, ◌||◌, List, [], ◌∷◌, refl, sym, ◌∙◌, subst, arith}
use Rattle.std.proofs.lemmas.List.Elements.{All-append}
use Rattle.sat_clauses.specs.Literal.{Literal}
use Rattle.sat_clauses.specs.Models.{TotalAssignment, literal_value, Satisfies, SameBelow, IsBelow, ClauseBelow, ClausesBelow}
use Rattle.sat_clauses.proofs.ModelLemmas.{Satisfies-front, Satisfies-back, Satisfies-append, all_true-same}
use Rattle.sat_circuits.specs.Circuit.{Circuit}
use Rattle.sat_circuits.specs.Gates.{constant_lit}
use Rattle.sat_circuits.specs.Meaning.{Means}
use Rattle.sat_circuits.proofs.Extension.{ClausesBelow-from, Satisfies-earlier, HasTruth-later, HasTruth-from, ClausesBelow-more}
use Rattle.sat_encoding_laws.specs.Meanings.{IsReady}
use Rattle.sat_encoding_laws.specs.Lists.{asserted}

-- In each model of the clauses C holds, and F too; and where C holds of the variables below n, the others can be chosen
-- so that the clauses are true.
pub record Says (n : ℕ) (t : Circuit) (C F : TotalAssignment → Type 0) : Type 0 where
  pub ready : IsReady t
  pub from : n ≤ t.free
  pub below : ClausesBelow t.free t.clauses
  pub sound : (v : TotalAssignment) → Satisfies v t.clauses → C v × F v
  pub complete : (v : TotalAssignment) → v 1 ≡ true → C v → (w : TotalAssignment) × SameBelow n v w × Satisfies w t.clauses

-- what depends on the variables below n alone
abbrev pub IsStable : ℕ → (TotalAssignment → Type 0) → Type 0
IsStable n D = (v w : TotalAssignment) → SameBelow n v w → D v → D w

unit_clause : (v : TotalAssignment) (l : Literal) → literal_value v l ≡ true → Satisfies v ((l ∷ []) ∷ [])
unit_clause v l h = rw h refl

from_unit : (v : TotalAssignment) (l : Literal) → Satisfies v ((l ∷ []) ∷ []) → literal_value v l ≡ true
from_unit v l h = by (literal_value v l) h
  where
    by : (b : Bool) → ((b || false) && true) ≡ true → b ≡ true
    by true h = refl
    by false h = h

-- no gate yet
pub says_start : (n : ℕ) → 1 < n → Says n (record { clauses = (constant_lit true ∷ []) ∷ []; free = n }) (λ v. Unit {0}) (λ v. Unit {0})
says_start n h = record {
  ready = record { truth = HasTruth-from (record { clauses = (constant_lit true ∷ []) ∷ []; free = n }) refl; least = h };
  from = omega arith;
  below = ClausesBelow-from n ((constant_lit true ∷ []) ∷ []) ((h, tt), tt);
  sound = λ v s. (tt, tt);
  complete = λ v one_true c. (v, (λ x k. refl), rw one_true refl);
}

-- gates are built
pub says_built : {A : Type 0} (n : ℕ) (s : Circuit) (C F : TotalAssignment → Type 0) (r : Circuit × A) (S : Circuit → A → Type 0) (P : TotalAssignment → A → Type 0)
    → Says n s C F → Means s r S P → Says n r.0 C (λ v. F v × P v r.1)
says_built n s C F r S P says m = record {
  ready = record { truth = HasTruth-later s r.0 m.extends says.ready.truth; least = omega (arith, says.ready.least, m.extends.counted) };
  from = omega (arith, says.from, m.extends.counted);
  below =
      subst (λ (cs : List (List Literal)). ClausesBelow r.0.free cs) (sym m.extends.begins.same)
      (All-append (ClauseBelow r.0.free) s.clauses m.extends.begins.more (ClausesBelow-more s.free r.0.free m.extends.counted s.clauses says.below) m.extends.below);
  sound = λ v h. let old = says.sound v (Satisfies-earlier s r.0 m.extends v h) in (old.0, (old.1, m.means v h));
  complete = λ v one_true c.
      let first = says.complete v one_true c in
      let second = m.extends.extends first.0 in (
        second.0,
        (λ x k. second.1 x (omega (arith, k, says.from)) ∙ first.1 x k),
        subst (λ (cs : List (List Literal)). Satisfies second.0 cs) (sym m.extends.begins.same)
            (Satisfies-append second.0 s.clauses m.extends.begins.more (all_true-same s.free first.0 second.0 s.clauses second.1 says.below ∙ first.2) second.2),
      );
}

-- a literal is asserted that is TRUE exactly where D holds
pub says_asserted : (n : ℕ) (t : Circuit) (C F D : TotalAssignment → Type 0) (l : Literal) → IsBelow t.free l → IsStable n D → Says n t C F
    → ((v : TotalAssignment) → Satisfies v t.clauses → (literal_value v l ≡ true → D v) × (D v → literal_value v l ≡ true))
    → Says n (asserted l t) (λ v. C v × D v) F
unfolding asserted
says_asserted n t C F D l hl stable says tells = record {
  ready = record { truth = λ v h. says.ready.truth v (Satisfies-front v t.clauses ((l ∷ []) ∷ []) h); least = says.ready.least };
  from = says.from;
  below = All-append (ClauseBelow t.free) t.clauses ((l ∷ []) ∷ []) says.below (ClausesBelow-from t.free ((l ∷ []) ∷ []) ((hl, tt), tt));
  sound = λ v h.
      let front = Satisfies-front v t.clauses ((l ∷ []) ∷ []) h in
      let old = says.sound v front in
      ((old.0, (tells v front).0 (from_unit v l (Satisfies-back v t.clauses ((l ∷ []) ∷ []) h))), old.1);
  complete = λ v one_true c.
      let first = says.complete v one_true c.0 in
      (first.0, first.1, Satisfies-append first.0 t.clauses ((l ∷ []) ∷ []) first.2 (unit_clause first.0 l ((tells first.0 first.2).1 (stable v first.0 first.1 c.1))));
}

-- the same conditions in other words, and fewer facts
pub says_same : (n : ℕ) (t : Circuit) (C D F G : TotalAssignment → Type 0) → Says n t C F → ((v : TotalAssignment) → C v → D v) → ((v : TotalAssignment) → D v → C v) → ((v : TotalAssignment) → F v → G v) → Says n t D G
says_same n t C D F G says to from facts = record {
  ready = says.ready;
  from = says.from;
  below = says.below;
  sound = λ v h. let old = says.sound v h in (to v old.0, facts v old.1);
  complete = λ v one_true d. says.complete v one_true (from v d);
}
