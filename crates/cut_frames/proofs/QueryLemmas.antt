-- What the search's answers say to a query, and which lists it may be asked about.
use Rattle.std.proofs.Common.{◌≡◌, ◌≤◌, ◌<◌, ℕ, ◌+◌, ◌*◌, ◌^◌, Bool, true, false, not, List, [], ◌∷◌, refl, sym, ◌∙◌, ap, subst, arith, length}
use Rattle.std.specs.Prelude.{slice_index_or, Contains, All}
use Rattle.std.proofs.lemmas.List.Elements.{All-contains, All-nil, All-cons, Contains-get_or}
use Rattle.sat_clauses.specs.Literal.{Literal, opposite}
use Rattle.sat_clauses.specs.Derivation.{IsUpTo}
use Rattle.sat_clauses.specs.Hints.{HasNoOpposites, LacksOpposite}
use Rattle.cut_frames.specs.Chain.{State, IsOverBits}
use Rattle.sat_clauses.specs.declared.system.System.{System}
use Rattle.cut_frames.specs.GuardedSearch.{places_of}
use Rattle.cut_frames.specs.Bits.{literal_for, literals_from, against_next, moved_on}
use Rattle.cut_frames.proofs.BitLemmas.{literal_found}
use Rattle.cut_frames.proofs.PushLemmas.{from_map}

pub literals_up_to : (n v : ℕ) (s : State) → n + length s ≤ v + 1 → All (IsUpTo v) (literals_from n s)
literals_up_to n v [] le = All-nil (IsUpTo v)
literals_up_to n v (b ∷ s) le = All-cons (IsUpTo v) (literal_for n b) (literals_from (n + 1) s) (grind (arith, le)) (literals_up_to (n + 1) v s (grind (arith, le)))

-- the variables of states are low
pub states_low : (b u : ℕ) → 2 * b + u + 1 < 2 ^ 31 → 2 * b + 1 < 2 ^ 31
states_low b u lt = omega (arith, lt)

-- no literal of a state stands beside its opposite
pub literals_apart : (n : ℕ) (s : State) → HasNoOpposites (literals_from n s)
literals_apart n s = λ k d lt. record { absent = λ o. apart (slice_index_or (literals_from n s) k d) (Contains-get_or (literals_from n s) k d lt) o } where
  turned : (b : Bool) → not b ≡ not (not b) → ⊥
  turned true e = cc
  turned false e = cc

  apart : (l : Literal) → Contains (literals_from n s) l → Contains (literals_from n s) (opposite l) → ⊥
  apart l m o =
      let f = literal_found n s l m in
      let g = literal_found n s (opposite l) o in
      let vars : n + f.0 ≡ n + g.0 = sym (ap (λ (k : Literal). k.var) f.2) ∙ ap (λ (k : Literal). k.var) g.2 in
      let places : f.0 ≡ g.0 = omega (arith, vars) in
      let one : l.negated ≡ not (slice_index_or s f.0 false) = ap (λ (k : Literal). k.negated) f.2 in
      let two : not l.negated ≡ not (slice_index_or s g.0 false) = ap (λ (k : Literal). k.negated) g.2 in
      turned (slice_index_or s f.0 false) (ap (λ i. not (slice_index_or s i false)) places ∙ sym two ∙ ap not one)

pub against_up_to : (bits v : ℕ) (c : List Literal) → 2 * bits + 1 ≤ v → All (λ l. (2 ≤ l.var) × (l.var < bits + 2)) c → All (IsUpTo v) (against_next bits c)
against_up_to bits v c le over = λ k d lt. at (slice_index_or (against_next bits c) k d) (from_map (λ l. moved_on bits (opposite l)) c (slice_index_or (against_next bits c) k d) (Contains-get_or (against_next bits c) k d lt)) where
  below : (x y b : ℕ) → y + b ≡ x → y < b + 2 → 2 * b + 1 ≤ v → x ≤ v
  below x y b e lt le = omega (arith, e, lt, le)

  at : (x : Literal) → (l : Literal) × Contains c l × (moved_on bits (opposite l) ≡ x) → IsUpTo v x
  at x w = below x.var w.0.var bits (ap (λ (k : Literal). k.var) w.2) (All-contains (λ l. (2 ≤ l.var) × (l.var < bits + 2)) c w.0 over w.1).1 le

pub against_apart : (bits : ℕ) (c : List Literal) → HasNoOpposites c → HasNoOpposites (against_next bits c)
against_apart bits c a = λ k d lt. record { absent = λ o. apart (slice_index_or (against_next bits c) k d) (Contains-get_or (against_next bits c) k d lt) o } where
  joint : (k m : Literal) → k.var ≡ m.var → k.negated ≡ m.negated → k ≡ m
  joint k m e f = ap (λ v. record { var = v; negated = k.negated }) e ∙ ap (λ b. record { var = m.var; negated = b }) f

  apart : (x : Literal) → Contains (against_next bits c) x → Contains (against_next bits c) (opposite x) → ⊥
  apart x m o =
      let f = from_map (λ l. moved_on bits (opposite l)) c x m in
      let g = from_map (λ l. moved_on bits (opposite l)) c (opposite x) o in
      let vars : g.0.var + bits ≡ f.0.var + bits = ap (λ (k : Literal). k.var) g.2 ∙ sym (ap (λ (k : Literal). k.var) f.2) in
      let signs : not g.0.negated ≡ not (not f.0.negated) = ap (λ (k : Literal). k.negated) g.2 ∙ ap not (sym (ap (λ (k : Literal). k.negated) f.2)) in
      let is : g.0 ≡ opposite f.0 = joint g.0 (opposite f.0) (omega (arith, vars)) (turn g.0.negated f.0.negated signs) in
      (All-contains (LacksOpposite c) c f.0 a f.1).absent (subst (Contains c) is g.1)
    where
      turn : (a b : Bool) → not a ≡ not (not b) → a ≡ not b
      turn true true e = sym e
      turn true false e = refl
      turn false true e = refl
      turn false false e = sym e

-- a clause over state bits has variables of states
pub bits_up_to : (system : System) (places : ℕ) (c : List Literal) → places ≡ places_of system → IsOverBits system c → All (IsUpTo places) c
bits_up_to system places c e over = λ k d lt. low (slice_index_or c k d).var places system.state_bits system.input_bits e (over k d lt).1
  where
    low : (x p b u : ℕ) → p ≡ 2 * b + u + 1 → x < b + 2 → x ≤ p
    low x p b u e lt = omega (arith, e, lt)
