-- What is built of signals, step by step.
use Rattle.std.proofs.Common.{◌≡◌, ℕ, ◌+◌, ◌<◌, ◌≤◌, ℤ, List, length, sym, ◌∙◌, ap, subst, arith}
use Rattle.sat_clauses.specs.Literal.{Literal, opposite}
use Rattle.sat_clauses.specs.Models.{TotalAssignment, IsBelow}
use Rattle.sat_circuits.specs.Circuit.{Circuit, after}
use Rattle.sat_circuits.specs.Gates.{and_gate}
use Rattle.sat_circuits.specs.Meaning.{AllBelow, Means}
use Rattle.sat_circuits.specs.Numbers.{number_word}
use Rattle.sat_circuits.specs.Words.{fit, IsWordOf, IsSized}
use Rattle.sat_circuits.specs.Sums.{less_gates}
use Rattle.sat_circuits.specs.Quotients.{choose_gates}
use Rattle.sat_circuits.proofs.WordMeans.{length-fit, AllBelow-fit}
use Rattle.sat_encoding_laws.specs.Signals.{Signal, word, word_in, as_word, fitted, between_gates}
use Rattle.sat_encoding_laws.specs.Meanings.{IsSignal}
use Rattle.sat_encoding_laws.proofs.Parts.{word_usable}
use Rattle.sat_expressions.specs.declared.signal.Signal.{Signal as Built}
use Rattle.sat_expressions.specs.declared.signal.Signal.TheVariants.{Word}
use Rattle.sat_expressions.specs.BuiltSignals.{signal_of, BuildsLiteral, BuildsSignal}

-- a word at a width
pub fitted_word : (s : Circuit) (n : ℕ) (e : Built) (w v : List Literal) → e ≡ Word w → v ≡ fit n w → 1 ≤ n → 1 < s.free → IsSignal s (signal_of e) → BuildsSignal s (s, fitted n (signal_of e)) s (Word v)
fitted_word s n e w v is made some least usable =
    let whole : IsWordOf s w = subst (λ x. IsSignal s (signal_of x)) is usable in
    let kept : IsWordOf s (fit n w) = record { signed = omega (arith, length-fit n w, some); below = AllBelow-fit n s.free w least whole.below } in
    record {
      exact = ap (λ x. (s, fitted n (signal_of x))) is ∙ ap (λ x. (s, word x)) (sym made);
      usable = subst (λ x. IsWordOf s x) (sym made) kept;
      grows = omega arith;
    }

-- a word of a signal at a width may be used
pub fitted_below : (s : Circuit) (n : ℕ) (e : Signal) (w : List Literal) → w ≡ fit n (word_in e) → 1 < s.free → IsSignal s e → AllBelow s.free w
fitted_below s n e w made least usable = subst (λ x. AllBelow s.free x) (sym made) (AllBelow-fit n s.free (word_in e) least (word_usable s e usable).below)

pub fitted_long : (n : ℕ) (e : List Literal) (w : List Literal) → w ≡ fit n e → length w ≡ n
fitted_long n e w made = ap length made ∙ length-fit n e

-- a choice between words
pub chosen_is : (s t : Circuit) (n : ℕ) (c : Literal) (a b : Signal) (u v w : List Literal) (P : TotalAssignment → List Literal → Type 0) → u ≡ fit n (word_in a) → v ≡ fit n (word_in b) → 1 ≤ n
    → choose_gates c u v s ≡ (t, w) → Means s (t, w) (IsSized (length u) (s.free + length u)) P → BuildsSignal s (as_word (choose_gates c (fit n (word_in a)) (fit n (word_in b)) s)) t (Word w)
chosen_is s t n c a b u v w P first second some exact means = record {
  exact = ap (λ x. as_word (choose_gates c x (fit n (word_in b)) s)) (sym first) ∙ ap (λ x. as_word (choose_gates c u x s)) (sym second) ∙ ap as_word exact;
  usable = record { signed = omega (arith, means.shape.long, fitted_long n (word_in a) u first, some); below = means.shape.below };
  grows = means.extends.counted;
}

-- a number between two
pub between_is : (s t u v : Circuit) (w : List Literal) (lo hi : ℤ) (under over x y l : Literal) → BuildsLiteral s (less_gates w (number_word lo) s) t under → BuildsLiteral t (less_gates (number_word hi) w t) u over
    → x ≡ opposite under → y ≡ opposite over → and_gate x y u ≡ (v, l) → IsBelow v.free l → u.free ≤ v.free → BuildsLiteral s (between_gates w lo hi s) v l
unfolding between_gates after
between_is s t u v w lo hi under over x y l first second ex ey exact below more = record {
  exact =
      ap (λ r. after r (λ a z. after (less_gates (number_word hi) w z) (λ b q. and_gate (opposite a) (opposite b) q))) first.exact
      ∙ ap (λ r. after r (λ b q. and_gate (opposite under) (opposite b) q)) second.exact
      ∙ ap (λ z. and_gate z (opposite over) u) (sym ex) ∙ ap (λ z. and_gate x z u) (sym ey) ∙ exact;
  below = below;
  grows = omega (arith, first.grows, second.grows, more);
}
