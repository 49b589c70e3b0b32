-- Signals in later circuits, and what is built with another shape.
use Rattle.std.proofs.Common.{◌≡◌, ℕ, ◌<◌, Bool, true, not, ℤ, List, ◌∙◌, ap, arith}
use Rattle.smv_language.specs.ProgramTree.{Text}
use Rattle.smv_language.specs.Values.{truth, number}
use Rattle.sat_clauses.specs.Literal.{Literal}
use Rattle.sat_clauses.specs.Models.{TotalAssignment, literal_value, IsBelow}
use Rattle.sat_clauses.proofs.ModelLemmas.{literal_value-opposite}
use Rattle.sat_circuits.specs.Circuit.{Circuit}
use Rattle.sat_circuits.specs.Meaning.{Extends, Means, HasTruth}
use Rattle.sat_circuits.proofs.Extension.{AllBelow-more, HasTruth-later, Satisfies-earlier}
use Rattle.sat_circuits.specs.Words.{word_value, IsWordOf, IsOfWidth}
use Rattle.sat_encoding_laws.specs.Signals.{Signal, bit, word, literal_in, word_in, as_bit, as_word, turned}
use Rattle.sat_encoding_laws.specs.Meanings.{HasValue, IsSignal, IsReady}

-- ---- later circuits

pub ready_later : (s t : Circuit) → Extends s t → IsReady s → IsReady t
ready_later s t e r = record { truth = HasTruth-later s t e r.truth; least = omega (arith, r.least, e.counted) }

pub word_later : (s t : Circuit) → Extends s t → (w : List Literal) → IsWordOf s w → IsWordOf t w
word_later s t e w h = record { signed = h.signed; below = AllBelow-more s.free t.free e.counted w h.below }

pub signal_later : (s t : Circuit) → Extends s t → (e : Signal) → IsSignal s e → IsSignal t e
signal_later s t e (bit l) h = omega (arith, h, e.counted)
signal_later s t e (word w) h = word_later s t e w h

-- ---- the parts of a signal

pub literal_below : (s : Circuit) → 1 < s.free → (e : Signal) → IsSignal s e → IsBelow s.free (literal_in e)
literal_below s f (bit l) h = h
literal_below s f (word w) h = f

pub word_usable : (s : Circuit) (e : Signal) → IsSignal s e → IsWordOf s (word_in e)
word_usable s (bit l) h = record { signed = omega arith; below = (h, tt) }
word_usable s (word w) h = h

pub number_in_word : (symbols : List Text) (v : TotalAssignment) (e : Signal) (n : ℤ) → HasValue symbols v e (number n) → word_value v (word_in e) ≡ n
number_in_word symbols v (bit l) n h = absurd h
number_in_word symbols v (word w) n h = h

pub truth_in_bit : (symbols : List Text) (v : TotalAssignment) (e : Signal) (b : Bool) → HasValue symbols v e (truth b) → literal_value v (literal_in e) ≡ b
truth_in_bit symbols v (bit l) b h = h
truth_in_bit symbols v (word w) b h = absurd h

-- ---- what gives a literal or a word, as a signal

-- a literal below the next free variable
abbrev pub IsLiteral : Circuit → Literal → Type 0
IsLiteral t l = IsBelow t.free l

pub as_bit-means : (s : Circuit) (r : Circuit × Literal) (P : TotalAssignment → Literal → Type 0) (Q : TotalAssignment → Signal → Type 0) → HasTruth s → Means s r IsLiteral P
    → ((v : TotalAssignment) → v 1 ≡ true → P v r.1 → Q v (bit r.1)) → Means s (as_bit r) IsSignal Q
as_bit-means s r P Q t m use_it = record {
  extends = m.extends;
  shape = m.shape;
  means = λ v h. use_it v (t v (Satisfies-earlier s r.0 m.extends v h)) (m.means v h);
}

pub as_word-means : (s : Circuit) (r : Circuit × List Literal) (n : ℕ) (P : TotalAssignment → List Literal → Type 0) (Q : TotalAssignment → Signal → Type 0) → HasTruth s → 0 < n
    → Means s r (IsOfWidth n) P → ((v : TotalAssignment) → v 1 ≡ true → P v r.1 → Q v (word r.1)) → Means s (as_word r) IsSignal Q
as_word-means s r n P Q t k m use_it = record {
  extends = m.extends;
  shape = record { signed = omega (arith, m.shape.long); below = m.shape.below };
  means = λ v h. use_it v (t v (Satisfies-earlier s r.0 m.extends v h)) (m.means v h);
}

pub turned-means : (s : Circuit) (r : Circuit × Literal) (f : TotalAssignment → Bool) → Means s r IsLiteral (λ v l. literal_value v l ≡ f v)
    → Means s (turned r) IsLiteral (λ v l. literal_value v l ≡ not (f v))
turned-means s r f m = record {
  extends = m.extends;
  shape = m.shape;
  means = λ v h. literal_value-opposite v r.1 ∙ ap not (m.means v h);
}
