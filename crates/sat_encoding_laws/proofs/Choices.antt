-- Choices between signals, and words at other widths.
use Rattle.std.proofs.Common.{◌≡◌, ℕ, ◌<◌, Bool, true, false, not, cond, ◌&&◌, ℤ, pos, List, [], ◌∷◌, length, sym, ◌∙◌, ap, subst, arith}
use Rattle.std.specs.Prelude.{int_lt}
use Rattle.smv_language.specs.ProgramTree.{Text}
use Rattle.smv_language.specs.Values.{Value, truth, number, symbol, is_between, at_most}
use Rattle.sat_clauses.specs.Literal.{Literal, opposite}
use Rattle.sat_clauses.specs.Models.{TotalAssignment, literal_value, IsBelow}
use Rattle.sat_clauses.proofs.ModelLemmas.{literal_value-opposite}
use Rattle.sat_circuits.specs.Circuit.{Circuit}
use Rattle.sat_circuits.specs.Meaning.{Means}
use Rattle.sat_circuits.proofs.Extension.{Means-after, Means-weaker}
use Rattle.sat_circuits.proofs.Rows.{mux_gate-gives, and_gate-gives}
use Rattle.sat_circuits.specs.Words.{word_value, fit, IsWordOf}
use Rattle.sat_circuits.specs.Numbers.{number_word}
use Rattle.sat_circuits.specs.Quotients.{choose_gates}
use Rattle.sat_circuits.proofs.Orders.{Fits}
use Rattle.sat_circuits.proofs.WordMeans.{length-fit, AllBelow-fit}
use Rattle.sat_circuits.proofs.DigitMeans.{number_word-word}
use Rattle.sat_circuits.proofs.TestMeans.{less_gates-gives}
use Rattle.sat_circuits.proofs.DivideMeans.{choose_gates-gives}
use Rattle.smv_type_laws.specs.Intervals.{fits_number}
use Rattle.sat_encoding_laws.specs.Signals.{Signal, bit, word, word_in, fitted, choice_gates, between_gates}
use Rattle.sat_encoding_laws.specs.Meanings.{IsNumberOf, HasValue, IsSignal, IsReady}
use Rattle.sat_encoding_laws.proofs.Parts.{ready_later, signal_later, word_usable, number_in_word, IsLiteral, as_bit-means, as_word-means}
use Rattle.sat_encoding_laws.proofs.Fitting.{fit_same, number_value}
use Rattle.sat_encoding_laws.proofs.Operators.{AreAlike, other_is_not}

-- the number of a value fits so many bits
abbrev pub FitsWord : List Text → ℕ → Value → Type 0
FitsWord symbols n (number z) = Fits n z
FitsWord symbols n (symbol x) = (z : ℤ) → IsNumberOf symbols x z → Fits n z
FitsWord symbols n (truth b) = Unit {0}

pub word_fitted : (s : Circuit) → IsReady s → (n : ℕ) → 0 < n → (w : List Literal) → IsWordOf s w → IsWordOf s (fit n w)
word_fitted s ready n some w h = record { signed = omega (arith, length-fit n w); below = AllBelow-fit n s.free w ready.least h.below }

pub signal_fitted : (s : Circuit) → IsReady s → (n : ℕ) → 0 < n → (e : Signal) → IsSignal s e → IsSignal s (fitted n e)
signal_fitted s ready n some (bit l) h = h
signal_fitted s ready n some (word w) h = word_fitted s ready n some w h

module _ (symbols : List Text) where
  -- words of one number have one value
  pub same_word : (v : TotalAssignment) (w u : List Literal) (x : Value) → word_value v w ≡ word_value v u → HasValue symbols v (word u) x → HasValue symbols v (word w) x
  same_word v w u (truth b) e h = absurd h
  same_word v w u (number n) e h = e ∙ h
  same_word v w u (symbol x) e h = record { place = h.place; at = h.at; is = e ∙ h.is }

  -- a word at a width that its value fits has the same value
  pub word_at_width : (v : TotalAssignment) (n : ℕ) → 0 < n → (w : List Literal) → 0 < length w → (x : Value) → HasValue symbols v (word w) x → FitsWord symbols n x → HasValue symbols v (word (fit n w)) x
  word_at_width v n some w k (truth b) h f = absurd h
  word_at_width v n some w k (number z) h f = fit_same v n w z k some h f
  word_at_width v n some w k (symbol x) h f = record { place = h.place; at = h.at; is = fit_same v n w (pos h.place) k some h.is (subst (Fits n) h.is (f (word_value v w) h)) }

  pub fitted_value : (s : Circuit) (v : TotalAssignment) (n : ℕ) → 0 < n → (e : Signal) → IsSignal s e → (x : Value) → HasValue symbols v e x → FitsWord symbols n x → HasValue symbols v (fitted n e) x
  fitted_value s v n some (bit l) he x h f = h
  fitted_value s v n some (word w) he x h f = word_at_width v n some w he.signed x h f

  -- the signal has the value of the first or of the second, as the condition says
  abbrev pub Chooses : ℕ → Literal → Signal → Signal → TotalAssignment → Signal → Type 0
  Chooses n c e f v g =
      (x y : Value) → AreAlike x y → HasValue symbols v e x → HasValue symbols v f y → FitsWord symbols n (cond (literal_value v c) x y) → HasValue symbols v g (cond (literal_value v c) x y)

  -- a word chosen between two at that width
  chosen : (v : TotalAssignment) (n : ℕ) → 0 < n → (a b w : List Literal) → 0 < length a → 0 < length b → (p : Bool) (x y : Value)
      → word_value v w ≡ cond p (word_value v (fit n a)) (word_value v (fit n b)) → HasValue symbols v (word a) x → HasValue symbols v (word b) y
      → FitsWord symbols n (cond p x y) → HasValue symbols v (word w) (cond p x y)
  chosen v n some a b w ha hb true x y is hx hy f = same_word v w (fit n a) x is (word_at_width v n some a ha x hx f)
  chosen v n some a b w ha hb false x y is hx hy f = same_word v w (fit n b) y is (word_at_width v n some b hb y hy f)

  pub choice_gates-means : (s : Circuit) → IsReady s → (n : ℕ) → 0 < n → (c : Literal) → IsBelow s.free c → (e f : Signal) → IsSignal s e → IsSignal s f
      → Means s (choice_gates n c e f s) IsSignal (Chooses n c e f)
  choice_gates-means s ready n some c hc (bit a) (bit b) he hf =
      as_bit-means s _ _ _ ready.truth (mux_gate-gives s c a b hc he hf) (λ v t is x y alike hx hy f. bits v _ (literal_value v c) is x y hx hy)
    where
      bits : (v : TotalAssignment) (l : Literal) (p : Bool) → literal_value v l ≡ cond p (literal_value v a) (literal_value v b) → (x y : Value)
          → HasValue symbols v (bit a) x → HasValue symbols v (bit b) y → HasValue symbols v (bit l) (cond p x y)
      bits v l true is (truth q) y hx hy = is ∙ hx
      bits v l true is (number q) y hx hy = absurd hx
      bits v l true is (symbol q) y hx hy = absurd hx
      bits v l false is x (truth q) hx hy = is ∙ hy
      bits v l false is x (number q) hx hy = absurd hy
      bits v l false is x (symbol q) hx hy = absurd hy
  choice_gates-means s ready n some c hc (bit a) (word b) he hf =
      as_word-means s _ _ _ _ ready.truth (omega (arith, length-fit n (a ∷ [])))
      (choose_gates-gives c (fit n (a ∷ [])) (fit n b) s (length-fit n (a ∷ []) ∙ sym (length-fit n b)) hc (AllBelow-fit n s.free (a ∷ []) ready.least (he, tt)) (AllBelow-fit n s.free b ready.least hf.below))
      (λ v t is x y alike hx hy f. absurd (unlike v x y alike hx hy))
    where
      unlike : (v : TotalAssignment) (x y : Value) → AreAlike x y → HasValue symbols v (bit a) x → HasValue symbols v (word b) y → ⊥
      unlike v (truth p) (truth q) alike hx hy = hy
      unlike v (truth p) (number q) alike hx hy = alike
      unlike v (truth p) (symbol q) alike hx hy = alike
      unlike v (number p) y alike hx hy = hx
      unlike v (symbol p) y alike hx hy = hx
  choice_gates-means s ready n some c hc (word a) f he hf =
      let wf : IsWordOf s (word_in f) = word_usable s f hf in
      as_word-means s _ _ _ _ ready.truth (omega (arith, length-fit n a))
      (choose_gates-gives c (fit n a) (fit n (word_in f)) s (length-fit n a ∙ sym (length-fit n (word_in f))) hc (AllBelow-fit n s.free a ready.least he.below) (AllBelow-fit n s.free (word_in f) ready.least wf.below))
      (λ v t is x y alike hx hy fits. chosen v n some a (word_in f) (choose_gates c (fit n a) (fit n (word_in f)) s).1 he.signed wf.signed (literal_value v c) x y is hx (in_word v f x y alike hx hy) fits)
    where
      in_word : (v : TotalAssignment) (f : Signal) (x y : Value) → AreAlike x y → HasValue symbols v (word a) x → HasValue symbols v f y → HasValue symbols v (word (word_in f)) y
      in_word v (word b) x y alike hx hy = hy
      in_word v (bit l) (truth p) y alike hx hy = absurd hx
      in_word v (bit l) (number p) (truth q) alike hx hy = absurd alike
      in_word v (bit l) (number p) (number q) alike hx hy = absurd hy
      in_word v (bit l) (number p) (symbol q) alike hx hy = absurd hy
      in_word v (bit l) (symbol p) (truth q) alike hx hy = absurd alike
      in_word v (bit l) (symbol p) (number q) alike hx hy = absurd hy
      in_word v (bit l) (symbol p) (symbol q) alike hx hy = absurd hy

  -- whether a word's number is from one to another
  pub between_gates-means : (s : Circuit) → IsReady s → (e : Signal) → IsSignal s e → (lo hi : ℤ)
      → Means s (between_gates (word_in e) lo hi s) IsLiteral
      (λ v l. fits_number lo ≡ true → fits_number hi ≡ true → v 1 ≡ true → (k : ℤ) → HasValue symbols v e (number k) → literal_value v l ≡ is_between lo hi (number k))
  unfolding between_gates
  between_gates-means s ready e he lo hi =
      Means-after s _ _ _ _ _ _ (less_gates-gives (word_in e) (number_word lo) s ready.truth ready.least (word_usable s e he) (number_word-word lo s ready.least)) (λ under t hu et.
      let ready1 = ready_later s t et ready in
      Means-after t _ _ _ _ _ _ (less_gates-gives (number_word hi) (word_in e) t ready1.truth ready1.least (number_word-word hi t ready1.least) (word_usable t e (signal_later s t et e he))) (λ over u ho eu.
      Means-weaker u _ _ IsLiteral _ _ (and_gate-gives u (opposite under) (opposite over) (omega (arith, hu, eu.counted)) ho) (λ h. h)
      (λ v h is io iu fl fh one k hk.
      let value : word_value v (word_in e) ≡ k = number_in_word symbols v e k hk in
      let first : literal_value v (opposite under) ≡ at_most lo k =
      literal_value-opposite v under ∙ ap not (iu ∙ (λ i. int_lt (value i) (number_value v lo one fl i))) ∙ sym (other_is_not (int_lt k lo)) in
      let last : literal_value v (opposite over) ≡ at_most k hi =
      literal_value-opposite v over ∙ ap not (io ∙ (λ i. int_lt (number_value v hi one fh i) (value i))) ∙ sym (other_is_not (int_lt hi k)) in
      is ∙ (λ i. first i && last i))))
