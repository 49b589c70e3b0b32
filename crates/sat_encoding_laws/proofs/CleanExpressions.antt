-- An expression uses no variables but those of the names that it reads, the constant and its gates'.
use Rattle.std.proofs.Common.{◌≡◌, ℕ, Bool, false, ℤ, List, [], ◌∷◌}
use Rattle.smv_language.specs.declared.expr.Op.{Op}
use Rattle.smv_language.specs.declared.expr.Op.TheVariants as op
use Rattle.smv_language.specs.Tree.{Tree, Trees, Branches, truth as is_truth, number as is_number, leaf, not_of, negate, next_of, binary, choice, case_of, set_of, span, no_tree, tree_then, no_branch, branch_then}
use Rattle.sat_clauses.specs.Literal.{Literal, opposite}
use Rattle.sat_circuits.specs.Circuit.{Circuit}
use Rattle.sat_circuits.specs.Gates.{constant_lit}
use Rattle.sat_circuits.specs.Numbers.{number_word}
use Rattle.sat_encoding_laws.specs.Signals.{Signal, bit, word, literal_in, word_in, as_bit, as_word, turned, fitted, same_gates, choice_gates, between_gates, operator_gates}
use Rattle.sat_encoding_laws.specs.Expressions.{Asked, its_value, whether_has, Names, at_next, answer, both_gates, encoded, encoded_branches, encoded_members}
use Rattle.sat_encoding_laws.specs.ReadNames.{Reads, ReadsTrees, ReadsBranches}
use Rattle.sat_encoding_laws.proofs.CleanGates.{IsOpen, CleanLiteral, CleanWord, IsClean, Clean, clean_after, clean_fit, clean_number, clean_and, clean_or, clean_xor, clean_mux, clean_add, clean_subtract, clean_negate, clean_less, clean_equal, clean_multiply, clean_choose, clean_divide, clean_remainder}

module _ (n : ℕ) (A : ℕ → Type 0) (o : IsOpen n A) where
  abbrev pub CleanSignal : Signal → Type 0
  CleanSignal (bit l) = CleanLiteral n A o l
  CleanSignal (word w) = CleanWord n A o w

  pub clean_literal : (e : Signal) → CleanSignal e → CleanLiteral n A o (literal_in e)
  clean_literal (bit l) h = h
  clean_literal (word w) h = o.one

  clean_word : (e : Signal) → CleanSignal e → CleanWord n A o (word_in e)
  clean_word (bit l) h = (h, tt)
  clean_word (word w) h = h

  pub clean_bit : (r : Circuit × Literal) → Clean n A o (CleanLiteral n A o) r → Clean n A o CleanSignal (as_bit r)
  clean_bit r c = record { circuit = c.circuit; given = c.given }

  clean_as_word : (r : Circuit × List Literal) → Clean n A o (CleanWord n A o) r → Clean n A o CleanSignal (as_word r)
  clean_as_word r c = record { circuit = c.circuit; given = c.given }

  clean_turned : (r : Circuit × Literal) → Clean n A o (CleanLiteral n A o) r → Clean n A o (CleanLiteral n A o) (turned r)
  clean_turned r c = record { circuit = c.circuit; given = c.given }

  clean_done : (e : Signal) (s : Circuit) → IsClean n A o s → CleanSignal e → Clean n A o CleanSignal (s, e)
  clean_done e s h k = record { circuit = h; given = k }

  clean_fitted : (k : ℕ) (e : Signal) → CleanSignal e → CleanSignal (fitted k e)
  clean_fitted k (bit l) h = h
  clean_fitted k (word w) h = clean_fit n A o k w h

  clean_same : (e f : Signal) (s : Circuit) → IsClean n A o s → CleanSignal e → CleanSignal f → Clean n A o (CleanLiteral n A o) (same_gates e f s)
  clean_same (bit a) (bit b) s h he hf = clean_turned _ (clean_xor n A o a b s h he hf)
  clean_same (bit a) (word b) s h he hf = clean_equal n A o (a ∷ []) b s h (he, tt) hf
  clean_same (word a) f s h he hf = clean_equal n A o a (word_in f) s h he (clean_word f hf)

  clean_choice : (k : ℕ) (c : Literal) (e f : Signal) (s : Circuit) → IsClean n A o s → CleanLiteral n A o c → CleanSignal e → CleanSignal f → Clean n A o CleanSignal (choice_gates k c e f s)
  clean_choice k c (bit a) (bit b) s h hc he hf = clean_bit _ (clean_mux n A o c a b s h hc he hf)
  clean_choice k c (bit a) (word b) s h hc he hf = clean_as_word _ (clean_choose n A o c _ _ s h hc (clean_fit n A o k (a ∷ []) (he, tt)) (clean_fit n A o k b hf))
  clean_choice k c (word a) f s h hc he hf = clean_as_word _ (clean_choose n A o c _ _ s h hc (clean_fit n A o k a he) (clean_fit n A o k (word_in f) (clean_word f hf)))

  clean_between : (w : List Literal) (lo hi : ℤ) (s : Circuit) → IsClean n A o s → CleanWord n A o w → Clean n A o (CleanLiteral n A o) (between_gates w lo hi s)
  unfolding between_gates
  clean_between w lo hi s h hw =
      clean_after n A o (CleanLiteral n A o) (CleanLiteral n A o) _ _ (clean_less n A o w (number_word lo) s h hw (clean_number n A o lo)) (λ u t ht hu.
      clean_after n A o (CleanLiteral n A o) (CleanLiteral n A o) _ _ (clean_less n A o (number_word hi) w t ht (clean_number n A o hi) hw) (λ v y hy hv. clean_and n A o (opposite u) (opposite v) y hy hu hv))

  clean_operator : (p : Op) (k : ℕ) (e f : Signal) (s : Circuit) → IsClean n A o s → CleanSignal e → CleanSignal f → Clean n A o CleanSignal (operator_gates p k e f s)
  clean_operator op.Times k e f s h he hf = clean_as_word _ (clean_multiply n A o _ _ k s h (clean_word e he) (clean_word f hf))
  clean_operator op.Over k e f s h he hf = clean_as_word _ (clean_divide n A o _ _ k s h (clean_word e he) (clean_word f hf))
  clean_operator op.Mod k e f s h he hf = clean_as_word _ (clean_remainder n A o _ _ k s h (clean_word e he) (clean_word f hf))
  clean_operator op.Plus k e f s h he hf = clean_as_word _ (clean_add n A o _ _ k s h (clean_word e he) (clean_word f hf))
  clean_operator op.Minus k e f s h he hf = clean_as_word _ (clean_subtract n A o _ _ k s h (clean_word e he) (clean_word f hf))
  clean_operator op.Equal k e f s h he hf = clean_bit _ (clean_same e f s h he hf)
  clean_operator op.Differs k e f s h he hf = clean_bit _ (clean_turned _ (clean_same e f s h he hf))
  clean_operator op.Less k e f s h he hf = clean_bit _ (clean_less n A o _ _ s h (clean_word e he) (clean_word f hf))
  clean_operator op.Greater k e f s h he hf = clean_bit _ (clean_less n A o _ _ s h (clean_word f hf) (clean_word e he))
  clean_operator op.AtMost k e f s h he hf = clean_bit _ (clean_turned _ (clean_less n A o _ _ s h (clean_word f hf) (clean_word e he)))
  clean_operator op.AtLeast k e f s h he hf = clean_bit _ (clean_turned _ (clean_less n A o _ _ s h (clean_word e he) (clean_word f hf)))
  clean_operator op.And k e f s h he hf = clean_bit _ (clean_and n A o _ _ s h (clean_literal e he) (clean_literal f hf))
  clean_operator op.Or k e f s h he hf = clean_bit _ (clean_or n A o _ _ s h (clean_literal e he) (clean_literal f hf))
  clean_operator op.Xor k e f s h he hf = clean_bit _ (clean_xor n A o _ _ s h (clean_literal e he) (clean_literal f hf))
  clean_operator op.Xnor k e f s h he hf = clean_bit _ (clean_turned _ (clean_xor n A o _ _ s h (clean_literal e he) (clean_literal f hf)))
  clean_operator op.Iff k e f s h he hf = clean_bit _ (clean_turned _ (clean_xor n A o _ _ s h (clean_literal e he) (clean_literal f hf)))
  clean_operator op.Implies k e f s h he hf = clean_bit _ (clean_or n A o (opposite (literal_in e)) (literal_in f) s h (clean_literal e he) (clean_literal f hf))
  clean_operator op.Union k e f s h he hf = clean_done (bit (constant_lit false)) s h o.one
  clean_operator op.Within k e f s h he hf = clean_done (bit (constant_lit false)) s h o.one

  abbrev pub CleanAsked : Asked → Type 0
  CleanAsked its_value = Unit {0}
  CleanAsked (whether_has u) = CleanSignal u

  clean_answer : (m : Asked) → CleanAsked m → (r : Circuit × Signal) → Clean n A o CleanSignal r → Clean n A o CleanSignal (answer m r)
  clean_answer its_value h r c = c
  clean_answer (whether_has u) h r c = clean_after n A o CleanSignal CleanSignal _ _ c (λ e t ht he. clean_bit _ (clean_same u e t ht h he))

  module _ (L : Type 0) (good : L → Type 0) where
    -- names that are not left out are clean
    pub record CleanNames (c : Names L) (tn tx : L → Bool) : Type 0 where
      pub now : (l : L) → good l → tn l ≡ false → CleanSignal (c.now l)
      pub next : (l : L) → good l → tx l ≡ false → CleanSignal (c.next l)

    next_clean : (c : Names L) (tn tx : L → Bool) → CleanNames c tn tx → CleanNames (at_next c) tx tx
    next_clean c tn tx h = record { now = h.next; next = h.next }

    clean_both : (p : Op) (k : ℕ) (left right : Circuit → Circuit × Signal) (s : Circuit) → Clean n A o CleanSignal (left s) → ((t : Circuit) → IsClean n A o t → Clean n A o CleanSignal (right t))
        → Clean n A o CleanSignal (both_gates p k left right s)
    clean_both p k left right s cl cr =
        clean_after n A o CleanSignal CleanSignal _ _ cl (λ e t ht he. clean_after n A o CleanSignal CleanSignal _ _ (cr t ht) (λ f u hu hf. clean_operator p k e f u hu he hf))

    mutual
      unfolding encoded

      pub clean_encoded : (c : Names L) (tn tx : L → Bool) → CleanNames c tn tx → (m : Asked) → CleanAsked m → (t : Tree L) → Reads good tn tx t → (s : Circuit) → IsClean n A o s → Clean n A o CleanSignal (encoded c m t s)
      clean_encoded c tn tx hc m hm (is_truth b) r s h = clean_answer m hm _ (clean_done (bit (constant_lit b)) s h o.one)
      clean_encoded c tn tx hc m hm (is_number z) r s h = clean_answer m hm _ (clean_done (word (number_word z)) s h (clean_number n A o z))
      clean_encoded c tn tx hc m hm (leaf l) r s h = clean_answer m hm _ (clean_done (c.now l) s h (hc.now l r.0 r.1))
      clean_encoded c tn tx hc m hm (not_of a) r s h =
          clean_answer m hm _ (clean_after n A o CleanSignal CleanSignal _ _ (clean_encoded c tn tx hc its_value tt a r s h) (λ e t ht he. clean_done (bit (opposite (literal_in e))) t ht (clean_literal e he)))
      clean_encoded c tn tx hc m hm (negate a) r s h =
          clean_answer m hm _ (clean_after n A o CleanSignal CleanSignal _ _ (clean_encoded c tn tx hc its_value tt a r s h) (λ e t ht he. clean_as_word _ (clean_negate n A o (word_in e) _ t ht (clean_word e he))))
      clean_encoded c tn tx hc m hm (next_of a) r s h = clean_answer m hm _ (clean_encoded (at_next c) tx tx (next_clean c tn tx hc) its_value tt a r s h)
      clean_encoded c tn tx hc m hm (binary op.Union a b) r s h =
          clean_after n A o CleanSignal CleanSignal _ _ (clean_encoded c tn tx hc m hm a r.0 s h) (λ e t ht he.
          clean_after n A o CleanSignal CleanSignal _ _ (clean_encoded c tn tx hc m hm b r.1 t ht) (λ f u hu hf. clean_bit _ (clean_or n A o (literal_in e) (literal_in f) u hu (clean_literal e he) (clean_literal f hf))))
      clean_encoded c tn tx hc m hm (binary op.Within a b) r s h =
          clean_answer m hm _ (clean_after n A o CleanSignal CleanSignal _ _ (clean_encoded c tn tx hc its_value tt a r.0 s h) (λ e t ht he. clean_encoded c tn tx hc (whether_has e) he b r.1 t ht))
      clean_encoded c tn tx hc m hm (binary p a b) r s h =
          clean_answer m hm _ (clean_both p (c.width (binary p a b)) (λ t. encoded c its_value a t) (λ t. encoded c its_value b t) s (clean_encoded c tn tx hc its_value tt a r.0 s h) (λ t ht. clean_encoded c tn tx hc its_value tt b r.1 t ht))
      clean_encoded c tn tx hc m hm (choice d a b) r s h =
          clean_after n A o CleanSignal CleanSignal _ _ (clean_encoded c tn tx hc its_value tt d r.0 s h) (λ p t ht hp.
          clean_after n A o CleanSignal CleanSignal _ _ (clean_encoded c tn tx hc m hm a r.1 t ht) (λ e u hu he.
          clean_after n A o CleanSignal CleanSignal _ _ (clean_encoded c tn tx hc m hm b r.2 u hu) (λ f w hw hf. clean_choice _ (literal_in p) e f w hw (clean_literal p hp) he hf)))
      clean_encoded c tn tx hc m hm (case_of bs) r s h = clean_branches c tn tx hc m hm _ bs r s h
      clean_encoded c tn tx hc m hm (set_of ts) r s h = clean_members c tn tx hc m hm ts r (constant_lit false) o.one s h
      clean_encoded c tn tx hc its_value hm (span lo hi) r s h = clean_done (bit (constant_lit false)) s h o.one
      clean_encoded c tn tx hc (whether_has u) hm (span lo hi) r s h = clean_bit _ (clean_between (word_in u) lo hi s h (clean_word u hm))

      clean_branches : (c : Names L) (tn tx : L → Bool) → CleanNames c tn tx → (m : Asked) → CleanAsked m → (k : ℕ) (bs : Branches L) → ReadsBranches good tn tx bs → (s : Circuit) → IsClean n A o s
          → Clean n A o CleanSignal (encoded_branches c m k bs s)
      clean_branches c tn tx hc m hm k no_branch r s h = clean_done (bit (constant_lit false)) s h o.one
      clean_branches c tn tx hc m hm k (branch_then d a no_branch) r s h =
          clean_after n A o CleanSignal CleanSignal _ _ (clean_encoded c tn tx hc m hm a r.1 s h) (λ e t ht he. clean_done (fitted k e) t ht (clean_fitted k e he))
      clean_branches c tn tx hc m hm k (branch_then d a (branch_then d' a' bs)) r s h =
          clean_after n A o CleanSignal CleanSignal _ _ (clean_encoded c tn tx hc its_value tt d r.0 s h) (λ p t ht hp.
          clean_after n A o CleanSignal CleanSignal _ _ (clean_encoded c tn tx hc m hm a r.1 t ht) (λ e u hu he.
          clean_after n A o CleanSignal CleanSignal _ _ (clean_branches c tn tx hc m hm k (branch_then d' a' bs) r.2 u hu) (λ f w hw hf. clean_choice k (literal_in p) e f w hw (clean_literal p hp) he hf)))

      clean_members : (c : Names L) (tn tx : L → Bool) → CleanNames c tn tx → (m : Asked) → CleanAsked m → (ts : Trees L) → ReadsTrees good tn tx ts → (q : Literal) → CleanLiteral n A o q → (s : Circuit) → IsClean n A o s
          → Clean n A o CleanSignal (encoded_members c m ts q s)
      clean_members c tn tx hc m hm no_tree r q hq s h = clean_done (bit q) s h hq
      clean_members c tn tx hc m hm (tree_then t ts) r q hq s h =
          clean_after n A o CleanSignal CleanSignal _ _ (clean_encoded c tn tx hc m hm t r.0 s h) (λ e u hu he.
          clean_after n A o (CleanLiteral n A o) CleanSignal _ _ (clean_or n A o q (literal_in e) u hu hq (clean_literal e he)) (λ x w hw hx. clean_members c tn tx hc m hm ts r.1 x hx w hw))
