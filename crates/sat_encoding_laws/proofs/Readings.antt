-- The valuation that the bits of an assignment spell.
use Rattle.std.proofs.Common.{◌≡◌, ℕ, zero, suc, ◌+◌, ◌≤◌, Bool, true, false, not, cond, ◌&&◌, List, [], ◌∷◌, map, Some, refl, sym, ◌∙◌, ap, subst, arith}
use Rattle.std.specs.Prelude.{slice_get, sum_by}
use Rattle.std.proofs.lemmas.List.Sums.{sum_by-cons}
use Rattle.smv_language.specs.Language.{Text, DeclaredTree, Role, state, input, frozen_role, Each, in_domain, Value, FlatVariable}
use Rattle.smv_language.specs.Values.{truth, number}
use Rattle.smv_flat_laws.specs.FlatTrace.{AreInDomains}
use Rattle.smv_type_laws.specs.ExpressionKinds.{Class, truth_class, number_class, symbol_class}
use Rattle.smv_type_laws.specs.DeclaredKinds.{judged_declared}
use Rattle.smv_type_laws.specs.Costs.{declared_width, role_width}
use Rattle.sat_clauses.specs.States.{Agrees}
use Rattle.sat_clauses.specs.Literal.{Literal}
use Rattle.sat_clauses.specs.Models.{TotalAssignment, literal_value, SameBelow}
use Rattle.sat_clauses.proofs.ModelLemmas.{literal_value-same}
use Rattle.sat_circuits.specs.Circuit.{Circuit}
use Rattle.sat_circuits.specs.Meaning.{AllBelow}
use Rattle.sat_circuits.specs.Bits.{signed_value}
use Rattle.sat_encoding_laws.specs.Signals.{Signal, bit, word}
use Rattle.sat_encoding_laws.specs.Meanings.{HasValue, AreSymbols, IsSignal, IsReady}
use Rattle.sat_encoding_laws.specs.Inputs.{is_input, is_input_variable}
use Rattle.sat_encoding_laws.specs.Lists.{signal_or_false}
use Rattle.sat_encoding_laws.specs.Layout.{state_width, input_width, width_as_input, variable_signal, variable_signals, place_of}
use Rattle.sat_encoding_laws.specs.Bits.{value_bits}
use Rattle.sat_encoding_laws.specs.Encodable.{IsListedType}
use Rattle.sat_encoding_laws.proofs.NameMeans.{AreSignals}
use Rattle.sat_encoding_laws.proofs.VariableMeans.{read_symbol, read_value, read_as, read_holds, read_is, bits_give, gives_bits, signal_below}

-- ---- what depends on the variables below n alone

values_same : (n : ℕ) (v w : TotalAssignment) → SameBelow n v w → (ls : List Literal) → AllBelow n ls → map (literal_value w) ls ≡ map (literal_value v) ls
values_same n v w same [] h = refl
values_same n v w same (l ∷ ls) h = (λ i. literal_value-same n v w l same h.0 i ∷ values_same n v w same ls h.1 i)

pub read_same : (symbols : List Text) (class : Class) (s : Circuit) (v w : TotalAssignment) → SameBelow s.free v w → (e : Signal) → IsSignal s e → read_value symbols class w e ≡ read_value symbols class v e
read_same symbols class s v w same (bit l) h = ap truth (literal_value-same s.free v w l same h)
read_same symbols number_class s v w same (word u) h = ap (λ bs. number (signed_value bs)) (values_same s.free v w same u h.below)
read_same symbols symbol_class s v w same (word u) h = ap (λ bs. read_symbol symbols (signed_value bs)) (values_same s.free v w same u h.below)
read_same symbols truth_class s v w same (word u) h = refl

-- ---- the places of variables

place_fits : (r : Role) (p q w n : ℕ) → p + role_width r w ≤ n → q + width_as_input r w ≤ n → place_of r p q + w ≤ n
place_fits state p q w n h k = h
place_fits frozen_role p q w n h k = h
place_fits input p q w n h k = k

-- a type that is right, with its symbols listed
abbrev pub IsRightType : List Text → FlatVariable → Type 0
IsRightType symbols x = ((judged_declared x.declared).broken ≡ []) × IsListedType symbols x.declared

module _ (symbols : List Text) (are : AreSymbols symbols) where
  pub signals_below : (s : Circuit) → IsReady s → (xs : List FlatVariable) → Each (IsRightType symbols) xs → (p q : ℕ) → p + sum_by (state_width symbols) xs ≤ s.free → q + sum_by (input_width symbols) xs ≤ s.free
      → AreSignals s (variable_signals symbols p q xs)
  signals_below s ready [] right p q hp hq = tt
  signals_below s ready (x ∷ xs) right p q hp hq =
      let one : sum_by (state_width symbols) (x ∷ xs) ≡ state_width symbols x + sum_by (state_width symbols) xs = sum_by-cons (state_width symbols) x xs in
      let two : sum_by (input_width symbols) (x ∷ xs) ≡ input_width symbols x + sum_by (input_width symbols) xs = sum_by-cons (input_width symbols) x xs in (
        signal_below symbols are x.declared right.0.0 right.0.1 s ready (place_of x.role p q)
            (place_fits x.role p q (declared_width symbols x.declared) s.free (omega (arith, hp, one)) (omega (arith, hq, two))),
        signals_below s ready xs right.1 (p + state_width symbols x) (q + input_width symbols x) (omega (arith, hp, one)) (omega (arith, hq, two)),
      )

  -- ---- readings

  -- the values that signals say, and for those that are left out the given ones
  abbrev pub reading : Bool → List FlatVariable → List Signal → List Value → TotalAssignment → List Value
  reading all (x ∷ xs) (e ∷ es) (u ∷ us) v = cond (is_input x.role && not all) u (read_as symbols x.declared v e) ∷ reading all xs es us v
  reading all _ _ _ v = []

  pub reading_same : (all : Bool) (s : Circuit) (v w : TotalAssignment) → SameBelow s.free v w → (xs : List FlatVariable) (es : List Signal) (us : List Value) → AreSignals s es
      → reading all xs es us w ≡ reading all xs es us v
  reading_same all s v w same [] es us h = refl
  reading_same all s v w same (x ∷ xs) [] us h = refl
  reading_same all s v w same (x ∷ xs) (e ∷ es) [] h = refl
  reading_same all s v w same (x ∷ xs) (e ∷ es) (u ∷ us) h =
      (λ i. cond (is_input x.role && not all) u (read_same symbols (judged_declared x.declared).kind.class s v w same e h.0 i) ∷ reading_same all s v w same xs es us h.1 i)

  -- of a variable that is not left out, the value that is read is in its domain
  abbrev pub ReadsInside : Bool → FlatVariable → Signal → TotalAssignment → Type 0
  ReadsInside all x e v = (is_input x.role && not all) ≡ false → in_domain x.declared (read_as symbols x.declared v e) ≡ true

  abbrev pub AllInside : Bool → List FlatVariable → List Signal → TotalAssignment → Type 0
  AllInside all (x ∷ xs) (e ∷ es) v = ReadsInside all x e v × AllInside all xs es v
  AllInside all _ _ v = Unit {0}

  chosen_inside : (b : Bool) (d : DeclaredTree) (u r : Value) → in_domain d u ≡ true → (b ≡ false → in_domain d r ≡ true) → in_domain d (cond b u r) ≡ true
  chosen_inside true d u r h k = h
  chosen_inside false d u r h k = k refl

  pub reading_inside : (all : Bool) (xs : List FlatVariable) (p q : ℕ) (us : List Value) (v : TotalAssignment) → AreInDomains xs us → AllInside all xs (variable_signals symbols p q xs) v
      → AreInDomains xs (reading all xs (variable_signals symbols p q xs) us v)
  reading_inside all [] p q [] v h k = tt
  reading_inside all [] p q (u ∷ us) v h k = absurd h
  reading_inside all (x ∷ xs) p q [] v h k = absurd h
  reading_inside all (x ∷ xs) p q (u ∷ us) v h k =
      (chosen_inside (is_input x.role && not all) x.declared u _ h.0 k.0, reading_inside all xs (p + state_width symbols x) (q + input_width symbols x) us v h.1 k.1)

  -- variables that are not left out have the values that are read
  pub reading_right : (all : Bool) (xs : List FlatVariable) → Each (IsRightType symbols) xs → (p q : ℕ) (us : List Value) (v : TotalAssignment) → AllInside all xs (variable_signals symbols p q xs) v
      → (i : ℕ) → (is_input_variable (slice_get xs i) && not all) ≡ false → (y : Value) → slice_get (reading all xs (variable_signals symbols p q xs) us v) i ≡ Some y
      → HasValue symbols v (signal_or_false (slice_get (variable_signals symbols p q xs) i)) y
  reading_right all [] right p q us v k i kept y e = cc
  reading_right all (x ∷ xs) right p q [] v k i kept y e = cc
  reading_right all (x ∷ xs) right p q (u ∷ us) v k zero kept y e =
      let n = place_of x.role p q in
      let same : cond (is_input x.role && not all) u (read_as symbols x.declared v (variable_signal symbols x.declared n)) ≡ y = cc in
      let read : read_as symbols x.declared v (variable_signal symbols x.declared n) ≡ y = sym (ap (λ b. cond b u (read_as symbols x.declared v (variable_signal symbols x.declared n))) kept) ∙ same in
      subst (HasValue symbols v (variable_signal symbols x.declared n)) read (read_holds symbols are x.declared right.0.0 right.0.1 v n (k.0 kept))
  reading_right all (x ∷ xs) right p q (u ∷ us) v k (suc i) kept y e = reading_right all xs right.1 (p + state_width symbols x) (q + input_width symbols x) us v k.1 i kept y e

  -- ---- bits

  -- an assignment has the bits of a valuation: those of the state from p on, those of the inputs from q on
  abbrev pub HasBits : Bool → List FlatVariable → ℕ → ℕ → List Value → TotalAssignment → Type 0
  HasBits all (x ∷ xs) p q (u ∷ us) v =
      ((is_input x.role && not all) ≡ false → Agrees v (place_of x.role p q) (value_bits symbols x.declared u)) × HasBits all xs (p + state_width symbols x) (q + input_width symbols x) us v
  HasBits all _ p q _ v = Unit {0}

  chosen_is : (b : Bool) (u r : Value) → (b ≡ false → r ≡ u) → cond b u r ≡ u
  chosen_is true u r h = refl
  chosen_is false u r h = h refl

  -- an assignment with the bits of a valuation of the domains reads as that
  pub reading_is : (all : Bool) (xs : List FlatVariable) → Each (IsRightType symbols) xs → (p q : ℕ) (us : List Value) (v : TotalAssignment) → v 1 ≡ true → AreInDomains xs us → HasBits all xs p q us v
      → (reading all xs (variable_signals symbols p q xs) us v ≡ us) × AllInside all xs (variable_signals symbols p q xs) v
  reading_is all [] right p q [] v one_true h bits = (refl, tt)
  reading_is all [] right p q (u ∷ us) v one_true h bits = absurd h
  reading_is all (x ∷ xs) right p q [] v one_true h bits = absurd h
  reading_is all (x ∷ xs) right p q (u ∷ us) v one_true h bits =
      let n = place_of x.role p q in
      let e = variable_signal symbols x.declared n in
      let more = reading_is all xs right.1 (p + state_width symbols x) (q + input_width symbols x) us v one_true h.1 bits.1 in
      let same = λ (kept : (is_input x.role && not all) ≡ false). read_is symbols are x.declared right.0.0 right.0.1 v e u h.0 (bits_give symbols are x.declared right.0.0 right.0.1 v one_true n u h.0 (bits.0 kept)) in (
        (λ i. chosen_is (is_input x.role && not all) u (read_as symbols x.declared v e) same i ∷ more.0 i),
        (λ kept. ap (in_domain x.declared) (same kept) ∙ h.0, more.1),
      )

  -- and an assignment has the bits of what is read
  pub reading_bits : (all : Bool) (xs : List FlatVariable) → Each (IsRightType symbols) xs → (p q : ℕ) (us : List Value) (v : TotalAssignment) → v 1 ≡ true → AllInside all xs (variable_signals symbols p q xs) v
      → HasBits all xs p q (reading all xs (variable_signals symbols p q xs) us v) v
  reading_bits all [] right p q us v one_true k = tt
  reading_bits all (x ∷ xs) right p q [] v one_true k = tt
  reading_bits all (x ∷ xs) right p q (u ∷ us) v one_true k =
      let n = place_of x.role p q in
      let e = variable_signal symbols x.declared n in (
        (λ kept.
            let inside = k.0 kept in
            let bits = gives_bits symbols are x.declared right.0.0 right.0.1 v one_true n (read_as symbols x.declared v e) inside (read_holds symbols are x.declared right.0.0 right.0.1 v n inside) in
            subst (λ (b : Bool). Agrees v n (value_bits symbols x.declared (cond b u (read_as symbols x.declared v e)))) (sym kept) bits),
        reading_bits all xs right.1 (p + state_width symbols x) (q + input_width symbols x) us v one_true k.1,
      )
