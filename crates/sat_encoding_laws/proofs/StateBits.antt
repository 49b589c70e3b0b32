-- The bits of a valuation as those of a state and of inputs, and assignments that have them.
use Rattle.std.proofs.Common.{◌≡◌, ℕ, zero, suc, ◌+◌, ◌-◌, ◌≤◌, eqb, Bool, true, false, not, cond, ◌&&◌, ◌++◌, ℤ, ◌≤ℤ◌, List, [], ◌∷◌, length, Some, refl, sym, ◌∙◌, ap, subst, arith, int_lt}
use Rattle.std.proofs.lemmas.Int.{ints}
use Rattle.std.proofs.lemmas.Bool.{ne_eqb}
use Rattle.std.proofs.lemmas.List.{length-append, append_assoc, append-nil}
use Rattle.std.proofs.lemmas.List.Sums.{sum_by-cons}
use Rattle.std.specs.Prelude.{sum_by}
use Rattle.smv_language.specs.declared.program.Member.TheVariants as member
use Rattle.smv_language.specs.Language.{Text, DeclaredTree, boolean, range, members, instance, Role, state, input, frozen_role, Each, in_domain, Value, symbol, FlatVariable}
use Rattle.smv_language.specs.Values.{truth, number}
use Rattle.smv_language.proofs.ValueLaws.{same_text_refl, at_most_from}
use Rattle.smv_flat_laws.specs.FlatTrace.{AreInDomains}
use Rattle.smv_type_laws.specs.DeclaredKinds.{judged_declared}
use Rattle.smv_type_laws.specs.Intervals.{Interval}
use Rattle.smv_type_laws.specs.Costs.{declared_width, role_width}
use Rattle.sat_clauses.specs.States.{Agrees}
use Rattle.sat_clauses.specs.Models.{TotalAssignment, SameBelow}
use Rattle.sat_encoding_laws.specs.Inputs.{is_input}
use Rattle.sat_encoding_laws.specs.Layout.{state_width, input_width, width_as_input, place_of}
use Rattle.sat_encoding_laws.specs.Bits.{value_bits, bits_of, value_number}
use Rattle.sat_encoding_laws.specs.Meanings.{AreSymbols}
use Rattle.sat_encoding_laws.specs.Encodable.{IsListedType}
use Rattle.sat_encoding_laws.proofs.TypeMeans.{range_numbers}
use Rattle.sat_encoding_laws.proofs.TypeBits.{length-number}
use Rattle.sat_encoding_laws.proofs.Readings.{IsRightType, HasBits}
use Rattle.smv_type_laws.proofs.LeastLaws.{same_int_self as same_int_refl}

pub not_below : (a b : ℤ) → a ≤ℤ b → int_lt b a ≡ false
not_below a b h = grind (arith, ints)

-- ---- assignments and bits

pub agrees_join : (v : TotalAssignment) (n : ℕ) (bs cs : List Bool) → Agrees v n bs → Agrees v (n + length bs) cs → Agrees v n (bs ++ cs)
agrees_join v n [] cs h k = let at : n + 0 ≡ n = omega arith in subst (λ (i : ℕ). Agrees v i cs) at k
agrees_join v n (b ∷ bs) cs h k = let at : n + suc (length bs) ≡ n + 1 + length bs = omega arith in (h.0, agrees_join v (n + 1) bs cs h.1 (subst (λ (i : ℕ). Agrees v i cs) at k))

pub agrees_front : (v : TotalAssignment) (n : ℕ) (bs cs : List Bool) → Agrees v n (bs ++ cs) → Agrees v n bs
agrees_front v n [] cs h = tt
agrees_front v n (b ∷ bs) cs h = (h.0, agrees_front v (n + 1) bs cs h.1)

pub agrees_back : (v : TotalAssignment) (n : ℕ) (bs cs : List Bool) → Agrees v n (bs ++ cs) → Agrees v (n + length bs) cs
agrees_back v n [] cs h = let at : n ≡ n + 0 = omega arith in subst (λ (i : ℕ). Agrees v i cs) at h
agrees_back v n (b ∷ bs) cs h = let at : n + 1 + length bs ≡ n + suc (length bs) = omega arith in subst (λ (i : ℕ). Agrees v i cs) at (agrees_back v (n + 1) bs cs h.1)

-- as many variables have the bits of one list alone
pub agrees_one : (v : TotalAssignment) (n : ℕ) (bs cs : List Bool) → length bs ≡ length cs → Agrees v n bs → Agrees v n cs → bs ≡ cs
agrees_one v n [] [] e h k = refl
agrees_one v n [] (c ∷ cs) e h k = absurd (omega (arith, e))
agrees_one v n (b ∷ bs) [] e h k = absurd (omega (arith, e))
agrees_one v n (b ∷ bs) (c ∷ cs) e h k = (λ i. (sym h.0 ∙ k.0) i ∷ agrees_one v (n + 1) bs cs (omega (arith, e)) h.1 k.1 i)

pub agrees_same : (n : ℕ) (v w : TotalAssignment) → SameBelow n v w → (k : ℕ) (bs : List Bool) → k + length bs ≤ n → Agrees v k bs → Agrees w k bs
agrees_same n v w same k [] h a = tt
agrees_same n v w same k (b ∷ bs) h a = (same k (omega (arith, h)) ∙ a.0, agrees_same n v w same (k + 1) bs (omega (arith, h)) a.1)

-- the bit at a place, or FALSE
bit_at : List Bool → ℕ → Bool
bit_at [] i = false
bit_at (b ∷ bs) zero = b
bit_at (b ∷ bs) (suc i) = bit_at bs i

bit_at_end : (fs : List Bool) (b : Bool) (bs : List Bool) → bit_at (fs ++ b ∷ bs) (length fs) ≡ b
unfolding bit_at
bit_at_end [] b bs = refl
bit_at_end (f ∷ fs) b bs = bit_at_end fs b bs

-- variable 1 is true, and the variables from 2 on have these bits
pub with_bits : List Bool → TotalAssignment
with_bits bs x = cond (eqb x 1) true (bit_at bs (x - 2))

pub with_bits_truth : (bs : List Bool) → with_bits bs 1 ≡ true
unfolding with_bits
with_bits_truth bs = refl

with_bits_at : (bs : List Bool) (i : ℕ) → with_bits bs (2 + i) ≡ bit_at bs i
unfolding with_bits
with_bits_at bs i =
    let other : eqb (2 + i) 1 ≡ false = ne_eqb (2 + i) 1 (λ e. omega (arith, e)) in
    let place : 2 + i - 2 ≡ i = omega arith in
    ap (λ (b : Bool). cond b true (bit_at bs (2 + i - 2))) other ∙ ap (bit_at bs) place

with_bits_after : (fs bs cs : List Bool) → Agrees (with_bits (fs ++ (bs ++ cs))) (2 + length fs) bs
with_bits_after fs [] cs = tt
with_bits_after fs (b ∷ bs) cs = (
  with_bits_at (fs ++ (b ∷ (bs ++ cs))) (length fs) ∙ bit_at_end fs b (bs ++ cs),
  (let size : length (fs ++ b ∷ []) ≡ length fs + 1 = length-append {A = Bool} fs (b ∷ []) in
      let at : 2 + length (fs ++ b ∷ []) ≡ 2 + length fs + 1 = omega (arith, size) in
      let same : (fs ++ b ∷ []) ++ (bs ++ cs) ≡ fs ++ (b ∷ (bs ++ cs)) = append_assoc fs (b ∷ []) (bs ++ cs) in
      subst (λ (i : ℕ). Agrees (with_bits (fs ++ (b ∷ (bs ++ cs)))) i bs) at
      (subst (λ (all : List Bool). Agrees (with_bits all) (2 + length (fs ++ b ∷ [])) bs) same (with_bits_after (fs ++ b ∷ []) bs cs))),
)

-- three lists of bits, one after another
pub bits_first : (s t u : List Bool) → Agrees (with_bits (s ++ (t ++ u))) 2 s
bits_first s t u = with_bits_after [] s (t ++ u)

pub bits_second : (s t u : List Bool) → Agrees (with_bits (s ++ (t ++ u))) (2 + length s) t
bits_second s t u = with_bits_after s t u

pub bits_third : (s t u : List Bool) → Agrees (with_bits (s ++ (t ++ u))) (2 + length s + length t) u
bits_third s t u =
    let size = length-append {A = Bool} s t in
    let at : 2 + length (s ++ t) ≡ 2 + length s + length t = omega (arith, size) in
    let same : (s ++ t) ++ (u ++ []) ≡ s ++ (t ++ u) = append_assoc s t (u ++ []) ∙ ap (λ (x : List Bool). s ++ (t ++ x)) (append-nil u) in
    subst (λ (i : ℕ). Agrees (with_bits (s ++ (t ++ u))) i u) at (subst (λ (all : List Bool). Agrees (with_bits all) (2 + length (s ++ t)) u) same (with_bits_after (s ++ t) u []))

-- ---- the bits of a valuation

module _ (symbols : List Text) (are : AreSymbols symbols) where
  -- the bits of one variable, as its role has them
  abbrev own_bits : Bool → Role → List Bool → List Bool
  own_bits inputs r bs = cond (is_input r) (cond inputs bs []) (cond inputs [] bs)

  own_states : (r : Role) (bs : List Bool) (w : ℕ) → length bs ≡ w → length (own_bits false r bs) ≡ role_width r w
  own_states state bs w e = e
  own_states frozen_role bs w e = e
  own_states input bs w e = refl

  own_inputs : (r : Role) (bs : List Bool) (w : ℕ) → length bs ≡ w → length (own_bits true r bs) ≡ width_as_input r w
  own_inputs state bs w e = refl
  own_inputs frozen_role bs w e = refl
  own_inputs input bs w e = e

  size_of_bits : (d : DeclaredTree) (u : Value) → length (value_bits symbols d u) ≡ declared_width symbols d
  size_of_bits d u = length-number (declared_width symbols d) (value_number symbols u)

  pub length-states : (xs : List FlatVariable) (us : List Value) → AreInDomains xs us → length (bits_of symbols false xs us) ≡ sum_by (state_width symbols) xs
  length-states [] [] h = refl
  length-states [] (u ∷ us) h = absurd h
  length-states (x ∷ xs) [] h = absurd h
  length-states (x ∷ xs) (u ∷ us) h =
      let one = own_states x.role (value_bits symbols x.declared u) (declared_width symbols x.declared) (size_of_bits x.declared u) in
      let rest = length-states xs us h.1 in
      let sum = sum_by-cons (state_width symbols) x xs in
      length-append {A = Bool} (own_bits false x.role (value_bits symbols x.declared u)) (bits_of symbols false xs us) ∙ (λ i. one i + rest i) ∙ sym sum

  pub length-inputs : (xs : List FlatVariable) (us : List Value) → AreInDomains xs us → length (bits_of symbols true xs us) ≡ sum_by (input_width symbols) xs
  length-inputs [] [] h = refl
  length-inputs [] (u ∷ us) h = absurd h
  length-inputs (x ∷ xs) [] h = absurd h
  length-inputs (x ∷ xs) (u ∷ us) h =
      let one = own_inputs x.role (value_bits symbols x.declared u) (declared_width symbols x.declared) (size_of_bits x.declared u) in
      let rest = length-inputs xs us h.1 in
      let sum = sum_by-cons (input_width symbols) x xs in
      length-append {A = Bool} (own_bits true x.role (value_bits symbols x.declared u)) (bits_of symbols true xs us) ∙ (λ i. one i + rest i) ∙ sym sum

  -- one variable's bits at its place, or those of its role in their list
  state_own : (all : Bool) (r : Role) (v : TotalAssignment) (p q : ℕ) (bs : List Bool) → ((is_input r && not all) ≡ false → Agrees v (place_of r p q) bs) → Agrees v p (own_bits false r bs)
  state_own all state v p q bs h = h refl
  state_own all frozen_role v p q bs h = h refl
  state_own all input v p q bs h = tt

  input_own : (r : Role) (v : TotalAssignment) (p q : ℕ) (bs : List Bool) → ((is_input r && not true) ≡ false → Agrees v (place_of r p q) bs) → Agrees v q (own_bits true r bs)
  input_own state v p q bs h = tt
  input_own frozen_role v p q bs h = tt
  input_own input v p q bs h = h refl

  place_own : (all : Bool) (r : Role) (v : TotalAssignment) (p q : ℕ) (bs : List Bool) → Agrees v p (own_bits false r bs) → (all ≡ true → Agrees v q (own_bits true r bs))
      → (is_input r && not all) ≡ false → Agrees v (place_of r p q) bs
  place_own all state v p q bs h k kept = h
  place_own all frozen_role v p q bs h k kept = h
  place_own true input v p q bs h k kept = k refl
  place_own false input v p q bs h k kept = cc

  -- the bits of the state stand one after another
  pub states_from : (all : Bool) (xs : List FlatVariable) (p q : ℕ) (us : List Value) (v : TotalAssignment) → AreInDomains xs us → HasBits symbols are all xs p q us v → Agrees v p (bits_of symbols false xs us)
  states_from all [] p q us v h k = tt
  states_from all (x ∷ xs) p q [] v h k = tt
  states_from all (x ∷ xs) p q (u ∷ us) v h k =
      let bs = value_bits symbols x.declared u in
      let size = own_states x.role bs (declared_width symbols x.declared) (size_of_bits x.declared u) in
      agrees_join v p (own_bits false x.role bs) (bits_of symbols false xs us) (state_own all x.role v p q bs k.0)
      (subst (λ (i : ℕ). Agrees v (p + i) (bits_of symbols false xs us)) (sym size) (states_from all xs (p + state_width symbols x) (q + input_width symbols x) us v h.1 k.1))

  pub inputs_from : (xs : List FlatVariable) (p q : ℕ) (us : List Value) (v : TotalAssignment) → AreInDomains xs us → HasBits symbols are true xs p q us v → Agrees v q (bits_of symbols true xs us)
  inputs_from [] p q us v h k = tt
  inputs_from (x ∷ xs) p q [] v h k = tt
  inputs_from (x ∷ xs) p q (u ∷ us) v h k =
      let bs = value_bits symbols x.declared u in
      let size = own_inputs x.role bs (declared_width symbols x.declared) (size_of_bits x.declared u) in
      agrees_join v q (own_bits true x.role bs) (bits_of symbols true xs us) (input_own x.role v p q bs k.0)
      (subst (λ (i : ℕ). Agrees v (q + i) (bits_of symbols true xs us)) (sym size) (inputs_from xs (p + state_width symbols x) (q + input_width symbols x) us v h.1 k.1))

  -- and where they do, each variable has its own
  pub bits_placed : (all : Bool) (xs : List FlatVariable) (p q : ℕ) (us : List Value) (v : TotalAssignment) → AreInDomains xs us → Agrees v p (bits_of symbols false xs us)
      → (all ≡ true → Agrees v q (bits_of symbols true xs us)) → HasBits symbols are all xs p q us v
  bits_placed all [] p q us v h a b = tt
  bits_placed all (x ∷ xs) p q [] v h a b = tt
  bits_placed all (x ∷ xs) p q (u ∷ us) v h a b =
      let bs = value_bits symbols x.declared u in
      let size = own_states x.role bs (declared_width symbols x.declared) (size_of_bits x.declared u) in
      let size' = own_inputs x.role bs (declared_width symbols x.declared) (size_of_bits x.declared u) in (
        place_own all x.role v p q bs (agrees_front v p (own_bits false x.role bs) (bits_of symbols false xs us) a) (λ e. agrees_front v q (own_bits true x.role bs) (bits_of symbols true xs us) (b e)),
        bits_placed all xs (p + state_width symbols x) (q + input_width symbols x) us v h.1
            (subst (λ (i : ℕ). Agrees v (p + i) (bits_of symbols false xs us)) size (agrees_back v p (own_bits false x.role bs) (bits_of symbols false xs us) a))
            (λ e. subst (λ (i : ℕ). Agrees v (q + i) (bits_of symbols true xs us)) size' (agrees_back v q (own_bits true x.role bs) (bits_of symbols true xs us) (b e))),
      )

  -- ---- every domain has a value

  one_interval : (i j : Interval) → Some i ≡ Some j → i ≡ j
  one_interval i j e = cc

  some_value : (d : DeclaredTree) → (judged_declared d).broken ≡ [] → IsListedType symbols d → (u : Value) × (in_domain d u ≡ true)
  some_value boolean e l = (truth false, refl)
  some_value (range lo hi) e l =
      let known = range_numbers symbols lo hi e in
      let order : lo ≤ℤ hi = subst (λ (i : Interval). i.lo ≤ℤ i.hi) (sym (one_interval (record { lo = lo; hi = hi }) known.interval known.is)) known.order in
      (number lo, (λ i. at_most_from lo lo (omega (arith, ints)) i && at_most_from lo hi order i))
  some_value (members []) e l = absurd (l.0 refl)
  some_value (members (member.Number n ∷ ms)) e l = (number n, rw (same_int_refl n) refl)
  some_value (members (member.Symbol x ∷ ms)) e l = (symbol x, rw (same_text_refl x) refl)
  some_value (instance f actuals) e l = absurd l

  pub some_values : (xs : List FlatVariable) → Each (IsRightType symbols) xs → (us : List Value) × AreInDomains xs us
  some_values [] h = ([], tt)
  some_values (x ∷ xs) h = let one = some_value x.declared h.0.0 h.0.1 in let more = some_values xs h.1 in (one.0 ∷ more.0, (one.1, more.1))
