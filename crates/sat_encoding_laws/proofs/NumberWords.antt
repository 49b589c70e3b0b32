-- The word of a variable of numbers has the number of its bits.
use Rattle.std.proofs.Common.{◌≡◌, ℕ, zero, suc, ◌+◌, ◌-◌, ◌^◌, ◌<◌, ◌≤◌, Bool, true, false, not, ltb, ℤ, pos, negsuc, ◌≤ℤ◌, List, [], ◌∷◌, ◌++◌, length, map, refl, sym, ◌∙◌, ap, subst, arith}
use Rattle.std.proofs.lemmas.Int.{ints}
use Rattle.std.proofs.lemmas.Bool.{ltb-true, ltb-false}
use Rattle.std.proofs.lemmas.List.{length-map, length-append, map-append}
use Rattle.smv_language.specs.ProgramTree.{Text}
use Rattle.sat_clauses.specs.States.{Agrees}
use Rattle.sat_clauses.specs.Literal.{Literal}
use Rattle.sat_clauses.specs.Models.{TotalAssignment, literal_value}
use Rattle.sat_circuits.specs.Gates.{constant_lit}
use Rattle.sat_circuits.specs.Meaning.{AllBelow}
use Rattle.sat_circuits.specs.Bits.{natural_value, signed_value, fit_from}
use Rattle.sat_circuits.specs.Words.{word_value, fit}
use Rattle.sat_circuits.proofs.Orders.{Fits}
use Rattle.sat_circuits.proofs.WordMeans.{word_value-fit_exact}
use Rattle.smv_type_laws.specs.Intervals.{Interval, fits}
use Rattle.smv_type_laws.specs.Costs.{digits_of, width_of}
use Rattle.smv_type_laws.specs.Laws.{BitsHold}
use Rattle.smv_type_laws.proofs.Widths.{digits_are, widths_least}
use Rattle.sat_encoding_laws.specs.Widths.{word_width, symbol_width}
use Rattle.sat_encoding_laws.specs.Layout.{literals_from, with_sign}
use Rattle.sat_encoding_laws.specs.Bits.{natural_bits, number_bits}
use Rattle.sat_encoding_laws.proofs.Fitting.{fit_same}
use Rattle.sat_encoding_laws.proofs.TypeBits.{length-natural, length-number, natural-value, bits-natural, signed-value, bits-number, unsigned-value}

-- ---- variables that have the values of bits

pub agrees_map : (v : TotalAssignment) (n : ℕ) (bs : List Bool) → Agrees v n bs → map (literal_value v) (literals_from (length bs) n) ≡ bs
agrees_map v n [] h = refl
agrees_map v n (b ∷ bs) h = (λ i. h.0 i ∷ agrees_map v (n + 1) bs h.1 i)

pub map_agrees : (v : TotalAssignment) (k n : ℕ) → Agrees v n (map (literal_value v) (literals_from k n))
map_agrees v zero n = tt
map_agrees v (suc k) n = (refl, map_agrees v k (n + 1))

pub length-literals : (k n : ℕ) → length (literals_from k n) ≡ k
length-literals zero n = refl
length-literals (suc k) n = ap suc (length-literals k (n + 1))

pub literals-below : (m k n : ℕ) → n + k ≤ m → AllBelow m (literals_from k n)
literals-below m zero n h = tt
literals-below m (suc k) n h = (omega (arith, h), literals-below m k (n + 1) (omega (arith, h)))

pub signed-below : (m : ℕ) (lo : ℤ) (k n : ℕ) → 1 < m → n + k ≤ m → AllBelow m (with_sign lo (literals_from k n))
signed-below m (negsuc a) k n f h = literals-below m k n h
signed-below m (pos a) zero n f h = (f, tt)
signed-below m (pos a) (suc k) n f h = (omega (arith, h), signed-below m (pos a) k (n + 1) f (omega (arith, h)))

-- ---- the word and its bits

-- the first n literals of a word are what n bits take of it
fit_front : (w u : List Literal) → fit (length w) (w ++ u) ≡ w
unfolding fit
fit_front w u = go (constant_lit false) w
  where
    go : (d : Literal) (w : List Literal) → fit_from d (length w) (w ++ u) ≡ w
    go d [] = refl
    go d (x ∷ w) = ap (λ y. x ∷ y) (go x w)

-- the values of literals with FALSE as their sign
false_sign : (v : TotalAssignment) (w : List Literal) → v 1 ≡ true → map (literal_value v) (w ++ constant_lit false ∷ []) ≡ map (literal_value v) w ++ false ∷ []
false_sign v w one_true = map-append (literal_value v) w (constant_lit false ∷ []) ∙ ap (λ b. map (literal_value v) w ++ not b ∷ []) one_true

module _ (v : TotalAssignment) (one_true : v 1 ≡ true) where
  -- variables that have a number's bits make a word of that number
  pub word_from_bits : (lo hi z : ℤ) (w W n : ℕ) → 0 < w → 0 < W → BitsHold lo hi w → lo ≤ℤ z → z ≤ℤ hi → Fits W z → Agrees v n (number_bits w z) → word_value v (fit W (with_sign lo (literals_from w n))) ≡ z
  word_from_bits (pos a) hi (negsuc q) w W n some wide hold above below fits agrees = absurd (omega (arith, ints, above))
  word_from_bits (pos a) hi (pos q) w W n some wide hold above below fits agrees =
      let bits : map (literal_value v) (literals_from w n) ≡ natural_bits w q =
      subst (λ k. map (literal_value v) (literals_from k n) ≡ natural_bits w q) (length-natural w q) (agrees_map v n (natural_bits w q) agrees) in
      let small : q < 2 ^ w = omega (arith, ints, below, hold.1) in
      let whole : word_value v (literals_from w n ++ constant_lit false ∷ []) ≡ pos q =
      ap signed_value (false_sign v (literals_from w n) one_true ∙ ap (λ bs. bs ++ false ∷ []) bits) ∙ unsigned-value (natural_bits w q) ∙ ap pos (natural-value w q small) in
      fit_same v W (literals_from w n ++ constant_lit false ∷ []) (pos q) (omega (arith, length-append {A = Literal} (literals_from w n) (constant_lit false ∷ []))) wide whole fits
  word_from_bits (negsuc a) hi z w W n some wide hold above below fits agrees =
      let bits : map (literal_value v) (literals_from w n) ≡ number_bits w z =
      subst (λ k. map (literal_value v) (literals_from k n) ≡ number_bits w z) (length-number w z) (agrees_map v n (number_bits w z) agrees) in
      let small : Fits w z = record { low = omega (arith, ints, above, hold.1); high = omega (arith, ints, below, hold.2) } in
      let whole : word_value v (literals_from w n) ≡ z = ap signed_value bits ∙ signed-value w z some small in
      fit_same v W (literals_from w n) z (omega (arith, length-literals w n)) wide whole fits

  -- and the variables always have the bits of the word's number
  pub bits_from_word : (lo : ℤ) (w W n : ℕ) → 0 < w → w ≤ W → Agrees v n (number_bits w (word_value v (fit W (with_sign lo (literals_from w n)))))
  bits_from_word (negsuc a) w W n some le =
      let bs : List Bool = map (literal_value v) (literals_from w n) in
      let long : length bs ≡ w = length-map (literals_from w n) (literal_value v) ∙ length-literals w n in
      let value : word_value v (fit W (literals_from w n)) ≡ signed_value bs = word_value-fit_exact v W (literals_from w n) (omega (arith, length-literals w n)) (omega (arith, length-literals w n)) in
      let same : number_bits w (word_value v (fit W (literals_from w n))) ≡ bs =
      ap (number_bits w) value ∙ ap (λ k. number_bits k (signed_value bs)) (sym long) ∙ bits-number bs in
      subst (Agrees v n) (sym same) (map_agrees v w n)
  bits_from_word (pos a) w W n some le = by (ltb w W) refl
    where
      bs : List Bool
      bs = map (literal_value v) (literals_from w n)

      long : length (map (literal_value v) (literals_from w n)) ≡ w
      long = length-map (literals_from w n) (literal_value v) ∙ length-literals w n

      by : (t : Bool) → ltb w W ≡ t → Agrees v n (number_bits w (word_value v (fit W (literals_from w n ++ constant_lit false ∷ []))))
      by true e =
          let more : w < W = ltb-true w W e in
          let size = length-append {A = Literal} (literals_from w n) (constant_lit false ∷ []) in
          let value : word_value v (fit W (literals_from w n ++ constant_lit false ∷ [])) ≡ pos (natural_value (map (literal_value v) (literals_from w n))) =
          word_value-fit_exact v W (literals_from w n ++ constant_lit false ∷ []) (omega (arith, size)) (omega (arith, size, length-literals w n))
          ∙ ap signed_value (false_sign v (literals_from w n) one_true) ∙ unsigned-value (map (literal_value v) (literals_from w n)) in
          let same : number_bits w (word_value v (fit W (literals_from w n ++ constant_lit false ∷ []))) ≡ map (literal_value v) (literals_from w n) =
          ap (number_bits w) value ∙ ap (λ k. natural_bits k (natural_value (map (literal_value v) (literals_from w n)))) (sym long) ∙ bits-natural (map (literal_value v) (literals_from w n)) in
          subst (Agrees v n) (sym same) (map_agrees v w n)
      by false e =
          let equal : W ≡ length (literals_from w n) = omega (arith, le, ltb-false w W e, length-literals w n) in
          let value : word_value v (fit W (literals_from w n ++ constant_lit false ∷ [])) ≡ signed_value (map (literal_value v) (literals_from w n)) =
          ap (λ k. word_value v (fit k (literals_from w n ++ constant_lit false ∷ []))) equal ∙ ap (word_value v) (fit_front (literals_from w n) (constant_lit false ∷ [])) in
          let same : number_bits w (word_value v (fit W (literals_from w n ++ constant_lit false ∷ []))) ≡ map (literal_value v) (literals_from w n) =
          ap (number_bits w) value ∙ ap (λ k. number_bits k (signed_value (map (literal_value v) (literals_from w n)))) (sym long) ∙ bits-number (map (literal_value v) (literals_from w n)) in
          subst (Agrees v n) (sym same) (map_agrees v w n)

-- ---- the widths of a type's bits and of its word

-- what an interval's bits hold
pub bits_hold : (i : Interval) → i.lo ≤ℤ i.hi → fits i ≡ true → BitsHold i.lo i.hi (width_of i)
bits_hold i h f = (widths_least i h f).0

hold_some : (lo hi : ℤ) (w : ℕ) → BitsHold lo hi w → 0 < w
hold_some (pos n) hi w h = omega (arith, h.0)
hold_some (negsuc n) hi w h = omega (arith, h.0)

pub some_bits : (i : Interval) → i.lo ≤ℤ i.hi → fits i ≡ true → 0 < width_of i
some_bits i h f = hold_some i.lo i.hi (width_of i) (bits_hold i h f)

no_wider : (lo hi : ℤ) → width_of (record { lo = lo; hi = hi }) ≤ word_width (record { lo = lo; hi = hi })
no_wider (pos n) (pos k) = omega arith
no_wider (pos n) (negsuc k) = omega arith
no_wider (negsuc n) (pos k) = omega arith
no_wider (negsuc n) (negsuc k) = omega arith

pub bits_within_word : (i : Interval) → width_of i ≤ word_width i
bits_within_word i = no_wider i.lo i.hi

-- more digits for a greater number
digits_grow : (n k : ℕ) → n ≤ k → k < 2 ^ 63 → digits_of n ≤ digits_of k
digits_grow n k h few =
    let big = (digits_are 64 k (omega arith)).below in
    (digits_are 64 n (omega arith)).least (digits_of k) (omega (arith, h, big))

symbols_wider : (lo hi : ℤ) (last : ℕ) → last < 2 ^ 63 → pos 0 ≤ℤ lo → hi ≤ℤ pos last → width_of (record { lo = lo; hi = hi }) ≤ word_width (record { lo = pos 0; hi = pos last })
symbols_wider (pos n) (pos k) last few above below = let grow = digits_grow k last (omega (arith, ints, below)) few in omega (arith, grow)
symbols_wider (pos n) (negsuc k) last few above below = omega arith
symbols_wider (negsuc n) hi last few above below = absurd (omega (arith, ints, above))

-- numbers of symbols need no more bits than the word of any symbol has
pub symbols_within_word : (symbols : List Text) (i : Interval) → length symbols < 2 ^ 63 → pos 0 ≤ℤ i.lo → i.hi ≤ℤ pos (length symbols - 1) → width_of i ≤ symbol_width symbols
symbols_within_word symbols i few above below = symbols_wider i.lo i.hi (length symbols - 1) (omega (arith, few)) above below
