-- What is read from bits is the value that has them.
use Rattle.std.proofs.Common.{◌≡◌, ◌⊎◌, inl, inr, ℕ, zero, suc, ◌+◌, ◌*◌, ◌^◌, ◌<◌, ◌≤◌, Bool, true, false, not, cond, ◌&&◌, ltb, ℤ, pos, negsuc, ◌+ℤ◌, ◌-ℤ◌, ◌≤ℤ◌, List, [], ◌∷◌, length, map, flat_map, min, Option, Some, None, refl, sym, ◌∙◌, ap, subst, arith, int_lt, lt-ltb}
use Rattle.std.specs.Prelude.{slice_get, unwrap_or, if◌then◌else◌, nat_lt}
use Rattle.std.proofs.lemmas.Int.{ints}
use Rattle.std.proofs.lemmas.Bool.{ltb-true, ltb-false}
use Rattle.std.proofs.lemmas.List.{get_or_past}
use Rattle.std.proofs.Math.Nat.{pow-succ'}
use Rattle.smv_language.specs.declared.program.Member.{Member}
use Rattle.smv_language.specs.declared.program.Member.TheVariants as member
use Rattle.smv_language.specs.Language.{Text, DeclaredTree, boolean, range, members, instance, declared_tree, Role, state, input, frozen_role, Each, in_domain, value_of_member, Value, symbol, one, variable_tree, role_of}
use Rattle.base_values.specs.declared.value.Value.{Value as AValue}
use Rattle.smv_language.specs.Values.{truth, number}
use Rattle.base_values.specs.declared.domain.Domain.TheVariants as domain
use Rattle.smv_flat_laws.specs.FlatTrace.{AreInDomains}
use Rattle.smv_language.specs.declared.model.Variable.{Variable}
use Rattle.smv_type_laws.specs.Intervals.{Interval, just, hull, fits, fits_number}
use Rattle.smv_type_laws.specs.ExpressionKinds.{number_class, symbol_class, mixed_enum, unless_class}
use Rattle.smv_type_laws.specs.DeclaredKinds.{member_kind, judged_declared}
use Rattle.smv_type_laws.specs.Costs.{width_of, symbol_number, declared_width, role_width}
use Rattle.smv_type_laws.specs.Laws.{BitsHold}
use Rattle.smv_type_laws.proofs.Widths.{widths_least}
use Rattle.smv_lexer.proofs.SignLemmas.{both_true}
use Rattle.smv_types.specs.Types.{spread, numbers_in, symbols_in, domain_of, StandsFor}
use Rattle.sat_clauses.specs.States.{Agrees}
use Rattle.sat_clauses.specs.Assignment.{Assignment}
use Rattle.sat_circuits.specs.Bits.{bit_value, natural_value, last_bit, signed_value}
use Rattle.sat_circuits.proofs.Orders.{Fits}
use Rattle.smv_type_laws.specs.LeastValues.{least_member, least_value, least_values, by_role, with_inputs}
use Rattle.sat_encoding_laws.specs.Layout.{declared_interval, state_width, input_width, width_as_input, place_of}
use Rattle.sat_encoding_laws.specs.Inputs.{is_input}
use Rattle.sat_encoding_laws.specs.Bits.{natural_bits, number_bits, value_number, value_bits}
use Rattle.sat_encoding_laws.specs.Meanings.{AreSymbols}
use Rattle.sat_encoding_laws.specs.Encodable.{IsListedMember, IsListedType}
use Rattle.sat_encoding_laws.proofs.TypeBits.{length-number, natural-value, signed-value}
use Rattle.sat_encoding_laws.proofs.NumberWords.{bits_hold, some_bits}
use Rattle.sat_encoding_laws.proofs.TypeMeans.{IsNumbers, numbers_of, symbol_found, members_kept, member_listed}
use Rattle.sat_encoding_laws.proofs.VariableMeans.{numbers_width, class_of}
use Rattle.sat_encoding_laws.proofs.Readings.{IsRightType, HasBits}
use Rattle.sat_encoding.specs.Domains.{domain_interval, domain_width, capped}
use Rattle.sat_encoding.specs.Values.{StandFor, bits_at, last_digit, bits_number, is_below, has_sign, as_symbol, is_nonzero, value_of, domain_read, least_in, values_read}
use Rattle.sat_encoding.proofs.DomainLaws.{interval_is, width_is}
use Rattle.std.proofs.lemmas.Option.{slice_get_within as got_below}
use Rattle.sat_clauses.specs.Models.{values_of}

-- ---- bits that an assignment has

bits_agree : (a : Assignment) (n : ℕ) (bs : List Bool) → Agrees (values_of a) n bs → bits_at a n (length bs) ≡ bs
bits_agree a n [] h = refl
bits_agree a n (b ∷ bs) h = (λ i. h.0 i ∷ bits_agree a (n + 1) bs h.1 i)

past_false : (a : Assignment) (x : ℕ) → length a ≤ x → values_of a x ≡ false
past_false a x h = ap (λ o. unwrap_or o false) (get_or_past a x None h)

abbrev falses : ℕ → List Bool
falses zero = []
falses (suc k) = false ∷ falses k

bits_past : (a : Assignment) (n k : ℕ) → length a ≤ n → bits_at a n k ≡ falses k
bits_past a n zero h = refl
bits_past a n (suc k) h = (λ i. past_false a n h i ∷ bits_past a (n + 1) k (omega (arith, h)) i)

-- past all variables it does not matter where bits are read
bits_capped : (a : Assignment) (n k : ℕ) → length a ≤ 2 ^ 62 → bits_at a (capped n) k ≡ bits_at a n k
bits_capped a n k h = by (ltb n (2 ^ 62)) refl
  where
    by : (t : Bool) → ltb n (2 ^ 62) ≡ t → bits_at a (capped n) k ≡ bits_at a n k
    by true e = let less : n < 2 ^ 62 = ltb-true n (2 ^ 62) e in let same : capped n ≡ n = omega (arith, less) in ap (λ p. bits_at a p k) same
    by false e =
        let more = ltb-false n (2 ^ 62) e in
        let same : capped n ≡ 2 ^ 62 = omega (arith, more) in
        ap (λ p. bits_at a p k) same ∙ bits_past a (2 ^ 62) k h ∙ sym (bits_past a n k (omega (arith, h, more)))

-- ---- the number of bits

unsigned_is : (bs : List Bool) → bits_number false bs ≡ pos (natural_value bs)
unsigned_is [] = refl
unsigned_is (true ∷ []) = refl
unsigned_is (false ∷ []) = refl
unsigned_is (true ∷ c ∷ bs) = let more = unsigned_is (c ∷ bs) in omega (arith, ints, more)
unsigned_is (false ∷ c ∷ bs) = let more = unsigned_is (c ∷ bs) in omega (arith, ints, more)

doubled : (b l : Bool) (n p : ℕ) (x : ℤ) → x ≡ pos n -ℤ pos (bit_value l * p) → (if b then pos 1 else pos 0) +ℤ (x +ℤ x) ≡ pos (bit_value b + 2 * n) -ℤ pos (bit_value l * (2 * p))
doubled true true n p x h = omega (arith, ints, h)
doubled true false n p x h = omega (arith, ints, h)
doubled false true n p x h = omega (arith, ints, h)
doubled false false n p x h = omega (arith, ints, h)

signed_is : (bs : List Bool) → 0 < length bs → bits_number true bs ≡ signed_value bs
signed_is [] h = absurd (omega (arith, h))
signed_is (true ∷ []) h = refl
signed_is (false ∷ []) h = refl
signed_is (b ∷ c ∷ bs) h =
    doubled b (last_bit (c ∷ bs)) (natural_value (c ∷ bs)) (2 ^ length (c ∷ bs)) (bits_number true (c ∷ bs)) (signed_is (c ∷ bs) (omega arith))
    ∙ ap (λ k. pos (natural_value (b ∷ c ∷ bs)) -ℤ pos (bit_value (last_bit (c ∷ bs)) * k)) (sym (pow-succ' 2 (length (c ∷ bs))))

interval_number : (lo hi z : ℤ) (w : ℕ) → 0 < w → BitsHold lo hi w → lo ≤ℤ z → z ≤ℤ hi → bits_number (is_below lo) (number_bits w z) ≡ z
interval_number (pos a) hi (negsuc q) w some hold above below = absurd (omega (arith, ints, above))
interval_number (pos a) hi (pos q) w some hold above below =
    let small : q < 2 ^ w = omega (arith, ints, below, hold.1) in unsigned_is (natural_bits w q) ∙ ap pos (natural-value w q small)
interval_number (negsuc a) hi z w some hold above below =
    let fit : Fits w z = record { low = omega (arith, ints, above, hold.1); high = omega (arith, ints, below, hold.2) } in
    signed_is (number_bits w z) (omega (arith, length-number w z, some)) ∙ signed-value w z some fit

-- the bits of a type are few
few_bits : (lo hi : ℤ) → fits_number lo ≡ true → fits_number hi ≡ true → BitsHold lo hi 33
few_bits (pos n) (pos k) e f = let a = ltb-true k (2 ^ 31) f in (omega arith, omega (arith, ints, a))
few_bits (pos n) (negsuc k) e f = (omega arith, omega (arith, ints))
few_bits (negsuc n) (pos k) e f = let a = ltb-true n (2 ^ 31) e in let b = ltb-true k (2 ^ 31) f in (omega arith, omega (arith, ints, a), omega (arith, ints, b))
few_bits (negsuc n) (negsuc k) e f = let a = ltb-true n (2 ^ 31) e in (omega arith, omega (arith, ints, a), omega (arith, ints))

narrow : (i : Interval) → i.lo ≤ℤ i.hi → fits i ≡ true → width_of i ≤ 33
narrow i h f = let e = both_true (fits_number i.lo) (fits_number i.hi) f in (widths_least i h f).1 33 (few_bits i.lo i.hi e.0 e.1)

-- ---- the value of a number

module _ (symbols : List Text) (are : AreSymbols symbols) where
  -- a listed symbol is read by its number
  symbol_stands : (x : Text) (i : ℕ) → slice_get symbols i ≡ Some x → StandsFor symbols (value_of (domain.Symbols []) (pos (symbol_number symbols x))) (symbol x)
  symbol_stands x i at =
      let found = symbol_found symbols x i at in
      let below = got_below symbols (symbol_number symbols x) x found in
      let small : nat_lt (symbol_number symbols x) 4294967296 ≡ true = lt-ltb (symbol_number symbols x) 4294967296 (omega (arith, below, are.few)) in
      let same : as_symbol (pos (symbol_number symbols x)) ≡ symbol_number symbols x = ap (λ b. if b then symbol_number symbols x else 0) small in
      (ap (slice_get symbols) same ∙ found, sym same)

  number_stands : (d : DeclaredTree) → (judged_declared d).broken ≡ [] → IsListedType symbols d → (d ≡ boolean → ⊥) → (u : Value) → in_domain d u ≡ true
      → StandsFor symbols (value_of (domain_of symbols d) (value_number symbols u)) u
  number_stands boolean e l never u h = absurd (never refl)
  number_stands (range lo hi) e l never (number n) h = refl
  number_stands (range lo hi) e l never (truth b) h = cc
  number_stands (range lo hi) e l never (symbol x) h = cc
  number_stands (instance m actuals) e l never u h = absurd l
  number_stands (members []) e l never u h = absurd (l.0 refl)
  number_stands (members (member.Number k ∷ ms)) e l never (number n) h = refl
  number_stands (members (member.Number k ∷ ms)) e l never (truth b) h = absurd (class_of (members (member.Number k ∷ ms)) (truth b) e h)
  number_stands (members (member.Number k ∷ ms)) e l never (symbol x) h = absurd (class_of (members (member.Number k ∷ ms)) (symbol x) e h)
  number_stands (members (member.Symbol y ∷ ms)) e l never (symbol x) h = let at = member_listed symbols (member.Symbol y ∷ ms) x h l.1 in symbol_stands x at.0 at.1
  number_stands (members (member.Symbol y ∷ ms)) e l never (truth b) h = absurd (class_of (members (member.Symbol y ∷ ms)) (truth b) e h)
  number_stands (members (member.Symbol y ∷ ms)) e l never (number n) h = absurd (class_of (members (member.Symbol y ∷ ms)) (number n) e h)

  truth_stands : (a : Assignment) (n : ℕ) (u : Value) → in_domain boolean u ≡ true → Agrees (values_of a) n (value_bits symbols boolean u) → StandsFor symbols (domain_read domain.Boolean a n) u
  truth_stands a n (truth true) h k = ap (λ b. is_nonzero (last_digit false b)) k.0
  truth_stands a n (truth false) h k = ap (λ b. is_nonzero (last_digit false b)) k.0
  truth_stands a n (number z) h k = cc
  truth_stands a n (symbol x) h k = cc

  -- a value of the domain is read from its bits
  value_stands : (d : DeclaredTree) → (judged_declared d).broken ≡ [] → IsListedType symbols d → (a : Assignment) (n : ℕ) (u : Value) → in_domain d u ≡ true → Agrees (values_of a) n (value_bits symbols d u)
      → StandsFor symbols (domain_read (domain_of symbols d) a n) u
  value_stands d right listed a n u h k = by (numbers_of symbols are d right listed)
    where
      numbers : IsNumbers symbols d → (d ≡ boolean → ⊥) → StandsFor symbols (domain_read (domain_of symbols d) a n) u
      numbers s never =
          let i = s.interval in
          let z = value_number symbols u in
          let w = width_of i in
          let inside = s.values u h in
          let known : domain_interval (domain_of symbols d) ≡ Some i = interval_is symbols d right ∙ s.is in
          let wide : domain_width (domain_of symbols d) ≡ w = width_is symbols d right listed ∙ numbers_width symbols d s in
          let small = narrow i s.order s.small in
          let size : min (domain_width (domain_of symbols d)) 62 ≡ length (number_bits w z) = omega (arith, wide, small, length-number w z) in
          let bits : bits_at a n (min (domain_width (domain_of symbols d)) 62) ≡ number_bits w z =
          ap (bits_at a n) size ∙ bits_agree a n (number_bits w z) (subst (λ (j : ℕ). Agrees (values_of a) n (number_bits j z)) (numbers_width symbols d s) k) in
          let is : bits_number (has_sign (domain_interval (domain_of symbols d))) (bits_at a n (min (domain_width (domain_of symbols d)) 62)) ≡ z =
          ap (λ o. bits_number (has_sign o) (bits_at a n (min (domain_width (domain_of symbols d)) 62))) known ∙ ap (bits_number (is_below i.lo)) bits
          ∙ interval_number i.lo i.hi z w (some_bits i s.order s.small) (bits_hold i s.order s.small) inside.above inside.below in
          subst (λ (y : ℤ). StandsFor symbols (value_of (domain_of symbols d) y) u) (sym is) (number_stands d right listed never u h)

      by : (d ≡ boolean) ⊎ IsNumbers symbols d → StandsFor symbols (domain_read (domain_of symbols d) a n) u
      by (inl b) =
          subst (λ (t : DeclaredTree). StandsFor symbols (domain_read (domain_of symbols t) a n) u) (sym b)
          (truth_stands a n u (subst (λ (t : DeclaredTree). in_domain t u ≡ true) b h) (subst (λ (t : DeclaredTree). Agrees (values_of a) n (value_bits symbols t u)) b k))
      by (inr s) = numbers s (λ b. cc (s.is, ap (declared_interval symbols) b))

  -- ---- least values

  least_number : (ms : List Member) → flat_map (unless_class number_class mixed_enum) (map member_kind ms) ≡ [] → (i : Interval)
      → (j : Interval) × ((spread (Some i) (numbers_in ms) ≡ Some j) × (value_of_member (least_member symbols (member.Number i.lo) ms) ≡ number j.lo))
  least_number [] e i = (i, (refl, refl))
  least_number (member.Number n ∷ ms) e i =
      let more = least_number ms e (hull i (just n)) in
      (more.0, (more.1.0, ap value_of_member (pick (int_lt n i.lo)) ∙ more.1.1))
    where
      pick : (b : Bool) → (if b then least_member symbols (member.Number n) ms else least_member symbols (member.Number i.lo) ms) ≡ least_member symbols (member.Number (cond b n i.lo)) ms
      pick true = refl
      pick false = refl
  least_number (member.Symbol x ∷ ms) e i = cc

  abbrev IsSymbol : Text → Type 0
  IsSymbol x = (i : ℕ) × (slice_get symbols i ≡ Some x)

  record LeastSymbol (x : Text) (ms : List Member) (whole : Option Interval) : Type 0 where
    interval : Interval
    text : Text
    listed : IsSymbol text
    is : whole ≡ Some interval
    least : value_of_member (least_member symbols (member.Symbol x) ms) ≡ symbol text
    low : interval.lo ≡ pos (symbol_number symbols text)

  least_symbol : (ms : List Member) → flat_map (unless_class symbol_class mixed_enum) (map member_kind ms) ≡ [] → Each (IsListedMember symbols) ms → (x : Text) → IsSymbol x → (i : Interval)
      → i.lo ≡ pos (symbol_number symbols x) → LeastSymbol x ms (spread (Some i) (map pos (symbols_in symbols ms)))
  least_symbol [] e l x at i low = record { interval = i; text = x; listed = at; is = refl; least = refl; low = low }
  least_symbol (member.Number n ∷ ms) e l x at i low = cc
  least_symbol (member.Symbol y ∷ ms) e l x at i low =
      let b = nat_lt (symbol_number symbols y) (symbol_number symbols x) in
      let lower : (hull i (just (pos (symbol_number symbols y)))).lo ≡ pos (symbol_number symbols (cond b y x)) =
      ap (λ z. (hull (record { lo = z; hi = i.hi }) (just (pos (symbol_number symbols y)))).lo) low ∙ lowest b in
      let more = least_symbol ms e l.1 (cond b y x) (found b) (hull i (just (pos (symbol_number symbols y)))) lower in
      record { interval = more.interval; text = more.text; listed = more.listed; is = more.is; least = ap value_of_member (pick b) ∙ more.least; low = more.low }
    where
      lowest : (b : Bool) → cond b (pos (symbol_number symbols y)) (pos (symbol_number symbols x)) ≡ pos (symbol_number symbols (cond b y x))
      lowest true = refl
      lowest false = refl

      found : (b : Bool) → IsSymbol (cond b y x)
      found true = l.0
      found false = at

      pick : (b : Bool) → (if b then least_member symbols (member.Symbol y) ms else least_member symbols (member.Symbol x) ms) ≡ least_member symbols (member.Symbol (cond b y x)) ms
      pick true = refl
      pick false = refl

  least_stands : (d : DeclaredTree) → (judged_declared d).broken ≡ [] → IsListedType symbols d → StandsFor symbols (least_in (domain_of symbols d) (domain_interval (domain_of symbols d))) (least_value symbols d)
  least_stands boolean e l = refl
  least_stands (range lo hi) e l = refl
  least_stands (instance m actuals) e l = absurd l
  least_stands (members []) e l = absurd (l.0 refl)
  least_stands (members (member.Number n ∷ ms)) e l =
      let all = member.Number n ∷ ms in
      let made = least_number ms (members_kept all e).alike (just n) in
      subst (λ (o : Option Interval). StandsFor symbols (least_in (domain.Numbers (numbers_in all)) o) (least_value symbols (members all))) (sym made.1.0)
      (subst (λ (u : Value). StandsFor symbols (least_in (domain.Numbers (numbers_in all)) (Some made.0)) u) (sym made.1.1) refl)
  least_stands (members (member.Symbol x ∷ ms)) e l =
      let all = member.Symbol x ∷ ms in
      let made = least_symbol ms (members_kept all e).alike l.1.1 x l.1.0 (just (pos (symbol_number symbols x))) refl in
      subst (λ (o : Option Interval). StandsFor symbols (least_in (domain.Symbols (symbols_in symbols all)) o) (least_value symbols (members all))) (sym made.is)
      (subst (λ (u : Value). StandsFor symbols (least_in (domain.Symbols (symbols_in symbols all)) (Some made.interval)) u) (sym made.least)
      (subst (λ (z : ℤ). StandsFor symbols (value_of (domain.Symbols (symbols_in symbols all)) z) (symbol made.text)) (sym made.low) (symbol_stands made.text made.listed.0 made.listed.1)))

  -- ---- all variables

  -- the values themselves, or with the least ones for inputs
  abbrev pub expected : Bool → List Variable → List Value → List Value
  expected false xs us = us
  expected true xs us = with_inputs (map variable_tree xs) us (least_values symbols (map variable_tree xs))

  capped_twice : (p w : ℕ) → capped (capped p + w) ≡ capped (p + w)
  capped_twice p w = omega arith

  module _ (a : Assignment) (long : length a ≤ 2 ^ 62) where
    head_stands : (d : DeclaredTree) → (judged_declared d).broken ≡ [] → IsListedType symbols d → (p q : ℕ) (u : Value) → in_domain d u ≡ true → (least : Bool) (r : Role)
        → ((is_input r && not (not least)) ≡ false → Agrees (values_of a) (place_of r p q) (value_bits symbols d u))
        → StandsFor symbols (if least && is_input r then least_in (domain_of symbols d) (domain_interval (domain_of symbols d)) else domain_read (domain_of symbols d) a (place_of r (capped p) (capped q)))
        (if least then by_role r u (least_value symbols d) else u)
    head_stands d right listed p q u h least r k = by least r k
      where
        at : (n : ℕ) → Agrees (values_of a) n (value_bits symbols d u) → StandsFor symbols (domain_read (domain_of symbols d) a (capped n)) u
        at n agrees =
            subst (λ (bs : List Bool). StandsFor symbols (value_of (domain_of symbols d) (bits_number (has_sign (domain_interval (domain_of symbols d))) bs)) u)
            (sym (bits_capped a n (min (domain_width (domain_of symbols d)) 62) long)) (value_stands d right listed a n u h agrees)

        by : (least : Bool) (r : Role) → ((is_input r && not (not least)) ≡ false → Agrees (values_of a) (place_of r p q) (value_bits symbols d u))
            → StandsFor symbols (if least && is_input r then least_in (domain_of symbols d) (domain_interval (domain_of symbols d)) else domain_read (domain_of symbols d) a (place_of r (capped p) (capped q)))
            (if least then by_role r u (least_value symbols d) else u)
        by false state k = at p (k refl)
        by false frozen_role k = at p (k refl)
        by false input k = at q (k refl)
        by true state k = at p (k refl)
        by true frozen_role k = at p (k refl)
        by true input k = least_stands d right listed

    tail_places : (xs : List Variable) (least : Bool) (d : DeclaredTree) → (judged_declared d).broken ≡ [] → IsListedType symbols d → (r : Role) (p q : ℕ)
        → values_read symbols least a (capped (p + role_width r (declared_width symbols d))) (capped (q + width_as_input r (declared_width symbols d))) xs
        ≡ values_read symbols least a (capped (capped p + role_width r (domain_width (domain_of symbols d)))) (capped (capped q + width_as_input r (domain_width (domain_of symbols d)))) xs
    tail_places xs least d right listed r p q =
        let w = domain_width (domain_of symbols d) in
        let wide = width_is symbols d right listed in
        let one = capped_twice p (role_width r w) ∙ ap (λ k. capped (p + role_width r k)) wide in
        let two = capped_twice q (width_as_input r w) ∙ ap (λ k. capped (q + width_as_input r k)) wide in
        sym (ap (λ x. values_read symbols least a x (capped (capped q + width_as_input r w)) xs) one ∙ ap (λ y. values_read symbols least a (capped (p + role_width r (declared_width symbols d))) y xs) two)

    -- an assignment with the bits of values is read as these
    pub values_stand : (least : Bool) (xs : List Variable) → Each (IsRightType symbols) (map variable_tree xs) → (p q : ℕ) (us : List Value) → AreInDomains (map variable_tree xs) us
        → HasBits symbols are (not least) (map variable_tree xs) p q us (values_of a) → StandFor symbols (values_read symbols least a (capped p) (capped q) xs) (expected least xs us)
    values_stand false [] right p q [] h k = tt
    values_stand true [] right p q [] h k = tt
    values_stand least [] right p q (u ∷ us) h k = absurd h
    values_stand least (x ∷ xs) right p q [] h k = absurd h
    values_stand false (x ∷ xs) right p q (u ∷ us) h k =
        let d = declared_tree x.declared in
        let r = role_of x.role in (
          head_stands d right.0.0 right.0.1 p q u h.0 false r k.0,
          subst (λ (vs : List AValue). StandFor symbols vs us) (tail_places xs false d right.0.0 right.0.1 r p q)
              (values_stand false xs right.1 (p + state_width symbols (variable_tree x)) (q + input_width symbols (variable_tree x)) us h.1 k.1),
        )
    values_stand true (x ∷ xs) right p q (u ∷ us) h k =
        let d = declared_tree x.declared in
        let r = role_of x.role in (
          head_stands d right.0.0 right.0.1 p q u h.0 true r k.0,
          subst (λ (vs : List AValue). StandFor symbols vs (expected true xs us)) (tail_places xs true d right.0.0 right.0.1 r p q)
              (values_stand true xs right.1 (p + state_width symbols (variable_tree x)) (q + input_width symbols (variable_tree x)) us h.1 k.1),
        )
