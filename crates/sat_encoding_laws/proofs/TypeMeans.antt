-- A variable's signal has the value that its bits spell, and its domain's clauses hold where that is in the domain.
use Rattle.std.proofs.Common.{◌≡◌, ◌⊎◌, inl, inr, ⊎_elim, ℕ, zero, suc, ◌-◌, ◌^◌, ◌<◌, ◌≤◌, Bool, true, false, ◌++◌, ℤ, pos, negsuc, ◌≤ℤ◌, List, [], ◌∷◌, length, map, flat_map, Option, Some, refl, sym, ◌∙◌, ap, subst, arith, int_lt, lt-ltb}
use Rattle.std.proofs.lemmas.Int.{ints, clamps}
use Rattle.std.specs.Prelude.{slice_get}
use Rattle.smv_language.specs.declared.program.Member.{Member}
use Rattle.smv_language.specs.declared.program.Member.TheVariants as member
use Rattle.smv_language.specs.Language.{Text, DeclaredTree, boolean, range, members, instance, Each, is_member, in_domain, Value, symbol, same_int, opposite as other, same_text}
use Rattle.smv_language.specs.Values.{truth, number}
use Rattle.smv_language.proofs.ValueLaws.{same_int_equal, same_text_equal, same_text_refl, no_truth, not_less}
use Rattle.sat_clauses.specs.Literal.{Literal}
use Rattle.sat_clauses.specs.Models.{TotalAssignment}
use Rattle.sat_circuits.specs.Words.{word_value}
use Rattle.sat_circuits.proofs.Orders.{Fits}
use Rattle.smv_type_laws.specs.Intervals.{Interval, IsIn, just, hull, fits, fits_number}
use Rattle.smv_type_laws.specs.ExpressionKinds.{Class, number_class, symbol_class, KindRule, mixed_enum, empty_range, double_member, rule_if, unless_class, wide, first_class, hull_of, hull_from, where_kept}
use Rattle.smv_type_laws.specs.DeclaredKinds.{member_kind, has_double, judged_declared}
use Rattle.smv_type_laws.specs.Costs.{width_of, number_kind, symbol_number, member_number}
use Rattle.smv_type_laws.proofs.Products.{in_just, in_hull_left, in_hull_right}
use Rattle.smv_type_laws.proofs.Parts.{none_first, none_second, not_if, wide_bounded, hull_fits}
use Rattle.smv_lexer.proofs.SignLemmas.{both_true}
use Rattle.sat_encoding_laws.specs.Widths.{word_width, symbol_interval, symbol_width, kind_width, width_by}
use Rattle.sat_encoding_laws.specs.Signals.{word}
use Rattle.sat_encoding_laws.specs.Meanings.{HasValue, AreSymbols}
use Rattle.sat_encoding_laws.specs.Layout.{declared_interval}
use Rattle.sat_encoding_laws.specs.Bits.{value_number}
use Rattle.sat_encoding_laws.specs.Encodable.{IsListedMember, IsListedType}
use Rattle.sat_encoding_laws.proofs.Fitting.{fits_width, fits_symbol}
use Rattle.sat_encoding_laws.proofs.NumberWords.{bits_within_word, symbols_within_word}
use Rattle.sat_encoding_laws.proofs.Answering.{kept_interval}
use Rattle.std.proofs.lemmas.Option.{slice_get_within as got_below}
use Rattle.smv_language.proofs.BoolLaws.{or_cases}

-- ---- symbols by their numbers

-- a symbol stands at its number
pub symbol_found : (symbols : List Text) (x : Text) (i : ℕ) → slice_get symbols i ≡ Some x → slice_get symbols (symbol_number symbols x) ≡ Some x
symbol_found [] x i e = cc
symbol_found (y ∷ ys) x i e = by (same_text y x) refl i e (λ j. symbol_found ys x j)
  where
    by : (t : Bool) → same_text y x ≡ t → (i : ℕ) → slice_get (y ∷ ys) i ≡ Some x → ((j : ℕ) → slice_get ys j ≡ Some x → slice_get ys (symbol_number ys x) ≡ Some x)
        → slice_get (y ∷ ys) (elim t [ true ↦ 0 | false ↦ suc (symbol_number ys x) ]) ≡ Some x
    by true t i e more = ap Some (same_text_equal y x t)
    by false t zero e more = let same : y ≡ x = cc in cc (t, ap (λ z. same_text z x) same ∙ same_text_refl x)
    by false t (suc i) e more = more i e

-- ---- the least interval around numbers

-- i has both ends of j
abbrev Covers : Interval → Interval → Type 0
Covers i j = (i.lo ≤ℤ j.lo) × (j.hi ≤ℤ i.hi)

record IsHull (j : Interval) (zs : List ℤ) (whole : Option Interval) : Type 0 where
  interval : Interval
  is : whole ≡ Some interval
  first : Covers interval j
  each : Each (IsIn interval) zs
  least : (t : Interval) → Covers t j → Each (IsIn t) zs → Covers t interval
  small : fits j ≡ true → Each (λ z. fits_number z ≡ true) zs → fits interval ≡ true

hull_is : (j : Interval) (zs : List ℤ) → IsHull j zs (hull_from (Some j) (map number_kind zs))
hull_is j [] = record { interval = j; is = refl; first = (omega (arith, ints), omega (arith, ints)); each = tt; least = λ t c e. c; small = λ f e. f }
hull_is j (z ∷ zs) =
    let h = hull_is (hull j (just z)) zs in
    let a = in_hull_left j (just z) in
    let zin = in_hull_right j (just z) z (in_just z) in
    record {
      interval = h.interval;
      is = h.is;
      first = (omega (arith, ints, clamps, h.first.0), omega (arith, ints, clamps, h.first.1));
      each = (record { above = omega (arith, ints, h.first.0, zin.above); below = omega (arith, ints, h.first.1, zin.below) }, h.each);
      least = λ t c e. h.least t (hull_within t c e.0) e.1;
      small = λ f e. h.small (hull_fits j (just z) f (rw (e.0) refl)) e.1;
    }
  where
    hull_within : (t : Interval) → Covers t j → IsIn t z → Covers t (hull j (just z))
    hull_within t c i =
        let above = i.above in
        let below = i.below in
        (omega (arith, ints, clamps, c.0, above), omega (arith, ints, clamps, c.1, below))

-- ---- types whose values are numbers, or symbols by their numbers

-- The type's bits and word hold the numbers of its values, and a word with a value's number has the value.
pub record IsNumbers (symbols : List Text) (d : DeclaredTree) : Type 0 where
  pub interval : Interval
  pub is : declared_interval symbols d ≡ Some interval
  pub order : interval.lo ≤ℤ interval.hi
  pub small : fits interval ≡ true
  pub within : width_of interval ≤ kind_width symbols (judged_declared d).kind
  pub wide : 0 < kind_width symbols (judged_declared d).kind
  pub fit : (z : ℤ) → IsIn interval z → Fits (kind_width symbols (judged_declared d).kind) z
  pub values : (u : Value) → in_domain d u ≡ true → IsIn interval (value_number symbols u)
  pub word_value_is : (v : TotalAssignment) (w : List Literal) (u : Value) → in_domain d u ≡ true → word_value v w ≡ value_number symbols u → HasValue symbols v (word w) u

pub own_none : (own : List KindRule) → own ++ [] ≡ [] → own ≡ []
own_none own e = none_first own [] e

order_from : (lo hi : ℤ) → int_lt hi lo ≡ false → lo ≤ℤ hi
order_from lo hi e = not_less lo hi (ap other e)

pub range_numbers : (symbols : List Text) (lo hi : ℤ) → (judged_declared (range lo hi)).broken ≡ [] → IsNumbers symbols (range lo hi)
range_numbers symbols lo hi e =
    let i : Interval = record { lo = lo; hi = hi } in
    let here = rule_if (int_lt hi lo) empty_range in
    let own = here ++ wide (Some i) in
    let none = own_none own e in
    let size : kind_width symbols (judged_declared (range lo hi)).kind ≡ word_width i = ap (width_by symbols number_class) (kept_interval own (Some i) none) in
    let small : fits i ≡ true = wide_bounded i (none_second here (wide (Some i)) none) in
    record {
      interval = i;
      is = refl;
      order = order_from lo hi (not_if _ _ (none_first here (wide (Some i)) none));
      small = small;
      within = subst (λ (n : ℕ). width_of i ≤ n) (sym size) (bits_within_word i);
      wide = subst (λ (n : ℕ). 0 < n) (sym size) (omega arith);
      fit = λ z inside. subst (λ (n : ℕ). Fits n z) (sym size) (fits_width i z small inside);
      values = λ u h. between u h;
      word_value_is = λ v w u h is. word_is v w u h is;
    }
  where
    between : (u : Value) → in_domain (range lo hi) u ≡ true → IsIn (record { lo = lo; hi = hi }) (value_number symbols u)
    between (number n) h = let parts = both_true _ _ h in record { above = not_less lo n parts.0; below = not_less n hi parts.1 }
    between (truth b) h = cc
    between (symbol x) h = cc

    word_is : (v : TotalAssignment) (w : List Literal) (u : Value) → in_domain (range lo hi) u ≡ true → word_value v w ≡ value_number symbols u → HasValue symbols v (word w) u
    word_is v w (number n) h is = is
    word_is v w (truth b) h is = cc
    word_is v w (symbol x) h is = cc

-- ---- members

-- a value among members has the number of one of them
member_holds : (symbols : List Text) (P : ℤ → Type 0) (ms : List Member) (u : Value) → is_member ms u ≡ true → Each P (map (member_number symbols) ms) → P (value_number symbols u)
member_holds symbols P [] u h e = cc
member_holds symbols P (member.Number n ∷ ms) (number k) h e =
    ⊎_elim (λ s. subst P (same_int_equal n k s) e.0) (λ s. member_holds symbols P ms (number k) s e.1) (or_cases (same_int n k) (is_member ms (number k)) h)
member_holds symbols P (member.Number n ∷ ms) (truth b) h e = member_holds symbols P ms (truth b) h e.1
member_holds symbols P (member.Number n ∷ ms) (symbol y) h e = member_holds symbols P ms (symbol y) h e.1
member_holds symbols P (member.Symbol x ∷ ms) (symbol y) h e =
    ⊎_elim (λ s. subst P (ap (λ z. pos (symbol_number symbols z)) (same_text_equal x y s)) e.0) (λ s. member_holds symbols P ms (symbol y) s e.1) (or_cases (same_text x y) (is_member ms (symbol y)) h)
member_holds symbols P (member.Symbol x ∷ ms) (truth b) h e = member_holds symbols P ms (truth b) h e.1
member_holds symbols P (member.Symbol x ∷ ms) (number k) h e = member_holds symbols P ms (number k) h e.1

-- a symbol among listed members is listed
pub member_listed : (symbols : List Text) (ms : List Member) (x : Text) → is_member ms (symbol x) ≡ true → Each (IsListedMember symbols) ms → (i : ℕ) × (slice_get symbols i ≡ Some x)
member_listed symbols [] x h e = cc
member_listed symbols (member.Number n ∷ ms) x h e = member_listed symbols ms x h e.1
member_listed symbols (member.Symbol y ∷ ms) x h e =
    ⊎_elim (λ s. (e.0.0, e.0.1 ∙ ap Some (same_text_equal y x s))) (λ s. member_listed symbols ms x s e.1) (or_cases (same_text y x) (is_member ms (symbol x)) h)

-- of numbers alone, the interval of the class is that of the numbers
numbers_alike : (symbols : List Text) (ms : List Member) → flat_map (unless_class number_class mixed_enum) (map member_kind ms) ≡ [] → map member_kind ms ≡ map number_kind (map (member_number symbols) ms)
numbers_alike symbols [] e = refl
numbers_alike symbols (member.Number n ∷ ms) e = ap (λ ks. number_kind n ∷ ks) (numbers_alike symbols ms (none_second (unless_class number_class mixed_enum (number_kind n)) _ e))
numbers_alike symbols (member.Symbol x ∷ ms) e = cc

numbers_small : (symbols : List Text) (ms : List Member) → flat_map (unless_class number_class mixed_enum) (map member_kind ms) ≡ [] → flat_map (λ k. wide k.interval) (map member_kind ms) ≡ []
    → Each (λ z. fits_number z ≡ true) (map (member_number symbols) ms)
numbers_small symbols [] e w = tt
numbers_small symbols (member.Number n ∷ ms) e w =
    ((both_true _ _ (wide_bounded (just n) (none_first _ _ w))).0, numbers_small symbols ms (none_second (unless_class number_class mixed_enum (number_kind n)) _ e) (none_second (wide (Some (just n))) _ w))
numbers_small symbols (member.Symbol x ∷ ms) e w = cc

small_number : (i : ℕ) → i < 2 ^ 31 → fits_number (pos i) ≡ true
small_number i h = lt-ltb i (2 ^ 31) h

symbols_small : (symbols : List Text) → length symbols < 2 ^ 31 → (ms : List Member) → flat_map (unless_class symbol_class mixed_enum) (map member_kind ms) ≡ [] → Each (IsListedMember symbols) ms
    → Each (λ z. fits_number z ≡ true) (map (member_number symbols) ms)
symbols_small symbols few [] e l = tt
symbols_small symbols few (member.Symbol x ∷ ms) e l =
    let below = got_below symbols (symbol_number symbols x) x (symbol_found symbols x l.0.0 l.0.1) in
    (small_number (symbol_number symbols x) (omega (arith, few, below)), symbols_small symbols few ms (none_second (unless_class symbol_class mixed_enum (member_kind (member.Symbol x))) _ e) l.1)
symbols_small symbols few (member.Number n ∷ ms) e l = cc

symbols_within : (symbols : List Text) (ms : List Member) → flat_map (unless_class symbol_class mixed_enum) (map member_kind ms) ≡ [] → Each (IsListedMember symbols) ms
    → Each (IsIn (symbol_interval symbols)) (map (member_number symbols) ms)
symbols_within symbols [] e l = tt
symbols_within symbols (member.Symbol x ∷ ms) e l =
    let below = got_below symbols (symbol_number symbols x) x (symbol_found symbols x l.0.0 l.0.1) in
    (record { above = omega (arith, ints); below = omega (arith, ints, below) }, symbols_within symbols ms (none_second (unless_class symbol_class mixed_enum (member_kind (member.Symbol x))) _ e) l.1)
symbols_within symbols (member.Number n ∷ ms) e l = cc

-- the rules of members, taken apart
pub record MembersKept (c : Class) (ms : List Member) : Type 0 where
  pub alike : flat_map (unless_class c mixed_enum) (map member_kind ms) ≡ []
  pub small : flat_map (λ k. wide k.interval) (map member_kind ms) ≡ []

pub members_kept : (ms : List Member) → (judged_declared (members ms)).broken ≡ [] → MembersKept (first_class (map member_kind ms)) ms
members_kept ms e =
    let kinds = map member_kind ms in
    let mixed = flat_map (unless_class (first_class kinds) mixed_enum) kinds in
    let double = rule_if (has_double ms) double_member in
    let small = flat_map (λ k. wide k.interval) kinds in
    let none = own_none (mixed ++ (double ++ small)) e in
    record { alike = none_first mixed _ none; small = none_second double small (none_second mixed (double ++ small) none) }

in_order : (i : Interval) (z : ℤ) → IsIn i z → i.lo ≤ℤ i.hi
in_order i z h = let a = h.above in let b = h.below in omega (arith, ints, a, b)

number_members : (symbols : List Text) (n : ℤ) (ms : List Member) → (judged_declared (members (member.Number n ∷ ms))).broken ≡ [] → IsNumbers symbols (members (member.Number n ∷ ms))
number_members symbols n ms e =
    let all = member.Number n ∷ ms in
    let kinds = map member_kind all in
    let kept = members_kept all e in
    let zs = map (member_number symbols) ms in
    let h = hull_is (just n) zs in
    let small_all = numbers_small symbols all kept.alike kept.small in
    let alike = numbers_alike symbols all kept.alike in
    let known : where_kept _ (hull_of kinds) ≡ Some h.interval =
    kept_interval _ (hull_of kinds) (own_none _ e) ∙ ap hull_of alike ∙ h.is in
    let size : kind_width symbols (judged_declared (members all)).kind ≡ word_width h.interval = ap (width_by symbols number_class) known in
    let small : fits h.interval ≡ true = h.small (rw (small_all.0) refl) small_all.1 in
    let here : IsIn h.interval n = record { above = h.first.0; below = h.first.1 } in
    record {
      interval = h.interval;
      is = ap (λ ks. hull_of (number_kind n ∷ ks)) (sym (map_twice ms)) ∙ h.is;
      order = in_order h.interval n here;
      small = small;
      within = subst (λ (k : ℕ). width_of h.interval ≤ k) (sym size) (bits_within_word h.interval);
      wide = subst (λ (k : ℕ). 0 < k) (sym size) (omega arith);
      fit = λ z inside. subst (λ (k : ℕ). Fits k z) (sym size) (fits_width h.interval z small inside);
      values = λ u in_it. member_holds symbols (IsIn h.interval) all u in_it (here, h.each);
      word_value_is = λ v w u in_it is. word_is v w all kept.alike u in_it is;
    }
  where
    map_twice : (ms : List Member) → map number_kind (map (member_number symbols) ms) ≡ map (λ m. number_kind (member_number symbols m)) ms
    map_twice [] = refl
    map_twice (m ∷ ms) = ap (λ ks. number_kind (member_number symbols m) ∷ ks) (map_twice ms)

    word_is : (v : TotalAssignment) (w : List Literal) (ms : List Member) → flat_map (unless_class number_class mixed_enum) (map member_kind ms) ≡ [] → (u : Value) → is_member ms u ≡ true
        → word_value v w ≡ value_number symbols u → HasValue symbols v (word w) u
    word_is v w ms k (number n) h is = is
    word_is v w ms k (truth b) h is = cc (no_truth ms b)
    word_is v w [] k (symbol x) h is = cc
    word_is v w (member.Number n ∷ ms) k (symbol x) h is = word_is v w ms (none_second (unless_class number_class mixed_enum (number_kind n)) _ k) (symbol x) h is
    word_is v w (member.Symbol y ∷ ms) k (symbol x) h is = cc

symbol_members : (symbols : List Text) → AreSymbols symbols → (x : Text) (ms : List Member) → (judged_declared (members (member.Symbol x ∷ ms))).broken ≡ []
    → Each (IsListedMember symbols) (member.Symbol x ∷ ms) → IsNumbers symbols (members (member.Symbol x ∷ ms))
symbol_members symbols are x ms e listed =
    let all = member.Symbol x ∷ ms in
    let kept = members_kept all e in
    let n = pos (symbol_number symbols x) in
    let zs = map (member_number symbols) ms in
    let h = hull_is (just n) zs in
    let small_all = symbols_small symbols are.few all kept.alike listed in
    let within_all = symbols_within symbols all kept.alike listed in
    let small : fits h.interval ≡ true = h.small (rw (small_all.0) refl) small_all.1 in
    let here : IsIn h.interval n = record { above = h.first.0; below = h.first.1 } in
    let first_in = within_all.0 in
    let covered = h.least (symbol_interval symbols) (first_in.above, first_in.below) within_all.1 in
    record {
      interval = h.interval;
      is = ap (λ ks. hull_of (number_kind n ∷ ks)) (sym (map_twice ms)) ∙ h.is;
      order = in_order h.interval n here;
      small = small;
      within = symbols_within_word symbols h.interval (omega (arith, are.few)) covered.0 covered.1;
      wide = omega arith;
      fit = λ z inside. let above = inside.above in let below = inside.below in symbol_fit z (omega (arith, ints, covered.0, above)) (omega (arith, ints, covered.1, below));
      values = λ u in_it. member_holds symbols (IsIn h.interval) all u in_it (here, h.each);
      word_value_is = λ v w u in_it is. word_is v w all kept.alike listed u in_it is;
    }
  where
    map_twice : (ms : List Member) → map number_kind (map (member_number symbols) ms) ≡ map (λ m. number_kind (member_number symbols m)) ms
    map_twice [] = refl
    map_twice (m ∷ ms) = ap (λ ks. number_kind (member_number symbols m) ∷ ks) (map_twice ms)

    symbol_fit : (z : ℤ) → pos 0 ≤ℤ z → z ≤ℤ pos (length symbols - 1) → Fits (symbol_width symbols) z
    symbol_fit (pos i) a b = fits_symbol symbols i (omega (arith, are.few)) (omega (arith, ints, b, got_below symbols listed.0.0 x listed.0.1))
    symbol_fit (negsuc i) a b = absurd (omega (arith, ints, a))

    word_is : (v : TotalAssignment) (w : List Literal) (ms : List Member) → flat_map (unless_class symbol_class mixed_enum) (map member_kind ms) ≡ [] → Each (IsListedMember symbols) ms
        → (u : Value) → is_member ms u ≡ true → word_value v w ≡ value_number symbols u → HasValue symbols v (word w) u
    word_is v w ms k l (symbol y) h is =
        let at = member_listed symbols ms y h l in
        record { place = symbol_number symbols y; at = symbol_found symbols y at.0 at.1; is = is }
    word_is v w ms k l (truth b) h is = cc (no_truth ms b)
    word_is v w [] k l (number n) h is = cc
    word_is v w (member.Symbol y ∷ ms) k l (number n) h is = word_is v w ms (none_second (unless_class symbol_class mixed_enum (member_kind (member.Symbol y))) _ k) l.1 (number n) h is
    word_is v w (member.Number y ∷ ms) k l (number n) h is = cc

-- a type that is no boolean is one of numbers
pub numbers_of : (symbols : List Text) → AreSymbols symbols → (d : DeclaredTree) → (judged_declared d).broken ≡ [] → IsListedType symbols d → (d ≡ boolean) ⊎ IsNumbers symbols d
numbers_of symbols are boolean e l = inl refl
numbers_of symbols are (range lo hi) e l = inr (range_numbers symbols lo hi e)
numbers_of symbols are (members []) e l = absurd (l.0 refl)
numbers_of symbols are (members (member.Number n ∷ ms)) e l = inr (number_members symbols n ms e)
numbers_of symbols are (members (member.Symbol x ∷ ms)) e l = inr (symbol_members symbols are x ms e l.1)
numbers_of symbols are (instance m actuals) e l = absurd l
