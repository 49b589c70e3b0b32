-- The formula of a domain is TRUE exactly where the variable's value is in it.
use Rattle.std.proofs.Common.{◌≡◌, ◌⊎◌, inl, inr, ⊎_elim, ℕ, Bool, true, false, ◌||◌, ◌++◌, ℤ, pos, negsuc, List, [], ◌∷◌, map, flat_map, Option, Some, None, refl, sym, ◌∙◌, ap, subst, arith, eq-eqb, int_lt}
use Rattle.std.specs.Prelude.{slice_get}
use Rattle.std.specs.List.{list_any}
use Rattle.std.specs.Ordering.{int_eq}
use Rattle.std.proofs.lemmas.Bool.Decides.{Decides-int_eq}
use Rattle.smv_language.specs.declared.program.Member.{Member}
use Rattle.smv_language.specs.declared.program.Member.TheVariants as member
use Rattle.smv_language.specs.Language.{Text, DeclaredTree, boolean, range, members, instance, trees_from, Each, is_member, in_domain, Value, symbol, same_int, same_text, FlatModel}
use Rattle.smv_language.specs.Values.{truth, number}
use Rattle.smv_language.proofs.ValueLaws.{same_int_equal, same_text_equal, same_text_refl, no_truth}
use Rattle.sat_clauses.specs.Literal.{Literal}
use Rattle.sat_clauses.specs.Models.{TotalAssignment, literal_value, IsBelow}
use Rattle.sat_circuits.specs.Circuit.{Circuit, after}
use Rattle.sat_circuits.specs.Gates.{constant_lit}
use Rattle.sat_circuits.specs.Meaning.{Means}
use Rattle.sat_circuits.proofs.Extension.{Means-after, Means-done, Means-weaker}
use Rattle.sat_circuits.proofs.Rows.{or_gate-gives}
use Rattle.sat_circuits.specs.Words.{word_value, fit, IsWordOf}
use Rattle.sat_circuits.specs.Numbers.{number_word}
use Rattle.sat_circuits.proofs.DigitMeans.{constant-value, number_word-word}
use Rattle.sat_circuits.proofs.TestMeans.{equal_gates-gives}
use Rattle.smv_type_laws.specs.Intervals.{Interval, fits_number}
use Rattle.smv_type_laws.specs.ExpressionKinds.{number_class, symbol_class, mixed_enum, empty_range, rule_if, unless_class, wide}
use Rattle.smv_type_laws.specs.DeclaredKinds.{member_kind, judged_declared}
use Rattle.smv_type_laws.specs.Costs.{member_number, symbol_number, number_kind}
use Rattle.smv_type_laws.proofs.Parts.{none_first, none_second, wide_bounded}
use Rattle.smv_lexer.proofs.SignLemmas.{both_true}
use Rattle.sat_encoding_laws.specs.Widths.{symbol_width}
use Rattle.sat_encoding_laws.specs.Signals.{Signal, bit, word, literal_in, word_in}
use Rattle.sat_encoding_laws.specs.Expressions.{whether_has, encoded, encoded_members}
use Rattle.sat_encoding_laws.specs.Meanings.{AreSymbols, IsSignal, IsReady}
use Rattle.sat_encoding_laws.specs.Layout.{variable_signal}
use Rattle.sat_encoding_laws.specs.Lists.{Copy, names_of, member_tree, type_tree}
use Rattle.sat_encoding_laws.specs.Encodable.{IsListedMember, IsListedType}
use Rattle.sat_encoding_laws.proofs.Parts.{ready_later, word_later, literal_below, as_bit-means}
use Rattle.sat_encoding_laws.proofs.Fitting.{number_value, symbol_value, fits_symbol, fit_same}
use Rattle.sat_encoding_laws.proofs.Choices.{word_fitted, between_gates-means}
use Rattle.sat_encoding_laws.proofs.TypeMeans.{symbol_found, members_kept, IsNumbers, numbers_of}
use Rattle.sat_encoding_laws.proofs.VariableMeans.{read_symbol, symbol_or_false, read_as, numbers_word, numbers_signal}
use Rattle.std.proofs.lemmas.Option.{slice_get_within as got_below}

-- the literal is TRUE exactly where this holds
pub record SaysWhether (v : TotalAssignment) (l : Literal) (b : Bool) : Type 0 where
  pub to : literal_value v l ≡ true → b ≡ true
  pub from : b ≡ true → literal_value v l ≡ true

module _ (m : FlatModel) (are : AreSymbols m.symbols) (now next : Copy) where
  -- a member's number is known, and fits its word
  abbrev IsUsable : Member → Type 0
  IsUsable (member.Number n) = fits_number n ≡ true
  IsUsable (member.Symbol x) = slice_get m.symbols (symbol_number m.symbols x) ≡ Some x

  -- whether the word has the number of the member
  member_gate : (s : Circuit) → IsReady s → (w : List Literal) → IsWordOf s w → (k : Member)
      → Means s (encoded (names_of m now next) (whether_has (word w)) (member_tree m.symbols k) s) IsSignal
      (λ v g. IsUsable k → literal_value v (literal_in g) ≡ int_eq (word_value v w) (member_number m.symbols k))
  unfolding encoded after
  member_gate s ready w hw (member.Number n) =
      as_bit-means s _ _ _ ready.truth (equal_gates-gives w (number_word n) s ready.truth ready.least hw (number_word-word n s ready.least))
      (λ v one_true is usable. is ∙ ap (int_eq (word_value v w)) (number_value v n one_true usable))
  member_gate s ready w hw (member.Symbol x) =
      let i = symbol_number m.symbols x in
      let size = symbol_width m.symbols in
      as_bit-means s _ _ _ ready.truth
      (equal_gates-gives w (fit size (number_word (pos i))) s ready.truth ready.least hw (word_fitted s ready size (omega arith) (number_word (pos i)) (number_word-word (pos i) s ready.least)))
      (λ v one_true is usable.
      let below = got_below m.symbols i x usable in
      let few = are.few in
      let value = symbol_value v m.symbols i one_true (omega (arith, few)) below in
      let fits = fits_symbol m.symbols i (omega (arith, few)) below in
      is ∙ ap (int_eq (word_value v w)) (fit_same v size (number_word (pos i)) (pos i) (number_word-word (pos i) s ready.least).signed (omega arith) value fits))

  or_more : (a b c : Bool) → ((a || b) || c) ≡ (a || (b || c))
  or_more true b c = refl
  or_more false b c = refl

  or_none : (b : Bool) → b ≡ (b || false)
  or_none true = refl
  or_none false = refl

  -- whether the literal is TRUE or the word has the number of one of the members
  members_gate : (ms : List Member) (s : Circuit) → IsReady s → (w : List Literal) → IsWordOf s w → (r : Literal) → IsBelow s.free r
      → Means s (encoded_members (names_of m now next) (whether_has (word w)) (trees_from (map (member_tree m.symbols) ms)) r s) IsSignal
      (λ v g. Each IsUsable ms → literal_value v (literal_in g) ≡ (literal_value v r || list_any (int_eq (word_value v w)) (map (member_number m.symbols) ms)))
  unfolding encoded
  members_gate [] s ready w hw r hr = Means-done s (bit r) IsSignal _ hr (λ v h usable. or_none (literal_value v r))
  members_gate (k ∷ ms) s ready w hw r hr =
      Means-after s _ _ _ _ _ _ (member_gate s ready w hw k) (λ e s1 he e1.
      let ready1 = ready_later s s1 e1 ready in
      Means-after s1 _ _ _ _ _ _ (or_gate-gives s1 r (literal_in e) (omega (arith, hr, e1.counted)) (literal_below s1 ready1.least e he)) (λ q s2 hq e2.
      Means-weaker s2 _ IsSignal IsSignal _ _ (members_gate ms s2 (ready_later s1 s2 e2 ready1) w (word_later s1 s2 e2 w (word_later s s1 e1 w hw)) q hq) (λ h. h)
      (λ v h more is one usable.
      more usable.1 ∙ ap (λ b. b || list_any (int_eq (word_value v w)) (map (member_number m.symbols) ms)) (is ∙ ap (λ b. literal_value v r || b) (one usable.0))
      ∙ or_more (literal_value v r) (int_eq (word_value v w) (member_number m.symbols k)) (list_any (int_eq (word_value v w)) (map (member_number m.symbols) ms)))))

  -- ---- members and values

  numbers_usable : (ms : List Member) → flat_map (unless_class number_class mixed_enum) (map member_kind ms) ≡ [] → flat_map (λ k. wide k.interval) (map member_kind ms) ≡ [] → Each IsUsable ms
  numbers_usable [] e w = tt
  numbers_usable (member.Number n ∷ ms) e w =
      ((both_true _ _ (wide_bounded (record { lo = n; hi = n }) (none_first _ _ w))).0, numbers_usable ms (none_second (unless_class number_class mixed_enum (number_kind n)) _ e) (none_second (wide (Some (record { lo = n; hi = n }))) _ w))
  numbers_usable (member.Symbol x ∷ ms) e w = cc

  symbols_usable : (ms : List Member) → flat_map (unless_class symbol_class mixed_enum) (map member_kind ms) ≡ [] → Each (IsListedMember m.symbols) ms → Each IsUsable ms
  symbols_usable [] e l = tt
  symbols_usable (member.Symbol x ∷ ms) e l = (symbol_found m.symbols x l.0.0 l.0.1, symbols_usable ms (none_second (unless_class symbol_class mixed_enum (member_kind (member.Symbol x))) _ e) l.1)
  symbols_usable (member.Number n ∷ ms) e l = cc

  int_eq_is : (a b : ℤ) → int_eq a b ≡ true → a ≡ b
  int_eq_is a b h = (Decides-int_eq a b).0 h

  int_eq_refl : (a b : ℤ) → a ≡ b → int_eq a b ≡ true
  int_eq_refl a b e = (Decides-int_eq a b).1 e

  or_left : (a b : Bool) → a ≡ true → (a || b) ≡ true
  or_left a b e = rw e refl

  or_right : (a b : Bool) → b ≡ true → (a || b) ≡ true
  or_right true b e = refl
  or_right false b e = e

  or_which : (a b : Bool) → (a || b) ≡ true → (a ≡ true) ⊎ (b ≡ true)
  or_which true b e = inl refl
  or_which false b e = inr e

  same_int_from : (a b : ℤ) → a ≡ b → same_int a b ≡ true
  same_int_from (pos i) (pos j) e = eq-eqb i j (pos_is i j e)
    where
      pos_is : (i j : ℕ) → pos i ≡ pos j → i ≡ j
      pos_is i j e = cc
  same_int_from (negsuc i) (negsuc j) e = eq-eqb i j (negsuc_is i j e)
    where
      negsuc_is : (i j : ℕ) → negsuc i ≡ negsuc j → i ≡ j
      negsuc_is i j e = cc
  same_int_from (pos i) (negsuc j) e = cc
  same_int_from (negsuc i) (pos j) e = cc

  -- of numbers, one of them is the number where it is a member
  number_to : (ms : List Member) → flat_map (unless_class number_class mixed_enum) (map member_kind ms) ≡ [] → (z : ℤ) → list_any (int_eq z) (map (member_number m.symbols) ms) ≡ true → is_member ms (number z) ≡ true
  number_to [] e z h = cc
  number_to (member.Number n ∷ ms) e z h =
      ⊎_elim (λ s. or_left (same_int n z) (is_member ms (number z)) (same_int_from n z (sym (int_eq_is z n s))))
      (λ s. or_right (same_int n z) (is_member ms (number z)) (number_to ms (none_second (unless_class number_class mixed_enum (number_kind n)) _ e) z s)) (or_which _ _ h)
  number_to (member.Symbol x ∷ ms) e z h = cc

  number_from : (ms : List Member) → flat_map (unless_class number_class mixed_enum) (map member_kind ms) ≡ [] → (z : ℤ) → is_member ms (number z) ≡ true → list_any (int_eq z) (map (member_number m.symbols) ms) ≡ true
  number_from [] e z h = cc
  number_from (member.Number n ∷ ms) e z h =
      ⊎_elim (λ s. or_left (int_eq z n) _ (int_eq_refl z n (sym (same_int_equal n z s))))
      (λ s. or_right (int_eq z n) _ (number_from ms (none_second (unless_class number_class mixed_enum (number_kind n)) _ e) z s)) (or_which _ _ h)
  number_from (member.Symbol x ∷ ms) e z h = cc

  -- of symbols, one of their numbers is the number where the symbol of that number is a member
  symbol_to : (ms : List Member) → flat_map (unless_class symbol_class mixed_enum) (map member_kind ms) ≡ [] → Each IsUsable ms → (z : ℤ) → list_any (int_eq z) (map (member_number m.symbols) ms) ≡ true
      → is_member ms (read_symbol m.symbols z) ≡ true
  symbol_to [] e u z h = cc
  symbol_to (member.Number n ∷ ms) e u z h = cc
  symbol_to (member.Symbol x ∷ ms) e u z h =
      ⊎_elim here (λ s. passed (read_symbol m.symbols z) (symbol_to ms (none_second (unless_class symbol_class mixed_enum (member_kind (member.Symbol x))) _ e) u.1 z s)) (or_which _ _ h)
    where
      here : int_eq z (pos (symbol_number m.symbols x)) ≡ true → is_member (member.Symbol x ∷ ms) (read_symbol m.symbols z) ≡ true
      here s =
          let read : read_symbol m.symbols z ≡ symbol x = ap (read_symbol m.symbols) (int_eq_is z (pos (symbol_number m.symbols x)) s) ∙ ap symbol_or_false u.0 in
          ap (is_member (member.Symbol x ∷ ms)) read ∙ or_left (same_text x x) (is_member ms (symbol x)) (same_text_refl x)

      passed : (r : Value) → is_member ms r ≡ true → is_member (member.Symbol x ∷ ms) r ≡ true
      passed (symbol y) h = or_right (same_text x y) (is_member ms (symbol y)) h
      passed (number n) h = h
      passed (truth b) h = h

  symbol_from : (ms : List Member) → flat_map (unless_class symbol_class mixed_enum) (map member_kind ms) ≡ [] → Each IsUsable ms → (z : ℤ) → is_member ms (read_symbol m.symbols z) ≡ true
      → list_any (int_eq z) (map (member_number m.symbols) ms) ≡ true
  symbol_from ms e u (negsuc i) h = cc (no_truth ms false)
  symbol_from ms e u (pos i) h = by (slice_get m.symbols i) refl h
    where
      -- a listed symbol that is a member has the number of one
      among : (x : Text) → slice_get m.symbols i ≡ Some x → (ms : List Member) → flat_map (unless_class symbol_class mixed_enum) (map member_kind ms) ≡ [] → Each IsUsable ms → is_member ms (symbol x) ≡ true
          → list_any (int_eq (pos i)) (map (member_number m.symbols) ms) ≡ true
      among x at [] e u h = cc
      among x at (member.Number n ∷ ms) e u h = cc
      among x at (member.Symbol y ∷ ms) e u h =
          ⊎_elim (λ s. or_left _ _ (int_eq_refl (pos i) (pos (symbol_number m.symbols y)) (ap pos (are.apart i (symbol_number m.symbols y) x at (u.0 ∙ ap Some (same_text_equal y x s))))))
          (λ s. or_right _ _ (among x at ms (none_second (unless_class symbol_class mixed_enum (member_kind (member.Symbol y))) _ e) u.1 s)) (or_which _ _ h)

      by : (o : Option Text) → slice_get m.symbols i ≡ o → is_member ms (symbol_or_false (slice_get m.symbols i)) ≡ true → list_any (int_eq (pos i)) (map (member_number m.symbols) ms) ≡ true
      by (Some x) at h = among x at ms e u (sym (ap (λ (p : Option Text). is_member ms (symbol_or_false p)) at) ∙ h)
      by None at h = cc (no_truth ms false, ap (λ (p : Option Text). is_member ms (symbol_or_false p)) at, h)

  -- ---- the formula of a domain

  -- whether the variable's value is in its domain
  pub domain_gate : (s : Circuit) → IsReady s → (d : DeclaredTree) → (judged_declared d).broken ≡ [] → IsListedType m.symbols d → (d ≡ boolean → ⊥) → (n : ℕ) → IsSignal s (variable_signal m.symbols d n)
      → Means s (encoded (names_of m now next) (whether_has (variable_signal m.symbols d n)) (type_tree m.symbols d) s) IsSignal
      (λ v g. SaysWhether v (literal_in g) (in_domain d (read_as m.symbols d v (variable_signal m.symbols d n))))
  unfolding encoded
  domain_gate s ready boolean right listed not_bool n hs = absurd (not_bool refl)
  domain_gate s ready (range lo hi) right listed not_bool n hs =
      let here = rule_if (int_lt hi lo) empty_range in
      let i : Interval = record { lo = lo; hi = hi } in
      let ends = both_true _ _ (wide_bounded i (none_second here (wide (Some i)) (none_first (here ++ wide (Some i)) [] right))) in
      as_bit-means s _ _ _ ready.truth (between_gates-means m.symbols s ready (variable_signal m.symbols (range lo hi) n) hs lo hi)
      (λ v one_true between.
      let is = between ends.0 ends.1 one_true (word_value v (word_in (variable_signal m.symbols (range lo hi) n))) refl in
      record { to = λ h. sym is ∙ h; from = λ h. is ∙ h })
  domain_gate s ready (members []) right listed not_bool n hs = absurd (listed.0 refl)
  domain_gate s ready (members (member.Number k ∷ ms)) right listed not_bool n hs = by (numbers_of m.symbols are (members (member.Number k ∷ ms)) right listed)
    where
      by : (members (member.Number k ∷ ms) ≡ boolean) ⊎ IsNumbers m.symbols (members (member.Number k ∷ ms))
          → Means s (encoded_members (names_of m now next) (whether_has (variable_signal m.symbols (members (member.Number k ∷ ms)) n)) (trees_from (map (member_tree m.symbols) (member.Number k ∷ ms))) (constant_lit false) s) IsSignal
          (λ v g. SaysWhether v (literal_in g) (in_domain (members (member.Number k ∷ ms)) (read_as m.symbols (members (member.Number k ∷ ms)) v (variable_signal m.symbols (members (member.Number k ∷ ms)) n))))
      by (inl b) = absurd (not_bool b)
      by (inr numbers) =
          let w = numbers_word m.symbols (members (member.Number k ∷ ms)) numbers n in
          let same = numbers_signal m.symbols (members (member.Number k ∷ ms)) numbers n in
          let kept = members_kept (member.Number k ∷ ms) right in
          subst (λ (e : Signal). Means s (encoded_members (names_of m now next) (whether_has e) (trees_from (map (member_tree m.symbols) (member.Number k ∷ ms))) (constant_lit false) s) IsSignal
          (λ v g. SaysWhether v (literal_in g) (in_domain (members (member.Number k ∷ ms)) (read_as m.symbols (members (member.Number k ∷ ms)) v e)))) (sym same)
          (Means-weaker s _ IsSignal IsSignal _ _ (members_gate (member.Number k ∷ ms) s ready w (subst (IsSignal s) same hs) (constant_lit false) ready.least) (λ h. h)
          (λ v h is.
          let told = is (numbers_usable (member.Number k ∷ ms) kept.alike kept.small) ∙ ap (λ b. b || list_any (int_eq (word_value v w)) (map (member_number m.symbols) (member.Number k ∷ ms))) (constant-value v false (ready.truth v h)) in
          record { to = λ q. number_to (member.Number k ∷ ms) kept.alike (word_value v w) (sym told ∙ q); from = λ q. told ∙ number_from (member.Number k ∷ ms) kept.alike (word_value v w) q }))
  domain_gate s ready (members (member.Symbol x ∷ ms)) right listed not_bool n hs = by (numbers_of m.symbols are (members (member.Symbol x ∷ ms)) right listed)
    where
      by : (members (member.Symbol x ∷ ms) ≡ boolean) ⊎ IsNumbers m.symbols (members (member.Symbol x ∷ ms))
          → Means s (encoded_members (names_of m now next) (whether_has (variable_signal m.symbols (members (member.Symbol x ∷ ms)) n)) (trees_from (map (member_tree m.symbols) (member.Symbol x ∷ ms))) (constant_lit false) s) IsSignal
          (λ v g. SaysWhether v (literal_in g) (in_domain (members (member.Symbol x ∷ ms)) (read_as m.symbols (members (member.Symbol x ∷ ms)) v (variable_signal m.symbols (members (member.Symbol x ∷ ms)) n))))
      by (inl b) = absurd (not_bool b)
      by (inr numbers) =
          let w = numbers_word m.symbols (members (member.Symbol x ∷ ms)) numbers n in
          let same = numbers_signal m.symbols (members (member.Symbol x ∷ ms)) numbers n in
          let kept = members_kept (member.Symbol x ∷ ms) right in
          let usable = symbols_usable (member.Symbol x ∷ ms) kept.alike listed.1 in
          subst (λ (e : Signal). Means s (encoded_members (names_of m now next) (whether_has e) (trees_from (map (member_tree m.symbols) (member.Symbol x ∷ ms))) (constant_lit false) s) IsSignal
          (λ v g. SaysWhether v (literal_in g) (in_domain (members (member.Symbol x ∷ ms)) (read_as m.symbols (members (member.Symbol x ∷ ms)) v e)))) (sym same)
          (Means-weaker s _ IsSignal IsSignal _ _ (members_gate (member.Symbol x ∷ ms) s ready w (subst (IsSignal s) same hs) (constant_lit false) ready.least) (λ h. h)
          (λ v h is.
          let told = is usable ∙ ap (λ b. b || list_any (int_eq (word_value v w)) (map (member_number m.symbols) (member.Symbol x ∷ ms))) (constant-value v false (ready.truth v h)) in
          record { to = λ q. symbol_to (member.Symbol x ∷ ms) kept.alike usable (word_value v w) (sym told ∙ q); from = λ q. told ∙ symbol_from (member.Symbol x ∷ ms) kept.alike usable (word_value v w) q }))
  domain_gate s ready (instance f actuals) right listed not_bool n hs = absurd listed
