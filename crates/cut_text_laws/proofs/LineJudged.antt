-- Each line is sound after the lines before it, or something is wrong with it.
use Rattle.std.proofs.Common.{◌≡◌, ◌≢◌, ◌⊎◌, inl, inr, ℕ, zero, suc, ◌<◌, ◌≤◌, ◌-◌, Bool, true, false, nat_eq, List, [], ◌∷◌, ◌++◌, refl, sym, ◌∙◌, ap, subst, arith, append_assoc, Some, eqb-true, eq-eqb, ℤ, pos, negsuc}
use Rattle.std.specs.Prelude.{slice_get, IsTrue}
use Rattle.std.specs.List.{AllByRecursion}
use Rattle.std.specs.Fmt.{decimal, signed_decimal}
use Rattle.std.specs.Str.Parse.{digits_value}
use Rattle.std.proofs.lemmas.Fmt.{decimal_is_IsNumeral}
use Rattle.std.proofs.lemmas.Bool.Decides.{nat_tests}
use Rattle.smv_language.specs.Language.{same_text, DeclaredTree, IsEnd, Value, symbol, value_text, in_domain, IsWritableType, IsPlain, FlatVariable, FlatModel}
use Rattle.smv_language.specs.Values.{truth, number}
use Rattle.cut_text_laws.specs.Lines.{Line, IsLine}
use Rattle.cut_text_laws.proofs.Separators.{IsFree, same_front, no_separator, head_of, tail_of, both_of}
use Rattle.cut_text_laws.specs.TraceText.{variable_text, moment_line, equation, value_line}
use Rattle.cut_text_laws.specs.TraceOfText.{IsLineWord, IsPrintable}
use Rattle.cut_text_laws.specs.TraceFaults.{LineFault, bad_line, unknown_name, outside, twice, number_of, moments_after, IsEquation, IsNameIn, WasSaid, Breaks, IsLeast}
use Rattle.cut_text_laws.proofs.Plain.{value_word, domain_plain, same_text_then, decimal_digits}
use Rattle.cut_text_laws.proofs.OneTrace.{no_items, same_equation}
use Rattle.cut_text_laws.proofs.OneFault.{empty_breaks}
use Rattle.cut_text_laws.proofs.GivenHasNone.{moment_sound}
use Rattle.std.proofs.lemmas.Option.{same_Some as some_same, none-some as never}
use Rattle.smv_language.proofs.ValueLaws.{same_text_refl as same_text_itself}

-- it is so, or it is not
abbrev pub Decided : Type 0 → Type 0
Decided A = A ⊎ (A → ⊥)

pub same_or_not : (a b : List ℕ) → Decided (a ≡ b)
same_or_not a b = by_test (same_text a b) refl
  where
    differ : false ≡ true → ⊥
    differ e = cc

    by_test : (t : Bool) → same_text a b ≡ t → Decided (a ≡ b)
    by_test true e = inl (same_text_then a b e)
    by_test false e = inr (λ s. differ (sym e ∙ ap (same_text a) (sym s) ∙ same_text_itself a))

true_or_not : (b : Bool) → Decided (b ≡ true)
true_or_not true = inl refl
true_or_not false = inr (λ e. cc)

number_or_not : (a b : ℕ) → Decided (a ≡ b)
number_or_not a b = by_test (nat_eq a b) refl
  where
    differ : false ≡ true → ⊥
    differ e = cc

    by_test : (t : Bool) → nat_eq a b ≡ t → Decided (a ≡ b)
    by_test true e = inl (eqb-true a b e)
    by_test false e = inr (λ s. differ (sym e ∙ eq-eqb a b s))

-- Equations.
-- a line is cut at its first space
cut_space : (line : Line) → IsFree 32 line ⊎ ((front : Line) × (rest : Line) × (line ≡ front ++ 32 ∷ rest) × IsFree 32 front)
cut_space [] = inl tt
cut_space (b ∷ line) = by_test (number_or_not b 32) (cut_space line)
  where
    by_test : Decided (b ≡ 32) → IsFree 32 line ⊎ ((front : Line) × (rest : Line) × (line ≡ front ++ 32 ∷ rest) × IsFree 32 front) →
        IsFree 32 (b ∷ line) ⊎ ((front : Line) × (rest : Line) × ((b ∷ line) ≡ front ++ 32 ∷ rest) × IsFree 32 front)
    by_test (inl e) c = inr ([], line, ap (λ x. x ∷ line) e, tt)
    by_test (inr n) (inl f) = inl (n, f)
    by_test (inr n) (inr c) = inr (b ∷ c.0, c.1, ap (λ ls. b ∷ ls) c.2, (n, c.3))

-- what stands after a prefix
after_prefix : (prefix line : Line) → Decided ((rest : Line) × (line ≡ prefix ++ rest))
after_prefix [] line = inl (line, refl)
after_prefix (p ∷ prefix) [] = inr (λ h. no_items p (prefix ++ h.0) [] refl h.1)
after_prefix (p ∷ prefix) (b ∷ line) = by_test (number_or_not b p) (after_prefix prefix line)
  where
    by_test : Decided (b ≡ p) → Decided ((rest : Line) × (line ≡ prefix ++ rest)) → Decided ((rest : Line) × ((b ∷ line) ≡ (p ∷ prefix) ++ rest))
    by_test (inl e) (inl h) = inl (h.0, both_of b p line (prefix ++ h.0) e h.1)
    by_test (inl e) (inr n) = inr (λ h. n (h.0, tail_of b p line (prefix ++ h.0) h.1))
    by_test (inr n) c = inr (λ h. n (head_of b p line (prefix ++ h.0) h.1))

some_or_none : (w : Line) → Decided (w ≡ [])
some_or_none [] = inl refl
some_or_none (b ∷ w) = inr (λ e. no_items b w (b ∷ w) e refl)

pub line_front : (xs ys : Line) → IsLine (xs ++ ys) → IsLine xs × IsLine ys
line_front [] ys h = (tt, h)
line_front (x ∷ xs) ys h = let more : IsLine xs × IsLine ys = line_front xs ys h.1 in ((h.0, more.0), more.1)

-- whether the line is an equation of words

is_equation : (line : Line) → IsLine line → ((name : Line) × (value : Line) × IsEquation name value line) ⊎ ((name value : Line) → IsEquation name value line → ⊥)
is_equation line l = by_cut (cut_space line)
  where
    by_value : (front rest value : Line) → line ≡ front ++ 32 ∷ rest → IsFree 32 front → rest ≡ 61 ∷ 32 ∷ value → Decided (front ≡ []) → Decided (value ≡ []) → IsFree 32 value ⊎ ((a : Line) × (b : Line) × (value ≡ a ++ 32 ∷ b) × IsFree 32 a) →
        ((name : Line) × (value : Line) × IsEquation name value line) ⊎ ((name value : Line) → IsEquation name value line → ⊥)
    by_value front rest value e f r (inl none) v c =
        inr (λ n w q. q.name_word.some (sym (same_front 32 front n rest (61 ∷ 32 ∷ w) f q.name_word.free (sym e ∙ q.is_line)).0 ∙ none))
    by_value front rest value e f r (inr some) (inl none) c =
        inr (λ n w q. q.value_word.some (sym (tail_of 32 32 value w (tail_of 61 61 (32 ∷ value) (32 ∷ w) (sym r ∙ (same_front 32 front n rest (61 ∷ 32 ∷ w) f q.name_word.free (sym e ∙ q.is_line)).1))) ∙ none))
    by_value front rest value e f r (inr some) (inr full) (inl free) =
        let whole : line ≡ equation front value = e ∙ ap (λ x. front ++ 32 ∷ x) r in
        let parts : IsLine front × IsLine (32 ∷ 61 ∷ 32 ∷ value) = line_front front (32 ∷ 61 ∷ 32 ∷ value) (subst IsLine whole l) in
        inl (front, value, record { name_word = record { some = some; free = f; line = parts.0 }; value_word = record { some = full; free = free; line = parts.1.1.1.1 }; is_line = whole })
    by_value front rest value e f r (inr some) (inr full) (inr c) =
        inr (λ n w q. no_separator 32 w c.0 c.1 q.value_word.free (sym (tail_of 32 32 value w (tail_of 61 61 (32 ∷ value) (32 ∷ w) (sym r ∙ (same_front 32 front n rest (61 ∷ 32 ∷ w) f q.name_word.free (sym e ∙ q.is_line)).1))) ∙ c.2))

    by_rest : (front rest : Line) → line ≡ front ++ 32 ∷ rest → IsFree 32 front → Decided ((value : Line) × (rest ≡ (61 ∷ 32 ∷ []) ++ value)) →
        ((name : Line) × (value : Line) × IsEquation name value line) ⊎ ((name value : Line) → IsEquation name value line → ⊥)
    by_rest front rest e f (inr n) = inr (λ name w q. n (w, (same_front 32 front name rest (61 ∷ 32 ∷ w) f q.name_word.free (sym e ∙ q.is_line)).1))
    by_rest front rest e f (inl h) = by_value front rest h.0 e f h.1 (some_or_none front) (some_or_none h.0) (cut_space h.0)

    by_cut : IsFree 32 line ⊎ ((front : Line) × (rest : Line) × (line ≡ front ++ 32 ∷ rest) × IsFree 32 front) →
        ((name : Line) × (value : Line) × IsEquation name value line) ⊎ ((name value : Line) → IsEquation name value line → ⊥)
    by_cut (inl free) = inr (λ name value q. no_separator 32 line name (61 ∷ 32 ∷ value) free q.is_line)
    by_cut (inr c) = by_rest c.0 c.1 c.2 c.3 (after_prefix (61 ∷ 32 ∷ []) c.1)

-- Names.
record NameAt (xs : List FlatVariable) (name : Line) : Type 0 where
  place : ℕ
  variable : FlatVariable
  is_variable : slice_get xs place ≡ Some variable
  is_name : variable_text variable ≡ name

name_at : (xs : List FlatVariable) (name : Line) → Decided (NameAt xs name)
name_at [] name = inr (λ h. never h.variable h.is_variable)
name_at (x ∷ xs) name = by_test (same_or_not (variable_text x) name) (name_at xs name)
  where
    some_same : {A : Type 0} (x y : A) → Some x ≡ Some y → x ≡ y
    some_same x y e = cc

    refuted : (variable_text x ≡ name → ⊥) → (NameAt xs name → ⊥) → (i : ℕ) (y : FlatVariable) → slice_get (x ∷ xs) i ≡ Some y → variable_text y ≡ name → ⊥
    refuted n more zero y e f = n (ap variable_text (some_same x y e) ∙ f)
    refuted n more (suc i) y e f = more (record { place = i; variable = y; is_variable = e; is_name = f })

    by_test : Decided (variable_text x ≡ name) → Decided (NameAt xs name) → Decided (NameAt (x ∷ xs) name)
    by_test (inl e) more = inl (record { place = 0; variable = x; is_variable = refl; is_name = e })
    by_test (inr n) (inl h) = inl (record { place = suc h.place; variable = h.variable; is_variable = h.is_variable; is_name = h.is_name })
    by_test (inr n) (inr more) = inr (λ h. refuted n more h.place h.variable h.is_variable h.is_name)

is_name : (m : FlatModel) (name : Line) → Decided (IsNameIn m name)
is_name m name = by_test (name_at m.variables name)
  where
    by_test : Decided (NameAt m.variables name) → Decided (IsNameIn m name)
    by_test (inl h) = inl (record { place = h.place; variable = h.variable; is_variable = h.is_variable; is_name = h.is_name })
    by_test (inr n) = inr (λ h. n (record { place = h.place; variable = h.variable; is_variable = h.is_variable; is_name = h.is_name }))

-- Values.
-- the number that is written so, if any is
abbrev signed_by : Bool → ℕ → List ℕ → ℤ
signed_by true b bs = negsuc (digits_value 10 bs - 1)
signed_by false b bs = pos (digits_value 10 (b ∷ bs))

abbrev number_of_text : List ℕ → ℤ
number_of_text [] = pos 0
number_of_text (b ∷ bs) = signed_by (nat_eq b 45) b bs

number_again : (n : ℤ) → IsEnd n → number_of_text (signed_decimal n) ≡ n
number_again (pos n) h = by_text (decimal n) (decimal_digits n) (decimal_is_IsNumeral n (omega (arith, h))).1
  where
    differ : (b : ℕ) → 48 ≤ b → nat_eq b 45 ≡ false
    differ b h = grind (arith, nat_tests)

    by_text : (ds : List ℕ) → AllByRecursion (λ d. (48 ≤ d) × (d < 58)) ds → digits_value 10 ds ≡ n → number_of_text ds ≡ pos n
    by_text [] g e = ap pos e
    by_text (d ∷ ds) g e = ap (λ t. signed_by t d ds) (differ d g.0.0) ∙ ap pos e
number_again (negsuc n) h = let v : digits_value 10 (decimal (suc n)) ≡ suc n = (decimal_is_IsNumeral (suc n) (omega (arith, h))).1 in ap (λ k. negsuc (k - 1)) v ∙ ap negsuc (omega arith)

-- a value of the type has this text
abbrev HasText : DeclaredTree → Line → Type 0
HasText d text = (w : Value) × IsTrue (in_domain d w) × (value_text w ≡ text)

one_value : (d : DeclaredTree) (text : Line) (w : Value) → HasText d text ⊎ ((IsTrue (in_domain d w) × (value_text w ≡ text)) → ⊥)
one_value d text w = by_tests (true_or_not (in_domain d w)) (same_or_not (value_text w) text)
  where
    by_tests : Decided (in_domain d w ≡ true) → Decided (value_text w ≡ text) → HasText d text ⊎ ((IsTrue (in_domain d w) × (value_text w ≡ text)) → ⊥)
    by_tests (inl a) (inl b) = inl (w, a, b)
    by_tests (inl a) (inr n) = inr (λ h. n h.1)
    by_tests (inr n) c = inr (λ h. n h.0)

pub has_text : (d : DeclaredTree) → IsWritableType d → (text : Line) → Decided (HasText d text)
has_text d t text = by_tests (one_value d text (truth true)) (one_value d text (truth false)) (one_value d text (number (number_of_text text))) (one_value d text (symbol text))
  where
    none : ((IsTrue (in_domain d (truth true)) × (value_text (truth true) ≡ text)) → ⊥) → ((IsTrue (in_domain d (truth false)) × (value_text (truth false) ≡ text)) → ⊥) →
        ((IsTrue (in_domain d (number (number_of_text text))) × (value_text (number (number_of_text text)) ≡ text)) → ⊥) → ((IsTrue (in_domain d (symbol text)) × (value_text (symbol text) ≡ text)) → ⊥) →
        (w : Value) → IsTrue (in_domain d w) → value_text w ≡ text → ⊥
    none a b c s (truth true) i e = a (i, e)
    none a b c s (truth false) i e = b (i, e)
    none a b c s (number n) i e =
        let same : number_of_text text ≡ n = ap number_of_text (sym e) ∙ number_again n (domain_plain d (number n) t i) in
        c (subst (λ k. IsTrue (in_domain d (number k))) (sym same) i, ap (λ k. value_text (number k)) same ∙ e)
    none a b c s (symbol x) i e = s (subst (λ y. IsTrue (in_domain d (symbol y))) e i, refl)

    by_tests : HasText d text ⊎ ((IsTrue (in_domain d (truth true)) × (value_text (truth true) ≡ text)) → ⊥) → HasText d text ⊎ ((IsTrue (in_domain d (truth false)) × (value_text (truth false) ≡ text)) → ⊥) →
        HasText d text ⊎ ((IsTrue (in_domain d (number (number_of_text text))) × (value_text (number (number_of_text text)) ≡ text)) → ⊥) → HasText d text ⊎ ((IsTrue (in_domain d (symbol text)) × (value_text (symbol text) ≡ text)) → ⊥) → Decided (HasText d text)
    by_tests (inl h) b c s = inl h
    by_tests (inr a) (inl h) c s = inl h
    by_tests (inr a) (inr b) (inl h) s = inl h
    by_tests (inr a) (inr b) (inr c) (inl h) = inl h
    by_tests (inr a) (inr b) (inr c) (inr s) = inr (λ h. none a b c s h.0 h.1 h.2)

-- Names that were said.
pub record SaidIn (start lines : List Line) (name : Line) (k : ℕ) : Type 0 where
  pub earlier : List Line
  pub value : Line
  pub later : List Line
  pub lie : lines ≡ earlier ++ equation name value ∷ later
  pub there : moments_after 0 (start ++ earlier) ≡ k

pub said_in : (start lines : List Line) (name : Line) (k : ℕ) → Decided (SaidIn start lines name k)
said_in start [] name k = inr (λ h. nothing h.earlier (equation name h.value) h.later h.lie)
  where
    nothing : (xs : List Line) (x : Line) (ys : List Line) → [] ≡ xs ++ x ∷ ys → ⊥
    nothing [] x ys e = no_items x ys [] refl e
    nothing (z ∷ xs) x ys e = no_items z (xs ++ x ∷ ys) [] refl e
said_in start (l ∷ lines) name k = by_tests (after_prefix (name ++ 32 ∷ 61 ∷ 32 ∷ []) l) (number_or_not (moments_after 0 start) k) (said_in (start ++ l ∷ []) lines name k)
  where
    bare : (xs : List Line) → xs ++ [] ≡ xs
    bare [] = refl
    bare (x ∷ xs) = ap (λ ys. x ∷ ys) (bare xs)

    as_equation : (value : Line) → (name ++ 32 ∷ 61 ∷ 32 ∷ []) ++ value ≡ equation name value
    as_equation value = append_assoc name (32 ∷ 61 ∷ 32 ∷ []) value

    -- not here, so later
    later_one : (((value : Line) × (l ≡ equation name value) × (moments_after 0 start ≡ k)) → ⊥) → (SaidIn (start ++ l ∷ []) lines name k → ⊥) →
        (earlier : List Line) (value : Line) (later : List Line) → (l ∷ lines) ≡ earlier ++ equation name value ∷ later → moments_after 0 (start ++ earlier) ≡ k → ⊥
    later_one n more [] value later e t = n (value, head_of l (equation name value) lines later e, ap (moments_after 0) (sym (bare start)) ∙ t)
    later_one n more (x ∷ earlier) value later e t =
        more (record {
          earlier = earlier;
          value = value;
          later = later;
          lie = tail_of l x lines (earlier ++ equation name value ∷ later) e;
          there = ap (moments_after 0) (append_assoc start (l ∷ []) earlier ∙ ap (λ z. start ++ z ∷ earlier) (head_of l x lines (earlier ++ equation name value ∷ later) e)) ∙ t;
        })

    by_more : (((value : Line) × (l ≡ equation name value) × (moments_after 0 start ≡ k)) → ⊥) → Decided (SaidIn (start ++ l ∷ []) lines name k) → Decided (SaidIn start (l ∷ lines) name k)
    by_more n (inl h) =
        inl (record { earlier = l ∷ h.earlier; value = h.value; later = h.later; lie = ap (λ ls. l ∷ ls) h.lie; there = ap (moments_after 0) (sym (append_assoc start (l ∷ []) h.earlier)) ∙ h.there })
    by_more n (inr more) = inr (λ h. later_one n more h.earlier h.value h.later h.lie h.there)

    by_tests : Decided ((rest : Line) × (l ≡ (name ++ 32 ∷ 61 ∷ 32 ∷ []) ++ rest)) → Decided (moments_after 0 start ≡ k) → Decided (SaidIn (start ++ l ∷ []) lines name k) → Decided (SaidIn start (l ∷ lines) name k)
    by_tests (inl p) (inl t) more =
        inl (record { earlier = []; value = p.0; later = lines; lie = ap (λ x. x ∷ lines) (p.1 ∙ as_equation p.0); there = ap (moments_after 0) (bare start) ∙ t })
    by_tests (inl p) (inr n) more = by_more (λ h. n h.2) more
    by_tests (inr n) t more = by_more (λ h. n (h.0, h.1 ∙ sym (as_equation h.0))) more

was_said : (before : List Line) (name : Line) → Decided (WasSaid before name)
was_said before name = by_test (said_in [] before name (moments_after 0 before))
  where
    by_test : Decided (SaidIn [] before name (moments_after 0 before)) → Decided (WasSaid before name)
    by_test (inl h) = inl (record { earlier = h.earlier; value = h.value; later = h.later; lie = h.lie; same_moment = h.there })
    by_test (inr n) = inr (λ h. n (record { earlier = h.earlier; value = h.value; later = h.later; lie = h.lie; there = h.same_moment }))

-- A line after others: it is empty, begins the next moment, or says a value that was not said.
pub data LineIs (m : FlatModel) (done : List Line) (line : Line) : Type 0 where
  bare : line ≡ [] → LineIs m done line
  begins : line ≡ moment_line (moments_after 0 done) → LineIs m done line
  says : (i : ℕ) (x : FlatVariable) (w : Value) → slice_get m.variables i ≡ Some x → IsTrue (in_domain x.declared w) → line ≡ value_line x w → 0 < moments_after 0 done →
      (WasSaid done (variable_text x) → ⊥) → LineIs m done line

pub number_least : (f : LineFault) → 1 ≤ number_of f
number_least bad_line = omega arith
number_least unknown_name = omega arith
number_least outside = omega arith
number_least twice = omega arith

pub line_sound : (m : FlatModel) → IsPrintable m → (done : List Line) (line : Line) → LineIs m done line → (f : LineFault) → Breaks m done line f → ⊥
line_sound m p done line (bare e) f b = empty_breaks m done f (subst (λ l. Breaks m done l f) e b)
line_sound m p done line (begins e) f b = moment_sound m done (moments_after 0 done) refl f (subst (λ l. Breaks m done l f) e b)
line_sound m p done line (says i x w at inside is some new) f b = by_fault f b
  where
    word : IsLineWord (variable_text x)
    word = p.words i x at

    plain : IsPlain w
    plain = domain_plain x.declared w (p.types i x at) inside

    names : (name value : Line) → IsEquation name value line → (name ≡ variable_text x) × (value ≡ value_text w)
    names name value q = same_equation name value (variable_text x) (value_text w) q.name_word word (sym q.is_line ∙ is)

    by_fault : (f : LineFault) → Breaks m done line f → ⊥
    by_fault bad_line b = let none : moments_after 0 done ≡ 0 = b.2 (variable_text x) (value_text w) (record { name_word = word; value_word = value_word w plain; is_line = is }) in omega (arith, none, some)
    by_fault unknown_name b = b.3 (record { place = i; variable = x; is_variable = at; is_name = sym (names b.0 b.1 b.2).0 })
    by_fault outside b =
        let its : (b.0 ≡ variable_text x) × (b.1 ≡ value_text w) = names b.0 b.1 b.2 in
        let place : b.3.place ≡ i = p.apart b.3.place i b.3.variable x b.3.is_variable at (b.3.is_name ∙ its.0) in
        let same : b.3.variable ≡ x = some_same b.3.variable x (sym b.3.is_variable ∙ ap (slice_get m.variables) place ∙ at) in
        b.4 w (subst (λ y. IsTrue (in_domain y.declared w)) (sym same) inside) (sym its.1)
    by_fault twice b = new (subst (WasSaid done) (names b.0 b.1 b.2).0 b.3)

pub judge_line : (m : FlatModel) → IsPrintable m → (done : List Line) (line : Line) → IsLine line → LineIs m done line ⊎ ((f : LineFault) × IsLeast m done line f)
judge_line m p done line l = by_bare (same_or_not line [])
  where
    by_said : (name value : Line) → IsEquation name value line → 0 < moments_after 0 done → (x : IsNameIn m name) → HasText x.variable.declared value → Decided (WasSaid done name) → LineIs m done line ⊎ ((f : LineFault) × IsLeast m done line f)
    by_said name value q some x h (inl s) = inr (twice, record { breaks = (name, value, q, s); least = least })
      where
        same_name : (n v : Line) → IsEquation n v line → (name ≡ n) × (value ≡ v)
        same_name n v r = same_equation name value n v q.name_word r.name_word (sym q.is_line ∙ r.is_line)

        least : (g : LineFault) → Breaks m done line g → 5 ≤ number_of g
        least bad_line b = let none : moments_after 0 done ≡ 0 = b.2 name value q in absurd (omega (arith, none, some))
        least unknown_name b = absurd (b.3 (record { place = x.place; variable = x.variable; is_variable = x.is_variable; is_name = x.is_name ∙ (same_name b.0 b.1 b.2).0 }))
        least outside b =
            let its : (name ≡ b.0) × (value ≡ b.1) = same_name b.0 b.1 b.2 in
            let place : x.place ≡ b.3.place = p.apart x.place b.3.place x.variable b.3.variable x.is_variable b.3.is_variable (x.is_name ∙ its.0 ∙ sym b.3.is_name) in
            let same : x.variable ≡ b.3.variable = some_same x.variable b.3.variable (sym x.is_variable ∙ ap (slice_get m.variables) place ∙ b.3.is_variable) in
            absurd (b.4 h.0 (subst (λ y. IsTrue (in_domain y.declared h.0)) same h.1) (h.2 ∙ its.1))
        least twice b = omega arith
    by_said name value q some x h (inr new) =
        inl (says x.place x.variable h.0 x.is_variable h.1 (q.is_line ∙ ap (λ n. equation n value) (sym x.is_name) ∙ ap (equation (variable_text x.variable)) (sym h.2)) some (λ s. new (subst (WasSaid done) x.is_name s)))

    by_value : (name value : Line) → IsEquation name value line → 0 < moments_after 0 done → (x : IsNameIn m name) → Decided (HasText x.variable.declared value) → LineIs m done line ⊎ ((f : LineFault) × IsLeast m done line f)
    by_value name value q some x (inl h) = by_said name value q some x h (was_said done name)
    by_value name value q some x (inr n) = inr (outside, record { breaks = (name, value, q, x, λ w i e. n (w, i, e)); least = least })
      where
        same_name : (n v : Line) → IsEquation n v line → (name ≡ n) × (value ≡ v)
        same_name n v r = same_equation name value n v q.name_word r.name_word (sym q.is_line ∙ r.is_line)

        least : (g : LineFault) → Breaks m done line g → 3 ≤ number_of g
        least bad_line b = let none : moments_after 0 done ≡ 0 = b.2 name value q in absurd (omega (arith, none, some))
        least unknown_name b = absurd (b.3 (record { place = x.place; variable = x.variable; is_variable = x.is_variable; is_name = x.is_name ∙ (same_name b.0 b.1 b.2).0 }))
        least outside b = omega arith
        least twice b = omega arith

    by_name : (name value : Line) → IsEquation name value line → 0 < moments_after 0 done → Decided (IsNameIn m name) → LineIs m done line ⊎ ((f : LineFault) × IsLeast m done line f)
    by_name name value q some (inl x) = by_value name value q some x (has_text x.variable.declared (p.types x.place x.variable x.is_variable) value)
    by_name name value q some (inr n) = inr (unknown_name, record { breaks = (name, value, q, n); least = least })
      where
        least : (g : LineFault) → Breaks m done line g → 2 ≤ number_of g
        least bad_line b = let none : moments_after 0 done ≡ 0 = b.2 name value q in absurd (omega (arith, none, some))
        least unknown_name b = omega arith
        least outside b = omega arith
        least twice b = omega arith

    bad : Breaks m done line bad_line → LineIs m done line ⊎ ((f : LineFault) × IsLeast m done line f)
    bad b = inr (bad_line, record { breaks = b; least = λ g c. number_least g })

    by_count : (line ≢ []) → (line ≢ moment_line (moments_after 0 done)) → (name value : Line) → IsEquation name value line → Decided (moments_after 0 done ≡ 0) → LineIs m done line ⊎ ((f : LineFault) × IsLeast m done line f)
    by_count a b name value q (inl none) = bad (a, b, λ n v r. none)
    by_count a b name value q (inr n) = by_name name value q (positive (moments_after 0 done) n) (is_name m name)
      where
        positive : (k : ℕ) → (k ≡ 0 → ⊥) → 0 < k
        positive zero h = absurd (h refl)
        positive (suc k) h = omega arith

    by_equation : (line ≢ []) → (line ≢ moment_line (moments_after 0 done)) → ((name : Line) × (value : Line) × IsEquation name value line) ⊎ ((name value : Line) → IsEquation name value line → ⊥) → LineIs m done line ⊎ ((f : LineFault) × IsLeast m done line f)
    by_equation a b (inl q) = by_count a b q.0 q.1 q.2 (number_or_not (moments_after 0 done) 0)
    by_equation a b (inr none) = bad (a, b, λ n v r. absurd (none n v r))

    by_moment : (line ≢ []) → Decided (line ≡ moment_line (moments_after 0 done)) → LineIs m done line ⊎ ((f : LineFault) × IsLeast m done line f)
    by_moment a (inl e) = inl (begins e)
    by_moment a (inr b) = by_equation a b (is_equation line l)

    by_bare : Decided (line ≡ []) → LineIs m done line ⊎ ((f : LineFault) × IsLeast m done line f)
    by_bare (inl e) = inl (bare e)
    by_bare (inr n) = by_moment n (same_or_not line (moment_line (moments_after 0 done)))

-- Lines, each after those before it.
abbrev pub AllAre : FlatModel → List Line → List Line → Type 0
AllAre m done [] = Unit {0}
AllAre m done (line ∷ lines) = LineIs m done line × AllAre m (done ++ line ∷ []) lines

-- the first that is not sound
pub record Stops (m : FlatModel) (done lines : List Line) : Type 0 where
  pub front : List Line
  pub line : Line
  pub back : List Line
  pub lie : lines ≡ front ++ line ∷ back
  pub are : AllAre m done front
  pub fault : LineFault
  pub is_least : IsLeast m (done ++ front) line fault
