-- A text gives a trace, or something is wrong first with it.
use Rattle.std.proofs.Common.{◌≡◌, ◌≢◌, ◌⊎◌, inl, inr, ℕ, zero, suc, ◌<◌, ◌≤◌, Bool, true, false, nat_eq, List, [], ◌∷◌, ◌++◌, length, refl, sym, ◌∙◌, ap, subst, arith, append_assoc, Some, length-append, eqb-true, ◌+◌}
use Rattle.std.proofs.lemmas.Bool.Decides.{nat_tests}
use Rattle.std.specs.Prelude.{slice_get, IsTrue}
use Rattle.std.specs.List.{AllByRecursion}
use Rattle.smv_language.specs.Language.{Value, value_text, in_domain, FlatVariable, FlatModel}
use Rattle.smv_flat_laws.specs.FlatTrace.{AreInDomains}
use Rattle.cut_text_laws.specs.Lines.{Line, fed, IsLine}
use Rattle.cut_text_laws.specs.TraceText.{variable_text, moment_line, equation, value_line}
use Rattle.cut_text_laws.specs.TraceOfText.{IsLineWord, IsPrintable, SaysOf, StandsOnce, GivesMoment, GivesMoments, BytesGive}
use Rattle.cut_text_laws.specs.TraceFaults.{LineFault, bad_line, moments_after, WasSaid, IsWrongLine, Lacks, TraceFault, wrong_line, missing_value, IsFirstFault}
use Rattle.cut_text_laws.specs.Laws.{EachTextIsJudged}
use Rattle.cut_text_laws.proofs.OneTrace.{HasNoMoment, no_items, some_moment, no_moment, same_equation, equation_some}
use Rattle.cut_text_laws.proofs.Moments.{next_begins, after_both, none_begins, no_fewer, front_fewer}
use Rattle.cut_text_laws.proofs.LineJudged.{Decided, LineIs, bare, begins, says, AllAre, SaidIn, said_in}
use Rattle.cut_text_laws.proofs.LinesJudged.{all_sound, text_lines}
use Rattle.cut_text_laws.proofs.GivenHasNone.{value_there, fewer_before}
use Rattle.std.proofs.lemmas.List.{append-nil as append_none}
use Rattle.std.proofs.lemmas.Option.{same_Some as some_same, none-some as never}
use Rattle.cut_text_laws.proofs.Separators.{head_of, tail_of, both_of}

-- The first moment in which a variable has no value.
lacks_at : (m : FlatModel) (lines : List Line) (k : ℕ) → Lacks m lines k ⊎ ((i : ℕ) (x : FlatVariable) → slice_get m.variables i ≡ Some x → SaidIn [] lines (variable_text x) (suc k))
lacks_at m lines k = go m.variables (λ i x e. (i, e))
  where
    go : (xs : List FlatVariable) → ((i : ℕ) (x : FlatVariable) → slice_get xs i ≡ Some x → (j : ℕ) × (slice_get m.variables j ≡ Some x)) → Lacks m lines k ⊎ ((i : ℕ) (x : FlatVariable) → slice_get xs i ≡ Some x → SaidIn [] lines (variable_text x) (suc k))
    go [] h = inr (λ i x e. absurd (never x e))
    go (y ∷ xs) h = by_tests (said_in [] lines (variable_text y) (suc k)) (go xs (λ i x e. h (suc i) x e))
      where
        all : SaidIn [] lines (variable_text y) (suc k) → ((i : ℕ) (x : FlatVariable) → slice_get xs i ≡ Some x → SaidIn [] lines (variable_text x) (suc k)) →
            (i : ℕ) (x : FlatVariable) → slice_get (y ∷ xs) i ≡ Some x → SaidIn [] lines (variable_text x) (suc k)
        all s more zero x e = subst (λ z. SaidIn [] lines (variable_text z) (suc k)) (some_same y x e) s
        all s more (suc i) x e = more i x e

        by_tests : Decided (SaidIn [] lines (variable_text y) (suc k)) → Lacks m lines k ⊎ ((i : ℕ) (x : FlatVariable) → slice_get xs i ≡ Some x → SaidIn [] lines (variable_text x) (suc k)) →
            Lacks m lines k ⊎ ((i : ℕ) (x : FlatVariable) → slice_get (y ∷ xs) i ≡ Some x → SaidIn [] lines (variable_text x) (suc k))
        by_tests (inr n) more =
            let at : (j : ℕ) × (slice_get m.variables j ≡ Some y) = h 0 y refl in
            inl (record { place = at.0; variable = y; is_variable = at.1; elsewhere = λ before value after lie there. n (record { earlier = before; value = value; later = after; lie = lie; there = there }) })
        by_tests (inl s) (inl l) = inl l
        by_tests (inl s) (inr more) = inr (all s more)

-- the moments of those before this number have all values
abbrev HasAll : FlatModel → List Line → ℕ → Type 0
HasAll m lines count = (k : ℕ) → k < count → (i : ℕ) (x : FlatVariable) → slice_get m.variables i ≡ Some x → SaidIn [] lines (variable_text x) (suc k)

not_lacking : (m : FlatModel) (lines : List Line) (k : ℕ) → ((i : ℕ) (x : FlatVariable) → slice_get m.variables i ≡ Some x → SaidIn [] lines (variable_text x) (suc k)) → Lacks m lines k → ⊥
not_lacking m lines k all l = let s : SaidIn [] lines (variable_text l.variable) (suc k) = all l.place l.variable l.is_variable in l.elsewhere s.earlier s.value s.later s.lie s.there

first_lack : (m : FlatModel) (lines : List Line) (count : ℕ) → ((k : ℕ) × (k < count) × Lacks m lines k × ((j : ℕ) → j < k → Lacks m lines j → ⊥)) ⊎ HasAll m lines count
first_lack m lines zero = inr (λ k h. absurd (omega (arith, h)))
first_lack m lines (suc c) = by_tests (first_lack m lines c) (lacks_at m lines c)
  where
    last : (k : ℕ) → k < suc c → (k < c) ⊎ (k ≡ c)
    last k h = by_test (nat_eq k c) refl
      where
        by_test : (b : Bool) → nat_eq k c ≡ b → (k < c) ⊎ (k ≡ c)
        by_test true e = inr (eqb-true k c e)
        by_test false e = inl (grind (arith, nat_tests))

    all : HasAll m lines c → ((i : ℕ) (x : FlatVariable) → slice_get m.variables i ≡ Some x → SaidIn [] lines (variable_text x) (suc c)) → (k : ℕ) → (k < c) ⊎ (k ≡ c) →
        (i : ℕ) (x : FlatVariable) → slice_get m.variables i ≡ Some x → SaidIn [] lines (variable_text x) (suc k)
    all before here k (inl h) i x e = before k h i x e
    all before here k (inr s) i x e = subst (λ j. SaidIn [] lines (variable_text x) (suc j)) (sym s) (here i x e)

    by_tests : ((k : ℕ) × (k < c) × Lacks m lines k × ((j : ℕ) → j < k → Lacks m lines j → ⊥)) ⊎ HasAll m lines c → Lacks m lines c ⊎ ((i : ℕ) (x : FlatVariable) → slice_get m.variables i ≡ Some x → SaidIn [] lines (variable_text x) (suc c)) →
        ((k : ℕ) × (k < suc c) × Lacks m lines k × ((j : ℕ) → j < k → Lacks m lines j → ⊥)) ⊎ HasAll m lines (suc c)
    by_tests (inl h) here = inl (h.0, omega (arith, h.1), h.2, h.3)
    by_tests (inr before) (inl l) = inl (c, omega arith, l, λ j h. not_lacking m lines j (before j h))
    by_tests (inr before) (inr here) = inr (λ k h. all before here k (last k h))

-- The lines up to the next moment.
pub record Own (m : FlatModel) (start lines : List Line) : Type 0 where
  pub own : List Line
  pub rest : List Line
  pub lie : lines ≡ own ++ rest
  pub own_are : AllAre m start own
  pub rest_are : AllAre m (start ++ own) rest
  pub quiet : HasNoMoment own
  pub at : (rest ≡ []) ⊎ ((more : List Line) × (rest ≡ moment_line (moments_after 0 (start ++ own)) ∷ more))

pub cut_own : (m : FlatModel) → IsPrintable m → (start lines : List Line) → AllAre m start lines → Own m start lines
cut_own m p start [] h = record { own = []; rest = []; lie = refl; own_are = tt; rest_are = tt; quiet = tt; at = inl refl }
cut_own m p start (l ∷ lines) h = by_line h.0 (cut_own m p (start ++ l ∷ []) lines h.1)
  where
    longer : LineIs m start l → ((n : ℕ) → l ≢ moment_line n) → Own m (start ++ l ∷ []) lines → Own m start (l ∷ lines)
    longer is apart o =
        let same : (start ++ l ∷ []) ++ o.own ≡ start ++ l ∷ o.own = append_assoc start (l ∷ []) o.own in
        record {
          own = l ∷ o.own;
          rest = o.rest;
          lie = ap (λ ls. l ∷ ls) o.lie;
          own_are = (is, o.own_are);
          rest_are = subst (λ d. AllAre m d o.rest) same o.rest_are;
          quiet = (apart, o.quiet);
          at = subst (λ d. (o.rest ≡ []) ⊎ ((more : List Line) × (o.rest ≡ moment_line (moments_after 0 d) ∷ more))) same o.at;
        }

    by_line : LineIs m start l → Own m (start ++ l ∷ []) lines → Own m start (l ∷ lines)
    by_line (begins e) o = record {
      own = [];
      rest = l ∷ lines;
      lie = refl;
      own_are = tt;
      rest_are = subst (λ d. AllAre m d (l ∷ lines)) (sym (append_none start)) h;
      quiet = tt;
      at = inr (lines, ap (λ x. x ∷ lines) (e ∙ ap (λ d. moment_line (moments_after 0 d)) (sym (append_none start))));
    }
    by_line (bare e) o = longer (bare e) (λ n f. some_moment n (sym f ∙ e)) o
    by_line (says i x w at inside is some new) o = longer (says i x w at inside is some new) (λ n f. no_moment (variable_text x) (value_text w) n (p.words i x at) (sym is ∙ f)) o

line_at : (m : FlatModel) (start own front : List Line) (l : Line) (back : List Line) → AllAre m start own → own ≡ front ++ l ∷ back → LineIs m (start ++ front) l
line_at m start [] [] l back h e = absurd (no_items l back [] refl e)
line_at m start [] (y ∷ front) l back h e = absurd (no_items y (front ++ l ∷ back) [] refl e)
line_at m start (x ∷ own) [] l back h e = subst (λ d. LineIs m d l) (sym (append_none start)) (subst (LineIs m start) (head_of x l own back e) h.0)
line_at m start (x ∷ own) (y ∷ front) l back h e =
    subst (λ d. LineIs m d l) (append_assoc start (x ∷ []) front ∙ ap (λ z. start ++ z ∷ front) (head_of x y own (front ++ l ∷ back) e))
    (line_at m (start ++ x ∷ []) own front l back h.1 (tail_of x y own (front ++ l ∷ back) e))

all_from : {A : Type 0} (P : A → Type 0) (xs : List A) → ((front : List A) (x : A) (back : List A) → xs ≡ front ++ x ∷ back → P x) → AllByRecursion P xs
all_from P [] h = tt
all_from P (x ∷ xs) h = (h [] x xs refl, all_from P xs (λ front y back e. h (x ∷ front) y back (ap (λ ys. x ∷ ys) e)))

-- two lines of a list are the same place, or one stands before the other
three : (own a b c d : List Line) (s t : Line) → own ≡ a ++ s ∷ b → own ≡ c ++ t ∷ d → (s ≡ t) ⊎ (((ys : List Line) × (own ≡ a ++ s ∷ (ys ++ t ∷ d))) ⊎ ((ys : List Line) × (own ≡ c ++ t ∷ (ys ++ s ∷ b))))
three own [] b [] d s t e f = inl (head_of s t b d (sym e ∙ f))
three own [] b (y ∷ c) d s t e f = inr (inl (c, e ∙ ap (λ ls. s ∷ ls) (tail_of s y b (c ++ t ∷ d) (sym e ∙ f))))
three own (x ∷ a) b [] d s t e f = inr (inr (a, f ∙ ap (λ ls. t ∷ ls) (tail_of t x d (a ++ s ∷ b) (sym f ∙ e))))
three own (x ∷ a) b (y ∷ c) d s t e f = by_side (three (a ++ s ∷ b) a b c d s t refl (tail_of x y (a ++ s ∷ b) (c ++ t ∷ d) (sym e ∙ f)))
  where
    first : x ≡ y
    first = head_of x y (a ++ s ∷ b) (c ++ t ∷ d) (sym e ∙ f)

    by_side : (s ≡ t) ⊎ (((ys : List Line) × (a ++ s ∷ b ≡ a ++ s ∷ (ys ++ t ∷ d))) ⊎ ((ys : List Line) × (a ++ s ∷ b ≡ c ++ t ∷ (ys ++ s ∷ b)))) →
        (s ≡ t) ⊎ (((ys : List Line) × (own ≡ (x ∷ a) ++ s ∷ (ys ++ t ∷ d))) ⊎ ((ys : List Line) × (own ≡ (y ∷ c) ++ t ∷ (ys ++ s ∷ b))))
    by_side (inl h) = inl h
    by_side (inr (inl h)) = inr (inl (h.0, e ∙ ap (λ ls. x ∷ ls) h.1))
    by_side (inr (inr h)) = inr (inr (h.0, e ∙ both_of x y (a ++ s ∷ b) (c ++ t ∷ (h.0 ++ s ∷ b)) first h.1))

-- the line of a variable's value stands among the lines
record Stands (own : List Line) (x : FlatVariable) : Type 0 where
  value : Value
  inside : IsTrue (in_domain x.declared value)
  before : List Line
  after : List Line
  lie : own ≡ before ++ value_line x value ∷ after

pub record Valued (own : List Line) (xs : List FlatVariable) : Type 0 where
  pub values : List Value
  pub domains : AreInDomains xs values
  pub lies : (i : ℕ) (x : FlatVariable) (w : Value) → slice_get xs i ≡ Some x → slice_get values i ≡ Some w → (before : List Line) × (after : List Line) × (own ≡ before ++ value_line x w ∷ after)

valued : (own : List Line) (xs : List FlatVariable) → ((i : ℕ) (x : FlatVariable) → slice_get xs i ≡ Some x → Stands own x) → Valued own xs
valued own [] h = record { values = []; domains = tt; lies = λ i x w e. absurd (never x e) }
valued own (y ∷ xs) h = joined (h 0 y refl) (valued own xs (λ i. h (suc i)))
  where
    at : (s : Stands own y) (v : Valued own xs) (i : ℕ) (x : FlatVariable) (w : Value) → slice_get (y ∷ xs) i ≡ Some x → slice_get (s.value ∷ v.values) i ≡ Some w → (before : List Line) × (after : List Line) × (own ≡ before ++ value_line x w ∷ after)
    at s v zero x w e f = (s.before, s.after, s.lie ∙ ap (λ z. s.before ++ value_line z s.value ∷ s.after) (some_same y x e) ∙ ap (λ u. s.before ++ value_line x u ∷ s.after) (some_same s.value w f))
    at s v (suc i) x w e f = v.lies i x w e f

    joined : Stands own y → Valued own xs → Valued own (y ∷ xs)
    joined s v = record { values = s.value ∷ v.values; domains = (s.inside, v.domains); lies = at s v }

-- A moment: its lines are as they should be and each variable has a line among them.
no_two : (m : FlatModel) → IsPrintable m → (start own : List Line) (n : ℕ) → moments_after 0 start ≡ suc n → AllAre m start own → HasNoMoment own → (name a b : Line) → IsLineWord name →
    (xs ys zs : List Line) → own ≡ xs ++ equation name a ∷ (ys ++ equation name b ∷ zs) → ⊥
no_two m p start own n count are quiet name a b word xs ys zs e = by_line (line_at m start own (xs ++ equation name a ∷ ys) (equation name b) zs are whole)
  where
    whole : own ≡ (xs ++ equation name a ∷ ys) ++ equation name b ∷ zs
    whole = e ∙ sym (append_assoc xs (equation name a ∷ ys) (equation name b ∷ zs))

    all_front : (ls ks : List Line) → HasNoMoment (ls ++ ks) → HasNoMoment ls
    all_front [] ks h = tt
    all_front (l ∷ ls) ks h = (h.0, all_front ls ks h.1)

    counted : (ls ks : List Line) → own ≡ ls ++ ks → moments_after 0 (start ++ ls) ≡ suc n
    counted ls ks f = after_both 0 start ls ∙ ap (λ k. moments_after k ls) count ∙ none_begins (suc n) ls (all_front ls ks (subst HasNoMoment f quiet))

    by_line : LineIs m (start ++ (xs ++ equation name a ∷ ys)) (equation name b) → ⊥
    by_line (bare f) = equation_some name b f
    by_line (begins f) = no_moment name b (moments_after 0 (start ++ (xs ++ equation name a ∷ ys))) word f
    by_line (says i x w at inside is some new) =
        let names : (name ≡ variable_text x) × (b ≡ value_text w) = same_equation name b (variable_text x) (value_text w) word (p.words i x at) is in
        new (subst (WasSaid (start ++ (xs ++ equation name a ∷ ys))) names.0 (record {
          earlier = start ++ xs;
          value = a;
          later = ys;
          lie = sym (append_assoc start xs (equation name a ∷ ys));
          same_moment = counted xs (equation name a ∷ (ys ++ equation name b ∷ zs)) e ∙ sym (counted (xs ++ equation name a ∷ ys) (equation name b ∷ zs) whole);
        }))

pub moment_given : (m : FlatModel) → IsPrintable m → (start own : List Line) (n : ℕ) → moments_after 0 start ≡ suc n → AllAre m start own → HasNoMoment own → (v : Valued own m.variables) → GivesMoment m own v.values
moment_given m p start own n count are quiet v = record { domains = v.domains; each = all_from (λ line. (line ≡ []) ⊎ SaysOf m v.values line) own each; once = once }
  where
    each : (front : List Line) (line : Line) (back : List Line) → own ≡ front ++ line ∷ back → (line ≡ []) ⊎ SaysOf m v.values line
    each front line back e = by_line (line_at m start own front line back are e)
      where
        all_at : (xs : List Line) (x : Line) (ys : List Line) → HasNoMoment (xs ++ x ∷ ys) → (k : ℕ) → x ≢ moment_line k
        all_at [] x ys h = h.0
        all_at (y ∷ xs) x ys h = all_at xs x ys h.1

        by_value : (i : ℕ) (x : FlatVariable) (u : Value) → slice_get m.variables i ≡ Some x → line ≡ value_line x u → (w : Value) → slice_get v.values i ≡ Some w →
            ((before : List Line) × (after : List Line) × (own ≡ before ++ value_line x w ∷ after)) → SaysOf m v.values line
        by_value i x u at is w f l = by_side (three own front back l.0 l.1 line (value_line x w) e l.2)
          where
            by_side : (line ≡ value_line x w) ⊎ (((ys : List Line) × (own ≡ front ++ line ∷ (ys ++ value_line x w ∷ l.1))) ⊎ ((ys : List Line) × (own ≡ l.0 ++ value_line x w ∷ (ys ++ line ∷ back)))) → SaysOf m v.values line
            by_side (inl same) = record { place = i; variable = x; value = w; is_variable = at; is_value = f; is_line = same }
            by_side (inr (inl h)) =
                absurd (no_two m p start own n count are quiet (variable_text x) (value_text u) (value_text w) (p.words i x at) front h.0 l.1 (h.1 ∙ ap (λ k. front ++ k ∷ (h.0 ++ value_line x w ∷ l.1)) is))
            by_side (inr (inr h)) =
                absurd (no_two m p start own n count are quiet (variable_text x) (value_text w) (value_text u) (p.words i x at) l.0 h.0 back (h.1 ∙ ap (λ k. l.0 ++ value_line x w ∷ (h.0 ++ k ∷ back)) is))

        by_line : LineIs m (start ++ front) line → (line ≡ []) ⊎ SaysOf m v.values line
        by_line (bare f) = inl f
        by_line (begins f) = absurd (all_at front line back (subst HasNoMoment e quiet) (moments_after 0 (start ++ front)) f)
        by_line (says i x u at inside is some new) =
            let w : (w : Value) × (slice_get v.values i ≡ Some w) = value_there m.variables v.values i x v.domains at in
            inr (by_value i x u at is w.0 w.1 (v.lies i x w.0 at w.1))

    once : (i : ℕ) (x : FlatVariable) (w : Value) → slice_get m.variables i ≡ Some x → slice_get v.values i ≡ Some w → StandsOnce (value_line x w) own
    once i x w at f = of_lies (v.lies i x w at f)
      where
        of_lies : ((before : List Line) × (after : List Line) × (own ≡ before ++ value_line x w ∷ after)) → StandsOnce (value_line x w) own
        of_lies l = record {
          before = l.0;
          after = l.1;
          lie = l.2;
          none_before = all_from (λ k. k ≢ value_line x w) l.0
              (λ xs k ys e g. no_two m p start own n count are quiet (variable_text x) (value_text w) (value_text w) (p.words i x at) xs ys l.1
              (l.2 ∙ ap (λ ls. ls ++ value_line x w ∷ l.1) (e ∙ ap (λ z. xs ++ z ∷ ys) g) ∙ append_assoc xs (value_line x w ∷ ys) (value_line x w ∷ l.1)));
          none_after = all_from (λ k. k ≢ value_line x w) l.1
              (λ xs k ys e g. no_two m p start own n count are quiet (variable_text x) (value_text w) (value_text w) (p.words i x at) l.0 xs ys
              (l.2 ∙ ap (λ ls. l.0 ++ value_line x w ∷ ls) (e ∙ ap (λ z. xs ++ z ∷ ys) g)));
        }

-- Where a line stands that is said to be in the moment.
pub place_of : (start front earlier : List Line) (l : Line) (later : List Line) → start ++ front ≡ earlier ++ l ∷ later →
    ((mid : List Line) × (front ≡ mid ++ l ∷ later) × (earlier ≡ start ++ mid)) ⊎ ((more : List Line) × (start ≡ earlier ++ l ∷ more))
place_of [] front earlier l later e = inl (earlier, e, refl)
place_of (s ∷ start) front [] l later e = inr (start, ap (λ x. x ∷ start) (head_of s l (start ++ front) later e))
place_of (s ∷ start) front (x ∷ earlier) l later e = joined (place_of start front earlier l later (tail_of s x (start ++ front) (earlier ++ l ∷ later) e))
  where
    first : s ≡ x
    first = head_of s x (start ++ front) (earlier ++ l ∷ later) e

    joined : ((mid : List Line) × (front ≡ mid ++ l ∷ later) × (earlier ≡ start ++ mid)) ⊎ ((more : List Line) × (start ≡ earlier ++ l ∷ more)) →
        ((mid : List Line) × (front ≡ mid ++ l ∷ later) × ((x ∷ earlier) ≡ (s ∷ start) ++ mid)) ⊎ ((more : List Line) × ((s ∷ start) ≡ (x ∷ earlier) ++ l ∷ more))
    joined (inl h) = inl (h.0, h.1, both_of x s earlier (start ++ h.0) (sym first) h.2)
    joined (inr h) = inr (h.0, both_of s x start (earlier ++ l ∷ h.0) first h.1)

stands_there : (m : FlatModel) → IsPrintable m → (start own rest : List Line) (n : ℕ) → moments_after 0 start ≡ suc n → AllAre m start own → HasNoMoment own →
    (rest ≡ []) ⊎ ((more : List Line) × (rest ≡ moment_line (suc n) ∷ more)) →
    ((earlier more : List Line) (name value : Line) → IsLineWord name → start ≡ earlier ++ equation name value ∷ more → moments_after 0 earlier ≤ n) →
    (i : ℕ) (x : FlatVariable) → slice_get m.variables i ≡ Some x → SaidIn [] (start ++ (own ++ rest)) (variable_text x) (suc n) → Stands own x
stands_there m p start own rest n count are quiet at fewer i x is_x s = by_start (place_of start (own ++ rest) s.earlier (equation (variable_text x) s.value) s.later s.lie)
  where
    word : IsLineWord (variable_text x)
    word = p.words i x is_x

    by_line : (mid more : List Line) → own ≡ mid ++ equation (variable_text x) s.value ∷ more → LineIs m (start ++ mid) (equation (variable_text x) s.value) → Stands own x
    by_line mid more e (bare f) = absurd (equation_some (variable_text x) s.value f)
    by_line mid more e (begins f) = absurd (no_moment (variable_text x) s.value (moments_after 0 (start ++ mid)) word f)
    by_line mid more e (says j y w is_y inside is some new) =
        let names : (variable_text x ≡ variable_text y) × (s.value ≡ value_text w) = same_equation (variable_text x) s.value (variable_text y) (value_text w) word (p.words j y is_y) is in
        let place : i ≡ j = p.apart i j x y is_x is_y names.0 in
        let same : x ≡ y = some_same x y (sym is_x ∙ ap (slice_get m.variables) place ∙ is_y) in
        record { value = w; inside = subst (λ z. IsTrue (in_domain z.declared w)) (sym same) inside; before = mid; after = more; lie = e ∙ ap (λ u. mid ++ equation (variable_text x) u ∷ more) names.1 }

    late : (mid : List Line) → rest ≡ mid ++ equation (variable_text x) s.value ∷ s.later → s.earlier ≡ start ++ (own ++ mid) → (rest ≡ []) ⊎ ((more : List Line) × (rest ≡ moment_line (suc n) ∷ more)) → ⊥
    late [] e f (inl h) = no_items (equation (variable_text x) s.value) s.later rest h e
    late (y ∷ mid) e f (inl h) = no_items y (mid ++ equation (variable_text x) s.value ∷ s.later) rest h e
    late [] e f (inr h) = no_moment (variable_text x) s.value (suc n) word (head_of (equation (variable_text x) s.value) (moment_line (suc n)) s.later h.0 (sym e ∙ h.1))
    late (y ∷ mid) e f (inr h) =
        let first : y ≡ moment_line (suc n) = head_of y (moment_line (suc n)) (mid ++ equation (variable_text x) s.value ∷ s.later) h.0 (sym e ∙ h.1) in
        let many : moments_after 0 s.earlier ≡ moments_after (suc (suc n)) mid =
        ap (moments_after 0) f ∙ after_both 0 start (own ++ y ∷ mid) ∙ ap (λ k. moments_after k (own ++ y ∷ mid)) count ∙ after_both (suc n) own (y ∷ mid) ∙ ap (λ k. moments_after k (y ∷ mid)) (none_begins (suc n) own quiet)
        ∙ ap (λ z. moments_after (suc n) (z ∷ mid)) first ∙ next_begins (suc n) mid in
        let high : suc (suc n) ≤ moments_after (suc (suc n)) mid = no_fewer (suc (suc n)) mid in
        omega (arith, many, high, s.there)

    by_own : (mid : List Line) → s.earlier ≡ start ++ mid →
        ((mid2 : List Line) × (rest ≡ mid2 ++ equation (variable_text x) s.value ∷ s.later) × (mid ≡ own ++ mid2)) ⊎ ((more : List Line) × (own ≡ mid ++ equation (variable_text x) s.value ∷ more)) → Stands own x
    by_own mid f (inr h) = by_line mid h.0 h.1 (line_at m start own mid (equation (variable_text x) s.value) h.0 are h.1)
    by_own mid f (inl h) = absurd (late h.0 h.1 (f ∙ ap (λ ls. start ++ ls) h.2) at)

    by_start : ((mid : List Line) × ((own ++ rest) ≡ mid ++ equation (variable_text x) s.value ∷ s.later) × (s.earlier ≡ start ++ mid)) ⊎ ((more : List Line) × (start ≡ s.earlier ++ equation (variable_text x) s.value ∷ more)) → Stands own x
    by_start (inr h) = let few : moments_after 0 s.earlier ≤ n = fewer s.earlier h.0 (variable_text x) s.value word h.1 in absurd (omega (arith, few, s.there))
    by_start (inl h) = by_own h.0 h.2 (place_of own rest h.0 (equation (variable_text x) s.value) s.later h.1)

-- Moments, where no value is missing.
moments_given : (m : FlatModel) → IsPrintable m → (fuel : ℕ) (whole done lines : List Line) (n : ℕ) → whole ≡ done ++ lines → length lines ≤ fuel → moments_after 0 done ≡ n → AllAre m done lines →
    (lines ≡ []) ⊎ ((more : List Line) × (lines ≡ moment_line n ∷ more)) → HasAll m whole (moments_after 0 whole) → (trace : List (List Value)) × GivesMoments m n lines trace
moments_given m p fuel whole done lines n w short e are (inl none) all = ([], none)
moments_given m p zero whole done lines n w short e are (inr h) all = let long : length lines ≡ suc (length h.0) = ap (length {A = Line}) h.1 in absurd (omega (arith, short, long))
moments_given m p (suc fuel) whole done lines n w short e are (inr h) all = of_own cut (λ o. moments_given m p fuel whole ((done ++ moment_line n ∷ []) ++ o.own) o.rest (suc n))
  where
    begun : moments_after 0 (done ++ moment_line n ∷ []) ≡ suc n
    begun = after_both 0 done (moment_line n ∷ []) ∙ ap (λ j. moments_after j (moment_line n ∷ [])) e ∙ next_begins n []

    cut : Own m (done ++ moment_line n ∷ []) h.0
    cut = cut_own m p (done ++ moment_line n ∷ []) h.0 (tail_are (subst (AllAre m done) h.1 are))
      where
        tail_are : AllAre m done (moment_line n ∷ h.0) → AllAre m (done ++ moment_line n ∷ []) h.0
        tail_are a = a.1

    of_own : (o : Own m (done ++ moment_line n ∷ []) h.0) →
        ((o : Own m (done ++ moment_line n ∷ []) h.0) → whole ≡ ((done ++ moment_line n ∷ []) ++ o.own) ++ o.rest → length o.rest ≤ fuel → moments_after 0 ((done ++ moment_line n ∷ []) ++ o.own) ≡ suc n → AllAre m ((done ++ moment_line n ∷ []) ++ o.own) o.rest →
        (o.rest ≡ []) ⊎ ((more : List Line) × (o.rest ≡ moment_line (suc n) ∷ more)) → HasAll m whole (moments_after 0 whole) → (trace : List (List Value)) × GivesMoments m (suc n) o.rest trace) →
        (trace : List (List Value)) × GivesMoments m n lines trace
    of_own o more = joined (more o grouped shorter after o.rest_are at all)
      where
        after : moments_after 0 ((done ++ moment_line n ∷ []) ++ o.own) ≡ suc n
        after = after_both 0 (done ++ moment_line n ∷ []) o.own ∙ ap (λ j. moments_after j o.own) begun ∙ none_begins (suc n) o.own o.quiet

        at : (o.rest ≡ []) ⊎ ((more : List Line) × (o.rest ≡ moment_line (suc n) ∷ more))
        at = subst (λ j. (o.rest ≡ []) ⊎ ((more : List Line) × (o.rest ≡ moment_line j ∷ more))) after o.at

        start_first : whole ≡ (done ++ moment_line n ∷ []) ++ (o.own ++ o.rest)
        start_first = w ∙ ap (λ ls. done ++ ls) (h.1 ∙ ap (λ ls. moment_line n ∷ ls) o.lie) ∙ sym (append_assoc done (moment_line n ∷ []) (o.own ++ o.rest))

        grouped : whole ≡ ((done ++ moment_line n ∷ []) ++ o.own) ++ o.rest
        grouped = start_first ∙ sym (append_assoc (done ++ moment_line n ∷ []) o.own o.rest)

        shorter : length o.rest ≤ fuel
        shorter =
            let long : length lines ≡ suc (length h.0) = ap (length {A = Line}) h.1 in
            let parts : length h.0 ≡ length (o.own ++ o.rest) = ap (length {A = Line}) o.lie in
            let sum : length (o.own ++ o.rest) ≡ length o.own + length o.rest = length-append o.own o.rest in
            omega (arith, short, long, parts, sum)

        here : n < moments_after 0 whole
        here =
            let high : moments_after 0 (done ++ moment_line n ∷ []) ≤ moments_after 0 ((done ++ moment_line n ∷ []) ++ (o.own ++ o.rest)) = front_fewer (done ++ moment_line n ∷ []) (o.own ++ o.rest) in
            let same : moments_after 0 whole ≡ moments_after 0 ((done ++ moment_line n ∷ []) ++ (o.own ++ o.rest)) = ap (moments_after 0) start_first in
            omega (arith, high, same, begun)

        v : Valued o.own m.variables
        v = valued o.own m.variables (λ i x is_x. stands_there m p (done ++ moment_line n ∷ []) o.own o.rest n begun o.own_are o.quiet at (fewer_before done n e) i x is_x
            (subst (λ ls. SaidIn [] ls (variable_text x) (suc n)) start_first (all n here i x is_x)))

        joined : (trace : List (List Value)) × GivesMoments m (suc n) o.rest trace → (trace : List (List Value)) × GivesMoments m n lines trace
        joined t = (v.values ∷ t.0, (o.own, o.rest, h.1 ∙ ap (λ ls. moment_line n ∷ ls) o.lie, moment_given m p (done ++ moment_line n ∷ []) o.own n begun o.own_are o.quiet v, t.1))

-- before any moment all lines are empty
pub all_bare : (m : FlatModel) (done lines : List Line) → moments_after 0 done ≡ 0 → AllAre m done lines → HasNoMoment lines → AllByRecursion (λ line. line ≡ []) lines
all_bare m done [] e h q = tt
all_bare m done (l ∷ lines) e h q = (is_bare h.0, all_bare m (done ++ l ∷ []) lines (after_both 0 done (l ∷ []) ∙ ap (λ k. moments_after k (l ∷ [])) e ∙ none_begins 0 (l ∷ []) (q.0, tt)) h.1 q.1)
  where
    is_bare : LineIs m done l → l ≡ []
    is_bare (bare f) = f
    is_bare (begins f) = absurd (q.0 (moments_after 0 done) f)
    is_bare (says i x w at inside is some new) = absurd (omega (arith, some, e))

pub each_text_is_judged : EachTextIsJudged
each_text_is_judged m p bytes = by_lines (text_lines m p bytes)
  where
    whole_given : (lines : List Line) → bytes ≡ fed lines → AllByRecursion IsLine lines → (o : Own m [] lines) → HasAll m lines (moments_after 0 lines) → ((trace : List (List Value)) × BytesGive m bytes trace) ⊎ ((f : TraceFault) × IsFirstFault m bytes f)
    whole_given lines e ls o all = by_rest o.at
      where
        blank : AllByRecursion (λ line. line ≡ []) o.own
        blank = all_bare m [] o.own refl o.own_are o.quiet

        none : moments_after 0 o.own ≡ 0
        none = none_begins 0 o.own o.quiet

        given : (more : List Line) → o.rest ≡ moment_line 0 ∷ more → (t : (trace : List (List Value)) × GivesMoments m 0 o.rest trace) → (trace : List (List Value)) × BytesGive m bytes trace
        given more f t = (t.0, (lines, e, ls, record { blank = o.own; rest = o.rest; lie = o.lie; empty = blank; some = λ g. no_items (moment_line 0) more o.rest (subst (GivesMoments m 0 o.rest) g t.1) f; moments = t.1 }))

        by_rest : (o.rest ≡ []) ⊎ ((more : List Line) × (o.rest ≡ moment_line (moments_after 0 o.own) ∷ more)) → ((trace : List (List Value)) × BytesGive m bytes trace) ⊎ ((f : TraceFault) × IsFirstFault m bytes f)
        by_rest (inl f) = inr (wrong_line bad_line 1, inr ((lines, e, subst (AllByRecursion (λ line. line ≡ [])) (sym (o.lie ∙ ap (λ r. o.own ++ r) f ∙ append_none o.own)) blank), refl, refl))
        by_rest (inr f) =
            let first : o.rest ≡ moment_line 0 ∷ f.0 = f.1 ∙ ap (λ k. moment_line k ∷ f.0) none in
            inl (given f.0 first (moments_given m p (length o.rest) lines o.own o.rest 0 o.lie (omega arith) none o.rest_are (inr (f.0, first)) all))

    by_lack : (lines : List Line) → bytes ≡ fed lines → AllByRecursion IsLine lines → AllAre m [] lines →
        ((k : ℕ) × (k < moments_after 0 lines) × Lacks m lines k × ((j : ℕ) → j < k → Lacks m lines j → ⊥)) ⊎ HasAll m lines (moments_after 0 lines) →
        ((trace : List (List Value)) × BytesGive m bytes trace) ⊎ ((f : TraceFault) × IsFirstFault m bytes f)
    by_lack lines e ls are (inl h) = inr (missing_value h.0, record { lines = lines; lie = e; are_lines = ls; sound = all_sound m p [] lines are; has = h.1; lacks = h.2; least = h.3 })
    by_lack lines e ls are (inr all) = whole_given lines e ls (cut_own m p [] lines are) all

    by_lines : ((lines : List Line) × (bytes ≡ fed lines) × AllByRecursion IsLine lines × AllAre m [] lines) ⊎ ((f : LineFault) × (n : ℕ) × IsWrongLine m bytes f n) →
        ((trace : List (List Value)) × BytesGive m bytes trace) ⊎ ((f : TraceFault) × IsFirstFault m bytes f)
    by_lines (inr h) = inr (wrong_line h.0 h.1, inl h.2)
    by_lines (inl h) = by_lack h.0 h.1 h.2 h.3 (first_lack m h.0 (moments_after 0 h.0))
