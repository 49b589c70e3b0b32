-- Nothing is wrong with a text that gives a trace.
use Rattle.std.proofs.Common.{◌≡◌, ◌≢◌, ◌⊎◌, inl, inr, ℕ, zero, suc, ◌<◌, ◌≤◌, Bool, true, false, nat_eq, List, [], ◌∷◌, ◌++◌, refl, sym, ◌∙◌, ap, subst, arith, append_assoc, Some, eqb-true}
use Rattle.std.proofs.lemmas.Bool.Decides.{nat_tests}
use Rattle.std.specs.Prelude.{slice_get, IsTrue}
use Rattle.std.specs.List.{AllByRecursion}
use Rattle.smv_language.specs.Language.{Value, value_text, in_domain, FlatVariable, FlatModel}
use Rattle.smv_flat_laws.specs.FlatTrace.{AreInDomains}
use Rattle.cut_text_laws.specs.Lines.{Line}
use Rattle.cut_text_laws.proofs.Cuts.{same_fed}
use Rattle.cut_text_laws.specs.TraceText.{variable_text, moment_line, equation, value_line}
use Rattle.cut_text_laws.specs.TraceOfText.{IsLineWord, IsPrintable, SaysOf, StandsOnce, GivesMoment, GivesMoments, GivesTrace}
use Rattle.cut_text_laws.specs.TraceFaults.{LineFault, bad_line, unknown_name, outside, twice, moments_after, IsEquation, WasSaid, Breaks, AreSound, Lacks, wrong_line, missing_value}
use Rattle.cut_text_laws.specs.Laws.{GivenHasNone}
use Rattle.cut_text_laws.proofs.Plain.{value_word}
use Rattle.cut_text_laws.proofs.OneTrace.{HasNoMoment, no_items, some_moment, no_moment, same_equation, equation_some, in_domain_at, plain_at, own_lines}
use Rattle.cut_text_laws.proofs.OneFault.{empty_breaks, sound_not_wrong, empty_lines, no_moments}
use Rattle.cut_text_laws.proofs.Moments.{next_begins, after_both, none_begins, front_fewer}
use Rattle.std.proofs.lemmas.List.{append-nil as append_none}
use Rattle.std.proofs.lemmas.Option.{same_Some as some_same, none-some as never}
use Rattle.cut_text_laws.proofs.Separators.{head_of, tail_of, both_of, all_at, all_front}

-- nothing is wrong with the lines, after others
abbrev pub SoundFrom : FlatModel → List Line → List Line → Type 0
SoundFrom m done lines = (front : List Line) (line : Line) (back : List Line) (f : LineFault) → lines ≡ front ++ line ∷ back → Breaks m (done ++ front) line f → ⊥

pub no_lines : (m : FlatModel) (done : List Line) → SoundFrom m done []
no_lines m done [] line back f e b = no_items line back [] refl e
no_lines m done (x ∷ front) line back f e b = no_items x (front ++ line ∷ back) [] refl e

-- a sound line before sound lines
pub one_more : (m : FlatModel) (done : List Line) (x : Line) (lines : List Line) → ((f : LineFault) → Breaks m done x f → ⊥) → SoundFrom m (done ++ x ∷ []) lines → SoundFrom m done (x ∷ lines)
one_more m done x lines h g [] line back f e b = h f (subst (λ d. Breaks m d x f) (append_none done) (subst (λ l. Breaks m (done ++ []) l f) (sym (head_of x line lines back e)) b))
one_more m done x lines h g (y ∷ front) line back f e b =
    g front line back f (tail_of x y lines (front ++ line ∷ back) e) (subst (λ d. Breaks m d line f) (regrouped (head_of x y lines (front ++ line ∷ back) e)) b)
  where
    regrouped : x ≡ y → done ++ y ∷ front ≡ (done ++ x ∷ []) ++ front
    regrouped s = ap (λ z. done ++ z ∷ front) (sym s) ∙ sym (append_assoc done (x ∷ []) front)

-- the front of lines, and what is after it
both_sound : (m : FlatModel) (done xs ys : List Line) → SoundFrom m done xs → SoundFrom m (done ++ xs) ys → SoundFrom m done (xs ++ ys)
both_sound m done [] ys h g = subst (λ d. SoundFrom m d ys) (append_none done) g
both_sound m done (x ∷ xs) ys h g =
    one_more m done x (xs ++ ys) (λ f b. h [] x xs f refl (subst (λ d. Breaks m d x f) (sym (append_none done)) b))
    (both_sound m (done ++ x ∷ []) xs ys
    (λ front line back f e b. h (x ∷ front) line back f (ap (λ ls. x ∷ ls) e) (subst (λ d. Breaks m d line f) (append_assoc done (x ∷ []) front) b))
    (subst (λ d. SoundFrom m d ys) (sym (append_assoc done (x ∷ []) xs)) g))

empty_from : (m : FlatModel) (done lines : List Line) → AllByRecursion (λ line. line ≡ []) lines → SoundFrom m done lines
empty_from m done [] h = no_lines m done
empty_from m done (x ∷ lines) h = one_more m done x lines (λ f b. empty_breaks m done f (subst (λ l. Breaks m done l f) h.0 b)) (empty_from m (done ++ x ∷ []) lines h.1)

-- the line of the next moment
pub moment_sound : (m : FlatModel) (done : List Line) (n : ℕ) → moments_after 0 done ≡ n → (f : LineFault) → Breaks m done (moment_line n) f → ⊥
moment_sound m done n e bad_line b = b.1 (ap moment_line (sym e))
moment_sound m done n e unknown_name b = no_moment b.0 b.1 n b.2.name_word (sym b.2.is_line)
moment_sound m done n e outside b = no_moment b.0 b.1 n b.2.name_word (sym b.2.is_line)
moment_sound m done n e twice b = no_moment b.0 b.1 n b.2.name_word (sym b.2.is_line)

-- a line that stands at one place does not stand at two
at_two : (l : Line) (own : List Line) → StandsOnce l own → (xs ys zs : List Line) → own ≡ xs ++ l ∷ (ys ++ l ∷ zs) → ⊥
at_two l own s xs ys zs e = go s.before s.after xs s.none_before s.none_after (sym s.lie ∙ e)
  where
    go : (before after xs : List Line) → AllByRecursion (λ k. k ≢ l) before → AllByRecursion (λ k. k ≢ l) after → before ++ l ∷ after ≡ xs ++ l ∷ (ys ++ l ∷ zs) → ⊥
    go [] after [] f g e = all_at (λ k. k ≢ l) ys l zs (subst (AllByRecursion (λ k. k ≢ l)) (tail_of l l after (ys ++ l ∷ zs) e) g) refl
    go [] after (x ∷ xs) f g e = all_at (λ k. k ≢ l) xs l (ys ++ l ∷ zs) (subst (AllByRecursion (λ k. k ≢ l)) (tail_of l x after (xs ++ l ∷ (ys ++ l ∷ zs)) e) g) refl
    go (b ∷ before) after [] f g e = f.0 (head_of b l (before ++ l ∷ after) (ys ++ l ∷ zs) e)
    go (b ∷ before) after (x ∷ xs) f g e = go before after xs f.1 g (tail_of b x (before ++ l ∷ after) (xs ++ l ∷ (ys ++ l ∷ zs)) e)

-- what stands after some lines is in the rest, or in the lines before it fewer have begun
pub behind : (start front earlier : List Line) (l : Line) (later : List Line) → start ++ front ≡ earlier ++ l ∷ later →
    ((mid : List Line) × (front ≡ mid ++ l ∷ later)) ⊎ ((more : List Line) × (start ≡ earlier ++ l ∷ more))
behind [] front earlier l later e = inl (earlier, e)
behind (s ∷ start) front [] l later e = inr (start, ap (λ x. x ∷ start) (head_of s l (start ++ front) later e))
behind (s ∷ start) front (x ∷ earlier) l later e = joined (behind start front earlier l later (tail_of s x (start ++ front) (earlier ++ l ∷ later) e))
  where
    joined : ((mid : List Line) × (front ≡ mid ++ l ∷ later)) ⊎ ((more : List Line) × (start ≡ earlier ++ l ∷ more)) →
        ((mid : List Line) × (front ≡ mid ++ l ∷ later)) ⊎ ((more : List Line) × ((s ∷ start) ≡ (x ∷ earlier) ++ l ∷ more))
    joined (inl h) = inl h
    joined (inr h) = inr (h.0, both_of s x start (earlier ++ l ∷ h.0) (head_of s x (start ++ front) (earlier ++ l ∷ later) e) h.1)

-- lines of one valuation with one name are one line
one_name : (m : FlatModel) → IsPrintable m → (v : List Value) (a b : Line) (s : SaysOf m v a) (t : SaysOf m v b) → variable_text s.variable ≡ variable_text t.variable → a ≡ b
one_name m p v a b s t e = s.is_line ∙ same ∙ sym t.is_line
  where
    place : s.place ≡ t.place
    place = p.apart s.place t.place s.variable t.variable s.is_variable t.is_variable e

    variable : s.variable ≡ t.variable
    variable = some_same s.variable t.variable (sym s.is_variable ∙ ap (slice_get m.variables) place ∙ t.is_variable)

    value : s.value ≡ t.value
    value = some_same s.value t.value (sym s.is_value ∙ ap (slice_get v) place ∙ t.is_value)

    same : value_line s.variable s.value ≡ value_line t.variable t.value
    same = ap (λ x. value_line x s.value) variable ∙ ap (value_line t.variable) value

-- Lines of a moment.
own_sound : (m : FlatModel) → IsPrintable m → (start own : List Line) (v : List Value) (n : ℕ) → GivesMoment m own v → moments_after 0 start ≡ suc n →
    ((earlier more : List Line) (name value : Line) → IsLineWord name → start ≡ earlier ++ equation name value ∷ more → moments_after 0 earlier ≤ n) → SoundFrom m start own
own_sound m p start own v n g count fewer front line back f e = by_line (all_at (λ line. (line ≡ []) ⊎ SaysOf m v line) front line back (subst (AllByRecursion (λ line. (line ≡ []) ⊎ SaysOf m v line)) e g.each))
  where
    quiet : HasNoMoment front
    quiet = own_lines m p v front (all_front (λ line. (line ≡ []) ⊎ SaysOf m v line) front (line ∷ back) (subst (AllByRecursion (λ line. (line ≡ []) ⊎ SaysOf m v line)) e g.each))

    counted : moments_after 0 (start ++ front) ≡ suc n
    counted = after_both 0 start front ∙ ap (λ k. moments_after k front) count ∙ none_begins (suc n) front quiet

    -- the line's own name and value
    names : (s : SaysOf m v line) (name value : Line) → IsEquation name value line → (name ≡ variable_text s.variable) × (value ≡ value_text s.value)
    names s name value q = same_equation name value (variable_text s.variable) (value_text s.value) q.name_word (p.words s.place s.variable s.is_variable) (sym q.is_line ∙ s.is_line)

    said_before : (s : SaysOf m v line) (name value : Line) → IsEquation name value line → (w : WasSaid (start ++ front) name) →
        ((mid : List Line) × (front ≡ mid ++ equation name w.value ∷ w.later)) ⊎ ((more : List Line) × (start ≡ w.earlier ++ equation name w.value ∷ more)) → ⊥
    said_before s name value q w (inr h) = let few : moments_after 0 w.earlier ≤ n = fewer w.earlier h.0 name w.value q.name_word h.1 in omega (arith, few, counted, w.same_moment)
    said_before s name value q w (inl h) = by_said (all_at (λ line. (line ≡ []) ⊎ SaysOf m v line) h.0 (equation name w.value) (w.later ++ line ∷ back) (subst (AllByRecursion (λ line. (line ≡ []) ⊎ SaysOf m v line)) whole g.each))
      where
        whole : own ≡ h.0 ++ equation name w.value ∷ (w.later ++ line ∷ back)
        whole = e ∙ ap (λ ls. ls ++ line ∷ back) h.1 ∙ append_assoc h.0 (equation name w.value ∷ w.later) (line ∷ back)

        by_said : (equation name w.value ≡ []) ⊎ SaysOf m v (equation name w.value) → ⊥
        by_said (inl none) = equation_some name w.value none
        by_said (inr t) =
            let its : (name ≡ variable_text t.variable) × (w.value ≡ value_text t.value) =
            same_equation name w.value (variable_text t.variable) (value_text t.value) q.name_word (p.words t.place t.variable t.is_variable) t.is_line in
            let one : equation name w.value ≡ line = one_name m p v (equation name w.value) line t s (sym its.0 ∙ (names s name value q).0) in
            at_two (value_line s.variable s.value) own (g.once s.place s.variable s.value s.is_variable s.is_value) h.0 w.later back
            (whole ∙ ap (λ l. h.0 ++ l ∷ (w.later ++ line ∷ back)) (one ∙ s.is_line) ∙ ap (λ l. h.0 ++ value_line s.variable s.value ∷ (w.later ++ l ∷ back)) s.is_line)

    says : (s : SaysOf m v line) (f : LineFault) → Breaks m (start ++ front) line f → ⊥
    says s bad_line b =
        let none : moments_after 0 (start ++ front) ≡ 0 = b.2 (variable_text s.variable) (value_text s.value)
        (record { name_word = p.words s.place s.variable s.is_variable; value_word = value_word s.value (plain_at m p v g.domains s.place s.variable s.value s.is_variable s.is_value); is_line = s.is_line }) in
        omega (arith, none, counted)
    says s unknown_name b = b.3 (record { place = s.place; variable = s.variable; is_variable = s.is_variable; is_name = sym (names s b.0 b.1 b.2).0 })
    says s outside b =
        let its : (b.0 ≡ variable_text s.variable) × (b.1 ≡ value_text s.value) = names s b.0 b.1 b.2 in
        let place : b.3.place ≡ s.place = p.apart b.3.place s.place b.3.variable s.variable b.3.is_variable s.is_variable (b.3.is_name ∙ its.0) in
        let same : b.3.variable ≡ s.variable = some_same b.3.variable s.variable (sym b.3.is_variable ∙ ap (slice_get m.variables) place ∙ s.is_variable) in
        b.4 s.value (subst (λ x. IsTrue (in_domain x.declared s.value)) (sym same) (in_domain_at m.variables v s.place s.variable s.value g.domains s.is_variable s.is_value)) (sym its.1)
    says s twice b = said_before s b.0 b.1 b.2 b.3 (behind start front b.3.earlier (equation b.0 b.3.value) b.3.later b.3.lie)

    by_line : (line ≡ []) ⊎ SaysOf m v line → Breaks m (start ++ front) line f → ⊥
    by_line (inl none) b = empty_breaks m (start ++ front) f (subst (λ l. Breaks m (start ++ front) l f) none b)
    by_line (inr s) b = says s f b

-- before the line of the next moment no line of a value stands in that moment
pub fewer_before : (done : List Line) (n : ℕ) → moments_after 0 done ≡ n → (earlier more : List Line) (name value : Line) → IsLineWord name → done ++ moment_line n ∷ [] ≡ earlier ++ equation name value ∷ more → moments_after 0 earlier ≤ n
fewer_before done n e earlier more name value w h = by_side (behind done (moment_line n ∷ []) earlier (equation name value) more h)
  where
    by_side : ((mid : List Line) × ((moment_line n ∷ []) ≡ mid ++ equation name value ∷ more)) ⊎ ((rest : List Line) × (done ≡ earlier ++ equation name value ∷ rest)) → moments_after 0 earlier ≤ n
    by_side (inl r) = absurd (alone r.0 r.1)
      where
        alone : (mid : List Line) → (moment_line n ∷ []) ≡ mid ++ equation name value ∷ more → ⊥
        alone [] e = no_moment name value n w (sym (head_of (moment_line n) (equation name value) [] more e))
        alone (x ∷ []) e = no_items (equation name value) more [] refl (tail_of (moment_line n) x [] (equation name value ∷ more) e)
        alone (x ∷ y ∷ mid) e = no_items y (mid ++ equation name value ∷ more) [] refl (tail_of (moment_line n) x [] (y ∷ (mid ++ equation name value ∷ more)) e)
    by_side (inr r) = subst (λ k. moments_after 0 earlier ≤ k) (ap (moments_after 0) (sym r.1) ∙ e) (front_fewer earlier (equation name value ∷ r.0))

moments_sound : (m : FlatModel) → IsPrintable m → (done : List Line) (n : ℕ) (lines : List Line) (trace : List (List Value)) → moments_after 0 done ≡ n → GivesMoments m n lines trace → SoundFrom m done lines
moments_sound m p done n lines [] e g = subst (SoundFrom m done) (sym g) (no_lines m done)
moments_sound m p done n lines (v ∷ trace) e g =
    subst (SoundFrom m done) (sym g.2)
    (one_more m done (moment_line n) (g.0 ++ g.1) (moment_sound m done n e)
    (both_sound m start g.0 g.1 (own_sound m p start g.0 v n g.3 begun (fewer_before done n e)) (moments_sound m p (start ++ g.0) (suc n) g.1 trace after g.4)))
  where
    start : List Line
    start = done ++ moment_line n ∷ []

    begun : moments_after 0 (done ++ moment_line n ∷ []) ≡ suc n
    begun = after_both 0 done (moment_line n ∷ []) ∙ ap (λ k. moments_after k (moment_line n ∷ [])) e ∙ next_begins n []

    after : moments_after 0 ((done ++ moment_line n ∷ []) ++ g.0) ≡ suc n
    after = after_both 0 (done ++ moment_line n ∷ []) g.0 ∙ ap (λ k. moments_after k g.0) begun ∙ none_begins (suc n) g.0 (own_lines m p v g.0 g.3.each)

-- Each variable has a value in each moment.
pub value_there : (xs : List FlatVariable) (v : List Value) (i : ℕ) (x : FlatVariable) → AreInDomains xs v → slice_get xs i ≡ Some x → (w : Value) × (slice_get v i ≡ Some w)
value_there [] v i x d e = absurd (never x e)
value_there (y ∷ xs) [] i x d e = absurd d
value_there (y ∷ xs) (u ∷ v) zero x d e = (u, refl)
value_there (y ∷ xs) (u ∷ v) (suc i) x d e = value_there xs v i x d.1 e

-- a line of that name in the moment of this number
record HasName (done lines : List Line) (name : Line) (k : ℕ) : Type 0 where
  before : List Line
  value : Line
  after : List Line
  lie : lines ≡ before ++ equation name value ∷ after
  there : moments_after 0 (done ++ before) ≡ suc k

has_name : (m : FlatModel) → IsPrintable m → (done : List Line) (n : ℕ) (lines : List Line) (trace : List (List Value)) → moments_after 0 done ≡ n → GivesMoments m n lines trace →
    (k : ℕ) → n ≤ k → k < moments_after 0 (done ++ lines) → (i : ℕ) (x : FlatVariable) → slice_get m.variables i ≡ Some x → HasName done lines (variable_text x) k
has_name m p done n lines [] e g k low high i x f =
    let none : moments_after 0 (done ++ lines) ≡ n = ap (λ ls. moments_after 0 (done ++ ls)) g ∙ ap (moments_after 0) (append_none done) ∙ e in absurd (omega (arith, none, low, high))
has_name m p done n lines (v ∷ trace) e g k low high i x f = by_test (nat_eq n k) refl (has_name m p ((done ++ moment_line n ∷ []) ++ g.0) (suc n) g.1 trace after g.4 k)
  where
    begun : moments_after 0 (done ++ moment_line n ∷ []) ≡ suc n
    begun = after_both 0 done (moment_line n ∷ []) ∙ ap (λ j. moments_after j (moment_line n ∷ [])) e ∙ next_begins n []

    after : moments_after 0 ((done ++ moment_line n ∷ []) ++ g.0) ≡ suc n
    after = after_both 0 (done ++ moment_line n ∷ []) g.0 ∙ ap (λ j. moments_after j g.0) begun ∙ none_begins (suc n) g.0 (own_lines m p v g.0 g.3.each)

    grouped_all : (xs : List Line) → ((done ++ moment_line n ∷ []) ++ g.0) ++ xs ≡ done ++ moment_line n ∷ (g.0 ++ xs)
    grouped_all xs = append_assoc (done ++ moment_line n ∷ []) g.0 xs ∙ append_assoc done (moment_line n ∷ []) (g.0 ++ xs)

    here : n ≡ k → HasName done lines (variable_text x) k
    here same =
        let w : (w : Value) × (slice_get v i ≡ Some w) = value_there m.variables v i x g.3.domains f in
        of_once w.0 (g.3.once i x w.0 f w.1)
      where
        of_once : (w : Value) → StandsOnce (value_line x w) g.0 → HasName done lines (variable_text x) k
        of_once w s = record {
          before = moment_line n ∷ s.before;
          value = value_text w;
          after = s.after ++ g.1;
          lie = g.2 ∙ ap (λ ls. moment_line n ∷ (ls ++ g.1)) s.lie ∙ ap (λ ls. moment_line n ∷ ls) (append_assoc s.before (value_line x w ∷ s.after) g.1);
          there = ap (moments_after 0) (sym (append_assoc done (moment_line n ∷ []) s.before)) ∙ after_both 0 (done ++ moment_line n ∷ []) s.before ∙ ap (λ j. moments_after j s.before) begun
              ∙ none_begins (suc n) s.before
              (own_lines m p v s.before (all_front (λ line. (line ≡ []) ⊎ SaysOf m v line) s.before (value_line x w ∷ s.after) (subst (AllByRecursion (λ line. (line ≡ []) ⊎ SaysOf m v line)) s.lie g.3.each)))
              ∙ ap suc same;
        }

    later : HasName ((done ++ moment_line n ∷ []) ++ g.0) g.1 (variable_text x) k → HasName done lines (variable_text x) k
    later h = record {
      before = moment_line n ∷ (g.0 ++ h.before);
      value = h.value;
      after = h.after;
      lie = g.2 ∙ ap (λ ls. moment_line n ∷ (g.0 ++ ls)) h.lie ∙ ap (λ ls. moment_line n ∷ ls) (sym (append_assoc g.0 h.before (equation (variable_text x) h.value ∷ h.after)));
      there = ap (moments_after 0) (sym (grouped_all h.before)) ∙ h.there;
    }

    by_test : (b : Bool) → nat_eq n k ≡ b →
        (suc n ≤ k → k < moments_after 0 (((done ++ moment_line n ∷ []) ++ g.0) ++ g.1) → (i : ℕ) (x : FlatVariable) → slice_get m.variables i ≡ Some x → HasName ((done ++ moment_line n ∷ []) ++ g.0) g.1 (variable_text x) k) →
        HasName done lines (variable_text x) k
    by_test true t more = here (eqb-true n k t)
    by_test false t more =
        let less : suc n ≤ k = grind (arith, nat_tests) in
        later (more less (subst (λ j. k < j) (ap (λ ls. moments_after 0 (done ++ ls)) g.2 ∙ ap (moments_after 0) (sym (grouped_all g.1))) high) i x f)

-- The law.
some_rest : (m : FlatModel) (lines : List Line) (trace : List (List Value)) (g : GivesTrace m lines trace) → (more : List Line) × (g.rest ≡ moment_line 0 ∷ more)
some_rest m lines [] g = absurd (g.some refl)
some_rest m lines (v ∷ trace) g = (g.moments.0 ++ g.moments.1, g.moments.2)

pub given_sound : (m : FlatModel) → IsPrintable m → (lines : List Line) (trace : List (List Value)) → GivesTrace m lines trace → AreSound m lines
given_sound m p lines trace g =
    subst (SoundFrom m []) (sym g.lie) (both_sound m [] g.blank g.rest (empty_from m [] g.blank g.empty) (moments_sound m p g.blank 0 g.rest trace (no_moments 0 g.blank g.empty) g.moments))

no_lack : (m : FlatModel) → IsPrintable m → (lines : List Line) (trace : List (List Value)) → GivesTrace m lines trace → (k : ℕ) → k < moments_after 0 lines → Lacks m lines k → ⊥
no_lack m p lines trace g k high l = by_name
    (has_name m p g.blank 0 g.rest trace (no_moments 0 g.blank g.empty) g.moments k (omega arith) (subst (λ ls. k < moments_after 0 ls) g.lie high) l.place l.variable l.is_variable)
  where
    by_name : HasName g.blank g.rest (variable_text l.variable) k → ⊥
    by_name h = l.elsewhere (g.blank ++ h.before) h.value h.after (g.lie ∙ ap (λ ls. g.blank ++ ls) h.lie ∙ sym (append_assoc g.blank h.before (equation (variable_text l.variable) h.value ∷ h.after))) h.there

pub given_has_none : GivenHasNone
given_has_none m p bytes trace (wrong_line f n) g (inl a) = sound_not_wrong m bytes f n a g.0 g.1 g.2 (given_sound m p g.0 trace g.3)
given_has_none m p bytes trace (wrong_line f n) g (inr a) =
    let same : a.0.0 ≡ g.0 = same_fed bytes a.0.0 g.0 (empty_lines a.0.0 a.0.2) g.2 a.0.1 g.1 in
    let rest : (more : List Line) × (g.3.rest ≡ moment_line 0 ∷ more) = some_rest m g.0 trace g.3 in
    some_moment 0
    (all_at (λ line. line ≡ []) g.3.blank (moment_line 0) rest.0 (subst (AllByRecursion (λ line. line ≡ [])) (same ∙ g.3.lie ∙ ap (λ ls. g.3.blank ++ ls) rest.1) a.0.2))
given_has_none m p bytes trace (missing_value k) g a =
    let same : a.lines ≡ g.0 = same_fed bytes a.lines g.0 a.are_lines g.2 a.lie g.1 in
    no_lack m p g.0 trace g.3 k (subst (λ ls. k < moments_after 0 ls) same a.has) (subst (λ ls. Lacks m ls k) same a.lacks)
