-- A text gives at most one trace.
use Rattle.std.proofs.Common.{◌≡◌, ◌≢◌, ◌⊎◌, inl, inr, ℕ, zero, suc, List, [], ◌∷◌, ◌++◌, length, refl, sym, ◌∙◌, ap, subst, arith, codes, Some, None}
use Rattle.std.specs.Prelude.{slice_get, IsTrue}
use Rattle.std.specs.List.{AllByRecursion}
use Rattle.std.specs.Fmt.{decimal}
use Rattle.smv_language.specs.Language.{Value, value_text, in_domain, FlatVariable, FlatModel, IsPlain}
use Rattle.smv_flat_laws.specs.FlatTrace.{AreInDomains}
use Rattle.cut_text_laws.specs.Lines.{Line}
pub use Rattle.cut_text_laws.proofs.Separators.{head_of, tail_of, both_of}
use Rattle.cut_text_laws.proofs.Separators.{IsFree, same_front, no_separator, all_at}
use Rattle.cut_text_laws.proofs.Words.{free_by_test}
use Rattle.cut_text_laws.proofs.Cuts.{same_fed}
use Rattle.cut_text_laws.specs.TraceText.{variable_text, moment_line, equation, value_line}
use Rattle.cut_text_laws.specs.TraceOfText.{IsLineWord, IsPrintable, SaysOf, StandsOnce, GivesMoment, GivesMoments, GivesTrace}
use Rattle.cut_text_laws.specs.Laws.{OneTrace}
use Rattle.cut_text_laws.proofs.Plain.{same_value_text, domain_plain, decimal_free}
use Rattle.std.proofs.lemmas.Option.{same_Some as some_same, none-some as never}

-- Lines.
pub no_items : {A : Type 0} (x : A) (xs ys : List A) → ys ≡ [] → ys ≡ x ∷ xs → ⊥
no_items {A = A} x xs ys e f = let bad : length {A = A} [] ≡ length (x ∷ xs) = ap (length {A = A}) (sym e ∙ f) in omega (arith, bad)

pub some_moment : (n : ℕ) → moment_line n ≢ []
some_moment n e = no_items 109 (codes "oment " ++ decimal n) (moment_line n) e refl

moment_free : IsFree 32 (codes "moment")
moment_free = free_by_test 32 (codes "moment") refl

-- a value's line is no moment's
pub no_moment : (name value : Line) (n : ℕ) → IsLineWord name → equation name value ≡ moment_line n → ⊥
no_moment name value n w e =
    let parts : (name ≡ codes "moment") × (61 ∷ 32 ∷ value ≡ decimal n) = same_front 32 name (codes "moment") (61 ∷ 32 ∷ value) (decimal n) w.free moment_free e in
    no_separator 61 (decimal n) [] (32 ∷ value) (decimal_free 61 (inr (omega arith)) n) (sym parts.1)

-- equal equations of words have the same words
pub same_equation : (a b c d : Line) → IsLineWord a → IsLineWord c → equation a b ≡ equation c d → (a ≡ c) × (b ≡ d)
same_equation a b c d f g e =
    let parts : (a ≡ c) × (61 ∷ 32 ∷ b ≡ 61 ∷ 32 ∷ d) = same_front 32 a c (61 ∷ 32 ∷ b) (61 ∷ 32 ∷ d) f.free g.free e in
    (parts.0, tail_of 32 32 b d (tail_of 61 61 (32 ∷ b) (32 ∷ d) parts.1))

by_places : {A : Type 0} (xs ys : List A) → ((i : ℕ) → slice_get xs i ≡ slice_get ys i) → xs ≡ ys
by_places [] [] h = refl
by_places [] (y ∷ ys) h = absurd (never y (h 0))
by_places (x ∷ xs) [] h = absurd (never x (sym (h 0)))
by_places (x ∷ xs) (y ∷ ys) h = both_of x y xs ys (some_same x y (h 0)) (by_places xs ys (λ i. h (suc i)))

pub in_domain_at : (xs : List FlatVariable) (v : List Value) (i : ℕ) (x : FlatVariable) (w : Value) → AreInDomains xs v → slice_get xs i ≡ Some x → slice_get v i ≡ Some w → IsTrue (in_domain x.declared w)
in_domain_at [] v i x w d e f = absurd (never x e)
in_domain_at (y ∷ xs) [] i x w d e f = absurd d
in_domain_at (y ∷ xs) (u ∷ v) zero x w d e f = subst (λ t. IsTrue (in_domain t.declared w)) (some_same y x e) (subst (λ t. IsTrue (in_domain y.declared t)) (some_same u w f) d.0)
in_domain_at (y ∷ xs) (u ∷ v) (suc i) x w d e f = in_domain_at xs v i x w d.1 e f

-- a variable and a value stand at a place, or neither does
data At (xs : List FlatVariable) (v : List Value) (i : ℕ) : Type 0 where
  here : (x : FlatVariable) (w : Value) → slice_get xs i ≡ Some x → slice_get v i ≡ Some w → At xs v i
  none : slice_get xs i ≡ None → slice_get v i ≡ None → At xs v i

at_place : (xs : List FlatVariable) (v : List Value) (i : ℕ) → AreInDomains xs v → At xs v i
at_place [] [] i d = none refl refl
at_place [] (w ∷ v) i d = absurd d
at_place (x ∷ xs) [] i d = absurd d
at_place (x ∷ xs) (w ∷ v) zero d = here x w refl refl
at_place (x ∷ xs) (w ∷ v) (suc i) d = later (at_place xs v i d.1)
  where
    later : At xs v i → At (x ∷ xs) (w ∷ v) (suc i)
    later (here y u e f) = here y u e f
    later (none e f) = none e f

pub plain_at : (m : FlatModel) → IsPrintable m → (v : List Value) → AreInDomains m.variables v → (i : ℕ) (x : FlatVariable) (w : Value) → slice_get m.variables i ≡ Some x → slice_get v i ≡ Some w → IsPlain w
plain_at m p v d i x w e f = domain_plain x.declared w (p.types i x e) (in_domain_at m.variables v i x w d e f)

pub equation_some : (a b : Line) → equation a b ≢ []
equation_some [] b e = no_items 32 (61 ∷ 32 ∷ b) (equation [] b) e refl
equation_some (c ∷ a) b e = no_items c (a ++ 32 ∷ 61 ∷ 32 ∷ b) (equation (c ∷ a) b) e refl

-- what one valuation says of a place another says too
said : (m : FlatModel) → IsPrintable m → (v u : List Value) → AreInDomains m.variables v → AreInDomains m.variables u → (i : ℕ) (x : FlatVariable) (w : Value) → slice_get m.variables i ≡ Some x → slice_get v i ≡ Some w →
    (value_line x w ≡ []) ⊎ SaysOf m u (value_line x w) → slice_get u i ≡ Some w
said m p v u d g i x w e f (inl bare) = absurd (equation_some (variable_text x) (value_text w) bare)
said m p v u d g i x w e f (inr s) =
    let same : (variable_text x ≡ variable_text s.variable) × (value_text w ≡ value_text s.value) =
    same_equation (variable_text x) (value_text w) (variable_text s.variable) (value_text s.value) (p.words i x e) (p.words s.place s.variable s.is_variable) s.is_line in
    let place : i ≡ s.place = p.apart i s.place x s.variable e s.is_variable same.0 in
    let value : w ≡ s.value = same_value_text w s.value (plain_at m p v d i x w e f) (plain_at m p u g s.place s.variable s.value s.is_variable s.is_value) same.1 in
    subst (λ k. slice_get u k ≡ Some w) (sym place) (s.is_value ∙ ap Some (sym value))

pub one_moment : (m : FlatModel) → IsPrintable m → (lines : List Line) (v u : List Value) → GivesMoment m lines v → GivesMoment m lines u → v ≡ u
one_moment m p lines v u a b = by_places v u (λ i. at i (at_place m.variables v i a.domains) (at_place m.variables u i b.domains))
  where
    at : (i : ℕ) → At m.variables v i → At m.variables u i → slice_get v i ≡ slice_get u i
    at i (here x w e f) other =
        let s : StandsOnce (value_line x w) lines = a.once i x w e f in
        let line : (value_line x w ≡ []) ⊎ SaysOf m u (value_line x w) =
        all_at (λ line. (line ≡ []) ⊎ SaysOf m u line) s.before (value_line x w) s.after (subst (AllByRecursion (λ line. (line ≡ []) ⊎ SaysOf m u line)) s.lie b.each) in
        f ∙ sym (said m p v u a.domains b.domains i x w e f line)
    at i (none e f) (none g h) = f ∙ sym h
    at i (none e f) (here x w g h) = absurd (never x (sym e ∙ g))

-- Moments.
-- no line begins a moment
abbrev pub HasNoMoment : List Line → Type 0
HasNoMoment lines = AllByRecursion (λ line. (n : ℕ) → line ≢ moment_line n) lines

-- there is nothing, or a moment begins
abbrev pub AtMoment : List Line → Type 0
AtMoment lines = (lines ≡ []) ⊎ ((n : ℕ) × (more : List Line) × (lines ≡ moment_line n ∷ more))

pub own_lines : (m : FlatModel) → IsPrintable m → (v : List Value) (lines : List Line) → AllByRecursion (λ line. (line ≡ []) ⊎ SaysOf m v line) lines → HasNoMoment lines
own_lines m p v [] h = tt
own_lines m p v (line ∷ lines) h = (here h.0, own_lines m p v lines h.1)
  where
    here : (line ≡ []) ⊎ SaysOf m v line → (n : ℕ) → line ≢ moment_line n
    here (inl e) n f = some_moment n (sym f ∙ e)
    here (inr s) n f = no_moment (variable_text s.variable) (value_text s.value) n (p.words s.place s.variable s.is_variable) (sym s.is_line ∙ f)

next_moment : (m : FlatModel) (n : ℕ) (lines : List Line) (trace : List (List Value)) → GivesMoments m n lines trace → AtMoment lines
next_moment m n lines [] h = inl h
next_moment m n lines (v ∷ vs) h = inr (n, h.0 ++ h.1, h.2)

-- what stands before a moment is told from it
pub same_own : (xs ys rest more : List Line) → HasNoMoment xs → HasNoMoment ys → AtMoment rest → AtMoment more → xs ++ rest ≡ ys ++ more → (xs ≡ ys) × (rest ≡ more)
same_own [] [] rest more f g a b e = (refl, e)
same_own [] (y ∷ ys) rest more f g (inl a) b e = absurd (no_items y (ys ++ more) rest a e)
same_own [] (y ∷ ys) rest more f g (inr a) b e = absurd (g.0 a.0 (sym (head_of (moment_line a.0) y a.1 (ys ++ more) (sym a.2 ∙ e))))
same_own (x ∷ xs) [] rest more f g a (inl b) e = absurd (no_items x (xs ++ rest) more b (sym e))
same_own (x ∷ xs) [] rest more f g a (inr b) e = absurd (f.0 b.0 (head_of x (moment_line b.0) (xs ++ rest) b.1 (e ∙ b.2)))
same_own (x ∷ xs) (y ∷ ys) rest more f g a b e =
    let same : (xs ≡ ys) × (rest ≡ more) = same_own xs ys rest more f.1 g.1 a b (tail_of x y (xs ++ rest) (ys ++ more) e) in
    (both_of x y xs ys (head_of x y (xs ++ rest) (ys ++ more) e) same.0, same.1)

one_moments : (m : FlatModel) → IsPrintable m → (n : ℕ) (lines : List Line) (t u : List (List Value)) → GivesMoments m n lines t → GivesMoments m n lines u → t ≡ u
one_moments m p n lines [] [] a b = refl
one_moments m p n lines [] (w ∷ u) a b = absurd (no_items (moment_line n) (b.0 ++ b.1) lines a b.2)
one_moments m p n lines (v ∷ t) [] a b = absurd (no_items (moment_line n) (a.0 ++ a.1) lines b a.2)
one_moments m p n lines (v ∷ t) (w ∷ u) a b =
    let same : (a.0 ≡ b.0) × (a.1 ≡ b.1) = same_own a.0 b.0 a.1 b.1 (own_lines m p v a.0 a.3.each) (own_lines m p w b.0 b.3.each) (next_moment m (suc n) a.1 t a.4) (next_moment m (suc n) b.1 u b.4)
    (tail_of (moment_line n) (moment_line n) (a.0 ++ a.1) (b.0 ++ b.1) (sym a.2 ∙ b.2)) in
    both_of v w t u (one_moment m p b.0 v w (subst (λ ls. GivesMoment m ls v) same.0 a.3) b.3) (one_moments m p (suc n) b.1 t u (subst (λ ls. GivesMoments m (suc n) ls t) same.1 a.4) b.4)

-- empty lines before the first line that is not empty
same_lead : (xs ys : List Line) (p q : Line) (more most : List Line) → AllByRecursion (λ l. l ≡ []) xs → AllByRecursion (λ l. l ≡ []) ys → p ≢ [] → q ≢ [] → xs ++ p ∷ more ≡ ys ++ q ∷ most → (p ∷ more) ≡ (q ∷ most)
same_lead [] [] p q more most f g h k e = e
same_lead [] (y ∷ ys) p q more most f g h k e = absurd (h (head_of p y more (ys ++ q ∷ most) e ∙ g.0))
same_lead (x ∷ xs) [] p q more most f g h k e = absurd (k (sym (head_of x q (xs ++ p ∷ more) most e) ∙ f.0))
same_lead (x ∷ xs) (y ∷ ys) p q more most f g h k e = same_lead xs ys p q more most f.1 g.1 h k (tail_of x y (xs ++ p ∷ more) (ys ++ q ∷ most) e)

lines_give_one : (m : FlatModel) → IsPrintable m → (lines : List Line) (t u : List (List Value)) → GivesTrace m lines t → GivesTrace m lines u → t ≡ u
lines_give_one m p lines [] u a b = absurd (a.some refl)
lines_give_one m p lines (v ∷ t) [] a b = absurd (b.some refl)
lines_give_one m p lines (v ∷ t) (w ∷ u) a b = one_moments m p 0 a.rest (v ∷ t) (w ∷ u) a.moments (subst (λ ls. GivesMoments m 0 ls (w ∷ u)) (sym rests) b.moments)
  where
    own_a : List Line
    own_a = a.moments.0 ++ a.moments.1

    own_b : List Line
    own_b = b.moments.0 ++ b.moments.1

    lies : a.blank ++ moment_line 0 ∷ (a.moments.0 ++ a.moments.1) ≡ b.blank ++ moment_line 0 ∷ (b.moments.0 ++ b.moments.1)
    lies = sym (a.lie ∙ ap (λ ls. a.blank ++ ls) a.moments.2) ∙ b.lie ∙ ap (λ ls. b.blank ++ ls) b.moments.2

    rests : a.rest ≡ b.rest
    rests = a.moments.2 ∙ same_lead a.blank b.blank (moment_line 0) (moment_line 0) (a.moments.0 ++ a.moments.1) (b.moments.0 ++ b.moments.1) a.empty b.empty (some_moment 0) (some_moment 0) lies ∙ sym b.moments.2

pub one_trace : OneTrace
one_trace m p = (
  lines_give_one m p,
  λ bytes t u a b. lines_give_one m p b.0 t u (subst (λ ls. GivesTrace m ls t) (same_fed bytes a.0 b.0 a.2 b.2 a.1 b.1) a.3) b.3,
)
