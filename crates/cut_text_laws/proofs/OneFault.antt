-- At most one fault of a text is the first.
use Rattle.std.proofs.Common.{◌≡◌, ◌≢◌, ◌⊎◌, inl, inr, ℕ, suc, ◌<◌, ◌≤◌, List, [], ◌∷◌, ◌++◌, length, refl, sym, ◌∙◌, ap, subst, arith, Bool, true, false, nat_lt, ltb-true}
use Rattle.std.proofs.lemmas.Bool.Decides.{nat_tests}
use Rattle.std.specs.List.{AllByRecursion}
use Rattle.smv_language.specs.Flat.{FlatModel}
use Rattle.cut_text_laws.specs.Lines.{Line, fed, IsLine}
use Rattle.cut_text_laws.proofs.Separators.{same_front, comparable, all_at, grouped}
use Rattle.cut_text_laws.proofs.Cuts.{no_feed, same_fed}
use Rattle.cut_text_laws.specs.TraceFaults.{LineFault, bad_line, unknown_name, outside, twice, number_of, moments_after, Breaks, AreSound, IsLeast, IsWrongLine, IsBlank, Lacks, Misses, wrong_line, missing_value}
use Rattle.cut_text_laws.specs.Laws.{OneFault}
use Rattle.cut_text_laws.proofs.OneTrace.{equation_some}
use Rattle.std.proofs.lemmas.List.{append-nil as append_none}

-- nothing is wrong with an empty line
pub empty_breaks : (m : FlatModel) (before : List Line) (f : LineFault) → Breaks m before [] f → ⊥
empty_breaks m before bad_line h = h.0 refl
empty_breaks m before unknown_name h = equation_some h.0 h.1 (sym h.2.is_line)
empty_breaks m before outside h = equation_some h.0 h.1 (sym h.2.is_line)
empty_breaks m before twice h = equation_some h.0 h.1 (sym h.2.is_line)

empty_sound : (m : FlatModel) (lines : List Line) → AllByRecursion (λ line. line ≡ []) lines → AreSound m lines
empty_sound m lines h front line back f lie b =
    empty_breaks m front f (subst (λ l. Breaks m front l f) (all_at (λ line. line ≡ []) front line back (subst (AllByRecursion (λ line. line ≡ [])) lie h)) b)

pub empty_lines : (lines : List Line) → AllByRecursion (λ line. line ≡ []) lines → AllByRecursion IsLine lines
empty_lines [] h = tt
empty_lines (l ∷ lines) h = (subst IsLine (sym h.0) tt, empty_lines lines h.1)

-- a wrong line is no line of sound lines
in_sound : (m : FlatModel) (bytes : List ℕ) (f : LineFault) (n : ℕ) (a : IsWrongLine m bytes f n) (z : Line) (zs : List Line) (m' : List ℕ) → IsLine z → a.line ++ a.after ≡ fed (z ∷ zs) ++ m' → AreSound m (a.before ++ z ∷ zs) → ⊥
in_sound m bytes f n a z zs m' l e sound = by_cause a.cause
  where
    by_cause : ((more : List ℕ) × (a.after ≡ 10 ∷ more) × IsLeast m a.before a.line f) ⊎ ((a.after ≡ []) × (a.line ≢ []) × (f ≡ bad_line)) → ⊥
    by_cause (inl c) =
        let fronts : (a.line ≡ z) × (c.0 ≡ fed zs ++ m') = same_front 10 a.line z c.0 (fed zs ++ m') a.is_line l (ap (λ r. a.line ++ r) (sym c.1) ∙ e ∙ grouped z zs m') in
        sound a.before z zs f refl (subst (λ x. Breaks m a.before x f) fronts.0 c.2.breaks)
    by_cause (inr c) = no_feed a.line z zs m' a.is_line (sym (append_none a.line) ∙ ap (λ r. a.line ++ r) (sym c.0) ∙ e)

-- it has some bytes, or a line feed
some_bytes : (m : FlatModel) (bytes : List ℕ) (f : LineFault) (n : ℕ) (a : IsWrongLine m bytes f n) → a.line ++ a.after ≡ [] → ⊥
some_bytes m bytes f n a e = by_cause a.cause
  where
    nothing_before : (xs ys : List ℕ) → xs ++ ys ≡ [] → (xs ≡ []) × (ys ≡ [])
    nothing_before [] ys e = (refl, e)
    nothing_before (x ∷ xs) ys e = let bad : length (x ∷ (xs ++ ys)) ≡ length {A = ℕ} [] = ap (length {A = ℕ}) e in absurd (omega (arith, bad))

    by_cause : ((more : List ℕ) × (a.after ≡ 10 ∷ more) × IsLeast m a.before a.line f) ⊎ ((a.after ≡ []) × (a.line ≢ []) × (f ≡ bad_line)) → ⊥
    by_cause (inl c) =
        let short : length (10 ∷ c.0) ≡ length {A = ℕ} [] = ap (length {A = ℕ}) (sym c.1 ∙ (nothing_before a.line a.after e).1) in omega (arith, short)
    by_cause (inr c) = c.1 (nothing_before a.line a.after e).0

last_of_all : (xs : List Line) (z : Line) (zs : List Line) → AllByRecursion IsLine (xs ++ z ∷ zs) → IsLine z
last_of_all [] z zs h = h.0
last_of_all (x ∷ xs) z zs h = last_of_all xs z zs h.1

-- sound lines have no wrong line
pub sound_not_wrong : (m : FlatModel) (bytes : List ℕ) (f : LineFault) (n : ℕ) → IsWrongLine m bytes f n → (lines : List Line) → bytes ≡ fed lines → AllByRecursion IsLine lines → AreSound m lines → ⊥
sound_not_wrong m bytes f n a lines e ls sound =
    by_side (comparable a.before lines (a.line ++ a.after) [] a.are_lines ls (sym a.lie ∙ e ∙ sym (append_none (fed lines))))
  where
    by_rest : (zs : List Line) → lines ≡ a.before ++ zs → a.line ++ a.after ≡ fed zs ++ [] → ⊥
    by_rest [] g h = some_bytes m bytes f n a h
    by_rest (z ∷ zs) g h = in_sound m bytes f n a z zs [] (last_of_all a.before z zs (subst (AllByRecursion IsLine) g ls)) h (subst (AreSound m) g sound)

    by_other : (zs : List Line) → [] ≡ fed zs ++ (a.line ++ a.after) → ⊥
    by_other [] h = some_bytes m bytes f n a (sym h)
    by_other (z ∷ zs) h = no_feed [] z zs (a.line ++ a.after) tt h

    by_side : ((zs : List Line) × (lines ≡ a.before ++ zs) × (a.line ++ a.after ≡ fed zs ++ [])) ⊎ ((zs : List Line) × (a.before ≡ lines ++ zs) × ([] ≡ fed zs ++ (a.line ++ a.after))) → ⊥
    by_side (inl h) = by_rest h.0 h.1 h.2
    by_side (inr h) = by_other h.0 h.2

same_number : (f g : LineFault) → number_of f ≤ number_of g → number_of g ≤ number_of f → f ≡ g
same_number bad_line bad_line h k = refl
same_number unknown_name unknown_name h k = refl
same_number outside outside h k = refl
same_number twice twice h k = refl
same_number bad_line unknown_name h k = absurd (omega (arith, k))
same_number bad_line outside h k = absurd (omega (arith, k))
same_number bad_line twice h k = absurd (omega (arith, k))
same_number unknown_name bad_line h k = absurd (omega (arith, h))
same_number unknown_name outside h k = absurd (omega (arith, k))
same_number unknown_name twice h k = absurd (omega (arith, k))
same_number outside bad_line h k = absurd (omega (arith, h))
same_number outside unknown_name h k = absurd (omega (arith, h))
same_number outside twice h k = absurd (omega (arith, k))
same_number twice bad_line h k = absurd (omega (arith, h))
same_number twice unknown_name h k = absurd (omega (arith, h))
same_number twice outside h k = absurd (omega (arith, h))

-- what is wrong with the line after the same lines
same_line : (m : FlatModel) (bytes : List ℕ) (f g : LineFault) (i j : ℕ) (a : IsWrongLine m bytes f i) (b : IsWrongLine m bytes g j) → a.before ≡ b.before → a.line ++ a.after ≡ b.line ++ b.after → f ≡ g
same_line m bytes f g i j a b same e = by_causes a.cause b.cause
  where
    ended_line : (line other : Line) (after last more : List ℕ) → IsLine other → line ++ after ≡ other ++ last → after ≡ 10 ∷ more → last ≡ [] → ⊥
    ended_line line other after last more l e p q = no_feed other line [] more l (sym (append_none other) ∙ ap (λ r. other ++ r) (sym q) ∙ sym e ∙ ap (λ r. line ++ r) p ∙ sym (grouped line [] more))

    by_causes : ((more : List ℕ) × (a.after ≡ 10 ∷ more) × IsLeast m a.before a.line f) ⊎ ((a.after ≡ []) × (a.line ≢ []) × (f ≡ bad_line)) →
        ((more : List ℕ) × (b.after ≡ 10 ∷ more) × IsLeast m b.before b.line g) ⊎ ((b.after ≡ []) × (b.line ≢ []) × (g ≡ bad_line)) → f ≡ g
    by_causes (inl c) (inl d) =
        let fronts : (a.line ≡ b.line) × (c.0 ≡ d.0) = same_front 10 a.line b.line c.0 d.0 a.is_line b.is_line (ap (λ r. a.line ++ r) (sym c.1) ∙ e ∙ ap (λ r. b.line ++ r) d.1) in
        let other : IsLeast m a.before a.line g = subst (λ x. IsLeast m a.before x g) (sym fronts.0) (subst (λ x. IsLeast m x b.line g) (sym same) d.2) in
        same_number f g (c.2.least g other.breaks) (other.least f c.2.breaks)
    by_causes (inl c) (inr d) = absurd (ended_line a.line b.line a.after b.after c.0 b.is_line e c.1 d.0)
    by_causes (inr c) (inl d) = absurd (ended_line b.line a.line b.after a.after d.0 a.is_line (sym e) d.1 c.0)
    by_causes (inr c) (inr d) = c.2 ∙ sym d.2

one_wrong_line : (m : FlatModel) (bytes : List ℕ) (f g : LineFault) (i j : ℕ) → IsWrongLine m bytes f i → IsWrongLine m bytes g j → (f ≡ g) × (i ≡ j)
one_wrong_line m bytes f g i j a b =
    by_side (comparable a.before b.before (a.line ++ a.after) (b.line ++ b.after) a.are_lines b.are_lines (sym a.lie ∙ b.lie))
  where
    by_rest : (f g : LineFault) (i j : ℕ) (a : IsWrongLine m bytes f i) (b : IsWrongLine m bytes g j) (zs : List Line) → b.before ≡ a.before ++ zs → a.line ++ a.after ≡ fed zs ++ (b.line ++ b.after) → (f ≡ g) × (i ≡ j)
    by_rest f g i j a b [] p h =
        let same : a.before ≡ b.before = sym (append_none a.before) ∙ sym p in
        (same_line m bytes f g i j a b same h, a.place ∙ ap (λ (ls : List Line). suc (length ls)) same ∙ sym b.place)
    by_rest f g i j a b (z ∷ zs) p h =
        absurd (in_sound m bytes f i a z zs (b.line ++ b.after) (last_of_all a.before z zs (subst (AllByRecursion IsLine) p b.are_lines)) h (subst (AreSound m) p b.sound))

    by_side : ((zs : List Line) × (b.before ≡ a.before ++ zs) × (a.line ++ a.after ≡ fed zs ++ (b.line ++ b.after))) ⊎ ((zs : List Line) × (a.before ≡ b.before ++ zs) × (b.line ++ b.after ≡ fed zs ++ (a.line ++ a.after))) → (f ≡ g) × (i ≡ j)
    by_side (inl h) = by_rest f g i j a b h.0 h.1 h.2
    by_side (inr h) = let r : (g ≡ f) × (j ≡ i) = by_rest g f j i b a h.0 h.1 h.2 in (sym r.0, sym r.1)

blank_not_wrong : (m : FlatModel) (bytes : List ℕ) (f : LineFault) (n : ℕ) → IsBlank bytes → IsWrongLine m bytes f n → ⊥
blank_not_wrong m bytes f n b a = sound_not_wrong m bytes f n a b.0 b.1 (empty_lines b.0 b.2) (empty_sound m b.0 b.2)

-- in empty lines no moment begins
pub no_moments : (n : ℕ) (lines : List Line) → AllByRecursion (λ line. line ≡ []) lines → moments_after n lines ≡ n
no_moments n [] h = refl
no_moments n (line ∷ lines) h = ap (λ l. moments_after n (l ∷ lines)) h.0 ∙ no_moments n lines h.1

blank_not_missing : (m : FlatModel) (bytes : List ℕ) (k : ℕ) → IsBlank bytes → Misses m bytes k → ⊥
blank_not_missing m bytes k b a =
    let same : b.0 ≡ a.lines = same_fed bytes b.0 a.lines (empty_lines b.0 b.2) a.are_lines b.1 a.lie in
    let none : moments_after 0 a.lines ≡ 0 = ap (moments_after 0) (sym same) ∙ no_moments 0 b.0 b.2 in
    omega (arith, a.has, none)

one_missing : (m : FlatModel) (bytes : List ℕ) (i j : ℕ) → Misses m bytes i → Misses m bytes j → i ≡ j
one_missing m bytes i j a b = by_tests (nat_lt i j) (nat_lt j i) refl refl
  where
    same : a.lines ≡ b.lines
    same = same_fed bytes a.lines b.lines a.are_lines b.are_lines a.lie b.lie

    less : i < j → ⊥
    less h = b.least i h (subst (λ ls. Lacks m ls i) same a.lacks)

    more : j < i → ⊥
    more h = a.least j h (subst (λ ls. Lacks m ls j) (sym same) b.lacks)

    by_tests : (s t : Bool) → nat_lt i j ≡ s → nat_lt j i ≡ t → i ≡ j
    by_tests true t e f = absurd (less (ltb-true i j e))
    by_tests false true e f = absurd (more (ltb-true j i f))
    by_tests false false e f = grind (arith, nat_tests)

pub one_fault : OneFault
one_fault m bytes (wrong_line f i) (wrong_line g j) (inl a) (inl b) = let r : (f ≡ g) × (i ≡ j) = one_wrong_line m bytes f g i j a b in two f g i j r.0 r.1
  where
    two : (f g : LineFault) (i j : ℕ) → f ≡ g → i ≡ j → wrong_line f i ≡ wrong_line g j
    two f g i j e h = cc
one_fault m bytes (wrong_line f i) (wrong_line g j) (inl a) (inr b) = absurd (blank_not_wrong m bytes f i b.0 a)
one_fault m bytes (wrong_line f i) (wrong_line g j) (inr a) (inl b) = absurd (blank_not_wrong m bytes g j a.0 b)
one_fault m bytes (wrong_line f i) (wrong_line g j) (inr a) (inr b) = two f g i j (a.1 ∙ sym b.1) (a.2 ∙ sym b.2)
  where
    two : (f g : LineFault) (i j : ℕ) → f ≡ g → i ≡ j → wrong_line f i ≡ wrong_line g j
    two f g i j e h = cc
one_fault m bytes (wrong_line f i) (missing_value j) (inl a) b = absurd (sound_not_wrong m bytes f i a b.lines b.lie b.are_lines b.sound)
one_fault m bytes (wrong_line f i) (missing_value j) (inr a) b = absurd (blank_not_missing m bytes j a.0 b)
one_fault m bytes (missing_value i) (wrong_line g j) a (inl b) = absurd (sound_not_wrong m bytes g j b a.lines a.lie a.are_lines a.sound)
one_fault m bytes (missing_value i) (wrong_line g j) a (inr b) = absurd (blank_not_missing m bytes i b.0 a)
one_fault m bytes (missing_value i) (missing_value j) a b = ap missing_value (one_missing m bytes i j a b)
