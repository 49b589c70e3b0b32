-- Words in lines, and lists without a separator.
use Rattle.std.proofs.Common.{◌≡◌, ◌≢◌, ℕ, ◌<◌, Bool, true, false, not, nat_eq, List, [], ◌∷◌, ◌++◌, length, map, refl, sym, ap, arith, eq-eqb}
use Rattle.std.specs.List.{AllByRecursion, list_all}
use Rattle.cut_text_laws.specs.Lines.{Line, spaced}
use Rattle.cut_text_laws.proofs.Separators.{IsFree, same_front, no_separator, both_of}
use Rattle.smv_language.proofs.BoolLaws.{left_true, right_true}

-- a list that passes the test is free of the separator
pub free_by_test : (s : ℕ) (xs : List ℕ) → list_all (λ x. not (nat_eq x s)) xs ≡ true → IsFree s xs
free_by_test s [] h = tt
free_by_test s (x ∷ xs) h = (differs, free_by_test s xs (right_true (not (nat_eq x s)) (list_all (λ x. not (nat_eq x s)) xs) h))
  where
    is_not : (b : Bool) → not b ≡ true → b ≡ true → ⊥
    is_not true e f = cc
    is_not false e f = cc

    differs : x ≢ s
    differs e = is_not (nat_eq x s) (left_true (not (nat_eq x s)) (list_all (λ x. not (nat_eq x s)) xs) h) (eq-eqb x s e)

pub free_joined : (s : ℕ) (xs ys : List ℕ) → IsFree s xs → IsFree s ys → IsFree s (xs ++ ys)
free_joined s [] ys f g = g
free_joined s (x ∷ xs) ys f g = (f.0, free_joined s xs ys f.1 g)

-- a word has a byte, and none of its bytes is a space
pub record IsWord (w : Line) : Type 0 where
  pub some : 0 < length w
  pub free : IsFree 32 w

nothing : (v : Line) → 0 < length v → [] ≡ v → ⊥
nothing v h e = let bad : length {A = ℕ} [] ≡ length v = ap (length {A = ℕ}) e in omega (arith, bad, h)

-- Words with one space between are told apart.
pub same_words : (ws vs : List Line) → AllByRecursion IsWord ws → AllByRecursion IsWord vs → spaced ws ≡ spaced vs → ws ≡ vs
same_words [] [] f g e = refl
same_words [] (v ∷ []) f g e = absurd (nothing v g.0.some e)
same_words [] (v ∷ u ∷ vs) f g e = absurd (no_separator 32 [] v (spaced (u ∷ vs)) tt e)
same_words (w ∷ []) [] f g e = absurd (nothing w f.0.some (sym e))
same_words (w ∷ []) (v ∷ []) f g e = ap (λ x. x ∷ []) e
same_words (w ∷ []) (v ∷ u ∷ vs) f g e = absurd (no_separator 32 w v (spaced (u ∷ vs)) f.0.free e)
same_words (w ∷ x ∷ ws) [] f g e = absurd (no_separator 32 [] w (spaced (x ∷ ws)) tt (sym e))
same_words (w ∷ x ∷ ws) (v ∷ []) f g e = absurd (no_separator 32 v w (spaced (x ∷ ws)) g.0.free (sym e))
same_words (w ∷ x ∷ ws) (v ∷ u ∷ vs) f g e =
    let fronts : (w ≡ v) × (spaced (x ∷ ws) ≡ spaced (u ∷ vs)) = same_front 32 w v (spaced (x ∷ ws)) (spaced (u ∷ vs)) f.0.free g.0.free e in
    both_of w v (x ∷ ws) (u ∷ vs) fronts.0 (same_words (x ∷ ws) (u ∷ vs) f.1 g.1 fronts.1)

numbers_differ : (a b : ℕ) → a < b → b ≡ a → ⊥
numbers_differ a b h e = omega (arith, h, e)

-- and have no line feed where the words have none
pub spaced_line : (ws : List Line) → AllByRecursion (IsFree 10) ws → IsFree 10 (spaced ws)
spaced_line [] h = tt
spaced_line (w ∷ []) h = h.0
spaced_line (w ∷ v ∷ ws) h = free_joined 10 w (32 ∷ spaced (v ∷ ws)) h.0 (numbers_differ 10 32 (omega arith), spaced_line (v ∷ ws) h.1)

-- Lists of words.
pub same_texts : {A : Type 0} (text : A → Line) (P : A → Type 0) → ((a b : A) → P a → P b → text a ≡ text b → a ≡ b) →
    (as' bs : List A) → AllByRecursion P as' → AllByRecursion P bs → map text as' ≡ map text bs → as' ≡ bs
same_texts text P one [] [] f g e = refl
same_texts text P one [] (b ∷ bs) f g e = let bad : length {A = Line} [] ≡ length (map text (b ∷ bs)) = ap (length {A = Line}) e in absurd (omega (arith, bad))
same_texts text P one (a ∷ as') [] f g e = let bad : length (map text (a ∷ as')) ≡ length {A = Line} [] = ap (length {A = Line}) e in absurd (omega (arith, bad))
same_texts {A = A} text P one (a ∷ as') (b ∷ bs) f g e =
    both a b as' bs (one a b f.0 g.0 (heads (text a) (text b) (map text as') (map text bs) e)) (same_texts text P one as' bs f.1 g.1 (tails (text a) (text b) (map text as') (map text bs) e))
  where
    both : (a b : A) (as' bs : List A) → a ≡ b → as' ≡ bs → (a ∷ as') ≡ (b ∷ bs)
    both a b as' bs e f = cc

    heads : (x y : Line) (xs ys : List Line) → (x ∷ xs) ≡ (y ∷ ys) → x ≡ y
    heads x y xs ys e = cc

    tails : (x y : Line) (xs ys : List Line) → (x ∷ xs) ≡ (y ∷ ys) → xs ≡ ys
    tails x y xs ys e = cc

pub all_texts : {A : Type 0} (text : A → Line) (P : A → Type 0) (Q : Line → Type 0) → ((a : A) → P a → Q (text a)) → (as' : List A) → AllByRecursion P as' → AllByRecursion Q (map text as')
all_texts text P Q f [] h = tt
all_texts text P Q f (a ∷ as') h = (f a h.0, all_texts text P Q f as' h.1)
