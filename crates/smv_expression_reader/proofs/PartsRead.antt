-- Parts of a text that are read as they are spelled, for the readers of programs and of instructions.
use Rattle.std.proofs.Common.{◌≡◌, ℕ, zero, suc, ◌<◌, ◌≤◌, ℤ, Bool, true, false, List, [], ◌∷◌, ◌++◌, length, refl, sym, ap, ◌∙◌, arith, append_assoc, length-append}
use Rattle.std.specs.Prelude.{◌||◌, if◌then◌else◌}
use Rattle.std.proofs.Math.Bool.{or_assoc}
use Rattle.smv_language.specs.Language.{Text, Lexeme, word, is_reserved, SpellsInt, plain_int, minus_int, SpellsMany, no_more, one_more}
use Rattle.smv_expression_reader.specs.Marks.{mark_of, is_mark}
use Rattle.smv_expression_reader.specs.ExpressionDepths.{Spelling, is_too_deep, are_too_deep, in_many}
use Rattle.smv_expression_reader.specs.SecondPass.{Read, got, deep, none, and_then, answer, with_front, expect_at, named_at, name_at, each_at, some_at, int_at}
use Rattle.smv_expression_reader.proofs.Marks.{mark_of_name}
use Rattle.smv_expression_reader.specs.declared.mark.Mark.{Mark}

-- of two lists one is too deep where one of either is
pub too_append : (xs ys : List Spelling) → are_too_deep (xs ++ ys) ≡ (are_too_deep xs || are_too_deep ys)
too_append [] ys = refl
too_append (x ∷ xs) ys = ap (λ b. is_too_deep x || b) (too_append xs ys) ∙ sym (or_assoc (is_too_deep x) (are_too_deep xs) (are_too_deep ys))

-- one part after another
pub then_read : {A B : Type 0} (f : A → List Lexeme → Read B) (y : Read A) (b c : Bool) (a : A) (r : List Lexeme) (d : B) (s : List Lexeme) → y ≡ answer b a r → f a r ≡ answer c d s →
    and_then y f ≡ answer (b || c) d s
then_read f y b c a r d s e g = ap (λ z. and_then z f) e ∙ go b
  where
    go : (b : Bool) → and_then (answer b a r) f ≡ answer (b || c) d s
    go true = refl
    go false = g

-- what is made of a part that is read
pub mapped : {A B : Type 0} (f : A → B) (y : Read A) (b : Bool) (a : A) (r : List Lexeme) → y ≡ answer b a r → and_then y (λ x s. got (f x) s) ≡ answer b (f a) r
mapped f y b a r e = ap (λ z. and_then z (λ x s. got (f x) s)) e ∙ go b
  where
    go : (b : Bool) → and_then (answer b a r) (λ x s. got (f x) s) ≡ answer b (f a) r
    go true = refl
    go false = refl

-- a part, and the lexeme behind it
pub closes_with : {A B : Type 0} (f : A → B) (c : Mark) (t : Lexeme) (y : Read A) (b : Bool) (a : A) (r : List Lexeme) → is_mark c (mark_of t) ≡ true → y ≡ answer b a (t ∷ r) →
    and_then y (λ x s. and_then (expect_at c s) (λ _ z. got (f x) z)) ≡ answer b (f a) r
closes_with f c t y b a r here e = ap (λ z. and_then z (λ x s. and_then (expect_at c s) (λ _ z. got (f x) z))) e ∙ go b
  where
    go : (b : Bool) → and_then (answer b a (t ∷ r)) (λ x s. and_then (expect_at c s) (λ _ z. got (f x) z)) ≡ answer b (f a) r
    go true = refl
    go false = ap (λ b. and_then (if b then got tt r else none) (λ _ z. got (f a) z)) here

-- no further part begins
pub each_none_left : {A : Type 0} (begins : List Lexeme → Bool) (one : List Lexeme → Read A) (n : ℕ) (r : List Lexeme) → begins r ≡ false → each_at begins one n r ≡ got [] r
each_none_left begins one zero r e = refl
each_none_left begins one (suc n) r e = ap (λ b. if b then and_then (one r) (λ a s. and_then (each_at begins one n s) (λ more z. got (a ∷ more) z)) else got [] r) e

-- a part before others
pub cons_answer : {A : Type 0} (a : A) (vs : List A) (c : Bool) (end : List Lexeme) (y : Read (List A)) → y ≡ answer c vs end → and_then y (λ more z. got (a ∷ more) z) ≡ answer c (a ∷ vs) end
cons_answer a vs c end y e = mapped (λ more. a ∷ more) y c vs end e

-- a part and those behind it
pub each_joined : {A : Type 0} (begins : List Lexeme → Bool) (one : List Lexeme → Read A) (n : ℕ) (ts r : List Lexeme) (b c : Bool) (a : A) (vs : List A) (end : List Lexeme) →
    begins ts ≡ true → one ts ≡ answer b a r → each_at begins one n r ≡ answer c vs end → each_at begins one (suc n) ts ≡ answer (b || c) (a ∷ vs) end
each_joined begins one n ts r b c a vs end go read rest =
    ap (λ b. if b then and_then (one ts) (λ a s. and_then (each_at begins one n s) (λ more z. got (a ∷ more) z)) else got [] ts) go
    ∙ ap (λ y. and_then y (λ a s. and_then (each_at begins one n s) (λ more z. got (a ∷ more) z))) read ∙ by b
  where
    by : (b : Bool) → and_then (answer b a r) (λ a s. and_then (each_at begins one n s) (λ more z. got (a ∷ more) z)) ≡ answer (b || c) (a ∷ vs) end
    by true = refl
    by false = cons_answer a vs c end (each_at begins one n r) rest

-- the first part and those behind it
pub some_joined : {A : Type 0} (begins : List Lexeme → Bool) (one next : List Lexeme → Read A) (ts r : List Lexeme) (b c : Bool) (a : A) (vs : List A) (end : List Lexeme) →
    one ts ≡ answer b a r → each_at begins next (length r) r ≡ answer c vs end → some_at begins one next ts ≡ answer (b || c) (a ∷ vs) end
some_joined begins one next ts r b c a vs end read rest =
    ap (λ y. and_then y (λ a s. with_front (a ∷ []) (each_at begins next (length s) s))) read ∙ by b
  where
    front : (c : Bool) → with_front (a ∷ []) (answer c vs end) ≡ answer c (a ∷ vs) end
    front true = refl
    front false = refl

    by : (b : Bool) → and_then (answer b a r) (λ a s. with_front (a ∷ []) (each_at begins next (length s) s)) ≡ answer (b || c) (a ∷ vs) end
    by true = refl
    by false = ap (with_front (a ∷ [])) rest ∙ front c

-- many parts, each of which begins in a way that tells it
module _ (A : Type 0) (One : List Lexeme → A → Type 0) (one : List Lexeme → Read A) (begins : List Lexeme → Bool) (within : (ts : List Lexeme) (a : A) → One ts a → List Spelling)
    (ok : List Lexeme → Bool) (next_ok : (z : List Lexeme) → begins z ≡ true → ok z ≡ true)
    (starts : (ts : List Lexeme) (a : A) (p : One ts a) (r : List Lexeme) → begins (ts ++ r) ≡ true) (size : (ts : List Lexeme) (a : A) → One ts a → 0 < length ts)
    (reads : (ts : List Lexeme) (a : A) (p : One ts a) (r : List Lexeme) → ok r ≡ true → one (ts ++ r) ≡ answer (are_too_deep (within ts a p)) a r) where
  rest_ok : {us : List Lexeme} {vs : List A} (q : SpellsMany One us vs) (r : List Lexeme) → ok r ≡ true → ok (us ++ r) ≡ true
  rest_ok no_more r o = o
  rest_ok (one_more {ts} {us} {a} p q) r o = next_ok ((ts ++ us) ++ r) (ap begins (append_assoc ts us r) ∙ starts ts a p (us ++ r))

  pub many_read : {us : List Lexeme} {vs : List A} (q : SpellsMany One us vs) (n : ℕ) (r : List Lexeme) → length us ≤ n → ok r ≡ true → begins r ≡ false →
      each_at begins one n (us ++ r) ≡ answer (are_too_deep (in_many One within q)) vs r
  many_read no_more n r h o off = each_none_left begins one n r off
  many_read (one_more {ts} {us} {a} {more} p q) zero r h o off = let long = length-append ts us in let some = size ts a p in absurd (omega (arith, h, long, some))
  many_read (one_more {ts} {us} {a} {more} p q) (suc n) r h o off =
      let long = length-append ts us in let some = size ts a p in
      ap (each_at begins one (suc n)) (append_assoc ts us r)
      ∙ each_joined begins one n (ts ++ (us ++ r)) (us ++ r) (are_too_deep (within ts a p)) (are_too_deep (in_many One within q)) a more r
      (starts ts a p (us ++ r)) (reads ts a p (us ++ r) (rest_ok q r o)) (many_read q n r (omega (arith, h, long, some)) o off)
      ∙ ap (λ b. answer b (a ∷ more) r) (sym (too_append (within ts a p) (in_many One within q)))

  -- one of them at least
  pub some_read : {us : List Lexeme} {vs : List A} (q : SpellsMany One us vs) (r : List Lexeme) → (vs ≡ [] → ⊥) → ok r ≡ true → begins r ≡ false →
      some_at begins one one (us ++ r) ≡ answer (are_too_deep (in_many One within q)) vs r
  some_read no_more r some o off = absurd (some refl)
  some_read (one_more {ts} {us} {a} {more} p q) r some o off =
      let long = length-append us r in
      ap (some_at begins one one) (append_assoc ts us r)
      ∙ some_joined begins one one (ts ++ (us ++ r)) (us ++ r) (are_too_deep (within ts a p)) (are_too_deep (in_many One within q)) a more r
      (reads ts a p (us ++ r) (rest_ok q r o)) (many_read q (length (us ++ r)) r (omega (arith, long)) o off)
      ∙ ap (λ b. answer b (a ∷ more) r) (sym (too_append (within ts a p) (in_many One within q)))

-- where no part has an expression, none is too deep
pub no_many : {A : Type 0} (One : List Lexeme → A → Type 0) {us : List Lexeme} {vs : List A} (q : SpellsMany One us vs) → are_too_deep (in_many One (λ ts a p. []) q) ≡ false
no_many One no_more = refl
no_many One (one_more p q) = no_many One q

-- a name, and a number with its sign
pub name_read : (x : Text) → is_reserved x ≡ false → (r : List Lexeme) → name_at (word x ∷ r) ≡ got x r
name_read x n r = ap (λ c. named_at c (word x) r) (mark_of_name x n)

pub int_read : {xs : List Lexeme} {n : ℤ} (q : SpellsInt xs n) (r : List Lexeme) → int_at (xs ++ r) ≡ got n r
int_read plain_int r = refl
int_read minus_int r = refl

-- what is said of a whole text that is read: the part is the spelled one, or too deep, and some part it is
pub answer_got : {A : Type 0} (b : Bool) (a c : A) (r : List Lexeme) → answer b a [] ≡ got c r → (a ≡ c) × (b ≡ false)
answer_got true a c r e = cc
answer_got false a c r e = let same : a ≡ c = cc in (same, refl)

pub answer_deep : {A : Type 0} (b : Bool) (a : A) → answer b a [] ≡ deep → b ≡ true
answer_deep true a e = refl
answer_deep false a e = cc

pub answer_none : {A : Type 0} (b : Bool) (a : A) → answer b a [] ≡ none → ⊥
answer_none true a e = cc
answer_none false a e = cc
