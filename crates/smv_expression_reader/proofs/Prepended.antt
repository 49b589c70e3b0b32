-- An operand and an operator before an expression make an expression.
use Rattle.std.proofs.Common.{◌≡◌, ◌≢◌, ℕ, suc, ◌-◌, ◌<◌, ◌≤◌, Bool, true, false, List, ◌∷◌, ◌++◌, Option, Some, None, ◌⊎◌, inl, inr, refl, sym, ◌∙◌, ap, subst, arith, append_assoc}
use Rattle.std.proofs.lemmas.Bool.{cases_lt}
use Rattle.std.proofs.lemmas.Bool.Decides.{nat_tests}
use Rattle.smv_lexer.specs.declared.token.TokenKind.TheVariants as k
use Rattle.smv_language.specs.declared.expr.Op.{Op}
use Rattle.smv_language.specs.declared.expr.Op.TheVariants as op
use Rattle.smv_language.specs.Language.{Tree, binary, choice, Lexeme, sign, Path, at_expr, at_iff, at_choice, at_or, at_prod, at_neg, line_of, operator, is_repeated, begins_span, plain_int, minus_int, one_name, more_names, Spells, only_iff, implies, repeated, only_or, chooses, only_not, negates, only_atom, inverts, SpellsMore, no_operator, one_operator, SpellsAtom, is_true, is_false, is_number, is_span, is_name, in_parentheses, is_next, is_set, is_case}
use Rattle.smv_language.proofs.PrintedSpells.{loosened}

-- some tree is spelled in a line
abbrev pub IsSpelled : ℕ → List Lexeme → Type 0
IsSpelled l xs = (t : Tree Path) × Spells l xs t

-- a repetition goes on after any tree
more_after : {l : ℕ} {ys : List Lexeme} {a t : Tree Path} (a' : Tree Path) → SpellsMore l ys a t → (t' : Tree Path) × SpellsMore l ys a' t'
more_after a' no_operator = (a', no_operator)
more_after a' (one_operator {o = o} {b = b} f p m) = let rest = more_after (binary o a' b) m in (rest.0, one_operator f p rest.1)

pub record IsLine (m : ℕ) : Type 0 where
  pub some : at_iff ≤ m
  pub tight : m ≤ at_prod
  pub no_choice : m ≢ at_choice

abbrev pub IsLineIn : Option ℕ → Type 0
IsLineIn None = Unit {0}
IsLineIn (Some m) = IsLine m

pub line_is : (o : Op) → IsLineIn (line_of o)
line_is op.Implies = tt
line_is o = record { some = omega arith; tight = omega arith; no_choice = λ e. omega (arith, e) }

-- each line that repeats an operator
no_choice_line : {l : ℕ} → is_repeated l ≡ true → l ≡ at_choice → ⊥
no_choice_line {l} h e = let clash : is_repeated at_choice ≡ true = subst (λ z. is_repeated z ≡ true) e h in cc

prepend : {l : ℕ} {ys us : List Lexeme} {t u : Tree Path} (o : Op) (m : ℕ) → line_of o ≡ Some m → IsLine m → l ≤ m → Spells at_neg us u → Spells l ys t →
    IsSpelled l (us ++ operator o ∷ ys)
prepend o m f is below u (only_iff p) = let inner = prepend o m f is is.some u p in (inner.0, only_iff inner.1)
prepend {us = us} o m f is below u (implies {xs = xs} {ys = ys} {b = b} p q) =
    let inner = prepend o m f is is.some u p in
    (binary op.Implies inner.0 b, subst (λ z. Spells at_expr z (binary op.Implies inner.0 b)) (append_assoc us (operator o ∷ xs) (sign k.Implies ∷ ys)) (implies inner.1 q))
prepend {us = us} {u = u0} o m f is below u (repeated {l = l} {xs = xs} {ys = ys} {a = a} h p more) = go (cases_lt l m) (λ tighter. prepend o m f is tighter u p)
  where
    go : (l < m) ⊎ (m ≤ l) → (l < m → IsSpelled (suc l) (us ++ operator o ∷ xs)) → IsSpelled l (us ++ operator o ∷ (xs ++ ys))
    go (inl tighter) rec =
        let inner = rec tighter in
        let rest = more_after inner.0 more in
        (rest.0, subst (λ z. Spells l z rest.0) (append_assoc us (operator o ∷ xs) ys) (repeated h inner.1 rest.1))
    go (inr looser) rec =
        let same : m ≡ l = omega (arith, looser, below) in
        let first : Spells (suc l) us u0 = loosened (at_neg - suc l) (suc l) at_neg (let tight = is.tight in omega (arith, tight, same)) (omega arith) u in
        let rest = more_after (binary o u0 a) more in
        let line : line_of o ≡ Some l = f ∙ ap Some same in
        (rest.0, repeated h first (one_operator line p rest.1))
prepend o m f is below u (only_or p) =
    let inner = prepend o m f is (let no = is.no_choice in omega (arith, below, no)) u p in (inner.0, only_or inner.1)
prepend {us = us} o m f is below u (chooses {zs = zs} {xs = xs} {ys = ys} {a = a} {b = b} p q r) =
    let inner = prepend o m f is (let no = is.no_choice in omega (arith, below, no)) u p in
    (choice inner.0 a b, subst (λ z. Spells at_choice z (choice inner.0 a b)) (append_assoc us (operator o ∷ zs) (sign k.Question ∷ (xs ++ sign k.Colon ∷ ys))) (chooses inner.1 q r))
prepend o m f is below u (only_not p) = absurd (let tight = is.tight in omega (arith, below, tight))
prepend o m f is below u (negates n p) = absurd (let tight = is.tight in omega (arith, below, tight))
prepend o m f is below u (only_atom p) = absurd (let tight = is.tight in omega (arith, below, tight))
prepend o m f is below u (inverts p) = absurd (let tight = is.tight in omega (arith, below, tight))

no_line_is : (o : Op) → line_of o ≡ None → o ≡ op.Implies
no_line_is op.Implies f = refl
no_line_is o f = cc

-- an operand, an operator and an expression
pub prepended : {us ys : List Lexeme} (o : Op) → IsSpelled at_neg us → IsSpelled at_expr ys → IsSpelled at_expr (us ++ operator o ∷ ys)
prepended {us} {ys} o u e = go (line_of o) refl (line_is o)
  where
    go : (line : Option ℕ) → line_of o ≡ line → IsLineIn line → IsSpelled at_expr (us ++ operator o ∷ ys)
    go (Some m) f is = prepend o m f is (omega arith) u.1 e.1
    go None f is =
        let same : o ≡ op.Implies = no_line_is o f in
        subst (λ z. IsSpelled at_expr (us ++ operator z ∷ ys)) (sym same) (binary op.Implies u.0 e.0, implies (loosened (at_neg - at_iff) at_iff at_neg (omega arith) (omega arith) u.1) e.1)

regrouped_choice : (zs xs ys w : List Lexeme) →
    (zs ++ sign k.Question ∷ (xs ++ sign k.Colon ∷ ys)) ++ w ≡ zs ++ sign k.Question ∷ (xs ++ sign k.Colon ∷ (ys ++ w))
regrouped_choice zs xs ys w =
    append_assoc zs (sign k.Question ∷ (xs ++ sign k.Colon ∷ ys)) w ∙ ap (λ z. zs ++ sign k.Question ∷ z) (append_assoc xs (sign k.Colon ∷ ys) w)

choose : {l : ℕ} {ys zs xs : List Lexeme} {t c a : Tree Path} → l ≤ at_choice → Spells at_neg zs c → Spells at_expr xs a → Spells l ys t →
    IsSpelled l (zs ++ sign k.Question ∷ (xs ++ sign k.Colon ∷ ys))
choose below c a (only_iff p) = let inner = choose (omega arith) c a p in (inner.0, only_iff inner.1)
choose {zs = zs} {xs = xs} below c a (implies {xs = x0} {ys = y0} {b = b} p q) =
    let inner = choose (omega arith) c a p in
    (binary op.Implies inner.0 b, subst (λ z. Spells at_expr z (binary op.Implies inner.0 b)) (regrouped_choice zs xs x0 (sign k.Implies ∷ y0)) (implies inner.1 q))
choose {zs = zs} {xs = xs} below c a (repeated {l = l} {xs = x0} {ys = y0} h p more) =
    let inner = choose (let no = no_choice_line {l = l} h in omega (arith, below, no)) c a p in
    let rest = more_after inner.0 more in
    (rest.0, subst (λ z. Spells l z rest.0) (regrouped_choice zs xs x0 y0) (repeated h inner.1 rest.1))
choose below c a (only_or p) = (_, chooses (loosened (at_neg - at_or) at_or at_neg (omega arith) (omega arith) c) a (only_or p))
choose below c a (chooses p q r) = (_, chooses (loosened (at_neg - at_or) at_or at_neg (omega arith) (omega arith) c) a (chooses p q r))
choose below c a (only_not p) = absurd (omega (arith, below))
choose below c a (negates n p) = absurd (omega (arith, below))
choose below c a (only_atom p) = absurd (omega (arith, below))
choose below c a (inverts p) = absurd (omega (arith, below))

-- an operand, `?`, an expression, `:` and an expression
pub chosen : {zs xs ys : List Lexeme} → IsSpelled at_neg zs → IsSpelled at_expr xs → IsSpelled at_expr ys →
    IsSpelled at_expr (zs ++ sign k.Question ∷ (xs ++ sign k.Colon ∷ ys))
chosen c a b = choose (omega arith) c.1 a.1 b.1

-- a `-` before an operand: the span's own, or an operator
minus_atom : {us : List Lexeme} {a : Tree Path} → begins_span us ≡ true → SpellsAtom us a → IsSpelled at_neg (sign k.Minus ∷ us)
minus_atom e (is_span plain_int q) = (_, only_not (only_atom (is_span minus_int q)))
minus_atom e (is_span minus_int q) = cc
minus_atom e is_true = cc
minus_atom e is_false = cc
minus_atom e is_number = cc
minus_atom e (is_name (one_name n)) = cc
minus_atom e (is_name (more_names n p)) = cc
minus_atom e (in_parentheses p) = cc
minus_atom e (is_next p) = cc
minus_atom e (is_set p) = cc
minus_atom e (is_case p) = cc

repeated_loose : (l : ℕ) → at_neg ≤ l → is_repeated l ≡ true → ⊥
repeated_loose l h r = grind (arith, nat_tests)

minus_span : {l : ℕ} {us : List Lexeme} {a : Tree Path} → at_neg ≤ l → begins_span us ≡ true → Spells l us a → IsSpelled at_neg (sign k.Minus ∷ us)
minus_span h e (only_not p) = minus_span (omega arith) e p
minus_span h e (negates n p) = cc
minus_span h e (only_atom p) = minus_atom e p
minus_span h e (inverts p) = cc
minus_span h e (only_iff p) = absurd (omega (arith, h))
minus_span h e (implies p q) = absurd (omega (arith, h))
minus_span h e (only_or p) = absurd (omega (arith, h))
minus_span h e (chooses p q r) = absurd (omega (arith, h))
minus_span h e (repeated {l = l} r p m) = absurd (repeated_loose l h r)

pub minus_before : {us : List Lexeme} → IsSpelled at_neg us → IsSpelled at_neg (sign k.Minus ∷ us)
minus_before {us} u = go (begins_span us) refl
  where
    go : (b : Bool) → begins_span us ≡ b → IsSpelled at_neg (sign k.Minus ∷ us)
    go true e = minus_span (omega arith) e u.1
    go false e = (_, negates e u.1)
