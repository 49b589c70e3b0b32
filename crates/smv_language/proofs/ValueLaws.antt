-- Values that the tests find equal are equal, and the other way round.
use Rattle.std.proofs.Common.{◌≡◌, ℕ, Bool, true, false, List, [], ◌∷◌, ◌++◌, refl, ap, eqb-true, eq-eqb, ◌≤ℤ◌, arith}
use Rattle.std.specs.Prelude.{ℤ, pos, negsuc, nat_eq, int_lt}
pub use Rattle.smv_lexer.proofs.SignLemmas.{both_true}
use Rattle.smv_language.specs.Values.{Value, truth, number, symbol, same_int, same_bool, same_value, at_most, opposite}
use Rattle.smv_language.specs.Texts.{same_text}
use Rattle.std.proofs.lemmas.Int.{ints}
use Rattle.smv_language.specs.declared.program.Member.{Member}
use Rattle.smv_language.specs.declared.program.Member.TheVariants as member
use Rattle.smv_language.specs.Trace.{is_member}
use Rattle.smv_language.specs.ProgramTree.{Text}

pub same_text_equal : (a b : List ℕ) → same_text a b ≡ true → a ≡ b
same_text_equal [] [] h = refl
same_text_equal [] (d ∷ ds) h = cc
same_text_equal (c ∷ cs) [] h = cc
same_text_equal (c ∷ cs) (d ∷ ds) h =
    let parts : (nat_eq c d ≡ true) × (same_text cs ds ≡ true) = both_true _ _ h in
    let heads : c ≡ d = eqb-true c d parts.0 in
    let tails : cs ≡ ds = same_text_equal cs ds parts.1 in cc

pub same_text_refl : (a : List ℕ) → same_text a a ≡ true
same_text_refl [] = refl
same_text_refl (c ∷ cs) = rw (eq-eqb c c refl, same_text_refl cs) refl

pub same_after : (x a b : Text) → same_text (x ++ a) (x ++ b) ≡ same_text a b
same_after [] a b = refl
same_after (c ∷ x) a b = rw (eq-eqb c c refl) (same_after x a b)

pub same_int_equal : (a b : ℤ) → same_int a b ≡ true → a ≡ b
same_int_equal (pos m) (pos n) h = ap pos (eqb-true m n h)
same_int_equal (pos m) (negsuc n) h = cc
same_int_equal (negsuc m) (pos n) h = cc
same_int_equal (negsuc m) (negsuc n) h = ap negsuc (eqb-true m n h)

pub same_bool_equal : (a b : Bool) → same_bool a b ≡ true → a ≡ b
same_bool_equal true true h = refl
same_bool_equal true false h = cc
same_bool_equal false true h = cc
same_bool_equal false false h = refl

pub same_value_equal : (a b : Value) → same_value a b ≡ true → a ≡ b
same_value_equal (truth a) (truth b) h = ap truth (same_bool_equal a b h)
same_value_equal (truth a) (number b) h = cc
same_value_equal (truth a) (symbol b) h = cc
same_value_equal (number a) (truth b) h = cc
same_value_equal (number a) (number b) h = ap number (same_int_equal a b h)
same_value_equal (number a) (symbol b) h = cc
same_value_equal (symbol a) (truth b) h = cc
same_value_equal (symbol a) (number b) h = cc
same_value_equal (symbol a) (symbol b) h = ap symbol (same_text_equal a b h)

pub same_value_refl : (v : Value) → same_value v v ≡ true
same_value_refl (truth true) = refl
same_value_refl (truth false) = refl
same_value_refl (number (pos n)) = eq-eqb n n refl
same_value_refl (number (negsuc n)) = eq-eqb n n refl
same_value_refl (symbol x) = same_text_refl x

pub at_most_from : (a b : ℤ) → a ≤ℤ b → at_most a b ≡ true
at_most_from a b h = by (int_lt b a) refl
  where
    by : (t : Bool) → int_lt b a ≡ t → opposite t ≡ true
    by true e = absurd (omega (arith, ints))
    by false e = refl

pub no_truth : (ms : List Member) (b : Bool) → is_member ms (truth b) ≡ false
no_truth [] b = refl
no_truth (member.Number n ∷ ms) b = no_truth ms b
no_truth (member.Symbol x ∷ ms) b = no_truth ms b

pub not_less : (a b : ℤ) → at_most a b ≡ true → a ≤ℤ b
not_less a b h = by (int_lt b a) refl h
  where
    by : (t : Bool) → int_lt b a ≡ t → opposite t ≡ true → a ≤ℤ b
    by true e h' = cc
    by false e h' = omega (arith, ints)
