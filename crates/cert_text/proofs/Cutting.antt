-- The words of a line.
use Rattle.std.proofs.Common.{◌≡◌, ℕ, ◌≤◌, ◌+◌, ◌-◌, Bool, true, false, nat_eq, List, [], ◌∷◌, ◌++◌, length, take, drop, refl, sym, ◌∙◌, ap, arith, eq-eqb, length-append}
use Rattle.std.proofs.lemmas.List.{take_rest}
use Rattle.std.specs.Cmp.Lexicographic.{pointwise}
use Rattle.cut_text_laws.specs.Lines.{Line}
use Rattle.cert_laws.specs.LineReading.{with_byte, words_in}
use Rattle.cert_laws.proofs.LineReading.{differs as differ}
use Rattle.base_values.specs.Separators.{Lacks, BeginsWith}
use Rattle.cert_text.specs.LineWords.{words_after, IsWordThen, LacksWord, IsAfterWord}
use Rattle.smv_language.proofs.BoolLaws.{if_true, if_false}
use Rattle.smv_language.specs.Texts.{same_text}
use Rattle.smv_language.proofs.AmongLaws.{pointwise_is}
use Rattle.smv_language.proofs.ValueLaws.{same_text_equal, same_text_refl}

words_begin : (word rest : Line) → Lacks 32 word → BeginsWith 32 rest → words_in (word ++ rest) ≡ word ∷ words_after rest
words_begin [] [] f b = refl
words_begin [] (c ∷ rest) f b = if_true (nat_eq c 32) ([] ∷ words_in rest) (with_byte c (words_in rest)) (eq-eqb c 32 b)
words_begin (x ∷ word) rest f b =
    if_false (nat_eq x 32) ([] ∷ words_in (word ++ rest)) (with_byte x (words_in (word ++ rest))) (differ x 32 f.0) ∙ ap (with_byte x) (words_begin word rest f.1 b)

-- where a line is cut at its first space, the words are the one before it and those after it
pub words_cut : (bytes word rest : Line) → bytes ≡ word ++ rest → Lacks 32 word → BeginsWith 32 rest → words_in bytes ≡ word ∷ words_after rest
words_cut bytes word rest e f b = ap words_in e ∙ words_begin word rest f b

pub word_then : (words word rest : List ℕ) → 1 ≤ length words → take (length words - 1) (drop 1 words) ≡ word ++ rest → Lacks 32 word → BeginsWith 32 rest → IsWordThen words word rest
word_then [] word rest h e f b = absurd (omega (arith, h))
word_then (c ∷ bytes) word rest h e f b =
    let whole : bytes ≡ word ++ rest = sym (take_rest (c ∷ bytes) 1) ∙ e in
    let sum : length (word ++ rest) ≡ length word + length rest = length-append word rest in
    let long : length bytes ≡ length (word ++ rest) = ap length whole in
    record { lie = words_cut bytes word rest whole f b; shorter = omega (arith, sum, long) }

pub after_first : (line word rest name : Line) → line ≡ word ++ rest → Lacks 32 word → BeginsWith 32 rest → word ≡ name → IsAfterWord line name rest
after_first line word rest name e f b same = words_cut line word rest e f b ∙ ap (λ w. w ∷ words_after rest) same

pub lacks_first : (line word rest name : Line) → line ≡ word ++ rest → Lacks 32 word → BeginsWith 32 rest → (word ≡ name → ⊥) → LacksWord line name
lacks_first line word rest name e f b other words g = other (heads word name (words_after rest) words (sym (words_cut line word rest e f b) ∙ g))
  where
    heads : (x y : Line) (xs ys : List Line) → (x ∷ xs) ≡ (y ∷ ys) → x ≡ y
    heads x y xs ys e = cc

pub equal_then : (x y : List ℕ) (t : Bool) → t ≡ pointwise nat_eq x y → t ≡ true → x ≡ y
equal_then x y t e h = same_text_equal x y (sym (pointwise_is x y) ∙ sym e ∙ h)

pub unequal_then : (x y : List ℕ) (t : Bool) → t ≡ pointwise nat_eq x y → t ≡ false → x ≡ y → ⊥
unequal_then x y t e h s = let bad : true ≡ false = sym (ap (λ z. same_text z y) s ∙ same_text_refl y) ∙ sym (pointwise_is x y) ∙ sym e ∙ h in cc
