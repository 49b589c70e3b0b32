-- Texts of words and of numbers.
use Rattle.std.proofs.Common.{◌≡◌, ℕ, ◌+◌, ◌-◌, ◌*◌, ◌<◌, ◌≤◌, List, [], ◌∷◌, length, drop, get_or, refl, ap, arith}
use Rattle.std.specs.Prelude.{Bool, nat_eq, ◌&&◌, map}
use Rattle.std.specs.Borrow.{Bor}
use Rattle.std.specs.Cmp.Lexicographic.{pointwise}
use Rattle.std.proofs.lemmas.List.{drop_more}
use Rattle.smv_language.specs.Texts.{same_text, first_with}
use Rattle.smv_lexer.specs.Runs.{number_from}
use Rattle.smv_expression_reader.specs.Words.{row_view}
use Rattle.smv_expression_reader.specs.declared.machine.TokenRole.{TokenRole as Role}
use Rattle.smv_expression_reader.specs.declared.mark.Mark.{Mark}

-- the test of a text is that of its bytes
pub same_bytes : (xs ys : List ℕ) → same_text xs ys ≡ pointwise nat_eq xs ys
same_bytes [] [] = refl
same_bytes [] (y ∷ ys) = refl
same_bytes (x ∷ xs) [] = refl
same_bytes (x ∷ xs) (y ∷ ys) = ap (λ b. nat_eq x y && b) (same_bytes xs ys)

-- a number is at least what was read of it
pub number_grows : (xs : List ℕ) (value : ℕ) → value ≤ number_from value xs
number_grows [] value = omega arith
number_grows (x ∷ xs) value = let rest = number_grows xs (value * 10 + (x - 48)) in omega (arith, rest)

pub number_more : (xs : List ℕ) (i d value : ℕ) → i < length xs → number_from value (drop i xs) ≡ number_from (value * 10 + (get_or xs i d - 48)) (drop (i + 1) xs)
number_more xs i d value h = ap (number_from value) (drop_more xs i d h)

-- what is read of a number that is small is small
pub number_small : (xs : List ℕ) (i d value bound : ℕ) → i < length xs → number_from value (drop i xs) ≡ number_from 0 xs → number_from 0 xs ≤ bound → value * 10 + (get_or xs i d - 48) ≤ bound
number_small xs i d value bound h same small =
    let more = number_more xs i d value h in
    let grows = number_grows (drop (i + 1) xs) (value * 10 + (get_or xs i d - 48)) in
    omega (arith, same, more, grows, small)

-- one row more of a list of rows
pub first_more : (rows : List (Bor (List ℕ) × Role × Mark × Bool)) (text : List ℕ) (i : ℕ) (d : Bor (List ℕ) × Role × Mark × Bool) → i < length rows →
    first_with (map row_view (drop i rows)) text ≡ first_with (map row_view (get_or rows i d ∷ drop (i + 1) rows)) text
first_more rows text i d h = ap (λ rest. first_with (map row_view rest) text) (drop_more rows i d h)
