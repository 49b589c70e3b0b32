-- What the second pass reads of a list of lexemes, part by part, and what it leaves.
use Rattle.std.specs.Prelude.{ℕ, zero, suc, ℤ, pos, Bool, true, false, List, [], ◌∷◌, ◌++◌, Option, Some, None, take, drop, length, nat_lt}
use Rattle.std.specs.Prelude.{◌&&◌, if◌then◌else◌}
use Rattle.base_values.specs.declared.limits.TheConstants.{MOST_HEIGHT}
use Rattle.smv_language.specs.Language.{height_of, Text, Formula, Lexeme, minus}
use Rattle.smv_expression_reader.specs.Places.{is_word, text_in}
use Rattle.smv_expression_reader.specs.Recogniser.{start}
use Rattle.smv_expression_reader.specs.TreeBuilder.{built, name_in, number_in}
use Rattle.smv_expression_reader.specs.Extents.{reach_of, is_deep, ends_whole}
use Rattle.smv_expression_reader.specs.Marks.{mark_of, is_section, is_mark}
use Rattle.smv_expression_reader.specs.declared.mark.Mark.{Mark}
use Rattle.smv_expression_reader.specs.declared.mark.Mark.TheVariants as mark

-- a part and the lexemes behind it, or that an expression is too deep, or that no part stands there
pub data Read (A : Type 0) : Type 0 where
  got : A → List Lexeme → Read A
  deep : Read A
  none : Read A

-- one part and then another
abbrev pub and_then : {A B : Type 0} → Read A → (A → List Lexeme → Read B) → Read B
and_then (got a ts) f = f a ts
and_then deep f = deep
and_then none f = none

-- a part that is too deep or not
abbrev pub answer : {A : Type 0} → Bool → A → List Lexeme → Read A
answer true a ts = deep
answer false a ts = got a ts

-- parts that stand before others
abbrev pub with_front : {A : Type 0} → List A → Read (List A) → Read (List A)
with_front xs (got ys ts) = got (xs ++ ys) ts
with_front xs deep = deep
with_front xs none = none

-- the tree, where one was made, unless it is too high
abbrev pub made_of : Option Formula → List Lexeme → Read Formula
made_of None r = none
made_of (Some t) r = answer (nat_lt MOST_HEIGHT (height_of t)) t r

-- the tree of what stands in front, where it is whole and not nested too deep
abbrev pub front_read : Bool → Bool → Option Formula → List Lexeme → Read Formula
front_read whole too_deep o r = if whole then (if too_deep then deep else made_of o r) else none

-- the longest expression
abbrev pub expr_at : List Lexeme → Read Formula
expr_at ts = front_read (ends_whole start ts) (is_deep start ts) (built (take (reach_of start ts) ts)) (drop (reach_of start ts) ts)

-- what the next lexeme is, and what stands behind it
abbrev pub mark_at : List Lexeme → Mark
mark_at [] = mark.Nothing
mark_at (t ∷ ts) = mark_of t

-- what stands behind the next lexeme
abbrev pub rest_of : List Lexeme → List Lexeme
rest_of [] = []
rest_of (t ∷ ts) = ts

-- whether this mark stands next
abbrev pub has_next : Mark → List Lexeme → Bool
has_next c ts = is_mark c (mark_at ts)

-- the lexeme with this mark
abbrev pub expect_at : Mark → List Lexeme → Read (Unit {0})
expect_at c ts = if has_next c ts then got tt (rest_of ts) else none

-- whether this word stands next
abbrev pub has_word : List ℕ → List Lexeme → Bool
has_word w [] = false
has_word w (t ∷ ts) = is_word t w

-- this word
abbrev pub word_at : List ℕ → List Lexeme → Read (Unit {0})
word_at w ts = if has_word w ts then got tt (rest_of ts) else none

-- the text of the next lexeme
abbrev pub text_at : List Lexeme → Read Text
text_at [] = none
text_at (t ∷ ts) = got (text_in t) ts

-- the end of the list
abbrev pub end_at : List Lexeme → Read (Unit {0})
end_at [] = got tt []
end_at (t ∷ ts) = none

-- a name by its mark
abbrev pub named_at : Mark → Lexeme → List Lexeme → Read Text
named_at mark.Name t ts = got (name_in t) ts
named_at c t ts = none

-- a name
abbrev pub name_at : List Lexeme → Read Text
name_at [] = none
name_at (t ∷ ts) = named_at (mark_of t) t ts

-- a number by its mark
abbrev pub counted_at : Mark → Lexeme → List Lexeme → Read ℕ
counted_at mark.Number t ts = got (number_in t) ts
counted_at c t ts = none

-- a number
abbrev pub number_at : List Lexeme → Read ℕ
number_at [] = none
number_at (t ∷ ts) = counted_at (mark_of t) t ts

-- a number, with its sign
abbrev pub int_at : List Lexeme → Read ℤ
int_at ts = if has_next mark.Minus ts then and_then (number_at (rest_of ts)) (λ n r. got (minus n) r) else and_then (number_at ts)
    (λ n r. got (pos n) r)

-- parts one after another, as long as another begins, but at most so many
abbrev pub each_at : {A : Type 0} → (List Lexeme → Bool) → (List Lexeme → Read A) → ℕ → List Lexeme → Read (List A)
each_at begins one zero ts = got [] ts
each_at begins one (suc n) ts =
    if begins ts then and_then (one ts) (λ a r. and_then (each_at begins one n r) (λ more s. got (a ∷ more) s)) else got [] ts

-- whether a semicolon stands next, and another lexeme behind it
abbrev pub goes_on : List Lexeme → Bool
goes_on [] = false
goes_on (t ∷ ts) = is_mark mark.Semicolon (mark_of t) && nat_lt 0 (length ts)

-- an expression behind a semicolon
abbrev pub next_expr : List Lexeme → Read Formula
next_expr ts = expr_at (rest_of ts)

-- without a semicolon that stands next
abbrev pub past_semicolon : List Lexeme → List Lexeme
past_semicolon ts = if has_next mark.Semicolon ts then rest_of ts else ts

-- one part, and then others as long as another begins
abbrev pub some_at : {A : Type 0} → (List Lexeme → Bool) → (List Lexeme → Read A) → (List Lexeme → Read A) → List Lexeme → Read (List A)
some_at begins first next ts = and_then (first ts) (λ a r. with_front (a ∷ []) (each_at begins next (length r) r))

-- one expression or more, with semicolons between and perhaps one more at the end
abbrev pub exprs_at : List Lexeme → Read (List Formula)
exprs_at ts = and_then (some_at goes_on expr_at next_expr ts) (λ es s. got es (past_semicolon s))

-- whether the next lexeme begins a module or a section, or there is none
abbrev pub is_past : List Lexeme → Bool
is_past [] = true
is_past (t ∷ ts) = is_section t
