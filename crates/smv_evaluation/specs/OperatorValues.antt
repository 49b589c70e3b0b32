-- What the code computes of an operator on values. Where an operator has no meaning for them it gives FALSE.
use Rattle.std.specs.Prelude.{ℕ, ℤ, pos, ◌+ℤ◌, ◌-ℤ◌, ◌*ℤ◌, int_lt, int_div, int_rem, nat_eq, ◌&&◌, ◌||◌, Bool, false, if◌then◌else◌}
use Rattle.smv_language.specs.declared.expr.Op.{Op}
use Rattle.smv_language.specs.declared.expr.Op.TheVariants as op
use Rattle.smv_language.specs.Values as told
use Rattle.smv_language.specs.Values.{same_int, same_bool, at_most}
use Rattle.base_values.specs.declared.value.Value.{Value}
use Rattle.base_values.specs.declared.value.Value.TheVariants.{Bool as truth, Num, Sym}
use Rattle.smv_type_laws.specs.Intervals.{fits_number}

-- both are the same value
abbrev pub same : Value → Value → Bool
same (truth a) (truth b) = same_bool a b
same (Num a) (Num b) = same_int a b
same (Sym i) (Sym j) = nat_eq i j
same _ _ = false

-- the value is TRUE
abbrev pub is_true : Value → Bool
is_true (truth b) = b
is_true _ = false

-- the other truth value
abbrev pub opposite : Value → Value
opposite (truth b) = truth (told.opposite b)
opposite _ = truth false

-- the number with the other sign
abbrev pub negative : Value → Value
negative (Num n) = if fits_number n then Num (pos 0 -ℤ n) else truth false
negative _ = truth false

-- TRUE where one of both is
abbrev pub either : Value → Value → Value
either a b = truth (is_true a || is_true b)

-- the value is a number from one to another
abbrev pub between : ℤ → ℤ → Value → Bool
between lo hi (Num n) = at_most lo n && at_most n hi
between lo hi _ = false

-- a calculation; `/` truncates toward zero, and `mod` has the sign of what is divided
abbrev pub calculated : Op → ℤ → ℤ → ℤ
calculated op.Times a b = a *ℤ b
calculated op.Over a b = if same_int b (pos 0) then pos 0 else int_div a b
calculated op.Mod a b = if same_int b (pos 0) then pos 0 else int_rem a b
calculated op.Plus a b = a +ℤ b
calculated op.Minus a b = a -ℤ b
calculated _ a b = pos 0

-- of numbers within 32 bits
abbrev pub fitting : Op → ℤ → ℤ → ℤ
fitting o a b = if fits_number a && fits_number b then calculated o a b else pos 0

-- how two numbers compare
abbrev pub compared : Op → ℤ → ℤ → Bool
compared op.Equal a b = same_int a b
compared op.Differs a b = told.opposite (same_int a b)
compared op.Less a b = int_lt a b
compared op.Greater a b = int_lt b a
compared op.AtMost a b = at_most a b
compared op.AtLeast a b = at_most b a
compared _ a b = false

-- an operator on two numbers
abbrev pub on_numbers : Op → ℤ → ℤ → Value
on_numbers op.Times a b = Num (fitting op.Times a b)
on_numbers op.Over a b = Num (fitting op.Over a b)
on_numbers op.Mod a b = Num (fitting op.Mod a b)
on_numbers op.Plus a b = Num (fitting op.Plus a b)
on_numbers op.Minus a b = Num (fitting op.Minus a b)
on_numbers o a b = truth (compared o a b)

-- on two truth values
abbrev pub on_truths : Op → Bool → Bool → Bool
on_truths op.Equal a b = same_bool a b
on_truths op.Differs a b = told.opposite (same_bool a b)
on_truths op.And a b = a && b
on_truths op.Or a b = a || b
on_truths op.Xor a b = told.opposite (same_bool a b)
on_truths op.Xnor a b = same_bool a b
on_truths op.Iff a b = same_bool a b
on_truths op.Implies a b = told.opposite a || b
on_truths _ a b = false

-- on two symbols
abbrev pub on_symbols : Op → ℕ → ℕ → Bool
on_symbols op.Equal i j = nat_eq i j
on_symbols op.Differs i j = told.opposite (nat_eq i j)
on_symbols _ i j = false

-- on two values
abbrev pub applied : Op → Value → Value → Value
applied o (Num a) (Num b) = on_numbers o a b
applied o (truth a) (truth b) = truth (on_truths o a b)
applied o (Sym i) (Sym j) = truth (on_symbols o i j)
applied o _ _ = truth false
