-- What expressions give: a value, or several.
use Rattle.std.specs.Prelude.{ℤ, Bool, true, false, Option, Some, None, nat_eq, ◌&&◌, ◌||◌, pos, negsuc, int_lt, int_div, int_rem, ◌+ℤ◌}
use Rattle.std.specs.Prelude.{◌-ℤ◌, ◌*ℤ◌, codes}
use Rattle.std.specs.Fmt.{signed_decimal}
use Rattle.smv_language.specs.declared.expr.Op.{Op}
use Rattle.smv_language.specs.declared.expr.Op.TheVariants as op
use Rattle.smv_language.specs.ProgramTree.{Text}
use Rattle.smv_language.specs.Texts.{same_text}

-- a truth value, a whole number, or a symbol by its name
pub data Value : Type 0 where
  truth : Bool → Value
  number : ℤ → Value
  symbol : Text → Value

-- a value as it is written
abbrev pub value_text : Value → Text
value_text (truth true) = codes "TRUE"
value_text (truth false) = codes "FALSE"
value_text (number n) = signed_decimal n
value_text (symbol x) = x

-- both are the same number
abbrev pub same_int : ℤ → ℤ → Bool
same_int (pos m) (pos n) = nat_eq m n
same_int (negsuc m) (negsuc n) = nat_eq m n
same_int _ _ = false

-- the other truth value
abbrev pub opposite : Bool → Bool
opposite true = false
opposite false = true

-- both are the same truth value
abbrev pub same_bool : Bool → Bool → Bool
same_bool true b = b
same_bool false b = opposite b

-- both are the same value
abbrev pub same_value : Value → Value → Bool
same_value (truth a) (truth b) = same_bool a b
same_value (number a) (number b) = same_int a b
same_value (symbol a) (symbol b) = same_text a b
same_value _ _ = false

-- the values of an expression: one, those from a number to another, or those of two others
pub data Values : Type 0 where
  no_value : Values
  one : Value → Values
  from_to : ℤ → ℤ → Values
  either : Values → Values → Values

-- the first is no greater
abbrev pub at_most : ℤ → ℤ → Bool
at_most a b = opposite (int_lt b a)

-- a number from one to another
abbrev pub is_between : ℤ → ℤ → Value → Bool
is_between lo hi (number n) = at_most lo n && at_most n hi
is_between lo hi _ = false

-- the value is among these
abbrev pub has : Values → Value → Bool
has no_value v = false
has (one w) v = same_value w v
has (from_to lo hi) v = is_between lo hi v
has (either a b) v = has a v || has b v

-- an operator on two numbers; `/` and `mod` truncate toward zero
abbrev pub on_numbers : Op → ℤ → ℤ → Option Value
on_numbers op.Times a b = Some (number (a *ℤ b))
on_numbers op.Over a b = Some (number (int_div a b))
on_numbers op.Mod a b = Some (number (int_rem a b))
on_numbers op.Plus a b = Some (number (a +ℤ b))
on_numbers op.Minus a b = Some (number (a -ℤ b))
on_numbers op.Equal a b = Some (truth (same_int a b))
on_numbers op.Differs a b = Some (truth (opposite (same_int a b)))
on_numbers op.Less a b = Some (truth (int_lt a b))
on_numbers op.Greater a b = Some (truth (int_lt b a))
on_numbers op.AtMost a b = Some (truth (at_most a b))
on_numbers op.AtLeast a b = Some (truth (at_most b a))
on_numbers _ a b = None

-- an operator on two truth values
abbrev pub on_truths : Op → Bool → Bool → Option Value
on_truths op.Equal a b = Some (truth (same_bool a b))
on_truths op.Differs a b = Some (truth (opposite (same_bool a b)))
on_truths op.And a b = Some (truth (a && b))
on_truths op.Or a b = Some (truth (a || b))
on_truths op.Xor a b = Some (truth (opposite (same_bool a b)))
on_truths op.Xnor a b = Some (truth (same_bool a b))
on_truths op.Iff a b = Some (truth (same_bool a b))
on_truths op.Implies a b = Some (truth (opposite a || b))
on_truths _ a b = None

-- an operator on two symbols
abbrev pub on_symbols : Op → Text → Text → Option Value
on_symbols op.Equal a b = Some (truth (same_text a b))
on_symbols op.Differs a b = Some (truth (opposite (same_text a b)))
on_symbols _ a b = None

-- an operator on the values of its operands
abbrev pub apply : Op → Value → Value → Option Value
apply o (number a) (number b) = on_numbers o a b
apply o (truth a) (truth b) = on_truths o a b
apply o (symbol a) (symbol b) = on_symbols o a b
apply o _ _ = None
