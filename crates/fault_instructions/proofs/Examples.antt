-- Computed examples of the definitions.
use Rattle.std.proofs.Common.{◌≡◌, ℕ, true, false, [], ◌∷◌, Some, None, refl}
use Rattle.std.specs.Prelude.{pos, negsuc, codes, if◌then◌else◌}
use Rattle.smv_language.specs.declared.program.Member.TheVariants as member
use Rattle.smv_language.specs.Language.{Path, boolean, range, members, same_text, Leaves, evaluate, binary, negate, symbol, one}
use Rattle.smv_language.specs.Tree.{number as a_number}
use Rattle.smv_language.specs.declared.expr.Op.TheVariants as op
use Rattle.smv_language.specs.Values.{truth, number}
use Rattle.fault_instructions.specs.declared.effects.PlainEffect.TheVariants.{Erroneous, Frozen}
use Rattle.fault_instructions.specs.declared.effects.ConstantEffect.TheVariants.{StuckAt}
use Rattle.fault_instructions.specs.declared.effects.NumberEffect.TheVariants.{Offset}
use Rattle.fault_instructions.specs.declared.effects.NumbersEffect.TheVariants.{RampDown}
use Rattle.fault_instructions.specs.Instructions.{plain, of_constant, of_number, of_numbers}
use Rattle.fault_instructions.specs.AddedNames.{own_name, mode_symbol}
use Rattle.fault_instructions.specs.Effects.{clipped, fault_of}
use Rattle.fault_instructions.specs.Templates.{number_tree, branch, ramp_rule, ramp_first}
use Rattle.fault_instructions.specs.declared.fault.EffectFault.TheVariants.{WrongKind, Outside, OneValueOnly}

-- 7 and 5 more, clipped to 0..9
clipped_sum : clipped (pos 0) (pos 9) (pos 12) ≡ pos 9
clipped_sum = refl

-- the least number of 32 bits, by numbers of 32 bits
least_number : number_tree (negsuc 2147483647) ≡ binary op.Minus (negate (a_number (pos 2147483647))) (a_number (pos 1))
least_number = refl

own_of_seen : own_name (codes "seen") ≡ codes "seen#nominal"
own_of_seen = refl

symbol_of_wild : mode_symbol (codes "Eye") (Some (codes "wild")) ≡ codes "Eye#wild"
symbol_of_wild = refl

-- 3..3 has one value alone; 4 is not in 0..3; a step of 0 is no step
one_value : fault_of (plain Erroneous) (range (pos 3) (pos 3)) ≡ Some OneValueOnly
one_value = refl

above_range : fault_of (of_constant StuckAt (number (pos 4))) (range (pos 0) (pos 3)) ≡ Some Outside
above_range = refl

no_step : fault_of (of_numbers RampDown (pos 0) (pos 0)) (range (pos 0) (pos 3)) ≡ Some Outside
no_step = refl

-- hi + d is above 32 bits
sum_too_great : fault_of (of_number Offset (pos 2147483647)) (range (pos 1) (pos 2)) ≡ Some Outside
sum_too_great = refl

-- an enumeration has the kind of its first member
number_for_symbol : fault_of (of_constant StuckAt (number (pos 1))) (members (member.Symbol (codes "red") ∷ member.Number (pos 1) ∷ [])) ≡ Some WrongKind
number_for_symbol = refl

frozen_truth : fault_of (plain Frozen) boolean ≡ None
frozen_truth = refl

-- the own value of x is this number
abbrev own_is : ℕ → Leaves Path
own_is n [] = None
own_is n (name ∷ path) = if same_text name (codes "x#nominal") then Some (one (number (pos n))) else None

-- under Offset(5) on 0..9 the own value 7 reads 9, and 2 reads 7
seven_reads_nine : evaluate (own_is 7) (own_is 7) (branch (of_number Offset (pos 5)) (range (pos 0) (pos 9)) (codes "x")) ≡ Some (one (number (pos 9)))
seven_reads_nine = refl

two_reads_seven : evaluate (own_is 2) (own_is 2) (branch (of_number Offset (pos 5)) (range (pos 0) (pos 9)) (codes "x")) ≡ Some (one (number (pos 7)))
two_reads_seven = refl

-- x reads this number, and the mode m of the slice S stands
abbrev falling : ℕ → Leaves Path
falling n [] = None
falling n (name ∷ path) = if same_text name (codes "x") then Some (one (number (pos n))) else Some (one (symbol (codes "S#m")))

-- RampDown(4, 1) entered after the read value 9 reads 5, and not 6, and then 1, and 1 again
nine_falls_to_five : evaluate (falling 9) (falling 5) (ramp_rule (pos 4) (pos 1) (codes "S") (codes "m") (codes "x")) ≡ Some (one (truth true))
nine_falls_to_five = refl

nine_skips_six : evaluate (falling 9) (falling 6) (ramp_rule (pos 4) (pos 1) (codes "S") (codes "m") (codes "x")) ≡ Some (one (truth false))
nine_skips_six = refl

five_falls_to_one : evaluate (falling 5) (falling 1) (ramp_rule (pos 4) (pos 1) (codes "S") (codes "m") (codes "x")) ≡ Some (one (truth true))
five_falls_to_one = refl

one_stays : evaluate (falling 1) (falling 1) (ramp_rule (pos 4) (pos 1) (codes "S") (codes "m") (codes "x")) ≡ Some (one (truth true))
one_stays = refl

-- x reads the first number, its own value is the second, and the mode m of the slice S stands
abbrev started : ℕ → ℕ → Leaves Path
started n own [] = None
started n own (name ∷ path) =
    if same_text name (codes "x") then Some (one (number (pos n)))
    else (if same_text name (codes "x#nominal") then Some (one (number (pos own))) else Some (one (symbol (codes "S#m"))))

-- where the slice starts in RampDown(4, 1), the own value 7 reads 3, and not 7
seven_starts_at_three : evaluate (started 3 7) (started 3 7) (ramp_first (pos 4) (pos 1) (codes "S") (codes "m") (codes "x")) ≡ Some (one (truth true))
seven_starts_at_three = refl

seven_is_not_read : evaluate (started 7 7) (started 7 7) (ramp_first (pos 4) (pos 1) (codes "S") (codes "m") (codes "x")) ≡ Some (one (truth false))
seven_is_not_read = refl
