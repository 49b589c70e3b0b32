-- Examples that the checker computes.
use Rattle.std.proofs.Common.{◌≡◌, true, false, [], ◌∷◌, pos, negsuc, refl}
use Rattle.smv_language.specs.declared.expr.Op.TheVariants as op
use Rattle.smv_language.specs.Language.{Tree, leaf, negate, next_of, binary, choice, case_of, set_of, span, no_tree, tree_then, no_branch, branch_then, FlatLeaf, flat_variable, flat_definition, told_moment}
use Rattle.smv_language.specs.Tree.{truth as is_truth, number}
use Rattle.smv_language.specs.Values as told
use Rattle.base_values.specs.declared.value.Value.{Value}
use Rattle.base_values.specs.declared.value.Value.TheVariants.{Bool as truth, Num, Sym}
use Rattle.smv_evaluation.specs.declared.ask.AskedValue.{AskedValue}
use Rattle.smv_evaluation.specs.declared.ask.AskedValue.TheVariants.{ItsValue, Whether}
use Rattle.smv_evaluation.specs.Evaluation.{leaf_value, asked_of}
use Rattle.smv_evaluation.specs.SymbolTests.{has_symbol}

-- a variable that is 3 now and 4 next, with a definition that is TRUE now and FALSE next
abbrev now_value : FlatLeaf → Value
now_value = leaf_value (Num (pos 3) ∷ []) (truth true ∷ [])

abbrev next_value : FlatLeaf → Value
next_value = leaf_value (Num (pos 4) ∷ []) (truth false ∷ [])

abbrev answer_of : AskedValue → Tree FlatLeaf → Value
answer_of = asked_of now_value next_value

abbrev minus_seven : Tree FlatLeaf
minus_seven = negate (number (pos 7))

-- `/` truncates toward zero, and `mod` has the sign of what is divided
quotient : answer_of ItsValue (binary op.Over minus_seven (number (pos 2))) ≡ Num (negsuc 2)
quotient = refl

remainder : answer_of ItsValue (binary op.Mod minus_seven (number (pos 2))) ≡ Num (negsuc 0)
remainder = refl

-- a name and a definition, now and next
next_is_more : answer_of ItsValue (binary op.Equal (next_of (leaf (flat_variable 0))) (binary op.Plus (leaf (flat_variable 0)) (number (pos 1)))) ≡ truth true
next_is_more = refl

definition_changes : answer_of ItsValue (binary op.And (leaf (flat_definition 0)) (next_of (leaf (flat_definition 0)))) ≡ truth false
definition_changes = refl

-- 3 is among the numbers from 1 to 2 and 3, and 2 is no value of the branch taken
is_among : answer_of ItsValue (binary op.Within (leaf (flat_variable 0)) (binary op.Union (span (pos 1) (pos 2)) (set_of (tree_then (number (pos 3)) no_tree)))) ≡ truth true
is_among = refl

not_taken : answer_of (Whether (Num (pos 2))) (choice (leaf (flat_definition 0)) (number (pos 1)) (span (pos 1) (pos 2))) ≡ truth false
not_taken = refl

first_true : answer_of ItsValue (case_of (branch_then (is_truth false) (number (pos 1)) (branch_then (is_truth true) (number (pos 2)) no_branch))) ≡ Num (pos 2)
first_true = refl

-- the symbol of number 1 by its name
by_name : told_moment ((97 ∷ []) ∷ (98 ∷ []) ∷ []) (Sym 1 ∷ truth true ∷ []) ≡ told.symbol (98 ∷ []) ∷ told.truth true ∷ []
by_name = refl

has_it : has_symbol 0 1 (Sym 1 ∷ []) ≡ true
has_it = refl
