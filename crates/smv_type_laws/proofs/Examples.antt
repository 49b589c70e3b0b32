-- Examples of the table of kinds, computed.
use Rattle.std.proofs.Common.{◌≡◌, ℕ, inl, inr, arith, refl, Bool, true, false, [], ◌∷◌, Some, None, ℤ, pos, negsuc, codes}
use Rattle.smv_language.specs.declared.expr.Op.TheVariants as op
use Rattle.smv_language.specs.declared.program.Member.TheVariants as member
use Rattle.smv_language.specs.Language.{DeclaredTree, range, members, state, Tree, leaf, negate, binary, choice, case_of, set_of, span, no_tree, tree_then, no_branch, branch_then, one, flat_variable, flat_definition, FlatVariable, FlatModel, FlatGives}
use Rattle.smv_language.specs.Tree.{truth, number}
use Rattle.smv_type_laws.specs.Intervals.{Interval, product_of, quotient_of, remainder_of}
use Rattle.smv_flat_laws.specs.FlatTrace.{AreInDomains}
use Rattle.smv_type_laws.specs.ExpressionKinds.{Kind, Judged, KindRule, truth_class, number_class, symbol_class, mismatch, not_boolean, set_here, may_divide_by_zero, too_wide, empty_range, mixed_enum, case_end, double_member, judge}
use Rattle.smv_type_laws.specs.DeclaredKinds.{judged_declared}
use Rattle.smv_type_laws.specs.Costs.{digits_in, declared_width, cost_of, state_bits, model_cost}
use Rattle.smv_type_laws.specs.Models.{Breach, breaches, IsFault, at_an_item, IsTyped, judged_in}
use Rattle.smv_type_laws.specs.Laws.{IsClosed}
use Rattle.smv_language.specs.Values.{number as a_number}

from : ℤ → ℤ → Interval
from lo hi = record { lo = lo; hi = hi }

numbers : ℤ → ℤ → Kind
numbers lo hi = record { class = number_class; interval = Some (from lo hi) }

a_truth : Kind
a_truth = record { class = truth_class; interval = None }

a_symbol : Kind
a_symbol = record { class = symbol_class; interval = None }

-- leaves are kinds
at : Bool → Tree Kind → Judged
at sets t = judge (λ k. k) sets t

x_over_y : Kind → Kind → Tree Kind
x_over_y x y = binary op.Over (leaf x) (leaf y)

quotients : quotient_of (record { lo = negsuc 6; hi = pos 7 }) (record { lo = pos 2; hi = pos 3 }) ≡ record { lo = negsuc 2; hi = pos 3 }
quotients = refl

remainders : remainder_of (record { lo = negsuc 2; hi = pos 10 }) (record { lo = pos 3; hi = pos 3 }) ≡ record { lo = negsuc 1; hi = pos 2 }
remainders = refl

no_sign_below : remainder_of (record { lo = pos 0; hi = pos 10 }) (record { lo = negsuc 3; hi = negsuc 1 }) ≡ record { lo = pos 0; hi = pos 3 }
no_sign_below = refl

products : product_of (record { lo = negsuc 1; hi = pos 3 }) (record { lo = negsuc 3; hi = pos 5 }) ≡ record { lo = negsuc 11; hi = pos 15 }
products = refl

-- 0..7 / 0..3 may divide by zero, 0..7 / 1..3 is 0..7
by_zero : (at false (x_over_y (numbers (pos 0) (pos 7)) (numbers (pos 0) (pos 3)))).broken ≡ may_divide_by_zero ∷ []
unfolding at x_over_y numbers from
by_zero = refl

by_three : (at false (x_over_y (numbers (pos 0) (pos 7)) (numbers (pos 1) (pos 3)))).kind ≡ numbers (pos 0) (pos 7)
unfolding at x_over_y numbers from
by_three = refl

-- 2147483647 + 1 is too wide, and has no interval
past_the_end : at false (binary op.Plus (number (pos 2147483647)) (number (pos 1)))
    ≡ record { kind = record { class = number_class; interval = None }; is_set = false; broken = too_wide ∷ [] }
unfolding at
past_the_end = refl

-- so is -2147483648 as a number, but not -2147483647 - 1
least_number : (at false (negate (number (pos 2147483648)))).broken ≡ too_wide ∷ []
unfolding at
least_number = refl

least_by_parts : (at false (binary op.Minus (negate (number (pos 2147483647))) (number (pos 1)))).kind ≡ numbers (negsuc 2147483647) (negsuc 2147483647)
unfolding at numbers from
least_by_parts = refl

-- {1, 2} + 1: the set has no interval, and so the sum has none
set_in_a_sum : at false (binary op.Plus (set_of (tree_then (number (pos 1)) (tree_then (number (pos 2)) no_tree))) (number (pos 1)))
    ≡ record { kind = record { class = number_class; interval = None }; is_set = false; broken = set_here ∷ [] }
unfolding at
set_in_a_sum = refl

-- the branches of a value may be sets, and the members of a set may not
branches_are_sets : at true (choice (leaf a_truth) (set_of (tree_then (number (pos 1)) no_tree)) (span (pos 3) (pos 4)))
    ≡ record { kind = numbers (pos 1) (pos 4); is_set = true; broken = [] }
unfolding at numbers from a_truth
branches_are_sets = refl

-- where no set may stand, the choice and its branch break the rule, and have no interval
branch_is_a_set : at false (choice (leaf a_truth) (span (pos 1) (pos 2)) (number (pos 3)))
    ≡ record { kind = record { class = number_class; interval = None }; is_set = true; broken = set_here ∷ set_here ∷ [] }
unfolding at a_truth
branch_is_a_set = refl

members_are_no_sets : (at true (set_of (tree_then (span (pos 1) (pos 3)) (tree_then (number (pos 5)) no_tree)))).broken ≡ set_here ∷ []
unfolding at
members_are_no_sets = refl

-- x in (1..3 union 5)
in_a_union : at false (binary op.Within (leaf (numbers (pos 0) (pos 7))) (binary op.Union (span (pos 1) (pos 3)) (number (pos 5))))
    ≡ record { kind = a_truth; is_set = false; broken = [] }
unfolding at numbers from a_truth
in_a_union = refl

-- 3 ? 1 : 2 has the class of its branches and no interval
no_condition : at false (choice (number (pos 3)) (number (pos 1)) (number (pos 2)))
    ≡ record { kind = record { class = number_class; interval = None }; is_set = false; broken = not_boolean ∷ [] }
unfolding at
no_condition = refl

-- case b : 1; b : red; esac has another class in its second branch, and doesn't end in TRUE
wrong_case : (at false (case_of (branch_then (leaf a_truth) (number (pos 1)) (branch_then (leaf a_truth) (leaf a_symbol) no_branch)))).broken
    ≡ mismatch ∷ case_end ∷ []
unfolding at a_truth a_symbol
wrong_case = refl

right_case : (at false (case_of (branch_then (leaf a_truth) (number (pos 1)) (branch_then (truth true) (negate (number (pos 4))) no_branch)))).kind
    ≡ numbers (negsuc 3) (pos 1)
unfolding at a_truth numbers from
right_case = refl

-- x : 3..1, {1, b}, {b, b}, {0, 0}, {2147483648}, {-5, 7, 2}
empty_type : (judged_declared (range (pos 3) (pos 1))).broken ≡ empty_range ∷ []
empty_type = refl

mixed_type : (judged_declared (members (member.Number (pos 1) ∷ member.Symbol (codes "b") ∷ []))).broken ≡ mixed_enum ∷ []
mixed_type = refl

double_type : (judged_declared (members (member.Symbol (codes "b") ∷ member.Symbol (codes "b") ∷ []))).broken ≡ double_member ∷ []
double_type = refl

wide_type : (judged_declared (members (member.Number (pos 2147483648) ∷ []))).broken ≡ too_wide ∷ []
wide_type = refl

type_of_numbers : (judged_declared (members (member.Number (negsuc 4) ∷ member.Number (pos 7) ∷ member.Number (pos 2) ∷ []))).kind ≡ numbers (negsuc 4) (pos 7)
unfolding numbers from
type_of_numbers = refl

-- bits of 0..0, 0..255, -4..3, -5..4 and {1, 3, 7}
bits_of_zero : declared_width [] (range (pos 0) (pos 0)) ≡ 1
unfolding digits_in
bits_of_zero = refl

bits_of_a_byte : declared_width [] (range (pos 0) (pos 255)) ≡ 8
unfolding digits_in
bits_of_a_byte = refl

bits_with_a_sign : declared_width [] (range (negsuc 3) (pos 3)) ≡ 3
unfolding digits_in
bits_with_a_sign = refl

bits_past_them : declared_width [] (range (negsuc 4) (pos 4)) ≡ 4
unfolding digits_in
bits_past_them = refl

bits_of_members : declared_width [] (members (member.Number (pos 1) ∷ member.Number (pos 3) ∷ member.Number (pos 7) ∷ [])) ≡ 3
unfolding digits_in
bits_of_members = refl

-- symbols 1 and 2 of three
bits_of_symbols : declared_width (codes "a" ∷ codes "b" ∷ codes "c" ∷ []) (members (member.Symbol (codes "b") ∷ member.Symbol (codes "c") ∷ [])) ≡ 2
unfolding digits_in
bits_of_symbols = refl

-- x * 2 + 1 costs 68
cost_of_a_product : cost_of {L = ℕ} (binary op.Plus (binary op.Times (leaf 0) (number (pos 2))) (number (pos 1))) ≡ 68
cost_of_a_product = refl

variable : ℕ → DeclaredTree → FlatVariable
variable item d = record { place = []; name = codes "x"; role = state; declared = d; item = item; number = 0 }

-- VAR x : 0..3; y : 3..1; DEFINE d := 1 / x; INIT d; where d may divide by zero, before INIT is no condition
a_model : FlatModel
a_model = record {
  instances = [];
  variables = variable 2 (range (pos 0) (pos 3)) ∷ variable 3 (range (pos 3) (pos 1)) ∷ [];
  definitions = record { value = binary op.Over (number (pos 1)) (leaf (flat_variable 0)); item = 4; number = 0 } ∷ [];
  symbols = [];
  at_first = record { value = leaf (flat_definition 0); item = 5; number = 0 } ∷ [];
  at_each = [];
  at_step = [];
}

breach : ℕ → KindRule → Breach
breach item r = record { number = 0; item = item; rule = r }

all_breaches : breaches a_model ≡ breach 3 empty_range ∷ breach 4 may_divide_by_zero ∷ breach 5 not_boolean ∷ []
unfolding a_model variable breach
all_breaches = refl

first_fault : IsFault a_model empty_range 3
unfolding a_model variable breach
first_fault = at_an_item (breach 3 empty_range) (record {
  among = inl refl;
  earliest = (inr (refl, inr (refl, omega arith)), (inr (refl, inl (omega arith)), (inr (refl, inl (omega arith)), tt)));
}) refl refl

-- 0..3 has 2 bits, and 3..1 would have the 1 of its greatest
state_bits_of_it : state_bits a_model ≡ 3
unfolding a_model variable digits_in
state_bits_of_it = refl

-- 2 ranges, 1 / x, and the name d
cost_of_it : model_cost a_model ≡ 73
unfolding a_model variable
cost_of_it = refl

-- VAR x : 0..3; y : 1..3; DEFINE d := x / y; INIT d < 3; is typed, and at x = 3, y = 2 the define is 1
b_model : FlatModel
b_model = record {
  instances = [];
  variables = variable 2 (range (pos 0) (pos 3)) ∷ variable 3 (range (pos 1) (pos 3)) ∷ [];
  definitions = record { value = binary op.Over (leaf (flat_variable 0)) (leaf (flat_variable 1)); item = 4; number = 0 } ∷ [];
  symbols = [];
  at_first = record { value = binary op.Less (leaf (flat_definition 0)) (number (pos 3)); item = 5; number = 0 } ∷ [];
  at_each = [];
  at_step = [];
}

it_is_typed : IsTyped b_model
unfolding b_model variable digits_in
it_is_typed = record { kept = refl; small = refl }

it_is_closed : IsClosed b_model
unfolding b_model variable
it_is_closed = record { definitions = ((omega arith, omega arith), tt); at_first = ((omega arith, tt), tt); at_each = tt; at_step = tt }

its_values : AreInDomains b_model.variables (a_number (pos 3) ∷ a_number (pos 2) ∷ [])
unfolding b_model variable
its_values = (refl, (refl, tt))

its_define : FlatGives b_model (a_number (pos 3) ∷ a_number (pos 2) ∷ []) (a_number (pos 3) ∷ a_number (pos 2) ∷ []) (leaf (flat_definition 0)) (one (a_number (pos 1)))
unfolding b_model variable
its_define = refl

its_kind : (judged_in b_model false (leaf (flat_definition 0))).kind ≡ numbers (pos 0) (pos 3)
unfolding b_model variable numbers from
its_kind = refl
