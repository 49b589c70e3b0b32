-- What a mode adds for its effect: a branch of the case that gives the read value, and rule sections, by the forms of its row.
use Rattle.std.specs.Prelude.{nat_abs, ℤ, pos, negsuc, suc, nat_eq, true, false, List, [], ◌∷◌, Option, Some, None, map, if◌then◌else◌}
use Rattle.base_values.specs.declared.limits.TheConstants.{GREATEST_NUMBER}
use Rattle.smv_language.specs.declared.expr.Op.TheVariants as op
use Rattle.smv_language.specs.declared.program.Member.{Member}
use Rattle.smv_language.specs.declared.program.Section.{Section}
use Rattle.smv_language.specs.Language.{Trees, leaf, not_of, negate, next_of, binary, choice, set_of, span, no_tree, tree_then, trees_from}
use Rattle.smv_language.specs.Language.{Text, Path, Formula, DeclaredTree, boolean, range, members, instance, SectionTree, init, invar}
use Rattle.smv_language.specs.Language.{trans, section_tree, Value, symbol, value_of_member}
use Rattle.smv_language.specs.Tree.{truth as is_truth, number as is_number}
use Rattle.smv_language.specs.Values.{truth, number}
use Rattle.fault_instructions.specs.declared.effects.EffectRule.{EffectRule}
use Rattle.fault_instructions.specs.declared.effects.EffectRule.TheVariants.{NotOwn, AsBefore, AsEntered, Falling}
use Rattle.fault_instructions.specs.Instructions.{EffectTree}
use Rattle.fault_instructions.specs.EffectForms.{Branch, the_constant, the_formula, the_opposite, the_sum, any_value}
use Rattle.fault_instructions.specs.Effects.{branch_of, rule_of}
use Rattle.fault_instructions.specs.AddedNames.{own_name, mode_variable, mode_symbol}

-- the single name
abbrev pub named : Text → Formula
named x = leaf (x ∷ [])

-- a number, where every number in the tree is within 32 bits if it is: a negative one is a negation
abbrev pub number_tree : ℤ → Formula
number_tree (pos n) = is_number (pos n)
number_tree (negsuc n) =
    if nat_eq n (nat_abs GREATEST_NUMBER) then binary op.Minus (negate (is_number GREATEST_NUMBER)) (is_number (pos 1)) else negate
    (is_number (pos (suc n)))

-- the constant
abbrev pub value_tree : Value → Formula
value_tree (truth b) = is_truth b
value_tree (number n) = number_tree n
value_tree (symbol x) = named x

-- the members in written order
abbrev pub member_trees : List Member → Trees Path
member_trees ms = trees_from (map (λ m. value_tree (value_of_member m)) ms)

-- the set of a domain
abbrev pub domain_tree : DeclaredTree → Formula
domain_tree boolean = set_of (tree_then (is_truth false) (tree_then (is_truth true) no_tree))
domain_tree (range lo hi) = span lo hi
domain_tree (members ms) = set_of (member_trees ms)
domain_tree (instance m actuals) = set_of no_tree

-- the number of the range that is nearest to that of the formula
abbrev pub clipped_tree : DeclaredTree → Formula → Formula
clipped_tree (range lo hi) e =
    choice (binary op.Greater e (number_tree hi)) (number_tree hi) (choice (binary op.Less e (number_tree lo)) (number_tree lo) e)
clipped_tree _ e = e

-- what x may be by a branch, from its own value
abbrev pub branch_tree : Branch → DeclaredTree → Text → Formula
branch_tree (the_constant c) type x = value_tree c
branch_tree (the_formula e) type x = e
branch_tree the_opposite type x = not_of (named (own_name x))
branch_tree (the_sum d) type x = clipped_tree type (binary op.Plus (named (own_name x)) (number_tree d))
branch_tree any_value type x = domain_tree type

-- the branch of an effect
abbrev pub branch : EffectTree → DeclaredTree → Text → Formula
branch e type x = branch_tree (branch_of e) type x

-- the greater of the formula and the number
abbrev pub greater_tree : Formula → ℤ → Formula
greater_tree e f = choice (binary op.Greater e (number_tree f)) e (number_tree f)

-- that the mode stands now
abbrev pub stands : Text → Text → Formula
stands slice mode = binary op.Equal (named (mode_variable slice)) (named (mode_symbol slice (Some mode)))

-- that the mode stands next
abbrev pub stands_next : Text → Text → Formula
stands_next slice mode = binary op.Equal (next_of (named (mode_variable slice))) (named (mode_symbol slice (Some mode)))

-- that the variable keeps its value
abbrev pub stays_tree : Text → Formula
stays_tree x = binary op.Equal (next_of (named x)) (named x)

-- where the mode stands, the read value is not the own one
abbrev pub erroneous_rule : Text → Text → Text → Formula
erroneous_rule slice mode x = binary op.Implies (stands slice mode) (binary op.Differs (named x) (named (own_name x)))

-- where the mode stands next, the read value stays
abbrev pub frozen_rule : Text → Text → Text → Formula
frozen_rule slice mode x = binary op.Implies (stands_next slice mode) (stays_tree x)

-- where the mode stands now and next, the read value stays
abbrev pub pick_rule : Text → Text → Text → Formula
pick_rule slice mode x = binary op.Implies (binary op.And (stands slice mode) (stands_next slice mode)) (stays_tree x)

-- where the mode stands next, the next read value is the greater of the floor and the one now less the step
abbrev pub ramp_rule : ℤ → ℤ → Text → Text → Text → Formula
ramp_rule d f slice mode x =
    binary op.Implies (stands_next slice mode)
    (binary op.Equal (next_of (named x)) (greater_tree (binary op.Minus (named x) (number_tree d)) f))

-- the sections of a rule, where there is one
abbrev pub rule_trees : Option EffectRule → Text → Text → Text → List SectionTree
rule_trees None slice mode x = []
rule_trees (Some NotOwn) slice mode x = invar (erroneous_rule slice mode x) ∷ []
rule_trees (Some AsBefore) slice mode x = trans (frozen_rule slice mode x) ∷ []
rule_trees (Some AsEntered) slice mode x = trans (pick_rule slice mode x) ∷ []
rule_trees (Some (Falling d f)) slice mode x = trans (ramp_rule d f slice mode x) ∷ []

-- the rule sections of a mode
abbrev pub rules : EffectTree → Text → Text → Text → List SectionTree
rules e slice mode x = rule_trees (rule_of e) slice mode x

-- the first moment has no moment before: where the mode stands there, the read value is the own one
abbrev pub frozen_first : Text → Text → Text → Formula
frozen_first slice mode x = binary op.Implies (stands slice mode) (binary op.Equal (named x) (named (own_name x)))

-- and for a ramp the greater of the floor and the own one less the step
abbrev pub ramp_first : ℤ → ℤ → Text → Text → Text → Formula
ramp_first d f slice mode x =
    binary op.Implies (stands slice mode)
    (binary op.Equal (named x) (greater_tree (binary op.Minus (named (own_name x)) (number_tree d)) f))

-- the sections of a rule at a first moment, where it says something there
abbrev pub first_trees : Option EffectRule → Text → Text → Text → List SectionTree
first_trees None slice mode x = []
first_trees (Some NotOwn) slice mode x = []
first_trees (Some AsBefore) slice mode x = init (frozen_first slice mode x) ∷ []
first_trees (Some AsEntered) slice mode x = []
first_trees (Some (Falling d f)) slice mode x = init (ramp_first d f slice mode x) ∷ []

-- the first rule sections of a mode, in which its slice may start
abbrev pub first_rules : EffectTree → Text → Text → Text → List SectionTree
first_rules e slice mode x = first_trees (rule_of e) slice mode x

-- a section or none, as a list
abbrev pub rule_sections : Option Section → List SectionTree
rule_sections None = []
rule_sections (Some s) = section_tree s ∷ []
