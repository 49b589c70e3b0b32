use Rattle.std.proofs.Common.{◌≡◌, ◌+◌, ◌≤◌, min, take, drop}
use Rattle.std.specs.Prelude.{map}
use Rattle.base_values.specs.declared.limits.TheConstants.{MOST_COST}
use Rattle.smv_language.specs.ModelTree.{variable_tree}
use Rattle.smv_type_laws.specs.FirstBreach.{first_of}
use Rattle.smv_type_laws.specs.Models.{judged_variables, variable_breaches}
use Rattle.smv_types.specs.KeptKinds.{kept_sorts}
use Rattle.smv_types.specs.Sites.{told_first_site}
use Rattle.smv_types.specs.Sizes.{variables_bits}
use Rattle.smv_types.specs.Types.{variable_domain}
use Rattle.smv_types.proofs.variables.declare_each.Given as goal

abbrev pub invariant-loop-variable : goal.invariant-loop-variable
invariant-loop-variable l = record {
  domains : l.all.domains.items ≡ map (variable_domain l.numbers.texts.now) (take l.variable-index l.variables);
  kinds : l.all.sorts.items ≡ kept_sorts (judged_variables (map variable_tree (take l.variable-index l.variables)));
  first : l.all.first ≡ told_first_site (first_of (variable_breaches (map variable_tree (take l.variable-index l.variables))));
  bits : min (l.all.bits + variables_bits l.numbers.texts.now (drop l.variable-index l.variables)) (MOST_COST + 1) ≡ min (variables_bits l.numbers.texts.now l.variables) (MOST_COST + 1);
  few : l.all.bits ≤ MOST_COST + 1;
}
