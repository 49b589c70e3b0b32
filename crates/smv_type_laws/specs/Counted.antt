-- What the flat model of a program costs at least, counted over the program without making the model.
use Rattle.std.specs.Prelude.{ℕ, ◌+◌, ◌≤◌, ◌++◌, Option, Some, None, sum_by}
use Rattle.smv_language.specs.Language.{Formula, ProgramTree, Place, Key, FlatModel}
use Rattle.smv_flat_laws.specs.Items.{Visit, variables_of}
use Rattle.smv_flat_laws.specs.Rules.{expression_of, IsWalkable}
use Rattle.smv_flat_laws.specs.Model.{Condition, plain, now_among, next_among, kept, Written, Root, roots_of, conditions}
use Rattle.smv_flat_laws.specs.Model.{first_conditions, each_conditions, step_conditions, kept_conditions, IsFlatOf}
use Rattle.smv_type_laws.specs.Costs.{cost_of, declared_cost, model_cost}

-- of the formula that a condition becomes
abbrev pub condition_cost : Condition → ℕ
condition_cost (plain e) = cost_of e
condition_cost (now_among x e) = 1 + cost_of e + 1
condition_cost (next_among x e) = 2 + cost_of e + 1
condition_cost (kept x) = 4

-- of a condition at an instance
abbrev pub written_cost : Written → ℕ
written_cost w = condition_cost w.condition

-- of the expression of a definition
abbrev pub expression_cost : Option (Place × Formula) → ℕ
expression_cost None = 0
expression_cost (Some d) = cost_of d.1

-- of the definition of a key
abbrev pub key_cost : ProgramTree → Key → ℕ
key_cost p k = expression_cost (expression_of p k)

-- of all variables, definitions and conditions of a program, at all instances
abbrev pub counted_cost : ProgramTree → ℕ
counted_cost p =
    sum_by (λ (v : Visit). declared_cost v.decl.what) (variables_of p) + sum_by (λ (r : Root). key_cost p r.key) (roots_of p)
    + sum_by written_cost (conditions first_conditions p) + sum_by written_cost (conditions each_conditions p)
    + sum_by written_cost (conditions step_conditions p ++ conditions kept_conditions p)

-- the model costs no less: a program that is counted beyond the limit has no model within it
abbrev pub CostsAsCounted : Type 0
CostsAsCounted = (p : ProgramTree) (m : FlatModel) → IsWalkable p → IsFlatOf p m → counted_cost p ≤ model_cost m
