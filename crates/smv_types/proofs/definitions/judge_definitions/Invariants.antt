use Rattle.std.proofs.Common.{take}
use Rattle.smv_language.specs.ModelTree.{model_tree}
use Rattle.smv_type_laws.specs.Models.{judged_variables}
use Rattle.smv_types.specs.Parts.{AreDefined}
use Rattle.smv_types.proofs.definitions.judge_definitions.Given as goal

abbrev pub invariant-loop-definition : goal.invariant-loop-definition
invariant-loop-definition l = AreDefined (judged_variables (model_tree l.m).variables) (take l.definition-index l.m.definitions) l.defined
