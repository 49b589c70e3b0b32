use Rattle.std.proofs.Common.{drop, map}
use Rattle.smv_language.specs.ModelTree.{formula_tree}
use Rattle.sat_circuits.specs.Circuit.{fold_gates}
use Rattle.sat_encoding_laws.specs.Lists.{definition_gates, definitions_gates}
use Rattle.sat_expressions.specs.BuiltSignals.{signals_of}
use Rattle.sat_encoding.specs.Copies.{source_model, Defines}
use Rattle.sat_encoding.proofs.lists.definitions.Given as goal

abbrev pub invariant-loop-d : goal.invariant-loop-d
invariant-loop-d l =
    Defines (source_model l.source) (signals_of l.fn.variables) l.fn.g (definitions_gates (source_model l.source) (signals_of l.fn.variables) l.all l.fn.g)
    (fold_gates (definition_gates (source_model l.source) (signals_of l.fn.variables) l.all) (drop l.d-index (map formula_tree l.source.model.now.model.definitions)) (signals_of l.copy.definitions) l.g)
    l.g l.copy
