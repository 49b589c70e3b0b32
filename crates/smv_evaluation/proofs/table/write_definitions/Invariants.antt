use Rattle.std.proofs.Common.{◌≡◌, [], take, drop, length}
use Rattle.smv_evaluation.specs.MomentTables.{definition_values}
use Rattle.smv_evaluation.proofs.table.write_definitions.Given as goal

abbrev pub invariant-loop-i : goal.invariant-loop-i
invariant-loop-i l =
    (definition_values l.variables (take l.i l.into) (drop l.i l.definitions) ≡ definition_values l.variables [] l.definitions) × (length l.into ≡ length l.definitions)
