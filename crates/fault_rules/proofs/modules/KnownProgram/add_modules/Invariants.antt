use Rattle.std.proofs.Common.{◌≡◌, map, drop}
use Rattle.smv_language.specs.ProgramTree.{module_tree}
use Rattle.fault_rules.specs.KeyedLists.{with_entries}
use Rattle.fault_rules.specs.Locals.{scope_of, scopes_in}
use Rattle.fault_rules.proofs.modules.KnownProgram.add_modules.Given as goal

abbrev pub invariant-loop-module : goal.invariant-loop-module
invariant-loop-module l = record {
  program : l.self.program ≡ l.initial.self.program;
  names : l.self.names ≡ l.initial.self.names;
  scopes : with_entries (scopes_in l.self) (map scope_of (map module_tree (drop l.module-index l.modules))) ≡ with_entries (scopes_in l.initial.self) (map scope_of (map module_tree l.modules));
}
