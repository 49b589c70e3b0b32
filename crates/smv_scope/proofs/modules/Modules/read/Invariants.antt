-- The modules so far are read, and what is told of those that are left is told of all.
use Rattle.std.proofs.Common.{◌≡◌, suc, ◌++◌, [], drop, map}
use Rattle.smv_language.specs.ProgramTree.{module_tree, program_tree}
use Rattle.smv_scope.specs.ModuleFaults.{AreRead, modules_told, trees_read}
use Rattle.smv_scope.proofs.modules.Modules.read.Given as goal

abbrev pub invariant-loop-module : goal.invariant-loop-module
invariant-loop-module l = record {
  read : AreRead l.modules l.last;
  trees : trees_read l.modules ++ map module_tree (drop l.module-index l.p.modules) ≡ program_tree l.p;
  program : l.modules.program.now ≡ l.p;
  main : l.modules.main ≡ l.main;
  told : modules_told (suc l.last) (trees_read l.modules) (map module_tree (drop l.module-index l.p.modules)) ≡ modules_told 1 [] (program_tree l.p);
}
