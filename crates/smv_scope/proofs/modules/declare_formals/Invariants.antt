-- The formals so far, with those that are left, are all.
use Rattle.std.proofs.Common.{◌≡◌, ◌++◌, drop}
use Rattle.smv_scope.specs.ModuleFaults.{formals_told, texts_of}
use Rattle.smv_scope.specs.SceneTree.{named, formal_entries}
use Rattle.smv_scope.proofs.modules.declare_formals.Given as goal

abbrev pub invariant-loop-k : goal.invariant-loop-k
invariant-loop-k l = record {
  entries : named l.locals.entries ++ formal_entries l.k (drop l.k l.formals) ≡ named l.initial.locals.entries ++ formal_entries 0 l.formals;
  told : formals_told l.header (texts_of (named l.locals.entries)) (drop l.k l.formals) ≡ formals_told l.header (texts_of (named l.initial.locals.entries)) l.formals;
}
