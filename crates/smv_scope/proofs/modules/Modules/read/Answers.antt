-- One module more.
use Rattle.std.proofs.Common.{rules, ◌≡◌, ◌<◌, ◌++◌, None, List, length, get_or, drop, map, ap, ◌∙◌, sym, subst, suc, [], Some}
use Rattle.std.proofs.lemmas.List.{drop_all, append-nil}
use Rattle.smv_language.specs.ProgramTree.{ProgramTree, module_tree, program_tree}
use Rattle.smv_language.specs.declared.program.Module.{Module}
use Rattle.smv_language.specs.declared.program.Program.{Program}
use Rattle.std.specs.Borrow.{Bor}
use Rattle.smv_scope.specs.Faults.{IsFaultOf}
use Rattle.smv_scope.specs.ModuleFaults.{IsTold, IsReadAfter, module_told, modules_told, trees_read}
use Rattle.smv_scope.proofs.PassedOn.{passed_on}
use Rattle.smv_scope.proofs.ModuleFaults.{main_kept, modules_fault}
use Rattle.smv_scope.proofs.ReadLaws.{told_fault, told_next, trees_next, all_read}
use Rattle.smv_scope.proofs.modules.Modules.read.Goals as goal

pub returns-in_err-last-clause-fault : goal.returns-in_err-last-clause-fault
returns-in_err-last-clause-fault c =
    let ms : List Module = c.args.p.now.modules in
    let p : ProgramTree = program_tree c.args.p.now in
    let k = c.loop-module.module-index in
    let d : Module = c.module-item.result in
    let within : k < length ms = search rules in
    let same : d ≡ get_or ms k d = search rules in
    let told : IsTold (module_told (trees_read c.loop-module.modules) (suc c.loop-module.last) (module_tree (get_or ms k d))) c.in_err-last.field-0.0 =
    subst (λ (x : Module). IsTold (module_told (trees_read c.loop-module.modules) (suc c.loop-module.last) (module_tree x)) c.in_err-last.field-0.0) same c.in_err-last.ensures.fault in
    passed_on (IsFaultOf p) c.from_residual.result c.in_err-last.field-0.0 c.from_residual.ensures.1
    (modules_fault p c.in_err-last.field-0.0 (main_kept p c.args.main c.requires.main)
    (told_fault ms k d within c.loop-module.modules c.loop-module.last (modules_told 1 [] p) c.in_err-last.field-0.0 c.loop-module.invariant.told told))

pub loop-module-preserved : goal.loop-module-preserved
loop-module-preserved c =
    let ms : List Module = c.args.p.now.modules in
    let k = c.loop-module.module-index in
    let d : Module = c.module-item.result in
    let within : k < length ms = search rules in
    let same : d ≡ get_or ms k d = search rules in
    let after : IsReadAfter c.loop-module.modules (module_tree (get_or ms k d)) c.add.new.self c.in_ok-last.last =
    subst (λ (x : Module). IsReadAfter c.loop-module.modules (module_tree x) c.add.new.self c.in_ok-last.last) same c.in_ok-last.ensures.read in
    let kept : module_told (trees_read c.loop-module.modules) (suc c.loop-module.last) (module_tree (get_or ms k d)) ≡ None =
    ap (λ (x : Module). module_told (trees_read c.loop-module.modules) (suc c.loop-module.last) (module_tree x)) (sym same) ∙ c.in_ok-last.ensures.kept in
    record {
      read = after.read;
      trees = trees_next ms k d within c.loop-module.modules c.loop-module.last c.add.new.self c.in_ok-last.last c.loop-module.invariant.read after ∙ c.loop-module.invariant.trees;
      program = ap (λ (b : Bor Program). b.now) after.program ∙ c.loop-module.invariant.program;
      main = after.main ∙ c.loop-module.invariant.main;
      told = told_next ms k d within c.loop-module.modules c.loop-module.last c.add.new.self c.in_ok-last.last c.loop-module.invariant.read after kept ∙ c.loop-module.invariant.told;
    }

pub returns : goal.returns
returns c =
    let ms : List Module = c.args.p.now.modules in
    let p : ProgramTree = program_tree c.args.p.now in
    let none_left : drop c.loop-module.module-index ms ≡ [] = drop_all c.loop-module.module-index ms (search rules) in
    let trees : trees_read c.loop-module.modules ≡ p =
    sym (append-nil (trees_read c.loop-module.modules)) ∙ sym (ap (λ ys. trees_read c.loop-module.modules ++ map module_tree ys) none_left) ∙ c.loop-module.invariant.trees in
    let told : modules_told 1 [] p ≡ None =
    sym c.loop-module.invariant.told ∙ ap (λ ys. modules_told (suc c.loop-module.last) (trees_read c.loop-module.modules) (map module_tree ys)) none_left in
    record {
      modules = all_read c.loop-module.modules c.loop-module.last p c.loop-module.invariant.read trees (ap program_tree c.loop-module.invariant.program)
          (main_kept p c.args.main c.requires.main) (c.requires.main ∙ sym (ap Some c.loop-module.invariant.main)) told;
      program = c.loop-module.invariant.program;
      fault = tt;
    }
