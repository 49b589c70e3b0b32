-- The tables of an accepted program only want memory.
use Rattle.std.proofs.Common.{rules}
use Rattle.smv_language.specs.ProgramTree.{program_tree}
use Rattle.smv_scope.specs.Faults.{IsFaultOf}
use Rattle.smv_flat.proofs.FlatFaults.{no_rule}
use Rattle.smv_flat.proofs.flattening.Scope.of_accepted.Goals as goal

pub returns-in_err-scope-clause-want : goal.returns-in_err-scope-clause-want
returns-in_err-scope-clause-want c =
    let fault : IsFaultOf (program_tree c.args.p.now) c.in_err-scope.field-0.0 = search rules in
    let none = no_rule (program_tree c.args.p.now) c.in_err-scope.field-0.0 c.requires fault in
    search rules
