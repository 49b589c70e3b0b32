-- The tables of an accepted program only want memory.
use Rattle.std.proofs.Common.{rules}
use Rattle.smv_language.specs.Language.{program_tree, tree_of}
use Rattle.smv_scope.specs.Faults.{IsFaultOf}
use Rattle.smv_flat.specs.ResolvedAt.{IsValueFault}
use Rattle.smv_flat.proofs.FlatFaults.{no_rule}
use Rattle.smv_flat.proofs.ResolvedAtLaws.{no_rule_value}
use Rattle.smv_flat.proofs.flattening.resolve_at.Goals as goal

pub returns-in_err-scope-clause-fault : goal.returns-in_err-scope-clause-fault
returns-in_err-scope-clause-fault c = λ at is.
    let fault : IsFaultOf (program_tree c.args.p.now) c.in_err-scope.field-0.0 = search rules in
    let value : IsValueFault (program_tree c.args.p.now) at.place c.args.inputs (tree_of c.args.e.now) c.in_err-scope.field-0.0 =
    no_rule_value (program_tree c.args.p.now) at.place c.args.inputs (tree_of c.args.e.now) c.in_err-scope.field-0.0 (no_rule (program_tree c.args.p.now) c.in_err-scope.field-0.0 is.accepted fault) in
    search rules

pub returns-clause-no_next : goal.returns-clause-no_next
returns-clause-no_next c = c.resolve_at.ensures.no_next (program_tree c.args.p.now) c.in_ok-scope.ensures.scope
