-- The tables are those of the scope's program.
use Rattle.std.proofs.Common.{IfOk, IfErr, OnOk, subst}
use Rattle.smv_language.specs.Language.{ProgramTree, tree_of, FlatInstance, model_tree, flat_tree}
use Rattle.smv_flat_laws.specs.ResolvedAt.{IsResolvedAt}
use Rattle.smv_flat.specs.ResolvedAt.{IsAt, IsValueFault}
use Rattle.smv_flat.proofs.flattening.Scope.resolve_at.Goals as goal
use Rattle.smv_flat_laws.specs.ValueRules.{KeepsValue}

pub returns-clause-resolved : goal.returns-clause-resolved
returns-clause-resolved c = λ p is at a.
    subst (λ (q : ProgramTree). (at : FlatInstance) → IsAt q (model_tree c.args.m.now) c.args.«instance» at → IfOk c.resolve_value.result (λ made. IsResolvedAt q (model_tree c.args.m.now) at.place (tree_of c.args.e.now) (flat_tree made)))
    is.program c.resolve_value.ensures.resolved at a

pub returns-clause-fault : goal.returns-clause-fault
returns-clause-fault c = λ p is at a.
    subst (λ (q : ProgramTree). (at : FlatInstance) → IsAt q (model_tree c.args.m.now) c.args.«instance» at → IfErr c.resolve_value.result (IsValueFault q at.place c.args.inputs (tree_of c.args.e.now)))
    is.program c.resolve_value.ensures.fault at a

pub returns-clause-kept : goal.returns-clause-kept
returns-clause-kept c = λ p is at a.
    subst (λ (q : ProgramTree). (at : FlatInstance) → IsAt q (model_tree c.args.m.now) c.args.«instance» at → OnOk c.resolve_value.result (KeepsValue q at.place c.args.inputs (tree_of c.args.e.now))) is.program
    c.resolve_value.ensures.kept at a
