-- Where the names of a whole have leaves, so have those of its parts.
use Rattle.std.proofs.Common.{rules, ◌≡◌, IfErr}
use Rattle.std.specs.List.{All}
use Rattle.smv_language.specs.declared.expr.Expr.TheVariants.{Case, SetOf}
use Rattle.smv_scope.specs.Faults.{IsWant}
use Rattle.smv_flat.specs.ResolverOf.{leaf_in, IsKnown, IsBranchKnown}
use Rattle.smv_flat.proofs.ResolvedLaws.{known_set, known_case}
use Rattle.smv_flat.proofs.resolve.+resolve.Goals as goal

pub resolve-returns-in_err-resolve_branches-in-Case-clause-want : goal.resolve-returns-in_err-resolve_branches-in-Case-clause-want
resolve-returns-in_err-resolve_branches-in-Case-clause-want t c = λ known.
    let is : c.args.e.now ≡ Case c.in-Case.branches = cc in
    let all : All (IsBranchKnown (leaf_in c.args.scope.now c.args.source.spot) c.args.source.bounds) c.in-Case.branches =
    known_case (leaf_in c.args.scope.now c.args.source.spot) c.args.source.bounds c.args.e.now c.in-Case.branches known is in
    let want : IfErr c.resolve_branches.result IsWant = c.resolve_branches.ensures.want (search (rules, all)) in
    search rules

pub resolve-returns-in_err-resolve_members-in-SetOf-clause-want : goal.resolve-returns-in_err-resolve_members-in-SetOf-clause-want
resolve-returns-in_err-resolve_members-in-SetOf-clause-want t c = λ known.
    let is : c.args.e.now ≡ SetOf c.in-SetOf.members = cc in
    let all : All (IsKnown (leaf_in c.args.scope.now c.args.source.spot) c.args.source.bounds) c.in-SetOf.members =
    known_set (leaf_in c.args.scope.now c.args.source.spot) c.args.source.bounds c.args.e.now c.in-SetOf.members known is in
    let want : IfErr c.resolve_members.result IsWant = c.resolve_members.ensures.want (search (rules, all)) in
    search rules
