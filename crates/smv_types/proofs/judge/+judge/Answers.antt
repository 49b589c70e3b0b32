use Rattle.std.proofs.Common.{rules}
use Rattle.std.proofs.lemmas.Int.{to_z-of_z}
use Rattle.smv_types.specs.Names.{name_kind}
use Rattle.smv_types.proofs.ExprLaws.{link_not, link_negative, link_binary, link_choice, link_case, link_set, judged_span_is}
use Rattle.smv_types.proofs.judge.+judge.Goals as goal

pub judge-returns-in-Not : goal.judge-returns-in-Not
judge-returns-in-Not t c = link_not (name_kind c.args.sorts.now) c.args.sets c.in-Not.a c.opposite.ensures c.judge.ensures c.deref.ensures c.in-Not.is

pub judge-returns-in-Negate : goal.judge-returns-in-Negate
judge-returns-in-Negate t c =
    link_negative (name_kind c.args.sorts.now) c.args.sets c.in-Negate.a c.negative.ensures c.judge-in-Negate.ensures c.deref-in-Negate.ensures c.in-Negate.is

pub judge-returns-in-Binary : goal.judge-returns-in-Binary
judge-returns-in-Binary t c =
    link_binary (name_kind c.args.sorts.now) c.args.sets c.in-Binary.op c.in-Binary.a c.in-Binary.b c.operation.ensures c.judge-a.ensures c.sets_on_left.ensures c.deref-in-Binary.ensures c.judge-in-Binary.ensures c.sets_on_right.ensures c.deref-in-Binary-2.ensures c.in-Binary.is

pub judge-returns-in-Choice : goal.judge-returns-in-Choice
judge-returns-in-Choice t c =
    link_choice (name_kind c.args.sorts.now) c.args.sets c.in-Choice.c c.in-Choice.a c.in-Choice.b c.choice.ensures c.judge-c.ensures c.deref-in-Choice.ensures c.judge-a-in-Choice.ensures c.deref-in-Choice-2.ensures c.judge-in-Choice.ensures c.deref-in-Choice-3.ensures c.in-Choice.is

pub judge-returns-in-Case : goal.judge-returns-in-Case
judge-returns-in-Case t c =
    link_case (name_kind c.args.sorts.now) c.args.sets c.in-Case.branches c.whole_case.ensures c.judge_conditions-guards.ensures c.as_slice.ensures c.judge_values.ensures c.as_slice-in-Case.ensures c.in-Case.is

pub judge-returns-in-SetOf : goal.judge-returns-in-SetOf
judge-returns-in-SetOf t c =
    link_set (name_kind c.args.sorts.now) c.args.sets c.in-SetOf.members c.whole_set.ensures c.judge_members.ensures c.as_slice-in-SetOf.ensures c.in-SetOf.is

pub judge-returns-in-Span : goal.judge-returns-in-Span
judge-returns-in-Span t c = search (rules, to_z-of_z, c.span.ensures, c.in-Span.is, judged_span_is (name_kind c.args.sorts.now) c.args.sets c.in-Span.lo c.in-Span.hi)
