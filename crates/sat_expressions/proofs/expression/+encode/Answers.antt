use Rattle.std.proofs.Common.{◌≡◌, ◌≤◌, ◌<◌, ◌+◌, ◌-◌, ◌*◌, rules, to_z, of_z, w64, IfOk, refl, sym, ◌∙◌, subst, arith, length}
use Rattle.std.proofs.lemmas.Int.{to_z-of_z}
use Rattle.smv_language.specs.Language.{trees_of, branches_of, trees_map, branches_map, leaf_of}
use Rattle.sat_circuits.specs.Circuit.{Circuit}
use Rattle.sat_circuits.specs.Numbers.{number_word}
use Rattle.sat_encoding_laws.specs.Signals.{literal_in, word}
use Rattle.sat_encoding_laws.specs.Expressions.{span_gates}
use Rattle.sat_encoding_laws.specs.Meanings.{IsSignal}
use Rattle.sat_expressions.specs.declared.signal.Signal.{Signal}
use Rattle.sat_expressions.specs.BuiltSignals.{signal_of, BuildsSignal}
use Rattle.sat_expressions.specs.Sorts.{literal_sort}
use Rattle.sat_expressions.specs.Parts.{asked_of, Answers}
use Rattle.sat_expressions.proofs.Members.{signal_later, named_later, asked_later, symbols_some, named_next, some_first, some_step, some_done}
use Rattle.sat_expressions.proofs.BranchLoop.{branches_first, branches_step, branches_last, branches_done}
use Rattle.sat_expressions.proofs.Sizes.{nodes, members_nodes, branches_nodes, in_not, in_negate, in_next, on_left, on_right, in_condition, in_first, in_second, in_case, in_set, of_members, of_conditions, of_values}
use Rattle.sat_expressions.proofs.Arms.{arm_truth, arm_number, arm_leaf, arm_not, arm_negate, arm_next, arm_union, arm_within, arm_values, arm_choice, arm_case, arm_set, arm_span}
use Rattle.sat_expressions.proofs.expression.+encode.Goals as goal
use Rattle.sat_expressions.proofs.expression.+encode.Goals.{each_branch-then-left-gt0+in_ok-c+in_ok-parts, each_branch-else-left-gt0}

-- ---- the operands of a node

pub expression-expression-requires : goal.expression-expression-requires
expression-expression-requires t c =
    let smaller : 2 * nodes c.deref.result.now < 2 * nodes c.args.e.now = in_not c.args.e.now c.deref.result.now c.in-Not.a c.deref.ensures c.in-Not.is in
    (search (rules, smaller), (c.requires.named, tt))

pub expression-expression-requires-in-Negate : goal.expression-expression-requires-in-Negate
expression-expression-requires-in-Negate t c =
    let smaller : 2 * nodes c.deref-in-Negate.result.now < 2 * nodes c.args.e.now = in_negate c.args.e.now c.deref-in-Negate.result.now c.in-Negate.a c.deref-in-Negate.ensures c.in-Negate.is in
    (search (rules, smaller), (c.requires.named, tt))

pub expression-expression-requires-in-Next : goal.expression-expression-requires-in-Next
expression-expression-requires-in-Next t c =
    let smaller : 2 * nodes c.deref-in-Next.result.now < 2 * nodes c.args.e.now = in_next c.args.e.now c.deref-in-Next.result.now c.in-Next.a c.deref-in-Next.ensures c.in-Next.is in
    (search (rules, smaller), (named_next c.args.names.now c.at_next.result c.args.g.now c.at_next.ensures c.requires.named, tt))

pub expression-expression-requires-in-Union : goal.expression-expression-requires-in-Union
expression-expression-requires-in-Union t c =
    let smaller : 2 * nodes c.deref-in-Union.result.now < 2 * nodes c.args.e.now = on_left c.args.e.now c.deref-in-Union.result.now c.in-Binary.op c.in-Binary.a c.in-Binary.b c.deref-in-Union.ensures c.in-Binary.is in
    (search (rules, smaller), (c.requires.named, c.requires.asked))

pub expression-expression-requires-in-Union-2 : goal.expression-expression-requires-in-Union-2
expression-expression-requires-in-Union-2 t c =
    let smaller : 2 * nodes c.deref-in-Union-2.result.now < 2 * nodes c.args.e.now = on_right c.args.e.now c.deref-in-Union-2.result.now c.in-Binary.op c.in-Binary.a c.in-Binary.b c.deref-in-Union-2.ensures c.in-Binary.is in
    (search (rules, smaller), (named_later c.args.names.now c.args.g.now c.expression-in-Union.new.g c.in_ok-left-in-Union.ensures.grows c.requires.named, asked_later c.args.asked c.args.g.now c.expression-in-Union.new.g c.in_ok-left-in-Union.ensures.grows c.requires.asked))

pub expression-expression-requires-in-Within : goal.expression-expression-requires-in-Within
expression-expression-requires-in-Within t c =
    let smaller : 2 * nodes c.deref-in-Within.result.now < 2 * nodes c.args.e.now = on_left c.args.e.now c.deref-in-Within.result.now c.in-Binary.op c.in-Binary.a c.in-Binary.b c.deref-in-Within.ensures c.in-Binary.is in
    (search (rules, smaller), (c.requires.named, tt))

pub expression-expression-requires-in-Within-2 : goal.expression-expression-requires-in-Within-2
expression-expression-requires-in-Within-2 t c =
    let smaller : 2 * nodes c.deref-in-Within-2.result.now < 2 * nodes c.args.e.now = on_right c.args.e.now c.deref-in-Within-2.result.now c.in-Binary.op c.in-Binary.a c.in-Binary.b c.deref-in-Within-2.ensures c.in-Binary.is in
    (search (rules, smaller), (named_later c.args.names.now c.args.g.now c.expression-in-Within.new.g c.in_ok-left-in-Within.ensures.grows c.requires.named, c.in_ok-left-in-Within.ensures.usable))

pub expression-expression-requires-in-Values : goal.expression-expression-requires-in-Values
expression-expression-requires-in-Values t c =
    let smaller : 2 * nodes c.deref-in-Values.result.now < 2 * nodes c.args.e.now = on_left c.args.e.now c.deref-in-Values.result.now c.in-Binary.op c.in-Binary.a c.in-Binary.b c.deref-in-Values.ensures c.in-Binary.is in
    (search (rules, smaller), (c.requires.named, tt))

pub expression-expression-requires-in-Values-2 : goal.expression-expression-requires-in-Values-2
expression-expression-requires-in-Values-2 t c =
    let smaller : 2 * nodes c.deref-in-Values-2.result.now < 2 * nodes c.args.e.now = on_right c.args.e.now c.deref-in-Values-2.result.now c.in-Binary.op c.in-Binary.a c.in-Binary.b c.deref-in-Values-2.ensures c.in-Binary.is in
    (search (rules, smaller), (named_later c.args.names.now c.args.g.now c.expression-in-Values.new.g c.in_ok-left-in-Values.ensures.grows c.requires.named, tt))

pub expression-expression-requires-in-Choice : goal.expression-expression-requires-in-Choice
expression-expression-requires-in-Choice t c =
    let smaller : 2 * nodes c.deref-in-Choice.result.now < 2 * nodes c.args.e.now = in_condition c.args.e.now c.deref-in-Choice.result.now c.in-Choice.c c.in-Choice.a c.in-Choice.b c.deref-in-Choice.ensures c.in-Choice.is in
    (search (rules, smaller), (c.requires.named, tt))

pub expression-expression-requires-in-Choice-2 : goal.expression-expression-requires-in-Choice-2
expression-expression-requires-in-Choice-2 t c =
    let smaller : 2 * nodes c.deref-in-Choice-2.result.now < 2 * nodes c.args.e.now = in_first c.args.e.now c.deref-in-Choice-2.result.now c.in-Choice.c c.in-Choice.a c.in-Choice.b c.deref-in-Choice-2.ensures c.in-Choice.is in
    (search (rules, smaller), (named_later c.args.names.now c.args.g.now c.expression-in-Choice.new.g c.in_ok-condition-in-Choice.ensures.grows c.requires.named, asked_later c.args.asked c.args.g.now c.expression-in-Choice.new.g c.in_ok-condition-in-Choice.ensures.grows c.requires.asked))

pub expression-expression-requires-in-Choice-3 : goal.expression-expression-requires-in-Choice-3
expression-expression-requires-in-Choice-3 t c =
    let smaller : 2 * nodes c.deref-in-Choice-3.result.now < 2 * nodes c.args.e.now = in_second c.args.e.now c.deref-in-Choice-3.result.now c.in-Choice.c c.in-Choice.a c.in-Choice.b c.deref-in-Choice-3.ensures c.in-Choice.is in
    let grows : c.args.g.now.free ≤ c.expression-in-Choice-2.new.g.free = omega (arith, c.in_ok-condition-in-Choice.ensures.grows, c.in_ok-first-in-Choice.ensures.grows) in
    (search (rules, smaller), (named_later c.args.names.now c.args.g.now c.expression-in-Choice-2.new.g grows c.requires.named, asked_later c.args.asked c.args.g.now c.expression-in-Choice-2.new.g grows c.requires.asked))

pub expression-each_branch-requires : goal.expression-each_branch-requires
expression-each_branch-requires t c =
    let smaller : 2 * branches_nodes c.as_slice.result.now + 1 < 2 * nodes c.args.e.now = in_case c.args.e.now c.in-Case.branches c.as_slice.result.now c.as_slice.ensures c.in-Case.is in
    (search (rules, smaller), (c.requires.named, c.requires.asked))

pub expression-some_member-requires : goal.expression-some_member-requires
expression-some_member-requires t c =
    let smaller : 2 * members_nodes c.as_slice-in-SetOf.result.now + 1 < 2 * nodes c.args.e.now = in_set c.args.e.now c.in-SetOf.members c.as_slice-in-SetOf.result.now c.as_slice-in-SetOf.ensures c.in-SetOf.is in
    (search (rules, smaller), (c.requires.named, c.requires.asked))

-- ---- the arms

pub expression-returns-in-Truth : goal.expression-returns-in-Truth
expression-returns-in-Truth t c = arm_truth c.args.names.now (asked_of c.args.asked) c.args.e.now c.args.g.now c.truth_part.new.g c.truth_part.result c.in-Truth.b c.in-Truth.is c.truth_part.ensures

pub expression-returns-in-Number : goal.expression-returns-in-Number
expression-returns-in-Number t c =
    let same : to_z w64 (of_z w64 c.in-Number.n) ≡ c.in-Number.n = search (rules, to_z-of_z) in
    arm_number c.args.names.now (asked_of c.args.asked) c.args.e.now c.args.g.now c.number_part.new.g c.number_part.result c.in-Number.n c.in-Number.is
    (subst (λ z. IfOk c.number_part.result (Answers (asked_of c.args.asked) c.args.g.now (c.args.g.now, word (number_word z)) (literal_sort z) c.number_part.new.g)) same c.number_part.ensures)

pub expression-returns-in-Leaf : goal.expression-returns-in-Leaf
expression-returns-in-Leaf t c = arm_leaf c.args.names.now (asked_of c.args.asked) c.args.e.now c.args.g.now c.leaf_part.new.g c.leaf_part.result c.in-Leaf.name c.in-Leaf.is c.leaf_part.ensures

pub expression-not_part-requires-clause-asked : goal.expression-not_part-requires-clause-asked
expression-not_part-requires-clause-asked t c = asked_later c.args.asked c.args.g.now c.expression.new.g c.in_ok-part-in-Not.ensures.grows c.requires.asked

pub expression-returns-in_ok-part-in-Not : goal.expression-returns-in_ok-part-in-Not
expression-returns-in_ok-part-in-Not t c =
    arm_not c.args.names.now (asked_of c.args.asked) c.args.e.now c.args.g.now c.not_part.new.g c.not_part.result _ c.in-Not.a c.expression.new.g c.in_ok-part-in-Not.part c.deref.ensures c.in-Not.is
    c.in_ok-part-in-Not.ensures c.not_part.ensures

pub expression-negated_part-requires-clause-symbols : goal.expression-negated_part-requires-clause-symbols
expression-negated_part-requires-clause-symbols t c = symbols_some c.args.names.now c.args.g.now c.requires.named

pub expression-negated_part-requires-clause-asked : goal.expression-negated_part-requires-clause-asked
expression-negated_part-requires-clause-asked t c = asked_later c.args.asked c.args.g.now c.expression-in-Negate.new.g c.in_ok-part-in-Negate.ensures.grows c.requires.asked

pub expression-returns-in_ok-part-in-Negate : goal.expression-returns-in_ok-part-in-Negate
expression-returns-in_ok-part-in-Negate t c =
    arm_negate c.args.names.now (asked_of c.args.asked) c.args.e.now c.args.g.now c.negated_part.new.g c.negated_part.result c.requires.named _ c.in-Negate.a c.expression-in-Negate.new.g c.in_ok-part-in-Negate.part
    c.deref-in-Negate.ensures c.in-Negate.is c.in_ok-part-in-Negate.ensures c.negated_part.ensures

pub expression-answer-requires-clause-asked : goal.expression-answer-requires-clause-asked
expression-answer-requires-clause-asked t c = asked_later c.args.asked c.args.g.now c.expression-in-Next.new.g c.in_ok-part-in-Next.ensures.grows c.requires.asked

pub expression-returns-in_ok-part-in-Next : goal.expression-returns-in_ok-part-in-Next
expression-returns-in_ok-part-in-Next t c =
    arm_next c.args.names.now (asked_of c.args.asked) c.args.e.now c.args.g.now c.answer.new.g c.answer.result c.at_next.result c.at_next.ensures _ c.in-Next.a c.expression-in-Next.new.g c.in_ok-part-in-Next.part
    c.deref-in-Next.ensures c.in-Next.is c.in_ok-part-in-Next.ensures c.answer.ensures

-- ---- two operands

pub expression-union_part-requires-clause-left : goal.expression-union_part-requires-clause-left
expression-union_part-requires-clause-left t c =
    signal_later c.expression-in-Union.new.g c.expression-in-Union-2.new.g c.in_ok-right-in-Union.ensures.grows c.in_ok-left-in-Union.left.signal c.in_ok-left-in-Union.ensures.usable

pub expression-returns-in_ok-right-in-Union : goal.expression-returns-in_ok-right-in-Union
expression-returns-in_ok-right-in-Union t c =
    arm_union c.args.names.now (asked_of c.args.asked) c.args.e.now c.args.g.now c.union_part.new.g c.union_part.result c.in-Binary.op (sym c.form_of.ensures ∙ c.in-Union.is) _ _ c.in-Binary.a c.in-Binary.b
    c.expression-in-Union.new.g c.expression-in-Union-2.new.g c.in_ok-left-in-Union.left c.in_ok-right-in-Union.right c.deref-in-Union.ensures c.deref-in-Union-2.ensures c.in-Binary.is
    c.in_ok-left-in-Union.ensures c.in_ok-right-in-Union.ensures c.union_part.ensures.signal c.union_part.ensures.bit

pub expression-answer-requires-in-Within-clause-asked : goal.expression-answer-requires-in-Within-clause-asked
expression-answer-requires-in-Within-clause-asked t c =
    asked_later c.args.asked c.args.g.now c.expression-in-Within-2.new.g (omega (arith, c.in_ok-left-in-Within.ensures.grows, c.in_ok-found-in-Within.ensures.grows)) c.requires.asked

pub expression-answer-requires-in-Within-clause-usable : goal.expression-answer-requires-in-Within-clause-usable
expression-answer-requires-in-Within-clause-usable t c =
    subst (λ (x : Signal). IsSignal c.expression-in-Within-2.new.g (signal_of x)) (sym c.as_truth.ensures.signal) c.in_ok-found-in-Within.ensures.usable

pub expression-returns-in_ok-found-in-Within : goal.expression-returns-in_ok-found-in-Within
expression-returns-in_ok-found-in-Within t c =
    arm_within c.args.names.now (asked_of c.args.asked) c.args.e.now c.args.g.now c.answer-in-Within.new.g c.answer-in-Within.result c.in-Binary.op (sym c.form_of.ensures ∙ c.in-Within.is) _ _ c.in-Binary.a c.in-Binary.b
    c.expression-in-Within.new.g c.expression-in-Within-2.new.g c.in_ok-left-in-Within.left c.in_ok-found-in-Within.found c.as_truth.result c.deref-in-Within.ensures c.deref-in-Within-2.ensures c.in-Binary.is
    c.in_ok-left-in-Within.ensures c.in_ok-found-in-Within.ensures c.as_truth.ensures.signal c.as_truth.ensures.sort c.answer-in-Within.ensures

pub expression-applied_part-requires-clause-symbols : goal.expression-applied_part-requires-clause-symbols
expression-applied_part-requires-clause-symbols t c = symbols_some c.args.names.now c.args.g.now c.requires.named

pub expression-applied_part-requires-clause-asked : goal.expression-applied_part-requires-clause-asked
expression-applied_part-requires-clause-asked t c =
    asked_later c.args.asked c.args.g.now c.expression-in-Values-2.new.g (omega (arith, c.in_ok-left-in-Values.ensures.grows, c.in_ok-right-in-Values.ensures.grows)) c.requires.asked

pub expression-applied_part-requires-clause-left : goal.expression-applied_part-requires-clause-left
expression-applied_part-requires-clause-left t c =
    signal_later c.expression-in-Values.new.g c.expression-in-Values-2.new.g c.in_ok-right-in-Values.ensures.grows c.in_ok-left-in-Values.left.signal c.in_ok-left-in-Values.ensures.usable

pub expression-returns-in_ok-right-in-Values : goal.expression-returns-in_ok-right-in-Values
expression-returns-in_ok-right-in-Values t c =
    arm_values c.args.names.now (asked_of c.args.asked) c.args.e.now c.args.g.now c.applied_part.new.g c.applied_part.result c.requires.named c.in-Binary.op (sym c.form_of.ensures ∙ c.in-Values.is) _ _ c.in-Binary.a c.in-Binary.b
    c.expression-in-Values.new.g c.expression-in-Values-2.new.g c.in_ok-left-in-Values.left c.in_ok-right-in-Values.right c.deref-in-Values.ensures c.deref-in-Values-2.ensures c.in-Binary.is
    c.in_ok-left-in-Values.ensures c.in_ok-right-in-Values.ensures c.applied_part.ensures

-- ---- choices

pub expression-chosen_part-requires-clause-symbols : goal.expression-chosen_part-requires-clause-symbols
expression-chosen_part-requires-clause-symbols t c = symbols_some c.args.names.now c.args.g.now c.requires.named

pub expression-chosen_part-requires-clause-condition : goal.expression-chosen_part-requires-clause-condition
expression-chosen_part-requires-clause-condition t c =
    signal_later c.expression-in-Choice.new.g c.expression-in-Choice-3.new.g (omega (arith, c.in_ok-first-in-Choice.ensures.grows, c.in_ok-second-in-Choice.ensures.grows)) c.in_ok-condition-in-Choice.condition.signal c.in_ok-condition-in-Choice.ensures.usable

pub expression-chosen_part-requires-clause-left : goal.expression-chosen_part-requires-clause-left
expression-chosen_part-requires-clause-left t c =
    signal_later c.expression-in-Choice-2.new.g c.expression-in-Choice-3.new.g c.in_ok-second-in-Choice.ensures.grows c.in_ok-first-in-Choice.first.signal c.in_ok-first-in-Choice.ensures.usable

pub expression-returns-in_ok-second-in-Choice : goal.expression-returns-in_ok-second-in-Choice
expression-returns-in_ok-second-in-Choice t c =
    arm_choice c.args.names.now (asked_of c.args.asked) c.args.e.now c.args.g.now c.chosen_part.new.g c.chosen_part.result c.requires.named _ _ _ c.in-Choice.c c.in-Choice.a c.in-Choice.b
    c.expression-in-Choice.new.g c.expression-in-Choice-2.new.g c.expression-in-Choice-3.new.g c.in_ok-condition-in-Choice.condition c.in_ok-first-in-Choice.first c.in_ok-second-in-Choice.second
    c.deref-in-Choice.ensures c.deref-in-Choice-2.ensures c.deref-in-Choice-3.ensures c.in-Choice.is
    c.in_ok-condition-in-Choice.ensures c.in_ok-first-in-Choice.ensures c.in_ok-second-in-Choice.ensures c.chosen_part.ensures.signal c.chosen_part.ensures.sort

pub expression-first_of-requires-clause-symbols : goal.expression-first_of-requires-clause-symbols
expression-first_of-requires-clause-symbols t c = symbols_some c.args.names.now c.args.g.now c.requires.named

pub expression-returns-in_ok-parts-in-Case : goal.expression-returns-in_ok-parts-in-Case
expression-returns-in_ok-parts-in-Case t c =
    arm_case c.args.names.now (asked_of c.args.asked) c.args.e.now c.args.g.now c.first_of.new.g c.first_of.result c.requires.named c.in-Case.branches _ c.each_branch.new.g c.in_ok-parts-in-Case.parts
    c.as_slice.ensures c.in-Case.is c.in_ok-parts-in-Case.ensures c.first_of.ensures

pub expression-returns-in_ok-l-in-SetOf : goal.expression-returns-in_ok-l-in-SetOf
expression-returns-in_ok-l-in-SetOf t c =
    arm_set c.args.names.now (asked_of c.args.asked) c.args.e.now c.args.g.now c.some_member.new.g c.truth.result c.in-SetOf.members _ c.in_ok-l-in-SetOf.l c.as_slice-in-SetOf.ensures c.in-SetOf.is
    c.in_ok-l-in-SetOf.ensures c.truth.ensures.signal

pub expression-returns-in-Span : goal.expression-returns-in-Span
expression-returns-in-Span t c =
    let low : to_z w64 (of_z w64 c.in-Span.lo) ≡ c.in-Span.lo = search (rules, to_z-of_z) in
    let high : to_z w64 (of_z w64 c.in-Span.hi) ≡ c.in-Span.hi = search (rules, to_z-of_z) in
    arm_span c.args.names.now (asked_of c.args.asked) c.args.e.now c.args.g.now c.span_part.new.g c.span_part.result c.in-Span.lo c.in-Span.hi c.in-Span.is
    (subst (λ z. IfOk c.span_part.result (λ p. BuildsSignal c.args.g.now (span_gates (asked_of c.args.asked) z c.in-Span.hi c.args.g.now) c.span_part.new.g p.signal)) low
    (subst (λ z. IfOk c.span_part.result (λ p. BuildsSignal c.args.g.now (span_gates (asked_of c.args.asked) (to_z w64 (of_z w64 c.in-Span.lo)) z c.args.g.now) c.span_part.new.g p.signal)) high c.span_part.ensures.signal))
    c.span_part.ensures.bit

-- ---- the members of a set

pub some_member-loop-member-init : goal.some_member-loop-member-init
some_member-loop-member-init t c =
    some_first c.args.names.now (asked_of c.args.asked) (trees_map leaf_of (trees_of c.args.members.now)) c.args.g.now c.constant-found.result c.constant-found.ensures.literal c.constant-found.ensures.below

pub some_member-expression-requires : goal.some_member-expression-requires
some_member-expression-requires t c =
    let smaller : 2 * nodes c.member-item.result < 2 * members_nodes c.args.members.now + 1 = of_members c.args.members.now c.loop-member.member-index c.member-item.result c.loop-member-test.true c.member-item.is in (
      search (rules, smaller),
      (
        named_later c.args.names.now c.args.g.now c.loop-member.g c.loop-member.invariant.grows c.requires.named,
        asked_later c.args.asked c.args.g.now c.loop-member.g c.loop-member.invariant.grows c.requires.asked,
      ),
    )

pub some_member-or_part-requires-clause-left : goal.some_member-or_part-requires-clause-left
some_member-or_part-requires-clause-left t c = omega (arith, c.loop-member.invariant.below, c.in_ok-here.ensures.grows)

pub some_member-loop-member-preserved : goal.some_member-loop-member-preserved
some_member-loop-member-preserved t c =
    some_step c.args.names.now (asked_of c.args.asked) c.args.members.now c.loop-member.member-index c.member-item.result c.args.g.now c.loop-member.g c.expression.new.g c.or_part.new.g
    c.loop-member.found (literal_in (signal_of c.in_ok-here.here.signal)) c.in_ok-found.found c.in_ok-here.here c.loop-member-test.true c.member-item.is c.loop-member.invariant c.in_ok-here.ensures refl c.in_ok-found.ensures

pub some_member-returns : goal.some_member-returns
some_member-returns t c =
    some_done c.args.names.now (asked_of c.args.asked) c.args.members.now c.loop-member.member-index c.args.g.now c.loop-member.g c.loop-member.found c.loop-member-test.false c.loop-member.invariant

-- ---- the branches of a case

pub each_branch-loop-condition-init : goal.each_branch-loop-condition-init
each_branch-loop-condition-init t c = (
  branches_first c.args.names.now (asked_of c.args.asked) (branches_map leaf_of (branches_of c.args.branches.now)) c.args.g.now c.no_parts-parts.result c.no_parts-parts.ensures,
  omega arith,
)

pub each_branch-overflow_sub-left : goal.each_branch-overflow_sub-left
each_branch-overflow_sub-left t c = omega (arith, c.loop-condition.invariant.1, c.loop-condition-test.true)

pub each_branch-expression-requires : goal.each_branch-expression-requires
each_branch-expression-requires t c =
    let smaller : 2 * nodes c.loop-condition-item.result.0 < 2 * branches_nodes c.args.branches.now + 1 =
    of_conditions c.args.branches.now c.loop-condition.condition-index c.loop-condition-item.result c.loop-condition-test.true c.loop-condition-item.is
    in
    (search (rules, smaller), (named_later c.args.names.now c.args.g.now c.loop-condition.g c.loop-condition.invariant.0.grows c.requires.named, tt))

pub each_branch-expression-requires-in-loop-condition : goal.each_branch-expression-requires-in-loop-condition
each_branch-expression-requires-in-loop-condition t c =
    let here : c.loop-condition.g.free ≤ c.if-left-gt0.g.free =
    elim c.if-left-gt0.branch [
      | each_branch-then-left-gt0+in_ok-c+in_ok-parts w ↦ subst (λ (x : Circuit). c.loop-condition.g.free ≤ x.free) (sym w.g-is) w.in_ok-c.ensures.grows
      | each_branch-else-left-gt0 w ↦ subst (λ (x : Circuit). c.loop-condition.g.free ≤ x.free) (sym w.g-is) (omega arith)
    ]
    in
    let grows : c.args.g.now.free ≤ c.if-left-gt0.g.free = omega (arith, here, c.loop-condition.invariant.0.grows) in
    let smaller : 2 * nodes c.loop-condition-item.result.1 < 2 * branches_nodes c.args.branches.now + 1 =
    of_values c.args.branches.now c.loop-condition.condition-index c.loop-condition-item.result c.loop-condition-test.true c.loop-condition-item.is
    in
    (search (rules, smaller), (named_later c.args.names.now c.args.g.now c.if-left-gt0.g grows c.requires.named, asked_later c.args.asked c.args.g.now c.if-left-gt0.g grows c.requires.asked))

pub each_branch-loop-condition-preserved : goal.each_branch-loop-condition-preserved
each_branch-loop-condition-preserved t c =
    let count : (c.loop-condition.left - 1) + (c.loop-condition.condition-index + 1) ≡ length c.args.branches.now = omega (arith, c.loop-condition.invariant.1, c.loop-condition-test.true) in
    elim c.if-left-gt0.branch [
      | each_branch-then-left-gt0+in_ok-c+in_ok-parts w ↦ (
        branches_step c.args.names.now (asked_of c.args.asked) c.args.branches.now c.loop-condition.condition-index c.loop-condition-item.result c.args.g.now c.loop-condition.g w.expression.new.g c.if-left-gt0.g c.expression-in-loop-condition.new.g
            c.loop-condition.parts c.if-left-gt0.parts c.in_ok-parts-2.parts w.in_ok-c.c c.in_ok-value.value c.loop-condition-test.true c.loop-condition-item.is (omega (arith, count, w.if-left-gt0.true)) c.loop-condition.invariant.0
            w.in_ok-c.ensures w.with_condition.ensures.below (w.parts-is ∙ w.in_ok-parts.ensures.made) w.g-is c.in_ok-value.ensures c.in_ok-parts-2.ensures.conditions c.in_ok-parts-2.ensures.values c.in_ok-parts-2.ensures.sort,
        count,
      )
      | each_branch-else-left-gt0 w ↦ (
        branches_last c.args.names.now (asked_of c.args.asked) c.args.branches.now c.loop-condition.condition-index c.loop-condition-item.result c.args.g.now c.loop-condition.g c.if-left-gt0.g c.expression-in-loop-condition.new.g
            c.loop-condition.parts c.if-left-gt0.parts c.in_ok-parts-2.parts c.in_ok-value.value c.loop-condition-test.true c.loop-condition-item.is (omega (arith, count, w.if-left-gt0.false)) c.loop-condition.invariant.0
            w.parts-is w.g-is c.in_ok-value.ensures c.in_ok-parts-2.ensures.conditions c.in_ok-parts-2.ensures.values c.in_ok-parts-2.ensures.sort,
        count,
      )
    ]

pub each_branch-returns : goal.each_branch-returns
each_branch-returns t c =
    branches_done c.args.names.now (asked_of c.args.asked) c.args.branches.now c.loop-condition.condition-index c.args.g.now c.loop-condition.g c.loop-condition.parts c.loop-condition-test.false c.loop-condition.invariant.0
