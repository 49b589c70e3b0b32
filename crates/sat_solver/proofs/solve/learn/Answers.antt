use Rattle.std.proofs.Common.{◌≡◌, ◌≢◌, ◌+◌, ◌∷◌, [], ◌++◌, false, Some, List, Contains, length, get_or, sym, ap, ◌∙◌, subst, length-append, arith}
use Rattle.std.proofs.lemmas.Bool.{eqb-true}
use Rattle.std.proofs.lemmas.List.Elements.{Contains-push}
use Rattle.sat_clauses.specs.Literal.{Literal}
use Rattle.sat_clauses.specs.Assignment.{Assignment, value_of}
use Rattle.sat_clauses.specs.declared.clause.Truth.TheVariants.{False}
use Rattle.sat_clauses.specs.Hints.{truth_at}
use Rattle.sat_clauses.specs.Truth.{truth_of}
use Rattle.sat_solver.specs.declared.trail.Reason.TheVariants.{Implied}
use Rattle.sat_solver.proofs.SearchLemmas.{truth_at_last, entries_in_range, reasons_within, names_one}
use Rattle.sat_solver.proofs.RunningLemmas.{running_undone, running_lesson}
use Rattle.sat_solver.proofs.LessonLemmas.{lesson_turns, turned_within, turned_rises, empty_core}
use Rattle.sat_solver.proofs.solve.learn.Goals as goal

pub analyse-requires-clause-in_range : goal.analyse-requires-clause-in_range
analyse-requires-clause-in_range g c = entries_in_range (length c.args.trail.now.values) c.args.trail.now.entries c.requires.running.sound.lawful.fresh

pub analyse-requires-clause-reasons : goal.analyse-requires-clause-reasons
analyse-requires-clause-reasons g c = reasons_within (g.S.Store.held c.args.store.now).clauses c.args.question.assumptions.now (length c.args.trail.now.values) c.args.trail.now.entries c.requires.running.sound.justified

pub analyse-requires-clause-number : goal.analyse-requires-clause-number
analyse-requires-clause-number g c = names_one (g.S.Store.held c.args.store.now).clauses c.args.trail.now.values c.args.number False c.requires.is_false

pub keep_lesson-requires-clause-step : goal.keep_lesson-requires-clause-step
keep_lesson-requires-clause-step g c =
    running_lesson c.args.question.assumptions.now (g.S.Store.held c.args.store.now) c.args.trail.now false c.args.number c.in_ok-learned.learned.step c.requires.running c.requires.is_false
    c.in_ok-learned.ensures.lits c.in_ok-learned.ensures.hints

pub returns-then-is_empty-clause-lesson : goal.returns-then-is_empty-clause-lesson
returns-then-is_empty-clause-lesson g c =
    let cs = (g.S.Store.held c.args.store.now).clauses in
    let clause = c.in_ok-learned.learned.step.clause in
    let same : c.in_ok-copy.field-0 ≡ clause = c.in_ok-copy.ensures in
    let empty : length c.lits.result.now ≡ 0 = eqb-true (length c.lits.result.now) 0 (sym c.is_empty.ensures ∙ c.if-is_empty.true) in
    empty_core (g.S.Store.held c.keep_lesson.new.store).clauses c.args.question.assumptions.now c.in_ok-copy.field-0
    (subst (λ (x : List Literal). Contains (g.S.Store.held c.keep_lesson.new.store).clauses x) (sym same) (subst (λ (xs : List (List Literal)). Contains xs clause) (sym c.in_ok-keep_lesson.ensures.clauses) (Contains-push cs clause)))
    (ap length same ∙ (ap length (sym c.lits.ensures) ∙ empty))

pub undo-requires-clause-within : goal.undo-requires-clause-within
undo-requires-clause-within g c =
    let clause = c.in_ok-learned.learned.step.clause in
    let l = c.index-lits-0.result in
    let some : length c.lits.result.now ≢ 0 = grind arith in
    let turned = lesson_turns (g.S.Store.held c.args.store.now).clauses c.args.question.assumptions.now c.args.trail.now c.args.number clause c.in_ok-learned.learned.target l c.requires.running.sound c.in_ok-learned.ensures.lits c.in_ok-learned.ensures.target
    (λ e. some (ap length c.lits.ensures ∙ e)) (c.index-lits-0.is ∙ ap (λ (x : List Literal). get_or x 0 l) c.lits-2.ensures) in
    omega (arith, turned_within (length c.args.trail.now.values) c.args.trail.now.entries clause c.in_ok-learned.learned.target l turned)

pub push-requires-clause-running : goal.push-requires-clause-running
push-requires-clause-running g c =
    running_undone c.args.question.assumptions.now (g.S.Store.held c.keep_lesson.new.store) c.args.trail.now c.undo.new.self c.in_ok-learned.learned.target c.in_ok-keep_lesson.ensures.goes_on.running
    c.undo.ensures.same_vars c.undo.ensures.entries c.undo.ensures.values c.undo.ensures.followed c.undo.ensures.followed_within

pub push-requires-clause-free : goal.push-requires-clause-free
push-requires-clause-free g c =
    let clause = c.in_ok-learned.learned.step.clause in
    let l = c.index-lits-0.result in
    let some : length c.lits.result.now ≢ 0 = grind arith in
    let turned = lesson_turns (g.S.Store.held c.args.store.now).clauses c.args.question.assumptions.now c.args.trail.now c.args.number clause c.in_ok-learned.learned.target l c.requires.running.sound c.in_ok-learned.ensures.lits c.in_ok-learned.ensures.target
    (λ e. some (ap length c.lits.ensures ∙ e)) (c.index-lits-0.is ∙ ap (λ (x : List Literal). get_or x 0 l) c.lits-2.ensures) in
    ap (λ (a : Assignment). value_of a l) c.undo.ensures.values ∙ turned.free

pub push-requires-clause-reason : goal.push-requires-clause-reason
push-requires-clause-reason g c =
    let cs = (g.S.Store.held c.args.store.now).clauses in
    let clause = c.in_ok-learned.learned.step.clause in
    let l = c.index-lits-0.result in
    let a = c.undo.new.self.values in
    let some : length c.lits.result.now ≢ 0 = grind arith in
    let turned = lesson_turns cs c.args.question.assumptions.now c.args.trail.now c.args.number clause c.in_ok-learned.learned.target l c.requires.running.sound c.in_ok-learned.ensures.lits c.in_ok-learned.ensures.target
    (λ e. some (ap length c.lits.ensures ∙ e)) (c.index-lits-0.is ∙ ap (λ (x : List Literal). get_or x 0 l) c.lits-2.ensures) in
    let number : c.len.result ≡ length cs + 1 = c.len.ensures ∙ (ap length c.in_ok-keep_lesson.ensures.clauses ∙ length-append cs (clause ∷ [])) in
    ap (λ (xs : List (List Literal)). truth_at xs a c.len.result) c.in_ok-keep_lesson.ensures.clauses
    ∙ (truth_at_last cs clause a c.len.result number
    ∙ ap Some (ap (λ (b : Assignment). truth_of b clause) c.undo.ensures.values ∙ turned.is_unit))

pub returns-clause-lesson : goal.returns-clause-lesson
returns-clause-lesson g c =
    let clause = c.in_ok-learned.learned.step.clause in
    let l = c.index-lits-0.result in
    let n = length c.args.trail.now.values in
    let some : length c.lits.result.now ≢ 0 = grind arith in
    let turned = lesson_turns (g.S.Store.held c.args.store.now).clauses c.args.question.assumptions.now c.args.trail.now c.args.number clause c.in_ok-learned.learned.target l c.requires.running.sound c.in_ok-learned.ensures.lits c.in_ok-learned.ensures.target
    (λ e. some (ap length c.lits.ensures ∙ e)) (c.index-lits-0.is ∙ ap (λ (x : List Literal). get_or x 0 l) c.lits-2.ensures) in
    turned_rises n c.args.trail.now.entries c.push.new.trail.entries clause c.in_ok-learned.learned.target l c.len.result turned c.requires.running.sound.lawful.fresh
    (c.in_ok-push.ensures.entries ∙ ap (λ ys. ys ++ (record { lit = l; reason = Implied c.len.result }) ∷ []) c.undo.ensures.entries)
