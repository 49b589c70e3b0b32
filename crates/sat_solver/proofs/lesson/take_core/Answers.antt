use Rattle.std.proofs.Common.{true, List, Contains, length, sym, ◌∙◌, subst}
use Rattle.std.proofs.lemmas.Bool.{false≢true}
use Rattle.std.proofs.lemmas.List.Elements.{Contains-push}
use Rattle.sat_clauses.specs.Literal.{Literal}
use Rattle.sat_clauses.specs.declared.clause.Truth.TheVariants.{False}
use Rattle.sat_clauses.proofs.DeriveModelLemmas.{FollowsFrom-EndsFalse}
use Rattle.sat_solver.proofs.LessonLemmas.{listed_follows}
use Rattle.sat_solver.proofs.SearchLemmas.{entries_in_range, reasons_within, names_one}
use Rattle.sat_solver.proofs.RunningLemmas.{running_lesson}
use Rattle.sat_solver.proofs.lesson.take_core.Goals as goal

pub analyse-requires-clause-in_range : goal.analyse-requires-clause-in_range
analyse-requires-clause-in_range g c = entries_in_range (length c.args.trail.now.values) c.args.trail.now.entries c.requires.running.sound.lawful.fresh

pub analyse-requires-clause-reasons : goal.analyse-requires-clause-reasons
analyse-requires-clause-reasons g c = reasons_within (g.S.Store.held c.args.store.now).clauses c.args.question.assumptions.now (length c.args.trail.now.values) c.args.trail.now.entries c.requires.running.sound.justified

pub analyse-requires-clause-number : goal.analyse-requires-clause-number
analyse-requires-clause-number g c = names_one (g.S.Store.held c.args.store.now).clauses c.args.trail.now.values c.args.number False c.requires.is_false

pub keep_lesson-requires-clause-step : goal.keep_lesson-requires-clause-step
keep_lesson-requires-clause-step g c =
    running_lesson c.args.question.assumptions.now (g.S.Store.held c.args.store.now) c.args.trail.now true c.args.number c.in_ok-learned.learned.step c.requires.running c.requires.is_false
    c.in_ok-learned.ensures.lits c.in_ok-learned.ensures.hints

pub returns-then-question-clause-core : goal.returns-then-question-clause-core
returns-then-question-clause-core g c =
    let cs = (g.S.Store.held c.args.store.now).clauses in
    let clause = c.in_ok-learned.learned.step.clause in
    let listed = subst (λ (xs : List (List Literal)). Contains xs clause) (sym c.in_ok-keep_lesson.ensures.clauses) (Contains-push cs clause) in
    record {
      lits = c.in_ok-learned.ensures.lits;
      listed = λ _. listed;
      follows = listed_follows (g.S.Store.held c.keep_lesson.new.store).clauses clause listed;
    }

pub returns-clause-core : goal.returns-clause-core
returns-clause-core g c =
    let s = g.S.Store.held c.args.store.now in
    let l = c.in_ok-learned.learned.step in
    let step = running_lesson c.args.question.assumptions.now s c.args.trail.now true c.args.number l c.requires.running c.requires.is_false
    c.in_ok-learned.ensures.lits c.in_ok-learned.ensures.hints in
    record {
      lits = c.in_ok-learned.ensures.lits;
      listed = λ cores. absurd (false≢true (sym c.if-question.false ∙ cores));
      follows = FollowsFrom-EndsFalse s.vars s.clauses l.clause l.hints step.ends;
    }
