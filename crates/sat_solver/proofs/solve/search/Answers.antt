use Rattle.std.proofs.Common.{rules, ◌≡◌, ◌+◌, ◌-◌, ◌<◌, ◌≤◌, refl, sym, ap, ◌∙◌, subst, arith}
use Rattle.sat_solver.specs.Search.{Grows, Extends}
use Rattle.sat_solver.specs.Score.{score, left}
use Rattle.sat_solver.specs.Verdict.{IsFurther, IsAdvance}
use Rattle.sat_solver.proofs.FollowLemmas.{idle_undone}
use Rattle.sat_solver.proofs.RunningLemmas.{running_first}
use Rattle.sat_solver.proofs.ScoreLemmas.{left_falls, left_restarts}
use Rattle.sat_solver.proofs.SearchLemmas.{grows_more, extends_more, OnErr_from}
use Rattle.sat_solver.proofs.VerdictLemmas.{answer_from}
use Rattle.sat_solver.proofs.solve.search.Goals as goal

pub search-init : goal.search-init
search-init g c =
    record {
      ready = refl;
      restarts = omega arith;
      vars = refl;
      running = running_first c.args.question.assumptions.now (g.S.Store.held c.args.store.now) c.args.trail.now c.requires.can_solve c.requires.idle;
      grows = search rules;
    }

pub search-smaller-then-len-limit : goal.search-smaller-then-len-limit
search-smaller-then-len-limit g c =
    let n = (g.S.Store.held c.args.store.now).vars + 1 in
    let back : c.search.restarts - 1 + 1 ≡ c.search.restarts = omega (arith, c.if-restarts-gt0.true) in
    subst (λ r. left n (c.search.restarts - 1) c.undo.new.self.entries < left n r c.search.trail.entries) back
    (left_restarts n (c.search.restarts - 1) c.search.trail.entries c.undo.new.self.entries)

pub returns-in-Some-clause-found : goal.returns-in-Some-clause-found
returns-in-Some-clause-found g c =
    let vars = (g.S.Store.held c.args.store.now).vars in
    let cs = (g.S.Store.held c.search.store).clauses in
    let ds = (g.S.Store.held c.advance.new.store).clauses in
    let k0 = g.R.Recorder.kept c.args.recorder.now in
    let k1 = g.R.Recorder.kept c.search.recorder in
    let k2 = g.R.Recorder.kept c.advance.new.recorder in
    let grows = grows_more vars (g.S.Store.held c.args.store.now).clauses cs ds k0 k1 k2 c.search.invariant.grows (subst (λ m. Grows m cs k1 ds k2) c.search.invariant.vars c.in_ok-answer.ensures.goes_on.grows) in
    record {
      answer = answer_from c.args.question.cores vars (g.S.Store.held c.args.store.now).clauses ds c.args.question.assumptions.now c.search.trail c.advance.new.trail k0 k2 c.in-Some.verdict grows
          (sym c.search.invariant.running.places ∙ ap (λ n. n + 1) c.search.invariant.vars)
          (subst (IsAdvance c.args.question.cores ds c.args.question.assumptions.now c.search.trail c.advance.new.trail) c.in-Some.is c.in_ok-answer.ensures.advance);
      grows = grows;
      idle = idle_undone vars c.advance.new.trail c.undo-in-Some.new.self
          (sym c.in_ok-answer.ensures.goes_on.running.places ∙ ap (λ n. n + 1) (c.advance.ensures.keeps.vars ∙ c.search.invariant.vars)) c.undo-in-Some.ensures.values c.undo-in-Some.ensures.entries c.undo-in-Some.ensures.followed_within;
    }

pub returns-in-Some-clause-vars : goal.returns-in-Some-clause-vars
returns-in-Some-clause-vars g c = c.advance.ensures.keeps.vars ∙ c.search.invariant.vars

pub search-smaller : goal.search-smaller
search-smaller g c =
    let further : IsFurther c.search.trail c.advance.new.trail =
    subst (IsAdvance c.args.question.cores (g.S.Store.held c.advance.new.store).clauses c.args.question.assumptions.now c.search.trail c.advance.new.trail) c.in-None.is c.in_ok-answer.ensures.advance in
    left_falls ((g.S.Store.held c.args.store.now).vars + 1) c.search.restarts c.search.trail.entries c.advance.new.trail.entries
    (subst (λ m. score m c.search.trail.entries + 1 ≤ score m c.advance.new.trail.entries) (sym c.search.invariant.running.places ∙ ap (λ n. n + 1) c.search.invariant.vars) further)

pub search-preserved : goal.search-preserved
search-preserved g c =
    let vars = (g.S.Store.held c.args.store.now).vars in
    let cs = (g.S.Store.held c.search.store).clauses in
    let ds = (g.S.Store.held c.advance.new.store).clauses in
    let k0 = g.R.Recorder.kept c.args.recorder.now in
    let k1 = g.R.Recorder.kept c.search.recorder in
    let k2 = g.R.Recorder.kept c.advance.new.recorder in
    record {
      ready = c.advance.ensures.ready ∙ c.search.invariant.ready;
      restarts = omega (arith, c.advance.ensures.rotated, c.search.invariant.restarts);
      vars = c.advance.ensures.keeps.vars ∙ c.search.invariant.vars;
      running = c.in_ok-answer.ensures.goes_on.running;
      grows = grows_more vars (g.S.Store.held c.args.store.now).clauses cs ds k0 k1 k2 c.search.invariant.grows (subst (λ m. Grows m cs k1 ds k2) c.search.invariant.vars c.in_ok-answer.ensures.goes_on.grows);
    }

pub returns-in_err-answer-clause-err : goal.returns-in_err-answer-clause-err
returns-in_err-answer-clause-err g c =
    let vars = (g.S.Store.held c.args.store.now).vars in
    let cs = (g.S.Store.held c.search.store).clauses in
    let ds = (g.S.Store.held c.advance.new.store).clauses in
    let k0 = g.R.Recorder.kept c.args.recorder.now in
    let k1 = g.R.Recorder.kept c.search.recorder in
    OnErr_from _ (extends_more vars (g.S.Store.held c.args.store.now).clauses cs ds k0 k1 c.search.invariant.grows (subst (λ m. Extends m cs ds) c.search.invariant.vars c.advance.ensures.keeps.extends))

pub undo-requires-in-Some-clause-lawful : goal.undo-requires-in-Some-clause-lawful
undo-requires-in-Some-clause-lawful g c = c.in_ok-answer.ensures.goes_on.running.sound.lawful
