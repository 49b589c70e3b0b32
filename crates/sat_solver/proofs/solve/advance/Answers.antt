use Rattle.std.proofs.Common.{List, All, length, sym, ◌∙◌, subst}
use Rattle.sat_clauses.specs.Literal.{Literal}
use Rattle.sat_clauses.specs.Assignment.{IsInRange}
use Rattle.sat_solver.specs.TrailRecord.{TrailValue}
use Rattle.sat_solver.specs.ClauseFindings.{IsUseful}
use Rattle.sat_solver.specs.Verdict.{IsAdvance}
use Rattle.sat_solver.proofs.FollowLemmas.{advance_followed}
use Rattle.sat_solver.proofs.RunningLemmas.{running_followed, goes_on_since, keeps_since}
use Rattle.sat_solver.proofs.solve.advance.Goals as goal

pub propagate-found-requires : goal.propagate-found-requires
propagate-found-requires g c =
    subst (λ (t : TrailValue). All (All (IsInRange t.values)) (g.S.Store.held c.follow.new.store).clauses) (sym c.in_ok-follow.ensures.trail)
    (subst (λ (xs : List (List Literal)). All (All (IsInRange c.args.trail.now.values)) xs) (sym c.follow.ensures.clauses) c.requires.running.sound.in_range)

pub take_step-requires-clause-running : goal.take_step-requires-clause-running
take_step-requires-clause-running g c =
    running_followed c.args.question.assumptions.now (g.S.Store.held c.args.store.now) (g.S.Store.held c.follow.new.store) c.args.trail.now c.propagate-found.new.trail c.requires.running
    (c.propagate-found.ensures.same ∙ c.in_ok-follow.ensures.trail) c.in_ok-follow.ensures.one c.follow.ensures.clauses c.follow.ensures.vars

pub take_step-requires-clause-found : goal.take_step-requires-clause-found
take_step-requires-clause-found g c =
    subst (λ (t : TrailValue). IsUseful (g.S.Store.held c.follow.new.store).clauses t.values c.propagate-found.result) (sym c.propagate-found.ensures.same) c.propagate-found.ensures.found

pub returns-clause-keeps : goal.returns-clause-keeps
returns-clause-keeps g c =
    keeps_since (g.S.Store.held c.args.store.now) (g.S.Store.held c.follow.new.store) (g.S.Store.held c.take_step.new.store)
    c.follow.ensures.clauses c.follow.ensures.vars c.take_step.ensures.keeps

pub returns-clause-goes_on : goal.returns-clause-goes_on
returns-clause-goes_on g c =
    goes_on_since c.args.question.assumptions.now (g.S.Store.held c.args.store.now) (g.S.Store.held c.follow.new.store) (g.S.Store.held c.take_step.new.store)
    (g.R.Recorder.kept c.args.recorder.now) (g.R.Recorder.kept c.take_step.new.recorder) c.take_step.new.trail c.follow.ensures.clauses c.follow.ensures.vars c.in_ok-answer.ensures.goes_on

pub returns-clause-advance : goal.returns-clause-advance
returns-clause-advance g c =
    advance_followed c.args.question.cores (g.S.Store.held c.take_step.new.store).clauses c.args.question.assumptions.now c.args.trail.now c.take_step.new.trail (length c.args.trail.now.entries) c.in_ok-answer.answer
    (subst (λ (t : TrailValue). IsAdvance c.args.question.cores (g.S.Store.held c.take_step.new.store).clauses c.args.question.assumptions.now t c.take_step.new.trail c.in_ok-answer.answer) (c.propagate-found.ensures.same ∙ c.in_ok-follow.ensures.trail) c.in_ok-answer.ensures.advance)

pub returns-in_err-answer-clause-keeps : goal.returns-in_err-answer-clause-keeps
returns-in_err-answer-clause-keeps g c =
    keeps_since (g.S.Store.held c.args.store.now) (g.S.Store.held c.follow.new.store) (g.S.Store.held c.take_step.new.store)
    c.follow.ensures.clauses c.follow.ensures.vars c.take_step.ensures.keeps
