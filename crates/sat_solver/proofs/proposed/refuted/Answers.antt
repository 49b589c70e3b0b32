use Rattle.std.proofs.Common.{ℕ, All, sym, subst}
use Rattle.sat_clauses.specs.Derivation.{IsUpTo}
use Rattle.sat_solver.specs.Search.{Grows}
use Rattle.sat_solver.specs.Proposals.{IsRight}
use Rattle.std.proofs.Common.{IfSome}
use Rattle.sat_solver.proofs.SearchLemmas.{grows_more}
use Rattle.sat_solver.proofs.ProposedLemmas.{grown_in_range, right_some}
use Rattle.sat_solver.proofs.proposed.refuted.Goals as goal

pub core-requires-clause-in_range : goal.core-requires-clause-in_range
core-requires-clause-in_range g c =
    subst (λ (n : ℕ). All (All (IsUpTo n)) c.keep_steps.new.store.clauses) (sym c.keep_steps.ensures.vars)
    (grown_in_range c.args.store.now.vars c.args.store.now.clauses c.keep_steps.new.store.clauses (g.R.Recorder.kept c.args.recorder.now) (g.R.Recorder.kept c.keep_steps.new.recorder) c.in_ok-keep_steps.ensures.grows c.requires.can_solve.clauses_in_range)

pub returns-in-Core-clause-grows : goal.returns-in-Core-clause-grows
returns-in-Core-clause-grows g c =
    let later : Grows c.args.store.now.vars c.keep_steps.new.store.clauses (g.R.Recorder.kept c.keep_steps.new.recorder) c.core.new.store.clauses (g.R.Recorder.kept c.core.new.recorder) =
    subst (λ (n : ℕ). Grows n c.keep_steps.new.store.clauses (g.R.Recorder.kept c.keep_steps.new.recorder) c.core.new.store.clauses (g.R.Recorder.kept c.core.new.recorder)) c.keep_steps.ensures.vars c.in_ok-answer.ensures.grows in
    grows_more c.args.store.now.vars c.args.store.now.clauses c.keep_steps.new.store.clauses c.core.new.store.clauses (g.R.Recorder.kept c.args.recorder.now) (g.R.Recorder.kept c.keep_steps.new.recorder) (g.R.Recorder.kept c.core.new.recorder) c.in_ok-keep_steps.ensures.grows later

pub returns-in-Core-clause-right : goal.returns-in-Core-clause-right
returns-in-Core-clause-right g c = λ added.
    let cores = c.args.question.cores in
    let assumptions = c.args.question.assumptions.now in
    let right : IfSome c.in_ok-answer.answer (IsRight cores c.args.store.now.vars added c.keep_steps.new.store.clauses c.core.new.store.clauses assumptions) =
    subst (λ (n : ℕ). IfSome c.in_ok-answer.answer (IsRight cores n added c.keep_steps.new.store.clauses c.core.new.store.clauses assumptions)) c.keep_steps.ensures.vars (c.in_ok-answer.ensures.right added) in
    right_some cores c.args.store.now.vars added c.args.store.now.clauses c.keep_steps.new.store.clauses c.core.new.store.clauses (g.R.Recorder.kept c.args.recorder.now) (g.R.Recorder.kept c.keep_steps.new.recorder) assumptions c.in_ok-answer.answer c.in_ok-keep_steps.ensures.grows right
