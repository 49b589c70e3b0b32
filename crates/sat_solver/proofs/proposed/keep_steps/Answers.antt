use Rattle.std.proofs.Common.{◌≡◌, ℕ, All, sym, ◌∙◌, subst}
use Rattle.sat_clauses.specs.Derivation.{IsUpTo}
use Rattle.sat_clauses.specs.Assignment.{all_free}
use Rattle.sat_solver.specs.Search.{Grows}
use Rattle.sat_solver.proofs.SearchLemmas.{grows_more}
use Rattle.sat_solver.proofs.ProposedLemmas.{grown_in_range}
use Rattle.sat_solver.proofs.proposed.keep_steps.Goals as goal

pub keep_step-requires-clause-in_range : goal.keep_step-requires-clause-in_range
keep_step-requires-clause-in_range g c =
    let inv = c.loop-step.invariant in
    subst (λ (n : ℕ). All (All (IsUpTo n)) c.loop-step.store.clauses) (sym inv.vars)
    (grown_in_range c.args.store.now.vars c.args.store.now.clauses c.loop-step.store.clauses (g.R.Recorder.kept c.args.recorder.now) (g.R.Recorder.kept c.loop-step.recorder) inv.grows c.requires.in_range)

pub returns-then-not-branch-clause-grows : goal.returns-then-not-branch-clause-grows
returns-then-not-branch-clause-grows g c =
    let inv = c.loop-step.invariant in
    let later : Grows c.args.store.now.vars c.loop-step.store.clauses (g.R.Recorder.kept c.loop-step.recorder) c.keep_step.new.store.clauses (g.R.Recorder.kept c.keep_step.new.recorder) =
    subst (λ (n : ℕ). Grows n c.loop-step.store.clauses (g.R.Recorder.kept c.loop-step.recorder) c.keep_step.new.store.clauses (g.R.Recorder.kept c.keep_step.new.recorder)) inv.vars c.in_ok-keep_step.ensures.grows in
    grows_more c.args.store.now.vars c.args.store.now.clauses c.loop-step.store.clauses c.keep_step.new.store.clauses (g.R.Recorder.kept c.args.recorder.now) (g.R.Recorder.kept c.loop-step.recorder) (g.R.Recorder.kept c.keep_step.new.recorder) inv.grows later

pub loop-step-preserved : goal.loop-step-preserved
loop-step-preserved g c =
    let inv = c.loop-step.invariant in
    let later : Grows c.args.store.now.vars c.loop-step.store.clauses (g.R.Recorder.kept c.loop-step.recorder) c.keep_step.new.store.clauses (g.R.Recorder.kept c.keep_step.new.recorder) =
    subst (λ (n : ℕ). Grows n c.loop-step.store.clauses (g.R.Recorder.kept c.loop-step.recorder) c.keep_step.new.store.clauses (g.R.Recorder.kept c.keep_step.new.recorder)) inv.vars c.in_ok-keep_step.ensures.grows in
    record {
      vars = c.keep_step.ensures.vars ∙ inv.vars;
      trail = c.keep_step.ensures.trail ∙ inv.trail;
      free = subst (λ (n : ℕ). c.keep_step.new.judge ≡ all_free n) inv.vars c.keep_step.ensures.free;
      grows = grows_more c.args.store.now.vars c.args.store.now.clauses c.loop-step.store.clauses c.keep_step.new.store.clauses (g.R.Recorder.kept c.args.recorder.now) (g.R.Recorder.kept c.loop-step.recorder) (g.R.Recorder.kept c.keep_step.new.recorder) inv.grows later;
    }
