use Rattle.std.proofs.Common.{◌≡◌, ◌+◌, List, [], ◌∷◌, ◌++◌, sym, ap, ◌∙◌, subst, arith}
use Rattle.sat_clauses.specs.Literal.{Literal}
use Rattle.sat_clauses.specs.Models.{ClauseBelow}
use Rattle.sat_solver.proofs.SearchLemmas.{grows_one, extends_one}
use Rattle.sat_solver.proofs.RunningLemmas.{running_learned}
use Rattle.sat_solver.proofs.lesson.keep_lesson.Goals as goal

pub append-requires : goal.append-requires
append-requires g c =
    let s = g.S.Store.held c.args.store.now in
    subst (ClauseBelow (s.vars + 1)) (sym c.lits.ensures) (λ k d lt. let z = c.requires.step.in_range k d lt in omega (arith, z))

pub returns-clause-keeps : goal.returns-clause-keeps
returns-clause-keeps g c =
    let s = g.S.Store.held c.args.store.now in
    record {
      vars = c.append.ensures.vars;
      extends = extends_one s.vars s.clauses (g.S.Store.held c.append.new.store).clauses c.args.step.now c.requires.step (c.in_ok-append.ensures.ok ∙ ap (λ (x : List Literal). s.clauses ++ x ∷ []) c.lits.ensures);
    }

pub returns-clause-goes_on : goal.returns-clause-goes_on
returns-clause-goes_on g c =
    let s = g.S.Store.held c.args.store.now in
    let u = g.S.Store.held c.append.new.store in
    let l = c.args.step.now in
    let clauses : u.clauses ≡ s.clauses ++ l.clause ∷ [] = c.in_ok-append.ensures.ok ∙ ap (λ (x : List Literal). s.clauses ++ x ∷ []) c.lits.ensures in
    record {
      grows = grows_one s.vars s.clauses u.clauses (g.R.Recorder.kept c.args.recorder.now) (g.R.Recorder.kept c.keep.new.self) l c.requires.step clauses c.in_ok-keep.ensures.ok;
      running = running_learned c.args.question.assumptions.now s u c.args.trail.now l c.requires.running c.requires.step clauses c.append.ensures.vars c.append.ensures.trail;
    }
