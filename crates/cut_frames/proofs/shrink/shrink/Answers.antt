use Rattle.std.proofs.Common.{◌≡◌, ◌+◌, ◌++◌, ◌∷◌, [], All, sym, subst, arith, take, get_or}
use Rattle.cut_frames.specs.Levels.{frames_of}
use Rattle.cut_frames.specs.Minimal.{IsNeeded}
use Rattle.cut_frames.proofs.ShrinkLemmas.{all_less}
use Rattle.cut_frames.proofs.PartLemmas.{one_all, take_part}
use Rattle.std.proofs.lemmas.List.{take_more, take_all, get_or_default}
use Rattle.std.proofs.lemmas.List.Elements.{All-append}
use Rattle.cut_frames.proofs.shrink.shrink.Goals as goal
use Rattle.sat_clauses.specs.Models.{values_of}

pub literals-init : goal.literals-init
literals-init g c = (c.in_ok-fewer.ensures.values, (λ k d lt. absurd (omega (arith, lt))), c.in_ok-fewer.ensures.kept)

pub without_one-requires-clause-one : goal.without_one-requires-clause-one
without_one-requires-clause-one g c = (c.literals.i, c.literals-test.true, get_or_default c.args.problem.history.now c.literals.i _ _ c.literals-test.true)

pub without_one-requires-clause-values : goal.without_one-requires-clause-values
without_one-requires-clause-values g c = c.literals.invariant.0

pub without_one-requires-clause-kept : goal.without_one-requires-clause-kept
without_one-requires-clause-kept g c = c.literals.invariant.2

pub literals-preserved : goal.literals-preserved
literals-preserved g c =
    let lit = get_or c.args.problem.history.now c.literals.i c.index-problem-i.result in
    let next : take (c.literals.i + 1) c.args.problem.history.now ≡ take c.literals.i c.args.problem.history.now ++ lit ∷ [] = take_more c.args.problem.history.now c.literals.i c.index-problem-i.result c.literals-test.true in (
      c.in_ok-least.ensures.less.values,
      subst (All (IsNeeded c.args.problem.system.now c.args.problem.bad.now (frames_of c.args.frames.now) c.args.problem.history.now c.args.frames.now.last (values_of c.in_ok-least.least))) (sym next)
          (All-append (IsNeeded c.args.problem.system.now c.args.problem.bad.now (frames_of c.args.frames.now) c.args.problem.history.now c.args.frames.now.last (values_of c.in_ok-least.least)) (take c.literals.i c.args.problem.history.now) (lit ∷ [])
          (all_less c.args.problem.system.now c.args.problem.bad.now (frames_of c.args.frames.now) c.args.problem.history.now c.args.frames.now.last (values_of c.literals.least) (values_of c.in_ok-least.least) (take c.literals.i c.args.problem.history.now) (take_part c.literals.i c.args.problem.history.now) c.in_ok-least.ensures.less.within c.literals.invariant.1)
          (one_all (IsNeeded c.args.problem.system.now c.args.problem.bad.now (frames_of c.args.frames.now) c.args.problem.history.now c.args.frames.now.last (values_of c.in_ok-least.least)) lit c.in_ok-least.ensures.less.needed)),
      c.in_ok-least.ensures.kept,
    )

pub returns-clause-values : goal.returns-clause-values
returns-clause-values g c = c.literals.invariant.0

pub returns-clause-needed : goal.returns-clause-needed
returns-clause-needed g c = subst (All (IsNeeded c.args.problem.system.now c.args.problem.bad.now (frames_of c.args.frames.now) c.args.problem.history.now c.args.frames.now.last (values_of c.literals.least))) (take_all c.literals.i c.args.problem.history.now c.literals-test.false) c.literals.invariant.1

pub returns-clause-kept : goal.returns-clause-kept
returns-clause-kept g c = c.literals.invariant.2
