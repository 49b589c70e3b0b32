use Rattle.std.proofs.Common.{◌≡◌, ◌∙◌, ◌++◌, ◌+◌, ◌∷◌, [], List, refl, sym, ap, subst, take, slice_index_or}
use Rattle.std.specs.Prelude.{Contains}
use Rattle.std.proofs.lemmas.List.{take_all, take_more}
use Rattle.sat_clauses.specs.Literal.{Literal}
use Rattle.cut_frames.specs.Chain.{InFrame, IsOverBits}
use Rattle.cut_frames.proofs.OwedLemmas.{tightened_stays}
use Rattle.cut_frames.proofs.RaiseLaws.{tightened_twice}
use Rattle.cut_frames.proofs.LastingLaws.{tightened_put, implied_put}
use Rattle.cut_frames.proofs.lasting.put_all.Goals as goal

no_clause : (cs : List (List Literal)) → take 0 cs ≡ []
no_clause [] = refl
no_clause (c ∷ cs) = refl

pub loop-clause-init : goal.loop-clause-init
loop-clause-init c = record {
  tightened = record { framed = c.requires.framed; last = refl; stronger = λ i s lt h. h };
  implied = λ s h. subst (λ (cs : List (List Literal)). InFrame c.args.problem.system.now cs s) (sym (no_clause c.args.clauses.now)) (h.0, refl);
  kept = c.requires.kept;
}

pub block-requires-clause-clause : goal.block-requires-clause-clause
block-requires-clause-clause c =
    subst (IsOverBits c.args.problem.system.now) (sym (c.in_ok-copy.ensures ∙ c.clause-item.is)) (c.requires.inductive.over_bits c.loop-clause.clause-index c.clause-item.result c.loop-clause-test.true)

pub returns-in_err-block-clause-tightened : goal.returns-in_err-block-clause-tightened
returns-in_err-block-clause-tightened c =
    let inv = c.loop-clause.invariant.tightened in
    tightened_twice c.args.problem.system.now c.args.frames.now c.loop-clause.frames c.block.new.frames inv (tightened_stays c.args.problem.system.now c.loop-clause.frames c.block.new.frames c.block.ensures.last c.in_err-block.ensures.err inv.framed)

pub loop-clause-preserved : goal.loop-clause-preserved
loop-clause-preserved c =
    let inv = c.loop-clause.invariant in
    let copy = c.in_ok-copy.field-0 in
    let here : slice_index_or c.args.clauses.now c.loop-clause.clause-index copy ≡ copy =
    subst (λ (d : List Literal). slice_index_or c.args.clauses.now c.loop-clause.clause-index d ≡ d) (sym c.in_ok-copy.ensures) (sym c.clause-item.is) in
    let m : Contains c.args.clauses.now copy = (c.loop-clause.clause-index, c.loop-clause-test.true, here) in
    record {
      tightened = tightened_put c.args.problem.system.now c.args.clauses.now c.requires.inductive c.args.frames.now c.loop-clause.frames c.block.new.frames copy m inv.tightened c.requires.some c.requires.before c.block.ensures.last c.in_ok-block.ensures.ok;
      implied = implied_put c.args.problem.system.now c.args.clauses.now c.requires.inductive c.args.frames.now c.loop-clause.frames c.block.new.frames copy m inv.tightened c.requires.some c.requires.before c.block.ensures.last c.in_ok-block.ensures.ok
          (take c.loop-clause.clause-index c.args.clauses.now) (take (c.loop-clause.clause-index + 1) c.args.clauses.now)
          (take_more c.args.clauses.now c.loop-clause.clause-index copy c.loop-clause-test.true ∙ ap (λ d. take c.loop-clause.clause-index c.args.clauses.now ++ d ∷ []) here) inv.implied;
      kept = c.in_ok-block.ensures.kept;
    }

pub returns-clause-implied : goal.returns-clause-implied
returns-clause-implied c = λ s h. subst (λ (cs : List (List Literal)). InFrame c.args.problem.system.now cs s) (take_all c.loop-clause.clause-index c.args.clauses.now c.loop-clause-test.false) (c.loop-clause.invariant.implied s h)
