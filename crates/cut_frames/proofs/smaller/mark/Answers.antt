use Rattle.std.proofs.Common.{◌≡◌, ◌<◌, ◌+◌, ℕ, true, false, All, sym, ◌∙◌, subst, length, take, slice_index_or}
use Rattle.sat_clauses.specs.Literal.{Literal}
use Rattle.cut_frames.proofs.PartLemmas.{all_set_more, set_stays}
use Rattle.std.specs.Prelude.{slice_set}
use Rattle.std.proofs.lemmas.List.{length-set, take_all}
use Rattle.cut_frames.proofs.smaller.mark.Goals as goal

pub loop-lit-preserved : goal.loop-lit-preserved
loop-lit-preserved c =
    let m = c.loop-lit.marks.items in
    let item : slice_index_or c.args.lits.now c.loop-lit.lit-index c.lit-item.result ≡ c.lit-item.result = sym c.lit-item.is in
    let inside : c.lit-item.result.var < length m =
    subst (λ (n : ℕ). c.lit-item.result.var < n) (sym c.loop-lit.invariant.0) (subst (λ (l : Literal). l.var < length c.args.marks.now.items) item (c.requires c.loop-lit.lit-index c.lit-item.result c.loop-lit-test.true)) in
    subst (λ (v : ℕ). (length (slice_set m v true) ≡ length c.args.marks.now.items) × All (λ (l : Literal). slice_index_or (slice_set m v true) l.var false ≡ true) (take (c.loop-lit.lit-index + 1) c.args.lits.now)
    × ((x : ℕ) → slice_index_or c.args.marks.now.items x false ≡ true → slice_index_or (slice_set m v true) x false ≡ true)) (sym c.var.ensures.value) (
      length-set m c.lit-item.result.var true ∙ c.loop-lit.invariant.0,
      all_set_more m c.args.lits.now c.loop-lit.lit-index c.lit-item.result c.loop-lit-test.true item inside c.loop-lit.invariant.1,
      λ x h. set_stays m c.lit-item.result.var x inside (c.loop-lit.invariant.2 x h),
    )

pub returns-clause-marked : goal.returns-clause-marked
returns-clause-marked c = subst (All (λ (l : Literal). slice_index_or c.loop-lit.marks.items l.var false ≡ true)) (take_all c.loop-lit.lit-index c.args.lits.now c.loop-lit-test.false) c.loop-lit.invariant.1
