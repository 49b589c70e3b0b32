use Rattle.std.proofs.Common.{◌≡◌, take, false}
use Rattle.std.specs.Prelude.{filter, slice_index_or}
use Rattle.cut_frames.proofs.smaller.marked.Given as goal

abbrev pub invariant-loop-lit : goal.invariant-loop-lit
invariant-loop-lit l = l.chosen.items ≡ filter (λ x. slice_index_or l.marks.items x.var false) (take l.lit-index l.lits)
