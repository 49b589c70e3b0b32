-- As many places as before; those of the literals so far are marked, and what was marked stays so.
use Rattle.std.proofs.Common.{◌≡◌, ℕ, take, length, true, false}
use Rattle.std.specs.Prelude.{All, slice_index_or}
use Rattle.cut_frames.proofs.smaller.mark.Given as goal

abbrev pub invariant-loop-lit : goal.invariant-loop-lit
invariant-loop-lit l =
    (length l.marks.items ≡ length l.initial.marks.items)
    × All (λ x. slice_index_or l.marks.items x.var false ≡ true) (take l.lit-index l.lits)
    × ((x : ℕ) → slice_index_or l.initial.marks.items x false ≡ true → slice_index_or l.marks.items x false ≡ true)
