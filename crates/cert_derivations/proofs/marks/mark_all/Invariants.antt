-- the literals so far are marked
use Rattle.std.proofs.Common.{◌≡◌, length, take, fold}
use Rattle.cert_derivations.specs.Marks.{marked}
use Rattle.cert_derivations.proofs.marks.mark_all.Given as goal

abbrev pub invariant-loop-lit : goal.invariant-loop-lit
invariant-loop-lit l = record {
  places : length l.marks ≡ 4096;
  so_far : l.marks ≡ fold (marked l.window) l.initial.marks (take l.lit-index l.lits);
}
