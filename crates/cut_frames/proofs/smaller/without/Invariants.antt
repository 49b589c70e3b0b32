use Rattle.std.proofs.Common.{◌≡◌, take, not, nat_eq}
use Rattle.std.specs.Prelude.{filter}
use Rattle.cut_frames.proofs.smaller.without.Given as goal

abbrev pub invariant-loop-lit : goal.invariant-loop-lit
invariant-loop-lit l = l.rest.items ≡ filter (λ x. not (nat_eq x.var l.var)) (take l.lit-index l.lits)
