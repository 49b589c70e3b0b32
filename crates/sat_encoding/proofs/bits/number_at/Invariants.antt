use Rattle.std.proofs.Common.{◌≡◌, ◌+◌, ◌-◌, ◌≤◌, ◌^◌, ◌≤ℤ◌, ◌<ℤ◌, pos, neg_ℤ}
use Rattle.sat_encoding.specs.Values.{bits_at, bits_number}
use Rattle.sat_encoding.proofs.bits.number_at.Given as goal

abbrev pub invariant-loop-left : goal.invariant-loop-left
invariant-loop-left l =
    (l.n ≡ bits_number l.signed (bits_at l.a (l.place + l.left) (l.width - l.left)))
    × (l.left ≤ l.width)
    × (neg_ℤ (pos (2 ^ (l.width - l.left))) ≤ℤ l.n)
    × (l.n <ℤ pos (2 ^ (l.width - l.left)))

abbrev pub decreases-loop-left : goal.decreases-loop-left
decreases-loop-left l = l.left
