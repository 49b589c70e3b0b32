use Rattle.std.proofs.Common.{◌≡◌, ◌+◌, ◌-◌, length}
use Rattle.sat_encoding_laws.specs.Bits.{number_bits}
use Rattle.sat_encoding.specs.Values.{AreFree, turned_bits, with_bits}
use Rattle.sat_encoding.proofs.setting.set_bits.Given as goal

abbrev pub invariant-loop-i : goal.invariant-loop-i
invariant-loop-i l =
    (with_bits l.into (l.place + l.i) (turned_bits l.turned (l.width - l.i) l.rest) ≡ with_bits l.fn.into l.place (number_bits l.width l.n))
    × AreFree l.into (l.place + l.i) (l.width - l.i)
    × (length l.into ≡ length l.fn.into)
