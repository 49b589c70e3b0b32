use Rattle.std.proofs.Common.{◌*◌, ◌+◌, ◌∙◌, arith}
use Rattle.std.proofs.lemmas.List.FromFn.{length-map-range_with_len}
use Rattle.sat_adviser.proofs.in_order.InOrderAdviser.ready.Goals as goal

pub returns-clause-room : goal.returns-clause-room
returns-clause-room c = λ small.
    length-map-range_with_len (λ v. 2 * v + 1) 1 c.min.result ∙ omega (arith, small, c.min.ensures)
