use Rattle.std.proofs.Common.{◌≡◌, ◌-◌, length, Some, ap, sym, ◌∙◌}
use Rattle.std.specs.Prelude.{slice_get}
use Rattle.sat_circuits.proofs.WordMeans.{sign-at}
use Rattle.sat_circuits.proofs.word.sign.Goals as goal

pub returns : goal.returns
returns c =
    let last : slice_get c.args.word.now (length c.args.word.now - 1) ≡ Some c.at.result.now =
    ap (λ n. slice_get c.args.word.now (n - 1)) (sym c.len.ensures) ∙ c.at.ensures
    in
    sym (sign-at c.args.word.now c.at.result.now last)
