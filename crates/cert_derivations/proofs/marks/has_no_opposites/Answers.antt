use Rattle.std.proofs.Common.{◌≤◌, arith}
use Rattle.cert_laws.specs.Acceptance.{highest_in}
use Rattle.cert_derivations.proofs.Highest.{all_below}
use Rattle.cert_derivations.proofs.MarkLaws.{all_within}
use Rattle.cert_derivations.proofs.marks.has_no_opposites.Goals as goal

pub lack_opposites-requires : goal.lack_opposites-requires
lack_opposites-requires c =
    let most : highest_in c.args.lits.now ≤ c.highest_in.result = omega (arith, c.highest_in.ensures) in
    all_within c.highest_in.result c.args.lits.now (all_below c.highest_in.result c.args.lits.now most)
