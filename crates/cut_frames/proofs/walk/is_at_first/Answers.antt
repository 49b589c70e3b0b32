use Rattle.std.proofs.Common.{◌≡◌, sym, subst, arith}
use Rattle.std.proofs.lemmas.Grind.{common_steps}
use Rattle.cut_frames.specs.Bits.{read_from}
use Rattle.cut_frames.specs.Chain.{IsState}
use Rattle.cut_frames.proofs.BitLemmas.{length_read}
use Rattle.cut_frames.proofs.walk.is_at_first.Goals as goal

pub core_against-requires-clause-state : goal.core_against-requires-clause-state
core_against-requires-clause-state g c =
    let read : c.in_ok-state.state ≡ read_from 2 c.args.problem.system.now.state_bits c.index-owed-owed.result = grind (arith, common_steps) in
    subst (IsState c.args.problem.system.now) (sym read) (length_read 2 c.args.problem.system.now.state_bits c.index-owed-owed.result)
