use Rattle.std.proofs.Common.{sym}
use Rattle.fault_causes_reader.proofs.PathLaws.{other_lengths}
use Rattle.fault_causes_reader.proofs.paths.is_same_path.Goals as goal

pub returns-then-x-y : goal.returns-then-x-y
returns-then-x-y c = sym (other_lengths c.args.x.now c.args.y.now c.if-x-y.true)
