use Rattle.fault_instructions.proofs.AllowedLaws.{same_text_test}
use Rattle.fault_extend.proofs.faults.extends.Goals as goal

pub returns : goal.returns
returns c = same_text_test c.is_same.result c.args.extension.now.«module» c.args.instance.now.«module» c.is_same.ensures
