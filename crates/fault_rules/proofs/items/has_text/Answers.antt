use Rattle.fault_instructions.proofs.AllowedLaws.{same_text_test}
use Rattle.fault_rules.proofs.items.has_text.Goals as goal

pub returns : goal.returns
returns c = same_text_test c.is_same.result c.args.x.now c.args.y.now c.is_same.ensures
