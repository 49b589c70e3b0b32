use Rattle.fault_instructions.proofs.AllowedLaws.{same_text_test}
use Rattle.fault_odds.proofs.mode_marks.is_named.Goals as goal

pub returns : goal.returns
returns c = same_text_test c.is_same.result c.args.name.now c.args.other.now c.is_same.ensures
