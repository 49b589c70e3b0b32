use Rattle.std.specs.Prelude.{codes}
use Rattle.fault_instructions.proofs.AllowedLaws.{same_text_test}
use Rattle.fault_odds.proofs.units.is_one.Goals as goal

pub returns : goal.returns
returns c = same_text_test c.is_equal.result c.args.text.now (codes "1") c.is_equal.ensures
