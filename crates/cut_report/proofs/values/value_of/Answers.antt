use Rattle.cut_report.proofs.ValueLaws.{value_read}
use Rattle.cut_report.proofs.values.value_of.Goals as goal

pub returns : goal.returns
returns c = value_read c.args.symbols.now.texts.now c.args.domain.now c.args.text.now c.in_ok-value.value c.among.result c.in_ok-value.ensures c.among.ensures
