use Rattle.std.proofs.Common.{sym}
use Rattle.cut_report.proofs.ValueLaws.{read_symbol, no_symbol}
use Rattle.cut_report.proofs.values.symbol_of.Goals as goal

pub returns-in-Some : goal.returns-in-Some
returns-in-Some c = read_symbol c.args.symbols.now.texts.now c.args.text.now c.in-Some.number (sym c.in-Some.ensures)

pub returns-in-None : goal.returns-in-None
returns-in-None c = no_symbol c.args.symbols.now.texts.now c.args.text.now (sym c.in-None.ensures)
