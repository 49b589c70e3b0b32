use Rattle.std.proofs.Common.{sym, subst}
use Rattle.cut_report.specs.ValueReading.{IsParsed}
use Rattle.cut_report.proofs.values.parsed_for.Goals as goal

pub returns-in-Boolean : goal.returns-in-Boolean
returns-in-Boolean c =
    subst (λ d. IsParsed c.args.symbols.now.texts.now d c.args.text.now c.truth_of.result) (sym c.in-Boolean.is) (c.truth_of.ensures c.args.symbols.now.texts.now)
