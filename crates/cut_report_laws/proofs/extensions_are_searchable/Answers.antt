use Rattle.cut_report_laws.proofs.Searchables.{extensions_searchable}
use Rattle.cut_report_laws.proofs.extensions_are_searchable.Goals as goal

pub returns : goal.returns
returns c = extensions_searchable
