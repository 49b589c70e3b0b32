use Rattle.cut_text_laws.proofs.FlatNames.{flat_models_named}
use Rattle.cut_text_laws.proofs.FlatSymbols.{flat_models_have_symbols}
use Rattle.cut_text_laws.proofs.flat_models_are_named.Goals as goal

pub returns-clause-named : goal.returns-clause-named
returns-clause-named c = flat_models_named

pub returns-clause-symbols : goal.returns-clause-symbols
returns-clause-symbols c = flat_models_have_symbols
