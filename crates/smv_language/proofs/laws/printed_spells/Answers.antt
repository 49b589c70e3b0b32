use Rattle.smv_language.proofs.PrintedSpells.{printed_spells, an_expr}
use Rattle.smv_language.proofs.laws.printed_spells.Goals as goal

pub returns : goal.returns
returns c = λ t h. an_expr (printed_spells t h)
