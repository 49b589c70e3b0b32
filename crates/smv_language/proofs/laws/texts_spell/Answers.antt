use Rattle.smv_language.proofs.TextSpells.{text_spells}
use Rattle.smv_language.proofs.ProgramSpells.{program_spells}
use Rattle.smv_language.proofs.laws.texts_spell.Goals as goal

pub returns-clause-expressions : goal.returns-clause-expressions
returns-clause-expressions c = text_spells

pub returns-clause-programs : goal.returns-clause-programs
returns-clause-programs c = program_spells
