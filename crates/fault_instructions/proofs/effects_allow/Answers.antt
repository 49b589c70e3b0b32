use Rattle.fault_instructions.proofs.EffectRowLaw.{effect_law, first_effect_law}
use Rattle.fault_instructions.proofs.effects_allow.Goals as goal

pub returns-clause-later : goal.returns-clause-later
returns-clause-later c = effect_law

pub returns-clause-first : goal.returns-clause-first
returns-clause-first c = first_effect_law
