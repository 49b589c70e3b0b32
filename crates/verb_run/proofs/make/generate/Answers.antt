use Rattle.std.proofs.Common.{refl, ◌∙◌}
use Rattle.fault_generator.specs.Generator.{generated_model}
use Rattle.verb_run.proofs.MakeLaws.{model_read, instructions_read}
use Rattle.verb_run.proofs.make.generate.Goals as goal

pub read_back-requires-clause-program : goal.read_back-requires-clause-program
read_back-requires-clause-program c = record {
  program = generated_model c.args.number c.args.stages;
  of = record { number = c.args.number; stages = c.args.stages; few = c.requires; is = refl };
  is = c.deref.ensures.value ∙ c.in_ok-program.ensures.text;
}

pub returns-clause-program : goal.returns-clause-program
returns-clause-program c = model_read _ _ _ _ c.deref.ensures.value c.in_ok-loaded.ensures.program c.in_ok-program.ensures.spells

pub returns-clause-instructions : goal.returns-clause-instructions
returns-clause-instructions c = instructions_read _ _ _ _ c.deref-2.ensures.value c.in_ok-loaded.ensures.instructions c.in_ok-instructions.ensures.spells
