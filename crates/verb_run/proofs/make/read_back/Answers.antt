use Rattle.smv_language.specs.Language.{model_tree, program_tree}
use Rattle.verb_run.proofs.GeneratedLaws.{text_of_generator}
use Rattle.verb_run.proofs.make.read_back.Goals as goal

pub read_case-requires-clause-generated : goal.read_case-requires-clause-generated
read_case-requires-clause-generated c = text_of_generator c.args.program.now (program_tree c.in_ok-model.model.program) c.requires.program c.in_ok-model.ensures.text

pub read_top-requires-clause-generated : goal.read_top-requires-clause-generated
read_top-requires-clause-generated c = text_of_generator c.args.program.now (program_tree c.in_ok-model.model.program) c.requires.program c.in_ok-model.ensures.text

pub returns-clause-event : goal.returns-clause-event
returns-clause-event c =
    record { flat = model_tree c.in_ok-model.model.typed.model; lawful = c.in_ok-model.ensures.lawful; loaded = c.in_ok-case.ensures.loaded; event = c.in_ok-top.ensures }
