use Rattle.smv_language.specs.Language.{program_tree, model_tree}
use Rattle.verb_loading.specs.Inputs.{IsWrongFaults}
use Rattle.verb_run.proofs.GeneratedLaws.{refuses_none, instructions_length, case_not_wrong}
use Rattle.verb_run.proofs.make.read_case.Goals as goal

pub case_of-requires-clause-length : goal.case_of-requires-clause-length
case_of-requires-clause-length c = instructions_length c.args.bytes.now c.requires.text

pub want_of-requires : goal.want_of-requires
want_of-requires c =
    let m = c.args.model.now in
    refuses_none (IsWrongFaults (program_tree m.program) c.args.bytes.now) c.in-Err.wrong
    (case_not_wrong (program_tree m.program) c.requires.generated (model_tree m.typed.model) c.requires.lawful c.args.bytes.now c.requires.text) c.in-Err.ensures.wrong
