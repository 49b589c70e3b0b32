use Rattle.std.proofs.Common.{map}
use Rattle.smv_language.specs.ProgramTree.{program_tree}
use Rattle.fault_staging.specs.CauseOf.{cause_of}
use Rattle.fault_causes_reader.specs.StageView.{written_trees}
use Rattle.fault_causes_reader.proofs.ReadLaws.{is_reading, is_refusal}
use Rattle.fault_causes_reader.proofs.reader.read_causes.Goals as goal

pub returns-in-Ok-lawful-clause-read : goal.returns-in-Ok-lawful-clause-read
returns-in-Ok-lawful-clause-read c =
    is_reading c.args.faults.now (program_tree c.args.w.now) c.args.bytes.now (written_trees c.in-Ok.written) c.in-Ok.ensures.spelled (map cause_of c.in-Ok-lawful.causes) c.in-Ok-lawful.ensures.kept
    c.in-Ok-lawful.ensures.free c.in-Ok-lawful.ensures.read

pub returns-clause-fault : goal.returns-clause-fault
returns-clause-fault c =
    is_refusal c.args.faults.now (program_tree c.args.w.now) c.args.bytes.now (written_trees c.in-Ok.written) c.in-Ok.ensures.spelled c.in-Err-lawful.fault c.in-Err-lawful.ensures.told
