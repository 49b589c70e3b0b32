use Rattle.std.proofs.Common.{refl, subst, length}
use Rattle.fault_reader.specs.InstructionGrammar.{Sym, file, instructions}
use Rattle.smv_expression_reader.specs.Readings.{ReadsTo}
use Rattle.fault_reader.specs.InstructionDepths.{AreInstructionsTooDeep}
use Rattle.smv_expression_reader.proofs.StopLaws.{is_spelled, check_ends, check_stops}
use Rattle.fault_reader.proofs.InstructionReads.{instructions_predictable}
use Rattle.fault_reader.proofs.reader.check.Goals as goal

pub returns-in-Whole-clause-spelled : goal.returns-in-Whole-clause-spelled
returns-in-Whole-clause-spelled c = is_spelled Sym instructions instructions_predictable file c.args.texts.now (subst (ReadsTo Sym instructions file c.args.texts.now) c.in-Whole.is c.in_ok-read_through.ensures)

pub returns-in-Unfinished-clause-fault : goal.returns-in-Unfinished-clause-fault
returns-in-Unfinished-clause-fault c =
    check_ends Sym instructions instructions_predictable file c.args.bytes.now c.args.tokens.now c.args.texts.now (length c.args.bytes.now) c.requires.split c.requires.same refl
    (subst (ReadsTo Sym instructions file c.args.texts.now) c.in-Unfinished.is c.in_ok-read_through.ensures)

pub returns-in-Stopped-clause-fault : goal.returns-in-Stopped-clause-fault
returns-in-Stopped-clause-fault c =
    let reads = subst (ReadsTo Sym instructions file c.args.texts.now) c.in-Stopped.is c.in_ok-read_through.ensures in
    check_stops Sym instructions instructions_predictable file (AreInstructionsTooDeep c.args.bytes.now) c.args.bytes.now c.args.tokens.now c.args.texts.now c.in-Stopped.i c.stop_at.result
    c.requires.split c.requires.same reads.0 reads.1 reads.2 c.stop_at.ensures
