use Rattle.std.proofs.Common.{refl, subst, length}
use Rattle.fault_causes_reader.specs.StageView.{written_trees, ReadsTo}
use Rattle.fault_causes_reader.proofs.CausesStops.{whole_spelled, only_spelled, check_ends, check_stops}
use Rattle.fault_causes_reader.proofs.reader.written_of.Goals as goal

pub returns-in-Whole-clause-spelled : goal.returns-in-Whole-clause-spelled
returns-in-Whole-clause-spelled c =
    let cs = written_trees c.read_through.new.causes in
    whole_spelled c.args.bytes.now c.args.tokens.now c.args.texts.now cs c.requires.split c.requires.same (subst (ReadsTo c.args.texts.now cs) c.in-Whole.is c.in_ok-read_through.ensures)

pub returns-in-Whole-clause-only : goal.returns-in-Whole-clause-only
returns-in-Whole-clause-only c =
    let cs = written_trees c.read_through.new.causes in
    only_spelled c.args.bytes.now c.args.tokens.now c.args.texts.now cs c.requires.only c.requires.same (subst (ReadsTo c.args.texts.now cs) c.in-Whole.is c.in_ok-read_through.ensures)

pub returns-in-Unfinished-clause-fault : goal.returns-in-Unfinished-clause-fault
returns-in-Unfinished-clause-fault c =
    let cs = written_trees c.read_through.new.causes in
    let read = subst (ReadsTo c.args.texts.now cs) c.in-Unfinished.is c.in_ok-read_through.ensures in
    check_ends c.args.bytes.now c.args.tokens.now c.args.texts.now (length c.args.bytes.now) read.0 c.requires.split c.requires.same refl read.1 read.2

pub returns-in-Stopped-clause-fault : goal.returns-in-Stopped-clause-fault
returns-in-Stopped-clause-fault c =
    let cs = written_trees c.read_through.new.causes in
    let read = subst (ReadsTo c.args.texts.now cs) c.in-Stopped.is c.in_ok-read_through.ensures in
    check_stops c.args.bytes.now c.args.tokens.now c.args.texts.now c.in-Stopped.i c.stop_at.result c.requires.split c.requires.same read.0 read.1 read.2 c.stop_at.ensures
