use Rattle.sat_encoding.specs.Reading.{names_read}
use Rattle.sat_encoding.proofs.ReadLaws.{choice_any}
use Rattle.sat_encoding.proofs.inputs.+reads.Goals as goal

pub reads_input-returns-in-Choice : goal.reads_input-returns-in-Choice
reads_input-returns-in-Choice t c =
    choice_any (names_read c.args.reading.now) c.args.e.now c.deref-in-Choice.result.now c.deref-in-Choice-2.result.now c.deref-in-Choice-3.result.now c.in-Choice.c c.in-Choice.a c.in-Choice.b
    c.reads_input-in-Choice.result c.reads_input-in-Choice-2.result c.reads_input-in-Choice-3.result c.deref-in-Choice.ensures c.deref-in-Choice-2.ensures c.deref-in-Choice-3.ensures c.in-Choice.is
    c.reads_input-in-Choice.ensures c.reads_input-in-Choice-2.ensures c.reads_input-in-Choice-3.ensures
