use Rattle.std.proofs.Common.{arith}
use Rattle.std.proofs.lemmas.Result.{IfOk-weaker}
use Rattle.smv_language.specs.ProgramTree.{program_tree}
use Rattle.verb_run.proofs.TopEvents.{few_in_case}
use Rattle.verb_run.proofs.Columns.{named_in_case, text_in_case}
use Rattle.verb_run.proofs.tops.text_of.Goals as goal

pub size_of-faults-requires : goal.size_of-faults-requires
size_of-faults-requires c =
    let a = c.args.asked.now in
    let few = few_in_case (program_tree a.model.program) a.case c.requires.able.extensible in
    let counted = c.len.ensures in
    omega (arith, few, counted)

pub table-requires-clause-named : goal.table-requires-clause-named
table-requires-clause-named c =
    let a = c.args.asked.now in
    named_in_case (program_tree a.model.program) a.case c.requires.able.extensible c.len.result c.size_of-faults.result c.len.ensures c.size_of-faults.ensures c.args.columns.now c.requires.named

pub returns : goal.returns
returns c =
    let a = c.args.asked.now in
    IfOk-weaker c.print_table.result _ _
    (λ text printed. text_in_case (program_tree a.model.program) a.case c.requires.able.extensible c.len.result c.size_of-faults.result c.len.ensures c.size_of-faults.ensures a.size c.bits.result
    c.in_ok-lines.lines c.as_slice.result.now c.args.columns.now c.in_ok-made.made text.items c.bits.ensures.bits c.in_ok-lines.ensures c.as_slice.ensures c.in_ok-made.ensures.told printed) c.print_table.ensures.table
