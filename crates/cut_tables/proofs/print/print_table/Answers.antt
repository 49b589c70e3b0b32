use Rattle.std.proofs.Common.{◌≡◌, ◌∙◌, ℕ, List}
use Rattle.std.proofs.lemmas.Result.{IfOk-weaker}
use Rattle.cut_text_laws.specs.Analysis.{Analysis}
use Rattle.cut_tables.specs.Tables.{table_text}
use Rattle.cut_tables.specs.Columns.{IsTableOf, printed_table}
use Rattle.cut_tables.proofs.TextLaws.{text_of_table}
use Rattle.cut_tables.proofs.print.print_table.Goals as goal

pub returns-clause-table : goal.returns-clause-table
returns-clause-table c =
    IfOk-weaker c.text_of.result (λ text. text.items ≡ printed_table c.args.fault_lines.now c.args.bits c.args.t.now)
    (λ text. (faults size : ℕ) (columns : List Analysis) → IsTableOf faults size columns c.args.t.now → text.items ≡ table_text c.args.fault_lines.now c.args.bits faults size columns)
    (λ text e faults size columns is. e ∙ text_of_table c.args.fault_lines.now c.args.bits faults size columns c.args.t.now is) c.text_of.ensures
