use Rattle.std.proofs.Common.{sym}
use Rattle.cut_report.proofs.TextLaws.{path_text}
use Rattle.cut_report.proofs.text.append_variable.Goals as goal

pub returns : goal.returns
returns c =
    rw (path_text c.args.variable.now c.parts.ensures.some, sym c.parts.ensures.parts) c.append_names.ensures
