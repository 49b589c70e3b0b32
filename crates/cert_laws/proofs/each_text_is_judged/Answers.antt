use Rattle.cert_laws.proofs.Judged.{taken_lines_begin, each_text_judged}
use Rattle.cert_laws.proofs.each_text_is_judged.Goals as goal

pub returns-clause-taken : goal.returns-clause-taken
returns-clause-taken c = taken_lines_begin

pub returns-clause-judged : goal.returns-clause-judged
returns-clause-judged c = each_text_judged
