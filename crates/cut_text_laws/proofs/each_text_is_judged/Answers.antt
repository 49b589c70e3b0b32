use Rattle.cut_text_laws.proofs.LinesJudged.{lines_are_judged}
use Rattle.cut_text_laws.proofs.TextJudged.{each_text_is_judged}
use Rattle.cut_text_laws.proofs.each_text_is_judged.Goals as goal

pub returns-clause-lines : goal.returns-clause-lines
returns-clause-lines c = lines_are_judged

pub returns-clause-judged : goal.returns-clause-judged
returns-clause-judged c = each_text_is_judged
