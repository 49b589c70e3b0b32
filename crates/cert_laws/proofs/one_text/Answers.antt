use Rattle.cert_laws.proofs.FirstWrong.{one_spelled, one_wrong_line, spelled_has_none}
use Rattle.cert_laws.proofs.one_text.Goals as goal

pub returns-clause-spelled : goal.returns-clause-spelled
returns-clause-spelled c = one_spelled

pub returns-clause-wrong : goal.returns-clause-wrong
returns-clause-wrong c = one_wrong_line

pub returns-clause-none : goal.returns-clause-none
returns-clause-none c = spelled_has_none
