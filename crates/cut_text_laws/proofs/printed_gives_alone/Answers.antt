use Rattle.cut_text_laws.proofs.Printed.{printed_gives_alone}
use Rattle.cut_text_laws.proofs.printed_gives_alone.Goals as goal

pub returns : goal.returns
returns c = printed_gives_alone
