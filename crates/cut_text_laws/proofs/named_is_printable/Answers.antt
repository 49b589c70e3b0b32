use Rattle.cut_text_laws.proofs.Named.{named_is_printable}
use Rattle.cut_text_laws.proofs.named_is_printable.Goals as goal

pub returns : goal.returns
returns c = named_is_printable
