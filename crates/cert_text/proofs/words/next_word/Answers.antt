use Rattle.cert_text.proofs.Cutting.{word_then}
use Rattle.cert_text.proofs.words.next_word.Goals as goal

pub returns-in-len1-up : goal.returns-in-len1-up
returns-in-len1-up c = word_then c.args.words.now c.cut.result.0.now c.cut.result.1.now c.in-len1-up.len_at_least c.cut.ensures.whole c.cut.ensures.front c.cut.ensures.back
