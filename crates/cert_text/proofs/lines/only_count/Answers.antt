use Rattle.std.proofs.Common.{sym}
use Rattle.cert_text.proofs.LineLaws.{more_numbers, not_empty}
use Rattle.cert_text.proofs.lines.only_count.Goals as goal

pub returns-else-is_empty : goal.returns-else-is_empty
returns-else-is_empty c =
    sym (more_numbers c.args.words.now c.in-Some.word.now c.in-Some.more.now c.in-Some.ensures.lie (not_empty c.in-Some.more.now c.is_empty.result c.is_empty.ensures c.if-is_empty.false))
