use Rattle.std.proofs.Common.{Some, sym, ◌∙◌, ap}
use Rattle.cert_laws.specs.ExpectedLines.{size_of}
use Rattle.cert_text.specs.LineWords.{words_after}
use Rattle.cert_text.specs.Expectations.{told_version}
use Rattle.cert_text.proofs.LineLaws.{not_empty, size_too_much}
use Rattle.cert_text.proofs.lines.size_in.Goals as goal

pub returns-else-is_empty : goal.returns-else-is_empty
returns-else-is_empty c =
    size_too_much c.args.faults c.args.words.now (not_empty c.args.words.now c.is_empty.result c.is_empty.ensures c.if-is_empty.false)
    ∙ ap (λ v. size_of (told_version v) (Some c.args.faults) (words_after c.args.words.now)) (sym c.in-One.is)

pub returns-in-Two : goal.returns-in-Two
returns-in-Two c = c.named_size.ensures (Some c.args.faults) ∙ ap (λ v. size_of (told_version v) (Some c.args.faults) (words_after c.args.words.now)) (sym c.in-Two.is)
