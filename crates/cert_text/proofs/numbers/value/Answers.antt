use Rattle.std.proofs.lemmas.Str.{IsUtf8-from_ascii}
use Rattle.std.proofs.lemmas.Fmt.{IsAscii-from_digits}
use Rattle.cert_text.proofs.numbers.value.Goals as goal

pub returns-in-Err : goal.returns-in-Err
returns-in-Err c = record { none = λ numeral small. c.in-Err.ensures.cases.0 (IsUtf8-from_ascii c.args.word.now (IsAscii-from_digits c.args.word.now numeral.1)) }
