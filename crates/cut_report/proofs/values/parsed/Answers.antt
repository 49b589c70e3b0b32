use lib.Signed.{mag}
use Rattle.std.proofs.Common.{◌<◌, ◌^◌, ℤ, pos, negsuc, w64, rules, sym, ◌∙◌, ap, subst, arith}
use Rattle.std.specs.Int.RustNames.{FitsSigned}
use Rattle.std.specs.Result.{result_ok}
use Rattle.std.proofs.lemmas.Fmt.{parse-signed_decimal, IsAscii-signed}
use Rattle.std.proofs.lemmas.Int.{ints}
use Rattle.std.proofs.lemmas.Str.{IsUtf8-from_ascii}
use Rattle.std.specs.Str.{IsAscii}
use Rattle.cut_report.proofs.values.parsed.Goals as goal

fits : (n : ℤ) → mag n < 2 ^ 63 → FitsSigned w64 n
fits (pos n) small = first_of (search rules, grind (arith, ints))
fits (negsuc n) small = first_of (search rules, grind (arith, ints))

pub returns-in-Ok : goal.returns-in-Ok
returns-in-Ok c = λ n small e. c.ok.ensures.value ∙ ap result_ok (parse-signed_decimal w64 n c.in-Ok.written.now c.parse.result (fits n small) small (c.in-Ok.ensures.cases.0 ∙ sym e) c.parse.ensures.value.0)

pub returns-in-Err : goal.returns-in-Err
returns-in-Err c = λ n small e. absurd (c.in-Err.ensures.cases.0 (IsUtf8-from_ascii c.args.text.now (subst IsAscii e (IsAscii-signed n small))))
