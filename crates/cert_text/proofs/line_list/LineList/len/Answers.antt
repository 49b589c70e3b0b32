use Rattle.std.proofs.Common.{rules, ◌≡◌, ◌<◌, ◌≤◌, ◌^◌, length, ap, arith}
use Rattle.cert_text.specs.LinesIn.{lines_in}
use Rattle.cert_text.proofs.LineTexts.{few_lines}
use Rattle.cert_text.proofs.line_list.LineList.len.Goals as goal

pub returns-clause-small : goal.returns-clause-small
returns-clause-small c =
    let few : length (lines_in c.self.inside.text.items) ≤ length c.self.inside.text.items = few_lines c.self.inside.text.items c.self.invariant.whole in
    let count : c.self.inside.count ≡ length (lines_in c.self.inside.text.items) = c.self.invariant.count in
    let bytes : length c.as_slice-bytes.result.now < 2 ^ 63 = search rules in
    let same : length c.as_slice-bytes.result.now ≡ length c.self.inside.text.items = ap length c.as_slice-bytes.ensures.value in
    omega (arith, few, count, bytes, same)
