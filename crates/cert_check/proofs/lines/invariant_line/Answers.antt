use Rattle.std.proofs.Common.{◌≡◌, ◌∙◌, ◌+◌, ◌<◌, ◌^◌, sym, ap, subst, arith}
use Rattle.cert_check.specs.QuestionMatter.{asked}
use Rattle.cert_laws.specs.Certificate.{lines_of_sets}
use Rattle.cert_check.proofs.LineCounts.{sets_within}
use Rattle.cert_check.proofs.lines.invariant_line.Goals as goal

pub lines_of_sets-requires : goal.lines_of_sets-requires
lines_of_sets-requires c =
    let within = sets_within (asked c.args.q.now).certificate in
    let few = c.requires.few in
    subst (λ ts. lines_of_sets ts < 2 ^ 64) (sym c.as_slice.ensures) (omega (arith, within, few))

pub overflow_add-result : goal.overflow_add-result
overflow_add-result c =
    let within = sets_within (asked c.args.q.now).certificate in
    let few = c.requires.few in
    let lines : c.lines_of_sets.result ≡ lines_of_sets (asked c.args.q.now).certificate.traces = c.lines_of_sets.ensures ∙ ap lines_of_sets c.as_slice.ensures in
    omega (arith, within, few, lines)

pub returns : goal.returns
returns c = ap (λ n. 4 + n) (c.lines_of_sets.ensures ∙ ap lines_of_sets c.as_slice.ensures)
