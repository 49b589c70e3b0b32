use Rattle.std.proofs.Common.{◌≡◌, true, false, sym, ◌∙◌}
use Rattle.cut_report.proofs.Cutting.{equation_made, no_equals, no_words}
use Rattle.cut_report.proofs.lines.equation_words.Goals as goal

pub returns-then-are_words : goal.returns-then-are_words
returns-then-are_words c =
    let words = c.are_words.ensures.0 c.if-are_words.true in
    equation_made c.args.line.now c.cut.result.0.now c.cut.result.1.now c.in-Some.value.now c.requires c.cut.ensures.whole c.in-Some.ensures words.0 words.1

pub returns-else-are_words : goal.returns-else-are_words
returns-else-are_words c =
    no_words c.args.line.now c.cut.result.0.now c.cut.result.1.now c.in-Some.value.now c.cut.ensures.whole c.cut.ensures.front c.cut.ensures.back c.in-Some.ensures
    (λ n v. let clash : true ≡ false = sym (c.are_words.ensures.1 (n, v)) ∙ c.if-are_words.false in cc)

pub returns-in-None : goal.returns-in-None
returns-in-None c = no_equals c.args.line.now c.cut.result.0.now c.cut.result.1.now c.cut.ensures.whole c.cut.ensures.front c.cut.ensures.back c.in-None.ensures
