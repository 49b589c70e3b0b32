use Rattle.std.proofs.Common.{◌≡◌, ◌∙◌}
use Rattle.cert_laws.specs.Certificate.{part_bad}
use Rattle.cert_check.specs.QuestionMatter.{asked}
use Rattle.cert_check.specs.Parts.{list_of}
use Rattle.cert_check.proofs.StepLaws.{vars_begin, known_begin}
use Rattle.cert_check.proofs.parts.checker_of_bad.Goals as goal

pub returns : goal.returns
returns c =
    let a = asked c.args.q.now in
    let given : c.as_slice-given.result.now ≡ list_of a part_bad = c.as_slice-given.ensures ∙ c.in_ok-list.ensures in
    record {
      vars = c.in_ok-checker.ensures.vars ∙ vars_begin a part_bad c.as_slice-given.result.now c.also_given.result.now given c.also_given.ensures;
      clauses = c.in_ok-checker.ensures.clauses ∙ known_begin a part_bad c.as_slice-given.result.now c.also_given.result.now given c.also_given.ensures;
    }
