use Rattle.std.proofs.Common.{◌≡◌, false, IsTrue, arith}
use Rattle.std.proofs.lemmas.Bool.{both_ways}
use Rattle.cert_check.specs.QuestionMatter.{asked}
use Rattle.cert_check.proofs.NoSets.{unlisted_numbers}
use Rattle.cert_check.proofs.unlisted.judge_unlisted.Goals as goal

pub returns-then-not-has_numbers : goal.returns-then-not-has_numbers
returns-then-not-has_numbers c =
    let a = asked c.args.q.now in
    let is_not : c.has_numbers.result ≡ false = grind arith in
    unlisted_numbers a c.requires.certificate.one_each (λ h. both_ways _ is_not (c.has_numbers.ensures.1 h))

pub judge_numbered-requires-clause-numbers : goal.judge_numbered-requires-clause-numbers
judge_numbered-requires-clause-numbers c = let is : IsTrue c.has_numbers.result = grind arith in c.has_numbers.ensures.0 is
