use Rattle.std.proofs.Common.{◌≡◌, false, IsTrue, ◌∷◌, ◌++◌, refl, arith}
use Rattle.std.proofs.lemmas.Bool.{both_ways}
use Rattle.std.proofs.lemmas.Result.{IfOk-weaker}
use Rattle.cert_check.specs.QuestionMatter.{asked}
use Rattle.cert_laws.specs.Certificate.{the_numbers}
use Rattle.cert_laws.specs.Sites.{set_sites}
use Rattle.cert_check.specs.QuestionMatter.{proof_sites}
use Rattle.cert_check.specs.SiteFindings.{Finds}
use Rattle.cert_check.proofs.Finding.{kept_then, broken_here}
use Rattle.cert_check.proofs.SiteLaws.{numbers_kept, numbers_broken}
use Rattle.cert_check.proofs.judge.judge_sites.Goals as goal

pub returns-then-not-has_numbers : goal.returns-then-not-has_numbers
returns-then-not-has_numbers c =
    let a = asked c.args.q.now in
    let is_not : c.has_numbers.result ≡ false = grind arith in
    broken_here a the_numbers (set_sites 0 a.certificate.sets a.certificate.traces ++ proof_sites a.certificate) 2 1 refl (numbers_broken a (λ h. both_ways _ is_not (c.has_numbers.ensures.1 h)))

pub judge_listed-requires-clause-numbers : goal.judge_listed-requires-clause-numbers
judge_listed-requires-clause-numbers c = let is : IsTrue c.has_numbers.result = grind arith in c.has_numbers.ensures.0 is

pub returns : goal.returns
returns c =
    let a = asked c.args.q.now in
    let rest = set_sites 0 a.certificate.sets a.certificate.traces ++ proof_sites a.certificate in
    let is : IsTrue c.has_numbers.result = grind arith in
    IfOk-weaker c.judge_listed.result (Finds a rest) (Finds a (the_numbers ∷ rest)) (kept_then a the_numbers rest (numbers_kept a (c.has_numbers.ensures.0 is))) c.judge_listed.ensures
