use Rattle.std.proofs.Common.{◌≡◌, ◌+◌, false, IsTrue, sym, ap, subst, arith}
use Rattle.std.proofs.lemmas.Bool.{both_ways}
use Rattle.cert_check.specs.QuestionMatter.{asked}
use Rattle.sat_clauses.specs.Hints.{HasNoOpposites}
use Rattle.sat_clauses.specs.States.{IsOverBits}
use Rattle.cert_laws.specs.Sites.{clause_sites}
use Rattle.cert_check.proofs.Loops.{goes_itself, clause_goes_on, clause_ends, clauses_over}
use Rattle.cert_check.proofs.SiteLaws.{clause_kept, clause_broken}
use Rattle.cert_check.proofs.clauses.judge_clauses.Goals as goal

pub loop-i-init : goal.loop-i-init
loop-i-init c = goes_itself (asked c.args.q.now) (clause_sites 0 c.args.q.now.certificate.now.invariant)

pub returns-then-not-is_invariant_clause : goal.returns-then-not-is_invariant_clause
returns-then-not-is_invariant_clause c =
    let a = asked c.args.q.now in
    let clauses = c.args.q.now.certificate.now.invariant in
    let is_not : c.is_invariant_clause.result ≡ false = grind arith in
    clause_ends a c.loop-i.i clauses c.at.result.now (clause_sites 0 clauses) (c.args.line + c.loop-i.i) 8 c.at.ensures c.loop-i.invariant (ap (λ n. n + c.loop-i.i) (sym c.requires.line))
    (clause_broken a c.loop-i.i c.at.result.now (λ h. both_ways _ is_not (c.is_invariant_clause.ensures.1 (subst (λ ls. IsOverBits a.subject.system ls × HasNoOpposites ls) (sym c.lits.ensures) h))))

pub loop-i-preserved : goal.loop-i-preserved
loop-i-preserved c =
    let a = asked c.args.q.now in
    let clauses = c.args.q.now.certificate.now.invariant in
    let is : IsTrue c.is_invariant_clause.result = grind arith in
    clause_goes_on a c.loop-i.i clauses c.at.result.now (clause_sites 0 clauses) c.at.ensures c.loop-i.invariant
    (clause_kept a c.loop-i.i c.at.result.now (subst (λ ls. IsOverBits a.subject.system ls × HasNoOpposites ls) c.lits.ensures (c.is_invariant_clause.ensures.0 is)))

pub returns : goal.returns
returns c =
    let clauses = c.args.q.now.certificate.now.invariant in
    clauses_over (asked c.args.q.now) c.loop-i.i clauses (clause_sites 0 clauses) (omega arith) c.loop-i.invariant
