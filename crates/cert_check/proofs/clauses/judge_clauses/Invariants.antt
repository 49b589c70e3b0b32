-- what is found from here on is found at all clauses
use Rattle.std.proofs.Common.{drop}
use Rattle.cert_laws.specs.Sites.{clause_sites}
use Rattle.cert_check.specs.QuestionMatter.{asked}
use Rattle.cert_check.specs.SiteFindings.{GoesOn}
use Rattle.cert_check.proofs.clauses.judge_clauses.Given as goal

abbrev pub invariant-loop-i : goal.invariant-loop-i
invariant-loop-i l = GoesOn (asked l.q) (clause_sites l.i (drop l.i l.clauses)) (clause_sites 0 l.clauses)
