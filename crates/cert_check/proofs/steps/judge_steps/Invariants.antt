-- what is found from here on is found at all steps, and the checker has the clauses of those so far
use Rattle.std.proofs.Common.{◌≡◌, drop}
use Rattle.cert_laws.specs.Certificate.{steps_in}
use Rattle.cert_laws.specs.Acceptance.{known_at, vars_of}
use Rattle.cert_laws.specs.Sites.{step_sites}
use Rattle.cert_check.specs.QuestionMatter.{asked}
use Rattle.cert_check.specs.SiteFindings.{GoesOn}
use Rattle.cert_check.specs.Parts.{part_of}
use Rattle.cert_check.proofs.steps.judge_steps.Given as goal

abbrev pub invariant-loop-i : goal.invariant-loop-i
invariant-loop-i l = record {
  rest : GoesOn (asked l.q) (step_sites (part_of l.fn.part) l.i (drop l.i (steps_in (asked l.q).certificate (part_of l.fn.part)))) (step_sites (part_of l.fn.part) 0 (steps_in (asked l.q).certificate (part_of l.fn.part)));
  vars : l.checker.vars ≡ vars_of (asked l.q).subject (asked l.q).certificate (part_of l.fn.part);
  clauses : l.checker.clauses ≡ known_at (asked l.q).subject (asked l.q).certificate (part_of l.fn.part) l.i;
}
