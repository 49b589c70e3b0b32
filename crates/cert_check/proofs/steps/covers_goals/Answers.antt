use Rattle.std.proofs.Common.{◌≡◌, ◌∙◌, ◌+◌, ◌<◌, ◌≤◌, IsTrue, List, sym, subst}
use Rattle.std.specs.Prelude.{◌↔◌, All, map, IfOk}
use Rattle.sat_clauses.specs.Literal.{Literal}
use Rattle.sat_clauses.specs.States.{moved_on}
use Rattle.cert_laws.specs.Acceptance.{Covers, goals}
use Rattle.cert_check.specs.QuestionMatter.{asked}
use Rattle.cert_check.specs.Parts.{part_of}
use Rattle.cert_check.proofs.StepLaws.{covers_moved}
use Rattle.cert_check.proofs.steps.covers_goals.Goals as goal

pub covers_all_next-requires : goal.covers_all_next-requires
covers_all_next-requires c =
    subst (All (All (λ (l : Literal). (2 ≤ l.var) × (l.var < c.bits.result + 2)))) (sym c.as_slice-invariant.ensures)
    (subst (λ n. All (All (λ (l : Literal). (2 ≤ l.var) × (l.var < n + 2))) c.args.q.now.certificate.now.invariant) (sym c.bits.ensures.bits) c.requires.over_bits)

pub returns-in-First : goal.returns-in-First
returns-in-First c =
    let a = asked c.args.q.now in
    let known = c.args.checker.now.clauses in
    subst (λ part. IsTrue c.covers_all.result ↔ All (Covers known) (goals a.subject a.certificate (part_of part))) (sym c.in-First.is)
    (subst (λ cs. IsTrue c.covers_all.result ↔ All (Covers known) cs) c.as_slice-invariant.ensures c.covers_all.ensures)

pub returns-in-Next : goal.returns-in-Next
returns-in-Next c =
    let a = asked c.args.q.now in
    let known = c.args.checker.now.clauses in
    subst (λ part. IfOk c.covers_all_next.result (λ covers. IsTrue covers ↔ All (Covers known) (goals a.subject a.certificate (part_of part)))) (sym c.in-Next.is)
    (subst (λ n. IfOk c.covers_all_next.result (λ covers. IsTrue covers ↔ All (Covers known) (map (map (moved_on n)) a.certificate.invariant))) c.bits.ensures.bits
    (covers_moved known c.bits.result a.certificate.invariant c.covers_all_next.result
    (subst (λ cs. IfOk c.covers_all_next.result (λ covers. IsTrue covers ↔ All (λ (lits : List Literal). Covers known (map (moved_on c.bits.result) lits)) cs)) c.as_slice-invariant.ensures c.covers_all_next.ensures)))

pub returns-in-Bad : goal.returns-in-Bad
returns-in-Bad c =
    let a = asked c.args.q.now in
    let known = c.args.checker.now.clauses in
    subst (λ part. IfOk c.covers_empty.result (λ covers. IsTrue covers ↔ All (Covers known) (goals a.subject a.certificate (part_of part)))) (sym c.in-Bad.is) c.covers_empty.ensures
